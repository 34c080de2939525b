use Rattle.ss_engine.specs.Told.{PlantTold, plant_told}
use Rattle.ss_run.proofs.Runs.{made_may}
use Rattle.ss_run.proofs.running.run_on.Goals as goal

pub tell-requires-clause-acts : goal.tell-requires-clause-acts
tell-requires-clause-acts g c =
    let p : PlantTold = plant_told g.O.Outputs.told g.D.Depot.told c.args.plant.now in
    let q : PlantTold = plant_told g.O.Outputs.told g.D.Depot.told c.finish.new.plant in
    made_may p q c.args.triggers.now c.args.wants_trace _ _ c.new_trace-trace.ensures c.in-Ok.ensures.drives
