use Rattle.std.proofs.lemmas.Result.{IfOk-weaker}
use Rattle.ss_engine.specs.Told.{PlantTold, plant_told, state_of}
use Rattle.ss_play.proofs.PlayEnds.{marks_are}
use Rattle.ss_play.proofs.reporting.marks_of.Goals as goal

pub returns : goal.returns
returns g c =
    let p : PlantTold = plant_told g.O.Outputs.told g.D.Depot.told c.args.plant.now in
    IfOk-weaker c.list_marks.result _ _ (λ marks are. marks_are p.plan (state_of p) marks.items are c.requires.numbers.vault.stands.rows)
    c.list_marks.ensures
