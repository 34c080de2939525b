use Rattle.ss_engine.specs.Told.{plant_told}
use Rattle.ss_serial.proofs.Progress.{turned}
use Rattle.ss_serial.proofs.turns.turn_of.Goals as goal

pub returns-clause-stored : goal.returns-clause-stored
returns-clause-stored g c =
    let p = plant_told g.O.Outputs.told g.D.Depot.told c.args.plant.now in
    let r = plant_told g.O.Outputs.told g.D.Depot.told c.turn.new.plant in
    turned c.args.triggers.now p r c.args.v c.args.trace.now c.turn.new.trace c.turn.result c.turn.ensures.advances c.turn.ensures.stored
