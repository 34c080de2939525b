use Rattle.std.specs.Prelude.{Err}
use Rattle.ss_engine.specs.Told.{plant_told}
use Rattle.ss_serial.proofs.Progress.{drives_then, headway_then, or_false, or_false_too}
use Rattle.ss_serial.proofs.finishing.round.Goals as goal

pub returns-in-Ok-takes-clause-advances : goal.returns-in-Ok-takes-clause-advances
returns-in-Ok-takes-clause-advances g c =
    let p = plant_told g.O.Outputs.told g.D.Depot.told c.args.plant.now in
    let q = plant_told g.O.Outputs.told g.D.Depot.told c.turns.new.plant in
    let r = plant_told g.O.Outputs.told g.D.Depot.told c.takes.new.plant in
    headway_then c.args.triggers.now p q r c.args.trace.now c.turns.new.trace c.takes.new.trace c.in-Ok.moved c.in-Ok-takes.took
    c.in-Ok.ensures.advances (c.in-Ok-takes.ensures.advances c.args.triggers.now)

pub returns-in-Ok-takes-clause-put : goal.returns-in-Ok-takes-clause-put
returns-in-Ok-takes-clause-put g c = λ moved.
    c.in-Ok-takes.ensures.put (or_false_too c.in-Ok.moved c.in-Ok-takes.took moved)
    (c.in-Ok.ensures.stored (or_false c.in-Ok.moved c.in-Ok-takes.took moved))

pub returns-in-Err-takes-clause-advances : goal.returns-in-Err-takes-clause-advances
returns-in-Err-takes-clause-advances g c =
    let p = plant_told g.O.Outputs.told g.D.Depot.told c.args.plant.now in
    let q = plant_told g.O.Outputs.told g.D.Depot.told c.turns.new.plant in
    let r = plant_told g.O.Outputs.told g.D.Depot.told c.takes.new.plant in
    drives_then c.args.triggers.now p q r c.args.trace.now c.turns.new.trace c.takes.new.trace (Err c.in-Err-takes.fault)
    c.in-Ok.ensures.advances.drives (c.in-Err-takes.ensures.advances c.args.triggers.now)
