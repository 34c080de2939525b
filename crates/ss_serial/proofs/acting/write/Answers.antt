use Rattle.ss_engine.specs.Told.{plant_told}
use Rattle.std.proofs.Common.{◌∙◌, sym}
use Rattle.ss_serial.proofs.Writes.{write_alone, write_fails, write_lowers}
use Rattle.ss_serial.proofs.acting.write.Goals as goal

pub returns-in-Err-clause-lowers : goal.returns-in-Err-clause-lowers
returns-in-Err-clause-lowers g c =
    let p = plant_told g.O.Outputs.told g.D.Depot.told c.args.plant.now in
    let q = plant_told g.O.Outputs.told g.D.Depot.told c.play_one.new.plant in
    write_fails c.args.triggers.now p q c.args.v c.in-Err.fault c.args.trace.now c.play_one.new.trace c.requires.joint c.requires.stream
    c.requires.triggers c.requires.next c.in-Err.ensures.plays

pub returns-then-not-is_stored-clause-lowers : goal.returns-then-not-is_stored-clause-lowers
returns-then-not-is_stored-clause-lowers g c =
    let p = plant_told g.O.Outputs.told g.D.Depot.told c.args.plant.now in
    let q = plant_told g.O.Outputs.told g.D.Depot.told c.play_one.new.plant in
    write_alone c.ruled_acts_lower_the_total.ensures.lower c.args.triggers.now p q c.args.v c.in-Ok.outcome c.args.trace.now c.play_one.new.trace
    c.requires.joint c.requires.stream c.requires.triggers c.requires.busy c.requires.next (sym c.is_stored.ensures ∙ c.if-not-is_stored.true)
    c.in-Ok.ensures.plays

pub returns-clause-lowers : goal.returns-clause-lowers
returns-clause-lowers g c =
    let p = plant_told g.O.Outputs.told g.D.Depot.told c.args.plant.now in
    let q = plant_told g.O.Outputs.told g.D.Depot.told c.play_one.new.plant in
    let r = plant_told g.O.Outputs.told g.D.Depot.told c.fire.new.plant in
    write_lowers c.ruled_acts_lower_the_total.ensures.lower c.failures_lower_the_total.ensures.rest c.failures_lower_the_total.ensures.lower
    c.acts_keep_joint.ensures.made c.args.triggers.now p q r c.args.v c.in-Ok.outcome c.fire.result c.args.trace.now c.play_one.new.trace
    c.fire.new.trace c.requires.joint c.requires.stream c.requires.triggers c.requires.busy c.requires.next
    (sym c.is_stored.ensures ∙ c.if-not-is_stored.false) c.in-Ok.ensures.plays c.in-Ok.ensures.joint c.fire.ensures.plays
