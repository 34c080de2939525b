use Rattle.ss_engine.specs.Told.{plant_told}
use Rattle.ss_fail.specs.declared.act.Act.TheVariants as act
use Rattle.ss_serial.proofs.Steps.{one_fails, take_lowers, take_obeys}
use Rattle.ss_serial.proofs.taking.take_line.Goals as goal

pub returns-in-Ok-clause-lowers : goal.returns-in-Ok-clause-lowers
returns-in-Ok-clause-lowers g c = λ ts.
    let p = plant_told g.O.Outputs.told g.D.Depot.told c.args.plant.now in
    let q = plant_told g.O.Outputs.told g.D.Depot.told c.play_one.new.plant in
    take_lowers c.takes_lower_the_total.ensures.lower ts p q c.args.k c.in-Ok.field-0 c.args.trace.now c.play_one.new.trace
    c.requires.joint c.requires.sink c.requires.stored c.in-Ok.ensures.plays

pub returns-in-Err-clause-lowers : goal.returns-in-Err-clause-lowers
returns-in-Err-clause-lowers g c = λ ts.
    let p = plant_told g.O.Outputs.told g.D.Depot.told c.args.plant.now in
    let q = plant_told g.O.Outputs.told g.D.Depot.told c.play_one.new.plant in
    one_fails ts p q (act.Take c.args.k) c.in-Err.fault c.args.trace.now c.play_one.new.trace
    (take_obeys ts p c.args.k c.requires.sink) c.requires.joint c.in-Err.ensures.plays
