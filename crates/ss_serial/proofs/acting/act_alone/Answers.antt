use Rattle.std.proofs.Common.{sym, subst}
use Rattle.ss_engine.specs.Applies.{MayApply}
use Rattle.ss_engine.specs.Told.{plant_told}
use Rattle.ss_fail.specs.declared.act.Act.{Act}
use Rattle.ss_serial.proofs.Ruling.{ruled_may_apply}
use Rattle.ss_serial.proofs.Steps.{alone_advances, alone_obeys, alone_sure, one_fails}
use Rattle.ss_engine.specs.Told.{state_of}
use Rattle.ss_serial.proofs.acting.act_alone.Goals as goal

pub play_one-requires-clause-act : goal.play_one-requires-clause-act
play_one-requires-clause-act g c =
    let p = plant_told g.O.Outputs.told g.D.Depot.told c.args.plant.now in
    subst (λ (a : Act). MayApply p.plan a) (sym c.requires.next)
    (ruled_may_apply p.plan (state_of p) c.args.v c.requires.joint.numbers.numbers c.requires.stream)

pub returns-in-Ok-clause-advances : goal.returns-in-Ok-clause-advances
returns-in-Ok-clause-advances g c = λ ts.
    let p = plant_told g.O.Outputs.told g.D.Depot.told c.args.plant.now in
    let q = plant_told g.O.Outputs.told g.D.Depot.told c.play_one.new.plant in
    alone_advances c.ruled_acts_lower_the_total.ensures.lower c.ruled_acts_lower_the_total.ensures.still ts p q c.args.v c.args.act
    c.in-Ok.outcome c.is_wait.result c.args.trace.now c.play_one.new.trace c.requires.joint c.requires.stream c.requires.busy c.requires.next
    c.requires.no_write c.is_wait.ensures c.in-Ok.ensures.plays

pub returns-in-Ok-clause-sure : goal.returns-in-Ok-clause-sure
returns-in-Ok-clause-sure g c = λ stored.
    let p = plant_told g.O.Outputs.told g.D.Depot.told c.args.plant.now in
    let q = plant_told g.O.Outputs.told g.D.Depot.told c.play_one.new.plant in
    alone_sure c.ruled_acts_lower_the_total.ensures.sure p q c.args.v c.args.act c.in-Ok.outcome c.is_wait.result c.requires.joint
    c.requires.stream c.requires.next c.in-Ok.ensures.plays.makes c.is_wait.ensures stored

pub returns-in-Err-clause-advances : goal.returns-in-Err-clause-advances
returns-in-Err-clause-advances g c = λ ts.
    let p = plant_told g.O.Outputs.told g.D.Depot.told c.args.plant.now in
    let q = plant_told g.O.Outputs.told g.D.Depot.told c.play_one.new.plant in
    one_fails ts p q c.args.act c.in-Err.fault c.args.trace.now c.play_one.new.trace
    (alone_obeys ts p c.args.v c.args.act c.requires.joint c.requires.stream c.requires.next c.requires.no_write) c.requires.joint
    c.in-Err.ensures.plays
