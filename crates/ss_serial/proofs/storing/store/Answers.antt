use Rattle.std.proofs.Common.{◌∙◌, [], refl, sym}
use Rattle.ss_engine.specs.Told.{plant_told}
use Rattle.ss_fail.specs.declared.act.Act.TheVariants as act
use Rattle.ss_serial.proofs.Progress.{gives_on, has_batch_on, lowers_behind}
use Rattle.ss_serial.proofs.Steps.{flush_lowers, flush_obeys, flush_waits, one_fails}
use Rattle.ss_serial.proofs.storing.store.Goals as goal

pub returns-in-Err-clause-lowers : goal.returns-in-Err-clause-lowers
returns-in-Err-clause-lowers g c = λ ts.
    let p = plant_told g.O.Outputs.told g.D.Depot.told c.args.plant.now in
    let q = plant_told g.O.Outputs.told g.D.Depot.told c.play_one.new.plant in
    one_fails ts p q (act.Flush c.args.v 64) c.in-Err.fault c.args.trace.now c.play_one.new.trace
    (flush_obeys ts p c.args.v c.requires.stream) c.requires.joint c.in-Err.ensures.plays

pub returns-then-not-is_pass_due-clause-lowers : goal.returns-then-not-is_pass_due-clause-lowers
returns-then-not-is_pass_due-clause-lowers g c = λ ts.
    let p = plant_told g.O.Outputs.told g.D.Depot.told c.args.plant.now in
    let q = plant_told g.O.Outputs.told g.D.Depot.told c.play_one.new.plant in
    flush_lowers c.flushes_lower_the_total.ensures.flush ts p q c.args.v c.in-Ok.outcome c.args.trace.now c.play_one.new.trace
    c.requires.joint c.requires.stream c.requires.batch (sym c.is_pass_due.ensures ∙ c.if-not-is_pass_due.true) c.in-Ok.ensures.plays

pub collect_and_store-requires-clause-stream : goal.collect_and_store-requires-clause-stream
collect_and_store-requires-clause-stream g c =
    let p = plant_told g.O.Outputs.told g.D.Depot.told c.args.plant.now in
    let q = plant_told g.O.Outputs.told g.D.Depot.told c.play_one.new.plant in
    gives_on p q c.args.v c.in-Ok.ensures.plays.makes.plan c.requires.stream

pub collect_and_store-requires-clause-batch : goal.collect_and_store-requires-clause-batch
collect_and_store-requires-clause-batch g c =
    let p = plant_told g.O.Outputs.told g.D.Depot.told c.args.plant.now in
    let q = plant_told g.O.Outputs.told g.D.Depot.told c.play_one.new.plant in
    let waits = flush_waits c.flushes_lower_the_total.ensures.still [] p q c.args.v c.in-Ok.outcome c.args.trace.now c.play_one.new.trace
    c.requires.joint c.requires.stream (sym c.is_pass_due.ensures ∙ c.if-not-is_pass_due.false) c.in-Ok.ensures.plays in
    has_batch_on p q c.args.v (waits.same refl) c.requires.batch

pub returns-clause-lowers : goal.returns-clause-lowers
returns-clause-lowers g c = λ ts.
    let p = plant_told g.O.Outputs.told g.D.Depot.told c.args.plant.now in
    let q = plant_told g.O.Outputs.told g.D.Depot.told c.play_one.new.plant in
    let r = plant_told g.O.Outputs.told g.D.Depot.told c.collect_and_store.new.plant in
    lowers_behind ts p q r c.args.trace.now c.play_one.new.trace c.collect_and_store.new.trace c.collect_and_store.result
    (flush_waits c.flushes_lower_the_total.ensures.still ts p q c.args.v c.in-Ok.outcome c.args.trace.now c.play_one.new.trace
    c.requires.joint c.requires.stream (sym c.is_pass_due.ensures ∙ c.if-not-is_pass_due.false) c.in-Ok.ensures.plays)
    (c.collect_and_store.ensures.lowers ts)
