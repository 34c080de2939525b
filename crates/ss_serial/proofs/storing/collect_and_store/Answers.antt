use Rattle.std.proofs.Common.{Err, Ok}
use Rattle.ss_engine.specs.Told.{plant_told}
use Rattle.ss_fail.specs.declared.act.Act.TheVariants as act
use Rattle.ss_serial.proofs.Progress.{drives_then, gives_on}
use Rattle.ss_serial.proofs.Steps.{collected_lower, flush_obeys, one_drives, one_fails, pass_obeys}
use Rattle.ss_serial.proofs.storing.collect_and_store.Goals as goal

pub returns-in-Err-clause-lowers : goal.returns-in-Err-clause-lowers
returns-in-Err-clause-lowers g c = λ ts.
    let p = plant_told g.O.Outputs.told g.D.Depot.told c.args.plant.now in
    let q = plant_told g.O.Outputs.told g.D.Depot.told c.play_one.new.plant in
    one_fails ts p q act.Pass c.in-Err.fault c.args.trace.now c.play_one.new.trace (pass_obeys ts p) c.requires.joint c.in-Err.ensures.plays

pub returns-in-Ok-play_one-clause-lowers : goal.returns-in-Ok-play_one-clause-lowers
returns-in-Ok-play_one-clause-lowers g c = λ ts.
    let p = plant_told g.O.Outputs.told g.D.Depot.told c.args.plant.now in
    let q = plant_told g.O.Outputs.told g.D.Depot.told c.play_one.new.plant in
    let r = plant_told g.O.Outputs.told g.D.Depot.told c.play_one-2.new.plant in
    let stream = gives_on p q c.args.v c.in-Ok.ensures.plays.makes.plan c.requires.stream in
    record {
      drives = drives_then ts p q r c.args.trace.now c.play_one.new.trace c.play_one-2.new.trace (Ok tt)
          (one_drives ts p q act.Pass c.in-Ok.field-0 c.args.trace.now c.play_one.new.trace (pass_obeys ts p) c.in-Ok.ensures.plays)
          (one_drives ts q r (act.Flush c.args.v 64) c.in-Ok-play_one.field-0 c.play_one.new.trace c.play_one-2.new.trace
          (flush_obeys ts q c.args.v stream) c.in-Ok-play_one.ensures.plays);
      lower = λ e. collected_lower c.flushes_lower_the_total.ensures.both ts p q r c.args.v c.in-Ok.field-0 c.in-Ok-play_one.field-0
          c.requires.joint c.requires.stream c.requires.batch c.in-Ok.ensures.plays.makes c.in-Ok-play_one.ensures.plays.makes;
      same = λ e. absurd cc;
    }

pub returns-in-Err-play_one-clause-lowers : goal.returns-in-Err-play_one-clause-lowers
returns-in-Err-play_one-clause-lowers g c = λ ts.
    let p = plant_told g.O.Outputs.told g.D.Depot.told c.args.plant.now in
    let q = plant_told g.O.Outputs.told g.D.Depot.told c.play_one.new.plant in
    let r = plant_told g.O.Outputs.told g.D.Depot.told c.play_one-2.new.plant in
    let stream = gives_on p q c.args.v c.in-Ok.ensures.plays.makes.plan c.requires.stream in
    drives_then ts p q r c.args.trace.now c.play_one.new.trace c.play_one-2.new.trace (Err c.in-Err-play_one.fault)
    (one_drives ts p q act.Pass c.in-Ok.field-0 c.args.trace.now c.play_one.new.trace (pass_obeys ts p) c.in-Ok.ensures.plays)
    (one_fails ts q r (act.Flush c.args.v 64) c.in-Err-play_one.fault c.play_one.new.trace c.play_one-2.new.trace
    (flush_obeys ts q c.args.v stream) c.in-Ok.ensures.joint c.in-Err-play_one.ensures.plays)
