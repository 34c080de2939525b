use Rattle.ss_fail.specs.declared.act.Act.TheVariants.{Read}
use Rattle.ss_engine.specs.Told.{plant_told}
use Rattle.ss_engine.proofs.PlayRuns.{plays_to, plays_until}
use Rattle.ss_engine.proofs.playing.play.Goals as goal

pub returns-in-Err-clause-plays : goal.returns-in-Err-clause-plays
returns-in-Err-clause-plays g c =
    let p = plant_told g.O.Outputs.told g.D.Depot.told c.args.plant.now in
    let q = plant_told g.O.Outputs.told g.D.Depot.told c.loop-act.plant in
    let r = plant_told g.O.Outputs.told g.D.Depot.told c.play_one.new.plant in
    plays_until p q r c.args.acts.now c.loop-act.act-index (Read 0 0) c.args.trace.now c.loop-act.trace c.play_one.new.trace c.in-Err.fault
    c.loop-act-test.true c.loop-act.invariant.plays c.loop-act.invariant.joint c.in-Err.ensures.plays

pub loop-act-preserved : goal.loop-act-preserved
loop-act-preserved g c =
    let p = plant_told g.O.Outputs.told g.D.Depot.told c.args.plant.now in
    let q = plant_told g.O.Outputs.told g.D.Depot.told c.loop-act.plant in
    let r = plant_told g.O.Outputs.told g.D.Depot.told c.play_one.new.plant in
    record {
      joint = c.in-Ok.ensures.joint;
      plays = plays_to p q r c.args.acts.now c.loop-act.act-index (Read 0 0) c.in-Ok.field-0 c.args.trace.now c.loop-act.trace c.play_one.new.trace
          c.loop-act-test.true c.loop-act.invariant.plays c.in-Ok.ensures.plays;
    }
