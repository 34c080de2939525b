use Rattle.std.proofs.Common.{◌∙◌, [], length, ap, subst, arith}
use Rattle.std.specs.Prelude.{Err}
use Rattle.ss_engine.specs.Told.{plant_told}
use Rattle.ss_frames.specs.Plans.{plan_numbers}
use Rattle.ss_plan.specs.Plan.{PlanText}
use Rattle.ss_serial.specs.Stored.{PutBelow}
use Rattle.ss_serial.proofs.Progress.{all_stored_on, count_on, drives_then, headway_none, headway_then, or_false, or_false_too}
use Rattle.ss_serial.proofs.taking.takes.Goals as goal

pub loop-k-init : goal.loop-k-init
loop-k-init g c =
    let p = plant_told g.O.Outputs.told g.D.Depot.told c.args.plant.now in
    record {
      joint = c.requires.joint;
      headway = λ ts. headway_none ts p c.args.trace.now;
      put = λ moved stored u h. absurd (omega (arith, h));
    }

pub take_of-requires : goal.take_of-requires
take_of-requires g c = record { joint = c.loop-k.invariant.joint }

pub loop-k-preserved : goal.loop-k-preserved
loop-k-preserved g c =
    let p = plant_told g.O.Outputs.told g.D.Depot.told c.args.plant.now in
    let q = plant_told g.O.Outputs.told g.D.Depot.told c.loop-k.plant in
    let r = plant_told g.O.Outputs.told g.D.Depot.told c.take_of.new.plant in
    let headway = c.loop-k.invariant.headway [] in
    record {
      joint = c.in-Ok.ensures.joint;
      headway = λ ts. headway_then ts p q r c.args.trace.now c.loop-k.trace c.take_of.new.trace c.loop-k.moved c.in-Ok.took
          (c.loop-k.invariant.headway ts) (c.in-Ok.ensures.advances ts);
      put = λ moved stored.
          let still = or_false c.loop-k.moved c.in-Ok.took moved in
          c.in-Ok.ensures.put (or_false_too c.loop-k.moved c.in-Ok.took moved)
          (all_stored_on p q headway.drives.plays.runs.plan (headway.same still) stored) (c.loop-k.invariant.put still stored);
    }

pub returns-in-Err-clause-advances : goal.returns-in-Err-clause-advances
returns-in-Err-clause-advances g c = λ ts.
    let p = plant_told g.O.Outputs.told g.D.Depot.told c.args.plant.now in
    let q = plant_told g.O.Outputs.told g.D.Depot.told c.loop-k.plant in
    let r = plant_told g.O.Outputs.told g.D.Depot.told c.take_of.new.plant in
    drives_then ts p q r c.args.trace.now c.loop-k.trace c.take_of.new.trace (Err c.in-Err.fault)
    (c.loop-k.invariant.headway ts).drives (c.in-Err.ensures.advances ts)

pub returns-clause-joint : goal.returns-clause-joint
returns-clause-joint g c = c.loop-k.invariant.joint

pub returns-clause-advances : goal.returns-clause-advances
returns-clause-advances g c = c.loop-k.invariant.headway

pub returns-clause-put : goal.returns-clause-put
returns-clause-put g c = λ moved stored.
    let p = plant_told g.O.Outputs.told g.D.Depot.told c.args.plant.now in
    let q = plant_told g.O.Outputs.told g.D.Depot.told c.loop-k.plant in
    let end = c.loop-k-test.false in
    let most = c.loop-k.auto.k-end in
    let count = c.vertex_count-k-end.ensures ∙ ap (λ (plan : PlanText). length (plan_numbers plan).vertices) c.plan.ensures in
    let same = count_on p q (c.loop-k.invariant.headway []).drives.plays.runs.plan in
    subst (PutBelow q) (omega (arith, end, most, count, same)) (c.loop-k.invariant.put moved stored)
