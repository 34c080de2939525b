use Rattle.std.proofs.Common.{◌∙◌, length, ap, subst, arith}
use Rattle.std.specs.Prelude.{Err}
use Rattle.ss_engine.specs.Told.{plant_told}
use Rattle.ss_frames.specs.Plans.{plan_numbers}
use Rattle.ss_plan.specs.Plan.{PlanText}
use Rattle.ss_serial.specs.Stored.{StoredBelow}
use Rattle.ss_serial.proofs.Progress.{count_on, drives_then, fires_on, headway_none, headway_then, or_false, or_false_too}
use Rattle.ss_serial.proofs.turns.turns.Goals as goal

pub loop-v-init : goal.loop-v-init
loop-v-init g c =
    let p = plant_told g.O.Outputs.told g.D.Depot.told c.args.plant.now in
    record {
      joint = c.requires.joint;
      headway = headway_none c.args.triggers.now p c.args.trace.now;
      stored = λ moved u h. absurd (omega (arith, h));
    }

pub turn_of-requires-clause-joint : goal.turn_of-requires-clause-joint
turn_of-requires-clause-joint g c = c.loop-v.invariant.joint

pub turn_of-requires-clause-triggers : goal.turn_of-requires-clause-triggers
turn_of-requires-clause-triggers g c =
    let p = plant_told g.O.Outputs.told g.D.Depot.told c.args.plant.now in
    let q = plant_told g.O.Outputs.told g.D.Depot.told c.loop-v.plant in
    fires_on p q c.args.triggers.now c.loop-v.invariant.headway.drives.plays.runs.plan c.requires.triggers

pub loop-v-preserved : goal.loop-v-preserved
loop-v-preserved g c =
    let p = plant_told g.O.Outputs.told g.D.Depot.told c.args.plant.now in
    let q = plant_told g.O.Outputs.told g.D.Depot.told c.loop-v.plant in
    let r = plant_told g.O.Outputs.told g.D.Depot.told c.turn_of.new.plant in
    record {
      joint = c.in-Ok.ensures.joint;
      headway = headway_then c.args.triggers.now p q r c.args.trace.now c.loop-v.trace c.turn_of.new.trace c.loop-v.moved c.in-Ok.went
          c.loop-v.invariant.headway c.in-Ok.ensures.advances;
      stored = λ moved. c.in-Ok.ensures.stored (or_false_too c.loop-v.moved c.in-Ok.went moved)
          (c.loop-v.invariant.stored (or_false c.loop-v.moved c.in-Ok.went moved));
    }

pub returns-in-Err-clause-advances : goal.returns-in-Err-clause-advances
returns-in-Err-clause-advances g c =
    let p = plant_told g.O.Outputs.told g.D.Depot.told c.args.plant.now in
    let q = plant_told g.O.Outputs.told g.D.Depot.told c.loop-v.plant in
    let r = plant_told g.O.Outputs.told g.D.Depot.told c.turn_of.new.plant in
    drives_then c.args.triggers.now p q r c.args.trace.now c.loop-v.trace c.turn_of.new.trace (Err c.in-Err.fault)
    c.loop-v.invariant.headway.drives c.in-Err.ensures.advances

pub returns-clause-joint : goal.returns-clause-joint
returns-clause-joint g c = c.loop-v.invariant.joint

pub returns-clause-advances : goal.returns-clause-advances
returns-clause-advances g c = c.loop-v.invariant.headway

pub returns-clause-stored : goal.returns-clause-stored
returns-clause-stored g c = λ moved.
    let p = plant_told g.O.Outputs.told g.D.Depot.told c.args.plant.now in
    let q = plant_told g.O.Outputs.told g.D.Depot.told c.loop-v.plant in
    let end = c.loop-v-test.false in
    let most = c.loop-v.auto.v-end in
    let count = c.vertex_count-v-end.ensures ∙ ap (λ (plan : PlanText). length (plan_numbers plan).vertices) c.plan.ensures in
    let same = count_on p q c.loop-v.invariant.headway.drives.plays.runs.plan in
    subst (StoredBelow q) (omega (arith, end, most, count, same)) (c.loop-v.invariant.stored moved)
