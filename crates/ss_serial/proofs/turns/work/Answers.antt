use Rattle.std.proofs.Common.{◌∙◌, true, refl, sym, arith}
use Rattle.std.proofs.lemmas.Bool.{false≢true}
use Rattle.ss_engine.specs.Told.{plant_told}
use Rattle.ss_serial.proofs.Progress.{drives_then, fires_on, gives_on, headway_as, headway_last, headway_more, headway_none, stored_on}
use Rattle.std.specs.Prelude.{Err}
use Rattle.ss_serial.proofs.turns.work.Goals as goal

pub loop-init : goal.loop-init
loop-init g c =
    let p = plant_told g.O.Outputs.told g.D.Depot.told c.args.plant.now in
    record {
      joint = c.requires.joint;
      headway = headway_none c.args.triggers.now p c.args.trace.now;
      later = λ h. absurd (omega (arith, h));
    }

pub is_over-requires-clause-joint : goal.is_over-requires-clause-joint
is_over-requires-clause-joint g c = c.loop.invariant.joint

pub is_over-requires-clause-stream : goal.is_over-requires-clause-stream
is_over-requires-clause-stream g c =
    let p = plant_told g.O.Outputs.told g.D.Depot.told c.args.plant.now in
    let q = plant_told g.O.Outputs.told g.D.Depot.told c.loop.plant in
    gives_on p q c.args.v c.loop.invariant.headway.drives.plays.runs.plan c.requires.stream

pub returns-then-is_over-clause-joint : goal.returns-then-is_over-clause-joint
returns-then-is_over-clause-joint g c = c.loop.invariant.joint

pub returns-then-is_over-clause-advances : goal.returns-then-is_over-clause-advances
returns-then-is_over-clause-advances g c = c.loop.invariant.headway

pub act_by_rule-requires-clause-joint : goal.act_by_rule-requires-clause-joint
act_by_rule-requires-clause-joint g c = c.loop.invariant.joint

pub act_by_rule-requires-clause-stream : goal.act_by_rule-requires-clause-stream
act_by_rule-requires-clause-stream g c =
    let p = plant_told g.O.Outputs.told g.D.Depot.told c.args.plant.now in
    let q = plant_told g.O.Outputs.told g.D.Depot.told c.loop.plant in
    gives_on p q c.args.v c.loop.invariant.headway.drives.plays.runs.plan c.requires.stream

pub act_by_rule-requires-clause-triggers : goal.act_by_rule-requires-clause-triggers
act_by_rule-requires-clause-triggers g c =
    let p = plant_told g.O.Outputs.told g.D.Depot.told c.args.plant.now in
    let q = plant_told g.O.Outputs.told g.D.Depot.told c.loop.plant in
    fires_on p q c.args.triggers.now c.loop.invariant.headway.drives.plays.runs.plan c.requires.triggers

pub returns-in-Ok-false-clause-advances : goal.returns-in-Ok-false-clause-advances
returns-in-Ok-false-clause-advances g c =
    let p = plant_told g.O.Outputs.told g.D.Depot.told c.args.plant.now in
    let q = plant_told g.O.Outputs.told g.D.Depot.told c.loop.plant in
    let r = plant_told g.O.Outputs.told g.D.Depot.told c.act_by_rule.new.plant in
    headway_last c.args.triggers.now p q r c.args.trace.now c.loop.trace c.act_by_rule.new.trace c.loop.moved c.in-Ok-false.field-0
    c.in-Ok-false.field-0-test c.loop.invariant.headway c.in-Ok-false.ensures.advances

pub returns-in-Ok-false-clause-over : goal.returns-in-Ok-false-clause-over
returns-in-Ok-false-clause-over g c = λ moved stored.
    let p = plant_told g.O.Outputs.told g.D.Depot.told c.args.plant.now in
    let q = plant_told g.O.Outputs.told g.D.Depot.told c.loop.plant in
    let headway = c.loop.invariant.headway in
    let sure = c.in-Ok-false.ensures.sure (stored_on p q c.args.v headway.drives.plays.runs.plan (headway.same moved) stored) in
    absurd (false≢true (sym c.in-Ok-false.field-0-test ∙ sure))

pub returns-in-Err-clause-advances : goal.returns-in-Err-clause-advances
returns-in-Err-clause-advances g c =
    let p = plant_told g.O.Outputs.told g.D.Depot.told c.args.plant.now in
    let q = plant_told g.O.Outputs.told g.D.Depot.told c.loop.plant in
    let r = plant_told g.O.Outputs.told g.D.Depot.told c.act_by_rule.new.plant in
    drives_then c.args.triggers.now p q r c.args.trace.now c.loop.trace c.act_by_rule.new.trace (Err c.in-Err.fault)
    c.loop.invariant.headway.drives c.in-Err.ensures.advances

pub loop-preserved : goal.loop-preserved
loop-preserved g c =
    let p = plant_told g.O.Outputs.told g.D.Depot.told c.args.plant.now in
    let q = plant_told g.O.Outputs.told g.D.Depot.told c.loop.plant in
    let r = plant_told g.O.Outputs.told g.D.Depot.told c.act_by_rule.new.plant in
    record {
      joint = c.in-Ok-true.ensures.joint;
      headway = headway_more c.args.triggers.now p q r c.args.trace.now c.loop.trace c.act_by_rule.new.trace c.loop.moved
          c.loop.invariant.headway
          (headway_as c.args.triggers.now q r c.loop.trace c.act_by_rule.new.trace c.in-Ok-true.field-0 true c.in-Ok-true.field-0-test
          c.in-Ok-true.ensures.advances);
      later = λ h. refl;
    }

pub returns-clause-joint : goal.returns-clause-joint
returns-clause-joint g c = c.loop.invariant.joint

pub returns-clause-advances : goal.returns-clause-advances
returns-clause-advances g c = c.loop.invariant.headway

pub returns-clause-over : goal.returns-clause-over
returns-clause-over g c = λ moved stored.
    let end = c.loop-test.false in
    absurd (false≢true (sym moved ∙ c.loop.invariant.later (omega (arith, end))))
