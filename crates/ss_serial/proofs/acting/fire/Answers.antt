use Rattle.std.proofs.Common.{◌∙◌, ℕ, arith, get_or, sym, ap, subst}
use Rattle.ss_engine.specs.Applies.{MayApply}
use Rattle.ss_engine.specs.Plays.{PlaysAll, PlaysUpTo}
use Rattle.ss_engine.specs.Told.{plant_told}
use Rattle.ss_frames.specs.Plans.{plan_numbers}
use Rattle.ss_plan.specs.Plan.{PlanText}
use Rattle.ss_state.specs.Rule.{IsTrigger, acts_at}
use Rattle.ss_state.specs.State.{TailNumbers}
use Rattle.ss_tail.specs.Held.{TailHeld}
use Rattle.ss_serial.proofs.Firing.{all_at, no_trigger, plays_all_fired, plays_failed, plays_fired}
use Rattle.ss_serial.proofs.Looking.{tail_is}
use Rattle.ss_serial.proofs.Ruling.{failure_may_apply}
use Rattle.ss_serial.proofs.Runs.{plays_none}
use Rattle.ss_serial.proofs.acting.fire.Goals as goal

pub loop-place-init : goal.loop-place-init
loop-place-init g c =
    let p = plant_told g.O.Outputs.told g.D.Depot.told c.args.plant.now in
    record { joint = c.requires.joint; plays = plays_none p c.args.trace.now; within = omega arith }

pub play_one-requires-clause-joint : goal.play_one-requires-clause-joint
play_one-requires-clause-joint g c = c.loop-place.invariant.joint

pub play_one-requires-clause-act : goal.play_one-requires-clause-act
play_one-requires-clause-act g c =
    let p = plant_told g.O.Outputs.told g.D.Depot.told c.args.plant.now in
    let t = get_or c.args.triggers.now c.in-Some.place no_trigger in
    subst (λ (plan : PlanText). MayApply plan t.act) (sym c.loop-place.invariant.plays.runs.plan)
    (failure_may_apply p.plan t
    (all_at (IsTrigger (plan_numbers p.plan)) c.args.triggers.now c.in-Some.place no_trigger c.in-Some.ensures.within c.requires.triggers))

pub returns-in-Err-clause-plays : goal.returns-in-Err-clause-plays
returns-in-Err-clause-plays g c =
    let p = plant_told g.O.Outputs.told g.D.Depot.told c.args.plant.now in
    let q = plant_told g.O.Outputs.told g.D.Depot.told c.loop-place.plant in
    let r = plant_told g.O.Outputs.told g.D.Depot.told c.play_one.new.plant in
    let count = c.stored-stored.ensures ∙ ap (λ (tail : TailHeld). tail.numbers.stored) c.tail.ensures
    ∙ ap (λ (t : TailNumbers). t.stored) (sym (tail_is p c.args.v)) in
    subst (λ (n : ℕ). PlaysUpTo p (acts_at c.args.triggers.now c.args.v n) c.args.trace.now c.in-Err.fault r c.play_one.new.trace) count
    (plays_failed p q r c.args.triggers.now c.loop-place.start c.in-Some.place c.args.v c.stored-stored.result c.in-Err.fault
    c.args.trace.now c.loop-place.trace c.play_one.new.trace c.in-Some.ensures c.loop-place.invariant.plays c.loop-place.invariant.joint
    c.in-Err.ensures.plays)

pub loop-place-smaller : goal.loop-place-smaller
loop-place-smaller g c =
    let within = c.in-Some.ensures.within in
    let from = c.in-Some.ensures.from in
    omega (arith, within, from)

pub loop-place-preserved : goal.loop-place-preserved
loop-place-preserved g c =
    let p = plant_told g.O.Outputs.told g.D.Depot.told c.args.plant.now in
    let q = plant_told g.O.Outputs.told g.D.Depot.told c.loop-place.plant in
    let r = plant_told g.O.Outputs.told g.D.Depot.told c.play_one.new.plant in
    let within = c.in-Some.ensures.within in
    record {
      joint = c.in-Ok.ensures.joint;
      plays = plays_fired p q r c.args.triggers.now c.loop-place.start c.in-Some.place c.args.v c.stored-stored.result c.in-Ok.field-0
          c.args.trace.now c.loop-place.trace c.play_one.new.trace c.in-Some.ensures c.loop-place.invariant.plays c.in-Ok.ensures.plays;
      within = omega (arith, within);
    }

pub returns-clause-joint : goal.returns-clause-joint
returns-clause-joint g c = c.loop-place.invariant.joint

pub returns-clause-plays : goal.returns-clause-plays
returns-clause-plays g c =
    let p = plant_told g.O.Outputs.told g.D.Depot.told c.args.plant.now in
    let q = plant_told g.O.Outputs.told g.D.Depot.told c.loop-place.plant in
    let count = c.stored-stored.ensures ∙ ap (λ (tail : TailHeld). tail.numbers.stored) c.tail.ensures
    ∙ ap (λ (t : TailNumbers). t.stored) (sym (tail_is p c.args.v)) in
    subst (λ (n : ℕ). PlaysAll p (acts_at c.args.triggers.now c.args.v n) c.args.trace.now q c.loop-place.trace) count
    (plays_all_fired p q c.args.triggers.now c.loop-place.start c.args.v c.stored-stored.result c.args.trace.now c.loop-place.trace
    c.loop-place.invariant.within c.in_default.ensures c.loop-place.invariant.plays)
