-- The laws of bounds, of Low and of output, at one arrival more.
use Rattle.std.proofs.Common.{◌≡◌, ℕ, ◌<◌, length, take, sym, ap, subst, arith}
use Rattle.ss_meaning.specs.Merge.{Arrival}
use Rattle.ss_expr.specs.Operators.{operator_of}
use Rattle.ss_plan.proofs.Arriving.{step_more}
use Rattle.ss_plan.proofs.Beginnings.{bounds_count}
use Rattle.ss_plan.proofs.operating.row_by_row_output.Goals as goal

pub loop-x-preserved : goal.loop-x-preserved
loop-x-preserved c =
    let within : c.x-item.result.input < c.args.width =
    subst (λ (x : Arrival). x.input < c.args.width) (sym c.x-item.is)
    (c.requires.inputs c.loop-x.x-index c.x-item.result c.loop-x-test.true) in
    let both = step_more c.bounds_tell_what_is_next.ensures.bounds c.bounds_tell_what_is_next.ensures.low c.output_only_grows.ensures.step
    (operator_of c.args.spec.now) c.args.width c.loop-x.x-index c.args.arrived.now c.x-item.result c.loop-x.bounds c.step.new.bounds
    c.loop-x.list.items c.step.new.list.items c.loop-x-test.true c.x-item.is within c.loop-x.invariant.given c.loop-x.invariant.bounds
    c.in_ok-step.ensures.bounds c.in_ok-step.ensures.given in
    record { given = both.0; bounds = both.1 }

pub step-requires-clause-input : goal.step-requires-clause-input
step-requires-clause-input c =
    let within : c.x-item.result.input < c.args.width =
    subst (λ (x : Arrival). x.input < c.args.width) (sym c.x-item.is)
    (c.requires.inputs c.loop-x.x-index c.x-item.result c.loop-x-test.true) in
    let count = bounds_count c.args.width (take c.loop-x.x-index c.args.arrived.now) in
    omega (arith, within, ap length c.loop-x.invariant.bounds, count)
