-- One arrival more, and all of them.
use Rattle.std.proofs.Common.{◌≡◌, ℕ, ◌<◌, subst, sym}
use Rattle.ss_meaning.specs.Merge.{Arrival}
use Rattle.ss_meaning.specs.Emit.{Join}
use Rattle.ss_plan.proofs.SideSteps.{sides_more}
use Rattle.ss_plan.proofs.joins.join_output.Goals as goal

pub loop-x-preserved : goal.loop-x-preserved
loop-x-preserved c =
    let within : c.x-item.result.input < 2 =
    subst (λ n. c.x-item.result.input < n) c.requires.two
    (subst (λ (x : Arrival). x.input < c.args.width) (sym c.x-item.is) (c.requires.inputs c.loop-x.x-index c.x-item.result c.loop-x-test.true)) in
    sides_more c.bounds_tell_what_is_next.ensures.bounds c.output_only_grows.ensures.step Join c.loop-x.join c.step.new.join c.loop-x.bounds c.step.new.bounds
    c.loop-x.out.elements c.step.new.out.elements c.args.arrived.now c.loop-x.x-index c.x-item.result c.loop-x-test.true c.x-item.is within
    c.requires.follow c.loop-x.invariant c.in_ok-step.ensures.bounds c.in_ok-step.ensures.given
