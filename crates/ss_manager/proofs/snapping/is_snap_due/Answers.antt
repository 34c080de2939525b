use Rattle.std.proofs.Common.{◌∙◌, ℕ, subst}
use Rattle.ss_frames.specs.Plans.{plan_numbers}
use Rattle.ss_state.specs.Numbers.{vertex}
use Rattle.ss_vertex.specs.Inst.{n_of}
use Rattle.ss_vertex.specs.Laws.{IsNumbered}
use Rattle.ss_manager.proofs.Policies.{due_is, none_is_due}
use Rattle.ss_manager.proofs.snapping.is_snap_due.Goals as goal

pub returns-in-Some : goal.returns-in-Some
returns-in-Some c =
    let plan = c.args.plan.now in
    let inst = c.args.inst.now in
    let x = vertex (plan_numbers plan) c.args.v in
    let numbered : IsNumbered plan x inst =
    subst (λ (w : ℕ). IsNumbered plan (vertex (plan_numbers plan) w) inst) c.requires.vertex c.is_numbered.ensures.numbered in
    c.snap_due.ensures
    ∙ due_is x c.in-Some.policy (n_of inst) c.n.result c.args.last c.held.result c.in-Some.ensures
    (c.held.ensures ∙ numbered.held c.requires.up c.in-Some.ensures.inner) c.n.ensures

pub returns-in-None : goal.returns-in-None
returns-in-None c = none_is_due _ _ _ c.in-None.ensures
