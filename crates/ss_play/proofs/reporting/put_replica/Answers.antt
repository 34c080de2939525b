use Rattle.std.proofs.Common.{◌≡◌, ℕ, List, ◌++◌, sym, ap, ◌∙◌}
use Rattle.std.proofs.lemmas.Result.{IfOk-equal}
use Rattle.ss_frames.specs.Plans.{plan_numbers}
use Rattle.ss_job.specs.JobText.{JobText}
use Rattle.ss_plan.specs.Plan.{PlanText}
use Rattle.ss_state.specs.Numbers.{VertexNumbers, vertex}
use Rattle.ss_play.proofs.ReportLines.{down_told, numbered, up_told}
use Rattle.ss_play.proofs.reporting.put_replica.Goals as goal

pub returns-then-is_up : goal.returns-then-is_up
returns-then-is_up c =
    let plan : PlanText = c.args.plan.now in
    let x : VertexNumbers = vertex (plan_numbers plan) c.args.v in
    let same : c.roles-roles.result.now ≡ plan.job.roles = c.roles-roles.ensures ∙ ap (λ (job : JobText). job.roles) c.job.ensures.job in
    IfOk-equal _ _ _ _ c.state_line.ensures.line
    (ap (λ (t : List ℕ). c.args.out.now.items ++ t)
    (up_told plan c.roles-roles.result.now x c.args.v c.args.r c.n.result c.next.result c.left.result c.args.inst.now same
    c.n.ensures c.next.ensures c.left.ensures (sym c.is_up.ensures ∙ c.if-is_up.true)
    (numbered c.instances_are_numbered.ensures plan c.max_elements-most.ensures.plan c.args.v c.args.inst.now c.requires.stands)))

pub returns-else-is_up : goal.returns-else-is_up
returns-else-is_up c =
    let plan : PlanText = c.args.plan.now in
    let x : VertexNumbers = vertex (plan_numbers plan) c.args.v in
    let same : c.roles-roles.result.now ≡ plan.job.roles = c.roles-roles.ensures ∙ ap (λ (job : JobText). job.roles) c.job.ensures.job in
    IfOk-equal _ _ _ _ c.state_line-else-is_up.ensures.line
    (ap (λ (t : List ℕ). c.args.out.now.items ++ t)
    (down_told plan c.roles-roles.result.now x c.args.v c.args.r c.args.inst.now same (sym c.is_up.ensures ∙ c.if-is_up.false)))
