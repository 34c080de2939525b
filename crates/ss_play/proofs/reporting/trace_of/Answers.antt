use Rattle.std.proofs.Common.{◌≡◌, ◌∙◌, List, sym, ap, subst}
use Rattle.std.specs.Prelude.{All}
use Rattle.ss_engine.specs.Plays.{acts_of, made_of}
use Rattle.ss_fail.specs.declared.role.Role.{Role}
use Rattle.ss_frames.specs.Plans.{plan_numbers}
use Rattle.ss_job.specs.JobText.{JobText}
use Rattle.ss_plan.specs.Plan.{PlanText}
use Rattle.ss_report.specs.TraceText.{IsActOf}
use Rattle.ss_state.specs.Step.{Made, MayAct}
use Rattle.ss_play.proofs.Plants.{pairs_told}
use Rattle.ss_play.proofs.VertexLines.{trace_text_is}
use Rattle.ss_play.proofs.reporting.trace_of.Goals as goal

pub put_trace-requires : goal.put_trace-requires
put_trace-requires c =
    let plan : PlanText = c.args.plan.now in
    let may : All (MayAct (plan_numbers plan)) (acts_of (made_of c.pairs.result.now)) =
    subst (λ (made : List Made). All (MayAct (plan_numbers plan)) (acts_of made)) (sym c.pairs.ensures) c.requires in
    let roles_are : c.roles.result.now ≡ plan.job.roles = c.roles.ensures ∙ ap (λ (job : JobText). job.roles) c.job.ensures.job in
    subst (λ (roles : List Role). All (λ pair. IsActOf roles pair.0) c.pairs.result.now) (sym roles_are)
    (pairs_told plan (sym c.vertex_count-count.ensures.numbered ∙ c.vertex_count-count.ensures.named) c.pairs.result.now may)

pub returns : goal.returns
returns c =
    let roles_are : c.roles.result.now ≡ c.args.plan.now.job.roles = c.roles.ensures ∙ ap (λ (job : JobText). job.roles) c.job.ensures.job in
    trace_text_is c.args.plan.now c.roles.result.now c.pairs.result.now _ _ _ roles_are c.pairs.ensures c.new-text.ensures.items c.in_ok-put_trace.ensures
