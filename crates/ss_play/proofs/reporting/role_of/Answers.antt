use Rattle.std.proofs.Common.{◌≡◌, List, get_or, refl, ap, ◌∙◌, subst}
use Rattle.std.proofs.lemmas.Option.{slice_get_read}
use Rattle.ss_fail.specs.declared.role.Role.{Role}
use Rattle.ss_job.specs.JobText.{JobText}
use Rattle.ss_plan.specs.Plan.{PlanText}
use Rattle.ss_play.proofs.reporting.role_of.Goals as goal

pub returns : goal.returns
returns c =
    let plan : PlanText = c.args.plan.now in
    let same : c.roles.result.now ≡ plan.job.roles = c.roles.ensures ∙ ap (λ (job : JobText). job.roles) c.job.ensures.job in
    (c.plans_have_roles.ensures plan c.max_elements-most.ensures.plan).each c.args.v c.index-roles-v.result
    (slice_get_read plan.job.roles _ c.args.v c.index-roles-v.result refl c.requires
    (subst (λ (roles : List Role). c.index-roles-v.result ≡ get_or roles c.args.v c.index-roles-v.result) same c.index-roles-v.is))
