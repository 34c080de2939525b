use Rattle.std.proofs.Common.{◌≡◌, ◌∙◌, ap, sym}
use Rattle.ss_job.specs.JobText.{JobText, policy_of, spec_of}
use Rattle.ss_manager.proofs.Policies.{kept_as, is_some_spec}
use Rattle.ss_manager.proofs.snapping.policy_of.Goals as goal

pub returns-in-Some : goal.returns-in-Some
returns-in-Some c =
    let plan = c.args.plan.now in
    let of_job : policy_of c.job-in-Some.result.now c.args.v ≡ policy_of plan.job c.args.v
    = ap (λ (j : JobText). policy_of j c.args.v) c.job-in-Some.ensures.job in
    let of_spec : spec_of c.job.result.now c.args.v ≡ spec_of plan.job c.args.v
    = ap (λ (j : JobText). spec_of j c.args.v) c.job.ensures.job in
    kept_as plan c.args.v c.policy.result c.max_elements.ensures.plan (c.plans_have_numbers.ensures.meant plan c.max_elements.ensures.plan)
    c.requires (is_some_spec _ _ (c.in-Some.ensures ∙ of_spec)) (sym of_job ∙ c.policy.ensures)
