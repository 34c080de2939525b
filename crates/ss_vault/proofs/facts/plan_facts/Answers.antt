use Rattle.ss_vault.proofs.Gathering as gathered
use Rattle.ss_vault.proofs.facts.plan_facts.Goals as goal

pub returns : goal.returns
returns c =
    gathered.facts c.plans_mean_jobs.ensures c.vertices_by_number.ensures c.plans_have_numbers.ensures.numbers
    c.plans_have_numbers.ensures.meant c.plans_have_numbers.ensures.inputs c.meaning_is_whole.ensures c.args.plan.now c.max_elements-most.ensures.plan
