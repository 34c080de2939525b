use Rattle.ss_acts.proofs.Gathered as gathered
use Rattle.ss_acts.proofs.facts.act_facts.Goals as goal

pub returns : goal.returns
returns c =
    gathered.facts c.plans_have_numbers.ensures.meant c.vertices_by_number.ensures c.within_is_may_accept.ensures
    c.instances_are_numbered.ensures c.snapshots_fit.ensures c.args.plan.now c.plan_facts.ensures
