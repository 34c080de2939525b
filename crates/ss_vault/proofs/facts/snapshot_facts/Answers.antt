use Rattle.ss_vault.proofs.facts.snapshot_facts.Goals as goal

pub returns : goal.returns
returns c = c.every_snapshot_facts.ensures c.args.plan.now c.max_elements-most.ensures.plan
