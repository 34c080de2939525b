use Rattle.ss_acts.proofs.Drops.{collects}
use Rattle.ss_vault.specs.Told.{VaultTold, vault_told}
use Rattle.ss_acts.proofs.collecting.act_collect.Goals as goal

pub returns-in-Ok-collect-clause-answer : goal.returns-in-Ok-collect-clause-answer
returns-in-Ok-collect-clause-answer g c =
    let s : VaultTold = vault_told g.O.Outputs.told g.D.Depot.told c.args.vault.now in
    let m : VaultTold = vault_told g.O.Outputs.told g.D.Depot.told c.get_ready.new.vault in
    let u : VaultTold = vault_told g.O.Outputs.told g.D.Depot.told c.collect.new.self in
    collects c.args.plan.now c.args.v c.in-Ok-collect.n s m u c.in-Ok.ensures.ready c.in-Ok-collect.ensures.answer
