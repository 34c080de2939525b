use Rattle.ss_acts.proofs.Drops.{passes}
use Rattle.ss_vault.specs.Told.{VaultTold, vault_told}
use Rattle.ss_acts.proofs.collecting.act_pass.Goals as goal

pub returns-in-Ok-pass-clause-answer : goal.returns-in-Ok-pass-clause-answer
returns-in-Ok-pass-clause-answer g c =
    let s : VaultTold = vault_told g.O.Outputs.told g.D.Depot.told c.args.vault.now in
    let m : VaultTold = vault_told g.O.Outputs.told g.D.Depot.told c.get_ready.new.vault in
    let u : VaultTold = vault_told g.O.Outputs.told g.D.Depot.told c.pass.new.self in
    passes c.args.plan.now s m u c.in-Ok.ensures.ready c.in-Ok-pass.ensures.answer
