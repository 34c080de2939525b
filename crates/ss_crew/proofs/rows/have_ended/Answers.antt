use Rattle.ss_vault.specs.Told.{vault_told}
use Rattle.ss_crew.proofs.VaultRows.{ended_is}
use Rattle.ss_crew.proofs.rows.have_ended.Goals as goal

pub returns : goal.returns
returns g c =
    let plan = c.args.plan.now in
    let s = vault_told g.O.Outputs.told g.D.Depot.told c.args.vault.now in
    let both = c.all_ended.ensures plan c.requires in
    ended_is plan s c.all_ended.result c.requires both.0 both.1
