use Rattle.std.proofs.Common.{Ok, subst, sym}
use Rattle.ss_acts.specs.Calls.{TrimsVertex}
use Rattle.ss_acts.proofs.Drops.{trims}
use Rattle.ss_fail.specs.declared.outcome.Outcome.{Outcome}
use Rattle.ss_vault.specs.Told.{VaultTold, vault_told}
use Rattle.ss_acts.proofs.collecting.act_trim.Goals as goal

pub returns-in-Ok-trim-clause-answer : goal.returns-in-Ok-trim-clause-answer
returns-in-Ok-trim-clause-answer g c =
    let s : VaultTold = vault_told g.O.Outputs.told g.D.Depot.told c.args.vault.now in
    let m : VaultTold = vault_told g.O.Outputs.told g.D.Depot.told c.get_ready.new.vault in
    let u : VaultTold = vault_told g.O.Outputs.told g.D.Depot.told c.trim.new.self in
    subst (λ (o : Outcome). TrimsVertex c.args.plan.now c.args.v s (Ok o) u) (sym c.trimmed.ensures)
    (trims c.args.plan.now c.args.v c.in-Ok-trim.n s m u c.in-Ok.ensures.ready c.in-Ok-trim.ensures.answer)
