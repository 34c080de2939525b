use Rattle.ss_engine.specs.Around.{BeginBehind}
use Rattle.ss_vault.specs.Told.{vault_told}
use Rattle.ss_engine.proofs.around.tails_behind.Given as goal

abbrev pub invariant-loop-v : goal.invariant-loop-v
invariant-loop-v g l = BeginBehind (vault_told g.O.Outputs.told g.D.Depot.told l.vault) l.v l.tails.items
