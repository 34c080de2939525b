-- What a vault tells at one moment.
use Rattle.std.specs.Prelude.{ℕ, Option}
use Rattle.ss_outside.specs.Depot.{DepotTold}
use Rattle.ss_outside.specs.Told.{OutputsTold}
use Rattle.ss_state.specs.State.{LedgerRow, VaultNumbers, row_at}
use Rattle.ss_vault.specs.Counts.{counts_told}
use Rattle.ss_vault.specs.NumbersHeld.{NumbersHeld}
use Rattle.ss_vault.specs.declared.counts.Counts.{Counts}
use Rattle.ss_vault.specs.declared.fault.VaultFault.{VaultFault}
use Rattle.ss_vault.specs.declared.vault.Vault.{Vault}

-- its numbers, what halted it, the counts of its devices when it was started, and what the devices tell
pub record VaultTold : Type 0 where
  pub held : NumbersHeld
  pub halted : Option VaultFault
  pub started : Counts
  pub depot : DepotTold
  pub outputs : OutputsTold

abbrev pub vault_told : {O D : Type 0} → (O → OutputsTold) → (D → DepotTold) → Vault O D → VaultTold
vault_told outputs_told depot_told vault = record {
  held = vault.numbers;
  halted = vault.halted;
  started = vault.started;
  depot = depot_told vault.depot;
  outputs = outputs_told vault.outputs;
}

-- the ledger and the journal that it tells
abbrev pub numbers_of : VaultTold → VaultNumbers
numbers_of vault = vault.held.numbers

-- what is stored of vertex v
abbrev pub durable_of : VaultTold → ℕ → LedgerRow
durable_of vault v = row_at vault.held.numbers.ledger v

-- the counts of its devices
abbrev pub counts_of : VaultTold → Counts
counts_of vault = counts_told vault.outputs vault.depot
