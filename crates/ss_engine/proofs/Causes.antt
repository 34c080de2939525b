-- The faults of a vault, as an act tells them.
use Rattle.std.proofs.Common.{◌≡◌, true, Option, None, ap}
use Rattle.ss_acts.specs.Faults.{Fails}
use Rattle.ss_acts.specs.declared.fault.EngineFault.{EngineFault}
use Rattle.ss_acts.specs.declared.fault.EngineFault.TheVariants as fault
use Rattle.ss_fail.specs.declared.act.Act.{Act}
use Rattle.ss_plan.specs.Plan.{PlanText}
use Rattle.ss_state.specs.declared.entry.Entry.{Entry}
use Rattle.ss_vault.specs.Told.{VaultTold, numbers_of}
use Rattle.ss_vault.specs.declared.fault.VaultFault.{VaultFault}
use Rattle.ss_vault.specs.declared.fault.VaultFault.TheVariants as vault
use Rattle.ss_engine.specs.Applies.{CanMeet, IsCause, IsNotFull, takes_memory}
use Rattle.ss_engine.specs.Told.{PlantTold}

-- where no entry was made, the numbers are as they were
pub fails_keeps : (Can : VaultFault → Type 0) (plan : PlanText) (s u : VaultTold) (f : EngineFault) → Fails Can plan s None f u
    → numbers_of u ≡ numbers_of s
fails_keeps Can plan s u (fault.Vault (vault.Store count)) h = h.1.2.numbers
fails_keeps Can plan s u (fault.Vault (vault.Output count)) h = h.1.2.numbers
fails_keeps Can plan s u (fault.Vault (vault.Damaged v n)) h = h.1.1.numbers
fails_keeps Can plan s u (fault.Vault vault.Halted) h = ap (λ (x : VaultTold). numbers_of x) h.1
fails_keeps Can plan s u (fault.Vault vault.Memory) h = absurd h
fails_keeps Can plan s u (fault.Full v reached) h = absurd h
fails_keeps Can plan s u fault.Memory h = h.numbers

-- and such a fault is a cause
pub fails_is_cause : (p q : PlantTold) (a : Act) (entry : Option Entry) (f : EngineFault) → takes_memory a ≡ true → IsNotFull p a
    → Fails (CanMeet p a) p.plan p.vault entry f q.vault → IsCause p a q f
fails_is_cause p q a entry (fault.Vault f) memory fits h = (entry, h)
fails_is_cause p q a entry (fault.Full v reached) memory fits h = absurd h
fails_is_cause p q a entry fault.Memory memory fits h = (memory, fits, h.goes)
