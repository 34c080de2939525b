-- Faults of a running job, as a job that is played tells them.
use Rattle.ss_acts.specs.declared.fault.EngineFault.{EngineFault}
use Rattle.ss_acts.specs.declared.fault.EngineFault.TheVariants as engine
use Rattle.ss_vault.specs.declared.fault.VaultFault.{VaultFault}
use Rattle.ss_vault.specs.declared.fault.VaultFault.TheVariants as vault
use Rattle.ss_play.specs.declared.fault.PlayFault.{PlayFault}
use Rattle.ss_play.specs.declared.fault.PlayFault.TheVariants as fault

-- that of a vault; a vault of a job that goes on wasn't halted
abbrev pub of_vault : VaultFault → PlayFault
of_vault (vault.Store count) = fault.Store
of_vault (vault.Output count) = fault.Output
of_vault (vault.Damaged v n) = fault.Damaged v n
of_vault vault.Halted = fault.Memory
of_vault vault.Memory = fault.Memory

-- that of an act
abbrev pub of_engine : EngineFault → PlayFault
of_engine (engine.Vault f) = of_vault f
of_engine (engine.Full v reached) = fault.Full v
of_engine engine.Memory = fault.Memory

-- a start meets no others
abbrev pub IsOfStart : PlayFault → Type 0
IsOfStart fault.Store = Unit {0}
IsOfStart fault.Output = ⊥
IsOfStart (fault.Full v) = ⊥
IsOfStart fault.Memory = Unit {0}
IsOfStart (fault.Damaged v n) = ⊥
