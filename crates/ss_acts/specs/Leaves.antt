-- What an act leaves of the parts that it touches, as its reading over their numbers says, and what stays.
use Rattle.std.specs.Prelude.{◌≡◌, ◌≢◌, ℕ, Bool, true, false, List, Option, Some, None, Result, Ok, Err}
use Rattle.ss_acts.specs.declared.fault.EngineFault.{EngineFault}
use Rattle.ss_acts.specs.declared.fault.EngineFault.TheVariants as fault
use Rattle.ss_fail.specs.declared.outcome.Outcome.{Outcome}
use Rattle.ss_plan.specs.Plan.{PlanText}
use Rattle.ss_state.specs.Acts.{InstStep, InstAndTailStep, TailStep, TailAndVaultStep, VaultStep}
use Rattle.ss_tail.specs.Held.{TailHeld}
use Rattle.ss_vault.specs.Calls.{HasPlace, KeepsAllButPlaces, WasHalted}
use Rattle.ss_vault.specs.Counts.{NoneFell}
use Rattle.ss_vault.specs.Sound.{sink_file}
use Rattle.ss_vault.specs.Told.{VaultTold, numbers_of, counts_of, durable_of}
use Rattle.ss_vault.specs.declared.fault.VaultFault.TheVariants as vault
use Rattle.ss_vertex.specs.Inst.{InstState, inst_numbers}

-- an act that touches a replica has left this one
abbrev pub LeavesInst : InstStep → InstState → Outcome → Type 0
LeavesInst did inst outcome = did ≡ record { inst = inst_numbers inst; outcome = outcome }

-- a tail
abbrev pub LeavesTail : TailStep → TailHeld → Outcome → Type 0
LeavesTail did tail outcome = did ≡ record { tail = tail.numbers; outcome = outcome }

-- a replica and a tail
abbrev pub LeavesBoth : InstAndTailStep → InstState → TailHeld → Outcome → Type 0
LeavesBoth did inst tail outcome =
    did ≡ record { inst = inst_numbers inst; tail = tail.numbers; outcome = outcome }

-- the vault's numbers
abbrev pub LeavesVault : VaultStep → VaultTold → Outcome → Type 0
LeavesVault did vault outcome = did ≡ record { vault = numbers_of vault; outcome = outcome }

-- a tail and the vault's numbers
abbrev pub LeavesTailAndVault : TailAndVaultStep → TailHeld → VaultTold → Outcome → Type 0
LeavesTailAndVault did tail vault outcome =
    did ≡ record { tail = tail.numbers; vault = numbers_of vault; outcome = outcome }

-- the vault goes on as before: it hasn't been halted, and no count fell
pub record Goes (s u : VaultTold) : Type 0 where
  pub halted : u.halted ≡ s.halted
  pub started : u.started ≡ s.started
  pub counts : NoneFell (counts_of s) (counts_of u)

-- and its numbers are as before
pub record Keeps (s u : VaultTold) : Type 0 where
  pub numbers : numbers_of u ≡ numbers_of s
  pub goes : Goes s u

-- no sink with this file took an element from one moment to the other
abbrev pub NoneTook : PlanText → List ℕ → VaultTold → VaultTold → Type 0
NoneTook plan name s u =
    (k : ℕ) → sink_file plan k ≡ Some name → (durable_of u k).taken ≡ (durable_of s k).taken

-- a name is put to only where a sink with this file took an element
abbrev pub PutsToTakers : PlanText → VaultTold → VaultTold → Type 0
PutsToTakers plan s u =
    (name : List ℕ) → NoneTook plan name s u → u.outputs.put_to name ≡ s.outputs.put_to name

-- of the sinks at most this one puts to its file, and nothing else does to any
abbrev pub PutsToNoOther : PlanText → Option ℕ → VaultTold → VaultTold → Type 0
PutsToNoOther plan sink s u =
    (name : List ℕ) → ((k : ℕ) → sink ≡ Some k → sink_file plan k ≢ Some name)
    → u.outputs.put_to name ≡ s.outputs.put_to name

-- the sink of an act that met this fault, where it is that of its put
abbrev pub sink_failed : Option ℕ → EngineFault → Option ℕ
sink_failed sink (fault.Vault (vault.Store count)) = None
sink_failed sink (fault.Vault (vault.Output count)) = sink
sink_failed sink (fault.Vault (vault.Damaged v n)) = None
sink_failed sink (fault.Vault vault.Halted) = None
sink_failed sink (fault.Vault vault.Memory) = None
sink_failed sink (fault.Full v reached) = None
sink_failed sink fault.Memory = None

-- an act that was made puts to the files of sinks that took an element; one that met a fault puts to none, unless the
-- fault is of the put itself
abbrev pub PutsBy : PlanText → Option ℕ → VaultTold → Result Outcome EngineFault → VaultTold → Type 0
PutsBy plan sink s (Ok outcome) u = PutsToTakers plan s u
PutsBy plan sink s (Err f) u = PutsToNoOther plan (sink_failed sink f) s u

-- the vault is called just where that is due: else it is as before, and where it was due and the act was made, the
-- vault hadn't been halted
pub record AsksVault (due : Bool) (s : VaultTold) (made : Bool) (u : VaultTold) : Type 0 where
  pub untouched : due ≡ false → u ≡ s
  pub going : due ≡ true → made ≡ true → s.halted ≡ None

-- a vault that goes on has a place in its journal, and else is as it was
pub record HasPlaceNow (s u : VaultTold) : Type 0 where
  pub going : s.halted ≡ None
  pub place : HasPlace u
  pub same : KeepsAllButPlaces s u

-- a place was reserved in the journal of a vault that goes on, or wasn't, for want of memory
abbrev pub IsReadied : VaultTold → Result (Unit {0}) EngineFault → VaultTold → Type 0
IsReadied s (Ok _) u = HasPlaceNow s u
IsReadied s (Err (fault.Vault (vault.Store count))) u = ⊥
IsReadied s (Err (fault.Vault (vault.Output count))) u = ⊥
IsReadied s (Err (fault.Vault (vault.Damaged v n))) u = ⊥
IsReadied s (Err (fault.Vault vault.Halted)) u = WasHalted s u
IsReadied s (Err (fault.Vault vault.Memory)) u = ⊥
IsReadied s (Err (fault.Full v reached)) u = ⊥
IsReadied s (Err fault.Memory) u = KeepsAllButPlaces s u
