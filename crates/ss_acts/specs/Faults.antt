-- What an act meets that isn't made, and what it leaves then.
use Rattle.std.specs.Prelude.{◌≡◌, ℕ, true, false, Option, Some, None}
use Rattle.ss_acts.specs.Leaves.{Goes, Keeps}
use Rattle.ss_acts.specs.Parts.{vertex_of}
use Rattle.ss_acts.specs.Readings.{wanted_from, number_wanted, vault_reading}
use Rattle.ss_acts.specs.declared.fault.EngineFault.{EngineFault}
use Rattle.ss_acts.specs.declared.fault.EngineFault.TheVariants as fault
use Rattle.ss_frames.specs.Plans.{plan_numbers}
use Rattle.ss_plan.specs.Plan.{PlanText}
use Rattle.ss_state.specs.Acts.{InstStep}
use Rattle.ss_state.specs.Journal.{enter}
use Rattle.ss_state.specs.Numbers.{VertexNumbers, out}
use Rattle.ss_state.specs.State.{InstNumbers}
use Rattle.ss_state.specs.Step.{has_passed}
use Rattle.ss_state.specs.Tails.{batch_from, batch_len}
use Rattle.ss_state.specs.declared.entry.Entry.{Entry}
use Rattle.ss_tail.specs.Held.{TailHeld}
use Rattle.ss_vault.specs.Calls.{WasHalted, Stops, StoresSome, PassesSome, IsOfDrop, IsOfLook, KeepsAllButPlaces}
use Rattle.ss_vault.specs.Told.{VaultTold, numbers_of}
use Rattle.ss_vault.specs.declared.fault.VaultFault.{VaultFault}
use Rattle.ss_vault.specs.declared.fault.VaultFault.TheVariants as vault
use Rattle.ss_vertex.specs.Inst.{InstState, inst_numbers}

-- a fault of the vault as an act tells it: want of memory is the same everywhere
abbrev pub of_vault : VaultFault → EngineFault
of_vault (vault.Store count) = fault.Vault (vault.Store count)
of_vault (vault.Output count) = fault.Vault (vault.Output count)
of_vault (vault.Damaged v n) = fault.Vault (vault.Damaged v n)
of_vault vault.Halted = fault.Vault vault.Halted
of_vault vault.Memory = fault.Memory

-- the vault has made this entry, or none, and goes on
pub record Entered (plan : PlanText) (s : VaultTold) (entry : Option Entry) (u : VaultTold) : Type 0 where
  pub numbers : numbers_of u ≡ enter (plan_numbers plan) (numbers_of s) entry
  pub goes : Goes s u

-- the vault met one of these faults, or memory was wanting, when it had made this entry
abbrev pub Fails : (VaultFault → Type 0) → PlanText → VaultTold → Option Entry → EngineFault → VaultTold → Type 0
Fails Can plan s entry (fault.Vault (vault.Store count)) u =
    Can (vault.Store count) × Stops plan s entry (vault.Store count) u
Fails Can plan s entry (fault.Vault (vault.Output count)) u =
    Can (vault.Output count) × Stops plan s entry (vault.Output count) u
Fails Can plan s entry (fault.Vault (vault.Damaged v n)) u =
    Can (vault.Damaged v n) × Stops plan s entry (vault.Damaged v n) u
Fails Can plan s entry (fault.Vault vault.Halted) u = WasHalted s u
Fails Can plan s entry (fault.Vault vault.Memory) u = ⊥
Fails Can plan s entry (fault.Full v reached) u = ⊥
Fails Can plan s entry fault.Memory u = Entered plan s entry u

-- how many elements a replica of such a vertex has made
abbrev pub made_by : VertexNumbers → Option InstNumbers → ℕ
made_by x None = 0
made_by x (Some up) = out x up.n

-- a read that would leave the instance so is refused: its vertex would have given more than a stream may have
pub record IsFull (plan : PlanText) (inst : InstState) (did : InstStep) (v reached : ℕ) : Type 0 where
  pub vertex : v ≡ inst.v
  pub is_reached : reached ≡ made_by (vertex_of plan inst.v) did.inst
  pub passed : has_passed plan.job.max_elements (vertex_of plan inst.v) did.inst ≡ true

-- a read from a tail, or from a list, is refused; for want of memory only where the vertex stays within its limit
abbrev pub RefusesRead : PlanText → InstState → InstStep → EngineFault → Type 0
RefusesRead plan inst did (fault.Vault f) = ⊥
RefusesRead plan inst did (fault.Full v reached) = IsFull plan inst did v reached
RefusesRead plan inst did fault.Memory = has_passed plan.job.max_elements (vertex_of plan inst.v) did.inst ≡ false

-- one from the vault is refused, or the vault meets a fault
abbrev pub FailsToRead : PlanText → InstState → VaultTold → EngineFault → VaultTold → Type 0
FailsToRead plan inst s (fault.Vault f) u =
    Fails (IsOfLook (wanted_from plan inst) (number_wanted (vertex_of plan inst.v) (inst_numbers inst))) plan s None
    (fault.Vault f) u
FailsToRead plan inst s (fault.Full v reached) u = IsFull plan inst (vault_reading plan inst s) v reached × Keeps s u
FailsToRead plan inst s fault.Memory u = Keeps s u

-- of a batch of at most so many elements of the tail of v, some are stored
abbrev pub FailsToFlush : PlanText → ℕ → ℕ → TailHeld → VaultTold → EngineFault → VaultTold → Type 0
FailsToFlush plan v most tail s (fault.Vault vault.Halted) u = WasHalted s u
FailsToFlush plan v most tail s (fault.Vault (vault.Store count)) u =
    StoresSome plan v (batch_from tail.numbers) (batch_len tail.numbers most) s (vault.Store count) u
FailsToFlush plan v most tail s (fault.Vault (vault.Output count)) u = ⊥
FailsToFlush plan v most tail s (fault.Vault (vault.Damaged w n)) u = ⊥
FailsToFlush plan v most tail s (fault.Vault vault.Memory) u = ⊥
FailsToFlush plan v most tail s (fault.Full w reached) u = ⊥
FailsToFlush plan v most tail s fault.Memory u =
    StoresSome plan v (batch_from tail.numbers) (batch_len tail.numbers most) s vault.Memory u

-- a collect or a trim met a fault of the store and dropped nothing, or memory was wanting before it was begun
abbrev pub FailsToDrop : PlanText → VaultTold → EngineFault → VaultTold → Type 0
FailsToDrop plan s (fault.Vault f) u = Fails IsOfDrop plan s None (fault.Vault f) u
FailsToDrop plan s (fault.Full v reached) u = ⊥
FailsToDrop plan s fault.Memory u = KeepsAllButPlaces s u

-- a pass met a fault of the store when it had made some of its halves, or memory was wanting before it was begun
abbrev pub FailsToPass : PlanText → VaultTold → EngineFault → VaultTold → Type 0
FailsToPass plan s (fault.Vault (vault.Store count)) u = PassesSome plan s (vault.Store count) u
FailsToPass plan s (fault.Vault (vault.Output count)) u = ⊥
FailsToPass plan s (fault.Vault (vault.Damaged v n)) u = ⊥
FailsToPass plan s (fault.Vault vault.Halted) u = WasHalted s u
FailsToPass plan s (fault.Vault vault.Memory) u = ⊥
FailsToPass plan s (fault.Full v reached) u = ⊥
FailsToPass plan s fault.Memory u = KeepsAllButPlaces s u
