-- What each act function answers, and what it leaves. `inst`, `tail` and `s` are what the parts tell before the call,
-- and `new`, `rest` and `u` after it.
use Rattle.std.specs.Prelude.{◌≡◌, ℕ, true, false, None, Result, Ok, Err}
use Rattle.ss_acts.specs.Faults.{Fails, FailsToRead, FailsToFlush, FailsToDrop, FailsToPass, RefusesRead}
use Rattle.ss_acts.specs.Leaves.{LeavesInst, LeavesBoth, LeavesVault, LeavesTailAndVault, Goes, Keeps}
use Rattle.ss_acts.specs.Readings.{writing, tail_reading, must_ask, vault_reading, list_reading, snapping, loading}
use Rattle.ss_acts.specs.Readings.{flushing, taking, collecting, trimming, passing}
use Rattle.ss_acts.specs.declared.fault.EngineFault.{EngineFault}
use Rattle.ss_acts.specs.declared.fault.EngineFault.TheVariants as fault
use Rattle.ss_acts.specs.declared.fault.ReadPart.{ReadPart}
use Rattle.ss_acts.specs.declared.fault.ReadPart.TheVariants.{Did, AskVault}
use Rattle.ss_fail.specs.declared.outcome.Outcome.{Outcome}
use Rattle.ss_frames.specs.Plans.{plan_numbers}
use Rattle.ss_plan.specs.Plan.{PlanText}
use Rattle.ss_state.specs.Numbers.{input, vertex}
use Rattle.ss_tail.specs.Held.{TailHeld}
use Rattle.ss_vault.specs.Answers.{fetched}
use Rattle.ss_vault.specs.Calls.{IsOfStore, IsOfLook, IsOfPut}
use Rattle.ss_vault.specs.Told.{VaultTold, numbers_of, durable_of}
use Rattle.ss_vertex.specs.Inst.{InstState}
use Rattle.std.specs.Prelude.{max}

-- a read of an operator's replica from the tail of the input that it wants, as far as no stored element is needed
abbrev pub ReadsTail : PlanText → InstState → TailHeld → Result ReadPart EngineFault → InstState → Type 0
ReadsTail plan inst tail (Ok (Did outcome)) new =
    (must_ask plan inst tail ≡ false) × LeavesInst (tail_reading plan inst tail) new outcome
ReadsTail plan inst tail (Ok AskVault) new = (must_ask plan inst tail ≡ true) × (new ≡ inst)
ReadsTail plan inst tail (Err f) new =
    (must_ask plan inst tail ≡ false) × RefusesRead plan inst (tail_reading plan inst tail) f × (new ≡ inst)

-- a read of an operator's replica from what is stored
abbrev pub ReadsVault
    : PlanText → InstState → VaultTold → Result Outcome EngineFault → InstState → VaultTold → Type 0
ReadsVault plan inst s (Ok outcome) new u = LeavesInst (vault_reading plan inst s) new outcome × Keeps s u
ReadsVault plan inst s (Err f) new u = FailsToRead plan inst s f u × (new ≡ inst)

-- a read of a source's replica from its list
abbrev pub ReadsList : PlanText → InstState → VaultTold → Result Outcome EngineFault → InstState → Type 0
ReadsList plan inst s (Ok outcome) new = LeavesInst (list_reading plan inst s) new outcome
ReadsList plan inst s (Err f) new = RefusesRead plan inst (list_reading plan inst s) f × (new ≡ inst)

-- a write
abbrev pub Writes
    : PlanText → InstState → TailHeld → Result Outcome EngineFault → InstState → TailHeld → Type 0
Writes plan inst tail (Ok outcome) new rest = LeavesBoth (writing plan inst tail) new rest outcome
Writes plan inst tail (Err f) new rest = (f ≡ fault.Memory) × (new ≡ inst) × (rest ≡ tail)

-- a snapshot
abbrev pub Snaps : PlanText → InstState → VaultTold → Result Outcome EngineFault → VaultTold → Type 0
Snaps plan inst s (Ok outcome) u = LeavesVault (snapping plan inst s) u outcome × Goes s u
Snaps plan inst s (Err f) u = Fails IsOfStore plan s None f u

-- the snapshot that is loaded beside this tail
abbrev pub snapshot_loaded : PlanText → InstState → TailHeld → VaultTold → ℕ
snapshot_loaded plan inst tail s =
    fetched (plan_numbers plan) (numbers_of s).ledger inst.v (max tail.numbers.end (durable_of s inst.v).dur)

-- a load
abbrev pub Loads
    : PlanText → InstState → TailHeld → VaultTold → Result Outcome EngineFault → InstState → TailHeld → VaultTold
    → Type 0
Loads plan inst tail s (Ok outcome) new rest u =
    LeavesBoth (loading plan inst tail s) new rest outcome × Keeps s u
Loads plan inst tail s (Err f) new rest u =
    Fails (IsOfLook inst.v (snapshot_loaded plan inst tail s)) plan s None f u × (new ≡ inst) × (rest ≡ tail)

-- a flush of at most so many elements of the tail of v
abbrev pub FlushesTail
    : PlanText → ℕ → ℕ → TailHeld → VaultTold → Result Outcome EngineFault → TailHeld → VaultTold → Type 0
FlushesTail plan v count tail s (Ok outcome) rest u =
    LeavesTailAndVault (flushing plan v count tail s) rest u outcome × Goes s u
FlushesTail plan v count tail s (Err f) rest u = FailsToFlush plan v count tail s f u × (rest ≡ tail)

-- a take of sink k
abbrev pub TakesLine : PlanText → ℕ → VaultTold → Result Outcome EngineFault → VaultTold → Type 0
TakesLine plan k s (Ok outcome) u = LeavesVault (taking plan k s) u outcome × Goes s u
TakesLine plan k s (Err f) u =
    Fails (IsOfPut (input (vertex (plan_numbers plan) k) 0) (durable_of s k).taken) plan s None f u

-- a collect of the stream of v
abbrev pub CollectsStream : PlanText → ℕ → VaultTold → Result Outcome EngineFault → VaultTold → Type 0
CollectsStream plan v s (Ok outcome) u = LeavesVault (collecting plan v s) u outcome × Goes s u
CollectsStream plan v s (Err f) u = FailsToDrop plan s f u

-- a trim of v
abbrev pub TrimsVertex : PlanText → ℕ → VaultTold → Result Outcome EngineFault → VaultTold → Type 0
TrimsVertex plan v s (Ok outcome) u = LeavesVault (trimming plan v s) u outcome × Goes s u
TrimsVertex plan v s (Err f) u = FailsToDrop plan s f u

-- a pass
abbrev pub PassesAll : PlanText → VaultTold → Result Outcome EngineFault → VaultTold → Type 0
PassesAll plan s (Ok outcome) u = LeavesVault (passing plan s) u outcome × Goes s u
PassesAll plan s (Err f) u = FailsToPass plan s f u
