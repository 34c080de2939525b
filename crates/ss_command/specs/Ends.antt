-- How a command ends.
use Rattle.std.specs.Prelude.{◌≡◌, ◌⊎◌, ℕ, ◌≤◌, List, [], ◌∷◌, length, take, Option, None, Some, codes}
use Rattle.ss_fail.specs.declared.trigger.Trigger.{Trigger}
use Rattle.ss_job.specs.JobText.{JobText}
use Rattle.ss_outside.specs.Faults.{Rose}
use Rattle.ss_outside.specs.Told.{InputsTold, OutputsTold, HeldFile, held, MayGive, KeepsInputs, FailsAt}
use Rattle.ss_plan.specs.Limit.{IsLongAmong}
use Rattle.ss_plan.specs.Plan.{PlanText}
use Rattle.ss_plan.specs.Streams.{every}
use Rattle.ss_report.specs.declared.fault.Fault.{Fault}
use Rattle.ss_report.specs.declared.fault.Fault.TheVariants.{Usage, Inputs, Memory}
use Rattle.ss_command.specs.Order.{Asked, Reading, Step, Value, Gives, Finds, failures_file, file_read}
use Rattle.ss_command.specs.Order.{Work, puts, starts, Order, order_of, ComesTo, ComesToStep}
use Rattle.ss_command.specs.Output.{Output, puts_of}
use Rattle.ss_command.specs.Working.{WorksAll, StopsWorking}
use Rattle.ss_command.specs.Puts.{put_of, Went, WentWhole, StopsInPuts}
use Rattle.ss_command.specs.Refusal.{Refusal, refusal_of, shared}
use Rattle.ss_command.specs.Seen.{Seen}

-- the bytes that files may have, as far as it is told
abbrev pub MayHave : InputsTold → Reading
MayHave told file bytes = MayGive (told.file file) bytes

-- the bytes that files are told to have
abbrev pub AreTold : InputsTold → Reading
AreTold told file bytes = (has : HeldFile) × (told.file file ≡ held has) × (bytes ≡ has.bytes)

-- ---- why the work stops

-- a file could not be read, which is told by its name
abbrev pub Unread : InputsTold → InputsTold → List ℕ → Refusal → Type 0
Unread before after file refusal = FailsAt before after file × (refusal ≡ refusal_of (Inputs (shared file)))

-- a step could not read its file
abbrev pub CannotRead : InputsTold → InputsTold → Step → Refusal → Type 0
CannotRead before after step refusal =
    (file : List ℕ) × (file_read step ≡ Some file) × Unread before after file refusal

-- a step finds a refusal, or could not read its file
abbrev pub StopsAt : InputsTold → InputsTold → Refusal → Step → Type 0
StopsAt before after refusal step =
    (Finds (MayHave before) step refusal × KeepsInputs before after) ⊎ CannotRead before after step refusal

-- memory is wanting
abbrev pub WantsMemory : InputsTold → InputsTold → Refusal → Type 0
WantsMemory before after refusal = (refusal ≡ refusal_of Memory) × KeepsInputs before after

-- a step gives this value, and no read fails
abbrev pub Passes : InputsTold → InputsTold → (step : Step) → Value step → Type 0
Passes before after step value = Gives (MayHave before) step value × KeepsInputs before after

-- a step stops the work, or memory is wanting for it
abbrev pub StopsOrWants : InputsTold → InputsTold → Step → Refusal → Type 0
StopsOrWants before after step refusal = StopsAt before after refusal step ⊎ WantsMemory before after refusal

-- the same of the failures of a run, where their file is given
abbrev pub PassesFailures : InputsTold → InputsTold → JobText → Option (List ℕ) → List Trigger → Type 0
PassesFailures before after job None triggers = (triggers ≡ []) × KeepsInputs before after
PassesFailures before after job (Some file) triggers = Passes before after (failures_file job file) triggers

abbrev pub StopsInFailures : InputsTold → InputsTold → JobText → Option (List ℕ) → Refusal → Type 0
StopsInFailures before after job None refusal = ⊥
StopsInFailures before after job (Some file) refusal = StopsOrWants before after (failures_file job file) refusal

-- the work stops at a step, before anything is put
pub record StopsEarly (order : Order) (before after : Seen) (refusal : Refusal) : Type 0 where
  pub cause : ComesToStep (MayHave before.inputs) (StopsAt before.inputs after.inputs refusal) order
      ⊎ WantsMemory before.inputs after.inputs refusal
  pub nothing : Went before.outputs after.outputs []
  pub store : after.depot ≡ before.depot

-- ---- the work behind the steps

-- an output is put whole, and nothing else is done
pub record PutsAll (output : Output) (before after : Seen) : Type 0 where
  pub whole : WentWhole before.outputs after.outputs (puts_of output)
  pub store : after.depot ≡ before.depot
  pub inputs : KeepsInputs before.inputs after.inputs

-- it is not put whole, and nothing else is done
pub record StopsPutting (output : Output) (before after : Seen) (refusal : Refusal) : Type 0 where
  pub cause : StopsInPuts before.outputs after.outputs (puts_of output) refusal
  pub store : after.depot ≡ before.depot

-- work is done
abbrev pub DoesAll : Work → Seen → Seen → Type 0
DoesAll (puts output) before after = PutsAll output before after
DoesAll (starts plan task) before after = WorksAll plan task before after

-- work stops
abbrev pub StopsDoing : Work → Seen → Seen → Refusal → Type 0
StopsDoing (puts output) before after refusal = StopsPutting output before after refusal
StopsDoing (starts plan task) before after refusal = StopsWorking plan task before after refusal

-- the steps are taken, and the work behind them stops; nothing is released
pub record StopsLate (order : Order) (before after : Seen) (refusal : Refusal) : Type 0 where
  pub work : Work
  pub comes : ComesTo (MayHave before.inputs) work order
  pub cause : StopsDoing work before after refusal
  pub inputs : KeepsInputs before.inputs after.inputs

abbrev pub Stops : Order → Seen → Seen → Refusal → Type 0
Stops order before after refusal = StopsEarly order before after refusal ⊎ StopsLate order before after refusal

-- the steps are taken, and the work behind them is done
pub record IsDone (order : Order) (before after : Seen) : Type 0 where
  pub work : Work
  pub comes : ComesTo (MayHave before.inputs) work order
  pub whole : DoesAll work before after

-- the first n bytes of a line went to standard error: all of it or none, unless the device failed
pub record TellsLine (old new : OutputsTold) (line : List ℕ) : Type 0 where
  pub n : ℕ
  pub whole : (n ≡ 0) ⊎ (length line ≤ n) ⊎ Rose old.faults new.faults
  pub went : Went old new (put_of (codes "!") (take n line) ∷ [])

-- the work stopped at a moment, and then the line that tells it went to standard error
pub record IsRefused (order : Order) (refusal : Refusal) (before after : Seen) (status : ℕ) : Type 0 where
  pub stopped : Seen
  pub stops : Stops order before stopped refusal
  pub told : status ≡ refusal.status
  pub line : TellsLine stopped.outputs after.outputs refusal.line
  pub inputs : after.inputs ≡ stopped.inputs
  pub store : after.depot ≡ stopped.depot

-- there were no words that are text, or no memory for them, which a line tells
abbrev pub TellsNoWords : OutputsTold → OutputsTold → ℕ → Type 0
TellsNoWords old new status =
    (fault : Fault) × ((fault ≡ Usage) ⊎ (fault ≡ Memory)) × (status ≡ (refusal_of fault).status)
    × TellsLine old new (refusal_of fault).line

-- memory ran out, or a file could not be read
abbrev pub IsExcused : Seen → Seen → ℕ → Type 0
IsExcused before after status = (status ≡ 10) ⊎ ((status ≡ 5) × Rose before.inputs.faults after.inputs.faults)

-- a put failed
abbrev pub IsPutFault : Seen → Seen → ℕ → Type 0
IsPutFault before after status = (status ≡ 7) × Rose before.outputs.faults after.outputs.faults

-- the store failed, or gave bytes that were not whole
abbrev pub IsStoreFault : Seen → Seen → ℕ → Type 0
IsStoreFault before after status =
    ((status ≡ 6) × Rose before.depot.faults after.depot.faults)
    ⊎ ((status ≡ 11) × Rose before.depot.shorts after.depot.shorts)

-- a stream of the plan is too long
abbrev pub IsTooLong : PlanText → ℕ → Type 0
IsTooLong plan status = (status ≡ 9) × ((v : ℕ) × IsLongAmong every plan v)

-- what may stop work, besides want of memory
abbrev pub MayStop : Work → Seen → Seen → ℕ → Type 0
MayStop (puts output) before after status = IsPutFault before after status
MayStop (starts plan task) before after status =
    IsPutFault before after status ⊎ IsStoreFault before after status ⊎ IsTooLong plan status

abbrev pub EndsBy : Order → Seen → Seen → ℕ → Type 0
EndsBy order before after status =
    ((status ≡ 0) × IsDone order before after)
    ⊎ ((refusal : Refusal) × IsRefused order refusal before after status)

-- how a command ends, where its words ask for this
pub record Ends (asked : Asked) (before after : Seen) (status : ℕ) : Type 0 where
  -- whole, with status 0, or refused
  pub how : EndsBy (order_of asked) before after status
  -- so refused exactly where the files are told to lead to a step that finds this
  pub refused : (refusal : Refusal) →
      ComesToStep (AreTold before.inputs) (λ step. Finds (AreTold before.inputs) step refusal) (order_of asked) →
      IsRefused (order_of asked) refusal before after status ⊎ IsExcused before after status
  -- and whole where they are told to lead to the work behind the steps
  pub done : (work : Work) → ComesTo (AreTold before.inputs) work (order_of asked) →
      (status ≡ 0) ⊎ IsExcused before after status ⊎ MayStop work before after status
