-- How it ends that a schedule is played, from the start of its job on.
use Rattle.std.specs.Prelude.{◌≡◌, ◌≢◌, ◌⊎◌, ℕ, ◌<◌, List, length, slice_get, Some, None, Result, Ok, Err}
use Rattle.ss_acts.specs.declared.fault.EngineFault.{EngineFault}
use Rattle.ss_engine.specs.Begins.{Begins}
use Rattle.ss_engine.specs.Joint.{Joint}
use Rattle.ss_engine.specs.Plays.{PlaysUpTo, Runs, TraceTold, acts_of}
use Rattle.ss_engine.specs.Told.{PlantTold, state_of}
use Rattle.ss_fail.specs.declared.act.Act.{Act}
use Rattle.ss_frames.specs.Plans.{plan_numbers}
use Rattle.ss_outside.specs.Depot.{Contents, DepotTold}
use Rattle.ss_outside.specs.Faults.{Rose}
use Rattle.ss_outside.specs.Told.{OutputsTold}
use Rattle.ss_plan.specs.Limit.{IsLongAmong}
use Rattle.ss_plan.specs.Plan.{PlanText}
use Rattle.ss_plan.specs.Streams.{every}
use Rattle.ss_state.specs.State.{Ledger, State, first_state, row_at}
use Rattle.ss_state.specs.Step.{Made, Run}
use Rattle.ss_vault.specs.Calls.{HoldsFirstFrames}
use Rattle.ss_vault.specs.Counts.{NoneFell, counts_told}
use Rattle.ss_vault.specs.Sound.{FilesHave, HoldsRecords, nothing_behind, sink_file, stored_frame}
use Rattle.ss_play.specs.Faults.{IsOfStart, of_engine}
use Rattle.ss_play.specs.Report.{report_text}
use Rattle.ss_play.specs.declared.fault.PlayFault.{PlayFault}
use Rattle.ss_play.specs.declared.fault.PlayFault.TheVariants as fault
use Rattle.ss_play.specs.declared.playing.Report.{Report}

-- the devices of a job: what they tell
pub record Devices : Type 0 where
  pub outputs : OutputsTold
  pub depot : DepotTold

-- a depot holds just what a ledger says that is stored: of each stream the records from base up to and without dur,
-- and of each operator its snapshots
pub record HoldsStored (plan : PlanText) (l : Ledger) (contents : Contents) : Type 0 where
  pub records : (v : ℕ) → HoldsRecords plan v (row_at l v) contents
  pub frames : (v n : ℕ) → contents.frames v n ≡ stored_frame plan v (row_at l v) n

-- no name was put to that wasn't before, but those of sinks
abbrev pub PutsToSinks : PlanText → OutputsTold → OutputsTold → Type 0
PutsToSinks plan old new =
    (name : List ℕ) → ((k : ℕ) → sink_file plan k ≢ Some name) → new.put_to name ≡ old.put_to name

-- nor was the file of a sink that took nothing, so what stood in such a file before stays
abbrev pub PutsWhereTaken : PlanText → Ledger → OutputsTold → OutputsTold → Type 0
PutsWhereTaken plan l old new =
    (name : List ℕ) → ((k : ℕ) → sink_file plan k ≡ Some name → (row_at l k).taken ≡ 0)
    → new.put_to name ≡ old.put_to name

-- no count fell
abbrev pub NoCountFell : Devices → Devices → Type 0
NoCountFell before after = NoneFell (counts_told before.outputs before.depot) (counts_told after.outputs after.depot)

-- all of these acts were made from the start of a job on: they led to this state, of which the files of sinks and the
-- depot have what it says, and nothing else; at its end the job is joint, and wasn't halted
pub record Played (plan : PlanText) (acts : List Act) (before : Devices) (made : List Made) (s : State)
    (after : Devices) : Type 0 where
  pub start : PlantTold
  pub end : PlantTold
  pub begins : Begins plan before.outputs before.depot start
  pub runs : Runs start made end
  pub of_plan : end.plan ≡ plan
  pub joint : Joint end
  pub state : state_of end ≡ s
  pub going : end.vault.halted ≡ None
  pub outputs : end.vault.outputs ≡ after.outputs
  pub depot : end.vault.depot ≡ after.depot
  pub are : acts_of made ≡ acts
  pub run : Run (plan_numbers plan) (first_state (plan_numbers plan)) made s
  pub files : FilesHave plan s.vault.ledger nothing_behind after.outputs
  pub others : PutsWhereTaken plan s.vault.ledger before.outputs after.outputs
  pub holds : HoldsStored plan s.vault.ledger after.depot.contents
  pub counts : NoCountFell before after

-- why not all of them were: a device's count rose in this call, or a stream is too long, or memory was wanting
abbrev pub IsCauseOf : PlanText → Devices → PlayFault → Devices → Type 0
IsCauseOf plan before fault.Store after = Rose before.depot.faults after.depot.faults
IsCauseOf plan before fault.Output after = Rose before.outputs.faults after.outputs.faults
IsCauseOf plan before (fault.Full v) after = IsLongAmong every plan v
IsCauseOf plan before fault.Memory after = Unit {0}
IsCauseOf plan before (fault.Damaged v n) after =
    (v < length plan.job.roles) × Rose before.depot.shorts after.depot.shorts

-- where a list of acts stopped: at an act that met a fault, or behind them all, where there was no memory to tell of
-- them
abbrev pub StopsAfter : PlantTold → List Act → PlayFault → PlantTold → Type 0
StopsAfter start acts f end =
    ((e : EngineFault) × (before : TraceTold) × (after : TraceTold) × PlaysUpTo start acts before e end after
    × (f ≡ of_engine e))
    ⊎ ((made : List Made) × (acts_of made ≡ acts) × Runs start made end × (f ≡ fault.Memory))

-- a job that was started, and stopped so: it is joint, and its vault sound, so that the file of each sink has its lines
-- up to some element, and at most one of them a part of its next line besides. The acts that were made put to the files
-- of sinks that took an element, and the one that stopped to that of its own sink, if its put failed: `stops` says so
pub record StopsInRun (plan : PlanText) (acts : List Act) (before : Devices) (f : PlayFault) (after : Devices)
    : Type 0 where
  pub start : PlantTold
  pub end : PlantTold
  pub begins : Begins plan before.outputs before.depot start
  pub stops : StopsAfter start acts f end
  pub of_plan : end.plan ≡ plan
  pub joint : Joint end
  pub outputs : end.vault.outputs ≡ after.outputs
  pub depot : end.vault.depot ≡ after.depot

-- or the first snapshots of some operators, where it was stopped at its start
pub record LeavesStart (plan : PlanText) (before : Devices) (f : PlayFault) (after : Devices) : Type 0 where
  pub cause : IsOfStart f
  pub holds : HoldsFirstFrames plan after.depot.contents
  pub outputs : after.outputs ≡ before.outputs

pub record StopsPlaying (plan : PlanText) (acts : List Act) (before : Devices) (f : PlayFault) (after : Devices)
    : Type 0 where
  pub cause : IsCauseOf plan before f after
  pub left : StopsInRun plan acts before f after ⊎ LeavesStart plan before f after
  pub others : PutsToSinks plan before.outputs after.outputs
  pub counts : NoCountFell before after

-- these are the marks of its vertices
pub record AreMarks (plan : PlanText) (s : State) (marks : List ℕ) : Type 0 where
  pub many : length marks ≡ length (plan_numbers plan).vertices
  pub each : (v : ℕ) (mark : ℕ) → slice_get marks v ≡ Some mark → mark ≡ (row_at s.vault.ledger v).mark

-- what is told of a job whose acts were all made: its report, and the mark of each vertex
pub record Tells (plan : PlanText) (made : List Made) (s : State) (report : Report) : Type 0 where
  pub text : report.text.items ≡ report_text plan made s
  pub marks : AreMarks plan s report.marks.items

abbrev pub EndsPlaying : PlanText → List Act → Devices → Result Report PlayFault → Devices → Type 0
EndsPlaying plan acts before (Ok report) after =
    (made : List Made) × (s : State) × Played plan acts before made s after × Tells plan made s report
EndsPlaying plan acts before (Err f) after = StopsPlaying plan acts before f after
