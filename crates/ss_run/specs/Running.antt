-- How it ends that a job is brought to its end, from its start on.
use Rattle.std.specs.Prelude.{◌≡◌, ℕ, Bool, List, [], length, Some, Result, Ok, Err, IfSome, if◌then◌else◌}
use Rattle.ss_elem.specs.Line.{text_of}
use Rattle.ss_engine.specs.Plays.{acts_of}
use Rattle.ss_fail.specs.declared.act.Act.{Act}
use Rattle.ss_fail.specs.declared.trigger.Trigger.{Trigger}
use Rattle.ss_frames.specs.Plans.{plan_numbers}
use Rattle.ss_meaning.specs.Meaning.{meaning}
use Rattle.ss_plan.specs.Plan.{PlanText, vertices_of}
use Rattle.ss_play.specs.Playing.{AreMarks, Devices, Played, StopsPlaying}
use Rattle.ss_play.specs.Report.{trace_lines}
use Rattle.ss_play.specs.declared.fault.PlayFault.{PlayFault}
use Rattle.ss_state.specs.Numbers.{IsSink}
use Rattle.ss_state.specs.Rule.{Obeys}
use Rattle.ss_state.specs.State.{State, first_state, row_at}
use Rattle.ss_state.specs.Step.{Made}
use Rattle.ss_vault.specs.Sound.{sink_file, stream_put}
use Rattle.ss_run.specs.Summary.{summary_text}
use Rattle.ss_run.specs.declared.running.Told.{Told}

-- these acts, made from the start of a job on, are those of the rule of each replica's next act, with the listed
-- failures each behind the write that it follows, and no others
abbrev pub ObeyFromStart : PlanText → List Trigger → List Act → Type 0
ObeyFromStart plan ts acts = Obeys (plan_numbers plan) ts (first_state (plan_numbers plan)) acts

-- each sink has put every element of its stream, in this state
abbrev pub AllArePut : PlanText → State → Type 0
AllArePut plan s =
    (k : ℕ) → IsSink (plan_numbers plan) k → (row_at s.vault.ledger k).taken ≡ length (stream_put plan k)

-- the file of each sink has the text of its whole stream, as the job means it, as far as it is told
abbrev pub FilesAreWhole : PlanText → Devices → Type 0
FilesAreWhole plan devices =
    (k : ℕ) (file : List ℕ) → sink_file plan k ≡ Some file
    → IfSome (devices.outputs.bytes file) (λ bytes. bytes ≡ text_of (meaning (vertices_of plan) k))

-- a job was brought to its end, from its start over these devices on: such acts led to this state and these devices
pub record Finished (plan : PlanText) (ts : List Trigger) (before : Devices) (made : List Made) (s : State)
    (after : Devices) : Type 0 where
  pub obey : ObeyFromStart plan ts (acts_of made)
  pub played : Played plan (acts_of made) before made s after
  pub put : AllArePut plan s
  pub files : FilesAreWhole plan after

-- it was not: such acts stopped, for a cause, or the job couldn't be started
pub record StopsRunning (plan : PlanText) (ts : List Trigger) (before : Devices) (f : PlayFault) (after : Devices)
    : Type 0 where
  pub acts : List Act
  pub obey : ObeyFromStart plan ts acts
  pub stops : StopsPlaying plan acts before f after

-- the lines of the acts, where they are wanted
abbrev pub trace_wanted : Bool → PlanText → List Made → List ℕ
trace_wanted wants plan made = if wants then trace_lines plan.job.roles made else []

-- what is told of a job at its end
pub record TellsRun (plan : PlanText) (wants : Bool) (made : List Made) (s : State) (told : Told) : Type 0 where
  pub trace : told.trace.items ≡ trace_wanted wants plan made
  pub summary : told.summary.items ≡ summary_text plan
  pub marks : AreMarks plan s told.marks.items

abbrev pub EndsRunning :
    PlanText → List Trigger → Bool → Devices → Result Told PlayFault → Devices → Type 0
EndsRunning plan ts wants before (Ok told) after =
    (made : List Made) × (s : State) × Finished plan ts before made s after × TellsRun plan wants made s told
EndsRunning plan ts wants before (Err f) after = StopsRunning plan ts before f after
