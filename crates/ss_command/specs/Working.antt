-- How it ends that a command starts a job, and makes the acts of a schedule on it or brings it to its end.
use Rattle.std.specs.Prelude.{◌≡◌, ◌⊎◌, ℕ, List, [], ◌∷◌, ◌++◌, Option, Some, None, codes, if◌then◌else◌}
use Rattle.ss_job.specs.JobText.{JobText}
use Rattle.ss_outside.specs.Told.{InputsTold, KeepsInputs}
use Rattle.ss_plan.specs.Plan.{PlanText}
use Rattle.ss_play.specs.Playing.{Devices, Played, StopsPlaying}
use Rattle.ss_play.specs.Releasing.{ReleasesAll}
use Rattle.ss_play.specs.Report.{report_text, trace_lines}
use Rattle.ss_play.specs.declared.fault.PlayFault.{PlayFault}
use Rattle.ss_play.specs.declared.fault.PlayFault.TheVariants as stop
use Rattle.ss_report.specs.StateText.{name_of}
use Rattle.ss_report.specs.declared.fault.Fault.TheVariants.{Store, Output, Memory, Damaged}
use Rattle.ss_run.specs.Running.{Finished, StopsRunning}
use Rattle.ss_run.specs.Summary.{summary_text}
use Rattle.ss_state.specs.State.{State, row_at}
use Rattle.ss_state.specs.Step.{Made}
use Rattle.ss_command.specs.Order.{Task, acts, finish, too_long}
use Rattle.ss_command.specs.Output.{shows_sink}
use Rattle.ss_command.specs.Puts.{Put, put_of, WentWhole, StopsInPuts}
use Rattle.ss_command.specs.Refusal.{Refusal, refusal_of, shared}
use Rattle.ss_command.specs.Seen.{Seen}

-- the devices of a job, as the outside tells them
abbrev pub devices : Seen → Devices
devices seen = record { outputs = seen.outputs; depot = seen.depot }

-- ---- tasks

-- a task was done with a job that was started over these devices: these acts were made, and led to this state and these
-- devices
abbrev pub IsDoneBy : PlanText → Task → Devices → List Made → State → Devices → Type 0
IsDoneBy plan (acts list) before made state left = Played plan list before made state left
IsDoneBy plan (finish triggers trace) before made state left = Finished plan triggers before made state left

-- it was not, for this cause
abbrev pub IsStopped : PlanText → Task → Devices → PlayFault → Devices → Type 0
IsStopped plan (acts list) before stop left = StopsPlaying plan list before stop left
IsStopped plan (finish triggers trace) before stop left = StopsRunning plan triggers before stop left

-- a text goes to a name, if there is one
abbrev pub text_puts : Option (List ℕ) → List ℕ → List Put
text_puts None text = []
text_puts (Some name) text = put_of name text ∷ []

-- where the summary of a run goes: to standard output, unless a sink writes there
abbrev pub summary_name : JobText → Option (List ℕ)
summary_name job = if shows_sink job then None else Some (codes "-")

-- what is told of a task that was done: of acts a report on them and on the state that they led to; of a run the lines
-- of its acts, and the summary
abbrev pub report_puts : PlanText → Task → List Made → State → List Put
report_puts plan (acts list) made state = put_of (codes "-") (report_text plan made state) ∷ []
report_puts plan (finish triggers trace) made state =
    text_puts trace (trace_lines plan.job.roles made) ++ text_puts (summary_name plan.job) (summary_text plan)

-- ---- how it ends

-- how what stopped a job is told
abbrev pub stop_told : JobText → PlayFault → Refusal
stop_told job stop.Store = refusal_of Store
stop_told job stop.Output = refusal_of Output
stop_told job (stop.Full v) = too_long job v
stop_told job stop.Memory = refusal_of Memory
stop_told job (stop.Damaged v n) = refusal_of (Damaged (shared (name_of job.roles v)) n)

-- the task was done
pub record Worked (plan : PlanText) (task : Task) (before : Seen) : Type 0 where
  pub made : List Made
  pub state : State
  pub left : Devices
  pub done : IsDoneBy plan task (devices before) made state left

-- it was; then it was told of, and then the files of the sources were released
pub record WorksAll (plan : PlanText) (task : Task) (before after : Seen) : Type 0 where
  pub worked : Worked plan task before
  pub report : WentWhole worked.left.outputs after.outputs (report_puts plan task worked.made worked.state)
  pub store : after.depot ≡ worked.left.depot
  pub read : InputsTold
  pub kept : KeepsInputs before.inputs read
  pub released : ReleasesAll plan.job (λ v. (row_at worked.state.vault.ledger v).mark) read after.inputs

-- it was, but it was not told of as a whole
pub record StopsInReport (plan : PlanText) (task : Task) (before after : Seen) (refusal : Refusal) : Type 0 where
  pub worked : Worked plan task before
  pub cause : StopsInPuts worked.left.outputs after.outputs (report_puts plan task worked.made worked.state) refusal
  pub store : after.depot ≡ worked.left.depot

-- it was not
pub record StopsInTask (plan : PlanText) (task : Task) (before after : Seen) (refusal : Refusal) : Type 0 where
  pub stop : PlayFault
  pub stops : IsStopped plan task (devices before) stop (devices after)
  pub told : refusal ≡ stop_told plan.job stop

abbrev pub StopsWorking : PlanText → Task → Seen → Seen → Refusal → Type 0
StopsWorking plan task before after refusal =
    StopsInTask plan task before after refusal ⊎ StopsInReport plan task before after refusal
