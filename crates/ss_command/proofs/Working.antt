-- How the work on a job that is started ends, from how its parts end.
use Rattle.std.proofs.Common.{◌≡◌, ℕ, ◌+◌, ◌≤◌, ◌<◌, inl, inr, Bool, List, [], ◌∷◌, ◌++◌, length, Option, Some, None, Ok, refl, sym, ap, ap₂, ◌∙◌, subst, arith, codes, get_or}
use Rattle.std.specs.Borrow.{Bor}
use Rattle.std.specs.Prelude.{if◌then◌else◌, is_some, option_map}
use Rattle.ss_vault.specs.Facts.{PlanFacts}
use Rattle.std.proofs.lemmas.Option.{slice_get-get_or}
use Rattle.ss_fail.specs.declared.act.Act.{Act}
use Rattle.ss_fail.specs.declared.trigger.Trigger.{Trigger}
use Rattle.ss_frames.specs.Plans.{plan_numbers}
use Rattle.ss_job.specs.JobText.{JobText, VertexText}
use Rattle.ss_outside.specs.Told.{InputsTold, KeepsInputs, with_mark}
use Rattle.ss_plan.specs.Plan.{PlanText}
use Rattle.ss_play.specs.Playing.{AreMarks, Devices, EndsPlaying}
use Rattle.ss_play.specs.Releasing.{ReleasesAll, marks_among, marks_of_vertex}
use Rattle.ss_play.specs.declared.fault.PlayFault.{PlayFault}
use Rattle.ss_play.specs.declared.playing.Report.{Report}
use Rattle.ss_play.specs.Report.{trace_lines}
use Rattle.ss_run.specs.Running.{EndsRunning, TellsRun}
use Rattle.ss_run.specs.declared.running.Told.{Told}
use Rattle.ss_state.specs.LowWater.{least_of}
use Rattle.ss_state.specs.State.{State, row_at}
use Rattle.ss_state.specs.Step.{Made}
use Rattle.ss_command.specs.Ends.{Stops, IsDone}
use Rattle.ss_command.specs.Order.{Task, acts, finish, last, starts}
use Rattle.ss_command.specs.Working.{IsDoneBy, IsStopped, devices, report_puts, stop_told, summary_name, text_puts}
use Rattle.ss_command.specs.Puts.{Put, put_of, WentWhole, StopsInPuts}
use Rattle.ss_command.specs.Refusal.{Refusal}
use Rattle.ss_command.specs.Seen.{Seen}
use Rattle.ss_command.proofs.Ends.{keeps-same}

-- ---- marks

-- marks that are the same of these vertices, the first of which is v, are the same of the sources with a file
pub marks-alike : (xs : List VertexText) (v : ℕ) (f g : ℕ → ℕ) (name : List ℕ) → ((w : ℕ) → v ≤ w → w < v + length xs → f w ≡ g w) →
    marks_among xs v f name ≡ marks_among xs v g name
marks-alike [] v f g name same = refl
marks-alike (x ∷ xs) v f g name same =
    ap₂ (λ (a b : List ℕ). a ++ b) (ap (λ (mark : ℕ). marks_of_vertex x name mark) (same v (omega arith) (omega arith)))
    (marks-alike xs (v + 1) f g name (λ w from to. same w (omega (arith, from)) (omega (arith, to))))

pub releases-alike : (job : JobText) (f g : ℕ → ℕ) (old new : InputsTold) → ((w : ℕ) → w < length job.vertices → f w ≡ g w) →
    ReleasesAll job f old new → ReleasesAll job g old new
releases-alike job f g old new same k = record {
  file = λ name. k.file name
      ∙ ap (λ (marks : List ℕ). with_mark (least_of marks) (old.file name))
      (marks-alike job.vertices 0 f g name (λ w from to. same w (omega (arith, to))));
  missed = k.missed;
  faults = k.faults;
}

-- the marks that are told are those of the state
pub mark_told : (plan : PlanText) (s : State) (marks : List ℕ) (v : ℕ) → AreMarks plan s marks → v < length (plan_numbers plan).vertices →
    get_or marks v 0 ≡ (row_at s.vault.ledger v).mark
mark_told plan s marks v are h = are.each v (get_or marks v 0) (slice_get-get_or marks v 0 (omega (arith, h, are.many)))

-- a plan has as many vertices as numbers of vertices
pub counted : (plan : PlanText) → PlanFacts plan → length (plan_numbers plan).vertices ≡ length plan.job.vertices
counted plan facts = facts.count ∙ sym facts.is.job.vertices

-- ---- the task, what is told of it, and the release

pub keeps-equal : (a b : InputsTold) → b ≡ a → KeepsInputs a b
keeps-equal a b e = subst (KeepsInputs a) (sym e) (keeps-same a)

module _ (plan : PlanText) (task : Task) (before : Seen) where
  pub task_done : (after : Seen) (left : Devices) (made : List Made) (s : State) (marks : List ℕ) → length (plan_numbers plan).vertices ≡ length plan.job.vertices →
      IsDoneBy plan task (devices before) made s left → AreMarks plan s marks → WentWhole left.outputs after.outputs (report_puts plan task made s) →
      after.depot ≡ left.depot → ReleasesAll plan.job (λ v. get_or marks v 0) before.inputs after.inputs → IsDone (last (starts plan task)) before after
  task_done after left made s marks count done are whole store released = record {
    work = starts plan task;
    comes = refl;
    whole = record {
      worked = record { made = made; state = s; left = left; done = done };
      report = whole;
      store = store;
      read = before.inputs;
      kept = keeps-same before.inputs;
      released = releases-alike plan.job (λ v. get_or marks v 0) (λ v. (row_at s.vault.ledger v).mark) before.inputs after.inputs
          (λ w h. mark_told plan s marks w are (omega (arith, h, count))) released;
    };
  }

  pub report_stops : (stopped : Seen) (left : Devices) (made : List Made) (s : State) (refusal : Refusal) → IsDoneBy plan task (devices before) made s left →
      StopsInPuts left.outputs stopped.outputs (report_puts plan task made s) refusal → stopped.inputs ≡ before.inputs → stopped.depot ≡ left.depot →
      Stops (last (starts plan task)) before stopped refusal
  report_stops stopped left made s refusal done cause inputs store = inr (record {
    work = starts plan task;
    comes = refl;
    cause = inr (record { worked = record { made = made; state = s; left = left; done = done }; cause = cause; store = store });
    inputs = keeps-equal before.inputs stopped.inputs inputs;
  })

  pub task_stops : (stopped : Seen) (stop : PlayFault) (refusal : Refusal) → IsStopped plan task (devices before) stop (devices stopped) →
      refusal ≡ stop_told plan.job stop → stopped.inputs ≡ before.inputs → Stops (last (starts plan task)) before stopped refusal
  task_stops stopped stop refusal stops told inputs = inr (record {
    work = starts plan task;
    comes = refl;
    cause = inl (record { stop = stop; stops = stops; told = told });
    inputs = keeps-equal before.inputs stopped.inputs inputs;
  })

-- ---- the acts of a schedule

-- there is a mark for each vertex
pub marks_count : (plan : PlanText) (list : List Act) (before left : Devices) (report : Report) → EndsPlaying plan list before (Ok report) left →
    length report.marks.items ≡ length (plan_numbers plan).vertices
marks_count plan list before left report (made, s, played, tells) = tells.marks.many

abbrev pub acts_told : Report → List Put
acts_told report = put_of (codes "-") report.text.items ∷ []

module _ (plan : PlanText) (list : List Act) (before : Seen) where
  pub acts_done : (after : Seen) (left : Devices) (report : Report) → length (plan_numbers plan).vertices ≡ length plan.job.vertices →
      EndsPlaying plan list (devices before) (Ok report) left → WentWhole left.outputs after.outputs (acts_told report) → after.depot ≡ left.depot →
      ReleasesAll plan.job (λ v. get_or report.marks.items v 0) before.inputs after.inputs → IsDone (last (starts plan (acts list))) before after
  acts_done after left report count (made, s, played, tells) whole store released =
      task_done plan (acts list) before after left made s report.marks.items count played tells.marks
      (subst (λ (text : List ℕ). WentWhole left.outputs after.outputs (put_of (codes "-") text ∷ [])) tells.text whole) store released

  pub acts_report_stops : (stopped : Seen) (left : Devices) (report : Report) (refusal : Refusal) → EndsPlaying plan list (devices before) (Ok report) left →
      StopsInPuts left.outputs stopped.outputs (acts_told report) refusal → stopped.inputs ≡ before.inputs → stopped.depot ≡ left.depot →
      Stops (last (starts plan (acts list))) before stopped refusal
  acts_report_stops stopped left report refusal (made, s, played, tells) cause inputs store =
      report_stops plan (acts list) before stopped left made s refusal played
      (subst (λ (text : List ℕ). StopsInPuts left.outputs stopped.outputs (put_of (codes "-") text ∷ []) refusal) tells.text cause) inputs store

-- ---- a run

pub run_marks_count : (plan : PlanText) (triggers : List Trigger) (wants : Bool) (before left : Devices) (told : Told) →
    EndsRunning plan triggers wants before (Ok told) left → length told.marks.items ≡ length (plan_numbers plan).vertices
run_marks_count plan triggers wants before left told (made, s, finished, tells) = tells.marks.many

-- what is put of a run
abbrev pub run_told : JobText → Option (List ℕ) → Told → List Put
run_told job trace told = text_puts trace told.trace.items ++ text_puts (summary_name job) told.summary.items

-- a name is given where it is given
pub named : (name : Option (Bor (List ℕ))) (given : Bool) → given ≡ is_some name → given ≡ is_some (option_map (λ n. n.now) name)
named None given e = e
named (Some name) given e = e

-- the trace is wanted where it has a name
trace_told : (trace : Option (List ℕ)) (wants : Bool) (text lines : List ℕ) → wants ≡ is_some trace → text ≡ (if wants then lines else []) →
    text_puts trace text ≡ text_puts trace lines
trace_told None wants text lines want is = refl
trace_told (Some name) wants text lines want is = ap (λ (t : List ℕ). put_of name t ∷ []) (is ∙ ap (λ (w : Bool). if w then lines else []) want)

module _ (plan : PlanText) (triggers : List Trigger) (trace : Option (List ℕ)) (wants : Bool) (want : wants ≡ is_some trace) (before : Seen) where
  told_puts : (made : List Made) (s : State) (told : Told) → TellsRun plan wants made s told →
      run_told plan.job trace told ≡ report_puts plan (finish triggers trace) made s
  told_puts made s told tells =
      ap₂ (λ (a b : List Put). a ++ b) (trace_told trace wants told.trace.items (trace_lines plan.job.roles made) want tells.trace)
      (ap (text_puts (summary_name plan.job)) tells.summary)

  pub run_done : (after : Seen) (left : Devices) (told : Told) → length (plan_numbers plan).vertices ≡ length plan.job.vertices →
      EndsRunning plan triggers wants (devices before) (Ok told) left → WentWhole left.outputs after.outputs (run_told plan.job trace told) → after.depot ≡ left.depot →
      ReleasesAll plan.job (λ v. get_or told.marks.items v 0) before.inputs after.inputs → IsDone (last (starts plan (finish triggers trace))) before after
  run_done after left told count (made, s, finished, tells) whole store released =
      task_done plan (finish triggers trace) before after left made s told.marks.items count finished tells.marks
      (subst (λ (puts : List Put). WentWhole left.outputs after.outputs puts) (told_puts made s told tells) whole) store released

  pub run_report_stops : (stopped : Seen) (left : Devices) (told : Told) (refusal : Refusal) → EndsRunning plan triggers wants (devices before) (Ok told) left →
      StopsInPuts left.outputs stopped.outputs (run_told plan.job trace told) refusal → stopped.inputs ≡ before.inputs → stopped.depot ≡ left.depot →
      Stops (last (starts plan (finish triggers trace))) before stopped refusal
  run_report_stops stopped left told refusal (made, s, finished, tells) cause inputs store =
      report_stops plan (finish triggers trace) before stopped left made s refusal finished
      (subst (λ (puts : List Put). StopsInPuts left.outputs stopped.outputs puts refusal) (told_puts made s told tells) cause) inputs store
