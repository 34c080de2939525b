-- How it ends that a job is run, from how the driver ends it.
use Rattle.std.proofs.Common.{◌≡◌, ℕ, List, [], ◌∷◌, ◌++◌, IfSome, Result, Ok, Err, true, false, refl, sym, ap, ◌∙◌, subst, inl, inr, arith}
use Rattle.std.specs.Prelude.{All, Bool}
use Rattle.std.specs.List.{AllByRecursion}
use Rattle.std.proofs.lemmas.List.Elements.{All-from_recursion}
use Rattle.ss_acts.specs.declared.fault.EngineFault.{EngineFault}
use Rattle.ss_engine.specs.Plays.{PlaysAll, TraceTold, acts_of, with_made}
use Rattle.ss_engine.specs.Told.{PlantTold, state_of}
use Rattle.ss_fail.specs.declared.act.Act.{Act}
use Rattle.ss_fail.specs.declared.trigger.Trigger.{Trigger}
use Rattle.ss_frames.specs.Plans.{plan_numbers}
use Rattle.ss_outside.specs.Depot.{DepotTold}
use Rattle.ss_outside.specs.Told.{OutputsTold}
use Rattle.ss_meaning.specs.Meaning.{meaning}
use Rattle.ss_plan.specs.Plan.{PlanText, vertices_of}
use Rattle.ss_play.specs.Ending.{devices_of}
use Rattle.ss_play.specs.Faults.{of_engine, of_vault}
use Rattle.ss_play.specs.Laws.{AllAreTold, RefusalsAreTold, SinceStart, StopsAreTold}
use Rattle.ss_play.specs.Playing.{Devices, Played}
use Rattle.ss_play.specs.declared.fault.PlayFault.{PlayFault}
use Rattle.ss_play.specs.declared.fault.PlayFault.TheVariants as fault
use Rattle.ss_serial.specs.Drives.{Drives}
use Rattle.ss_serial.specs.Ends.{AllPut}
use Rattle.ss_state.specs.Numbers.{JobNumbers, IsSink, input, size, vertex}
use Rattle.ss_state.specs.Rule.{Obeys, ObeysFrom, due_after}
use Rattle.ss_state.specs.State.{State, first_state}
use Rattle.ss_state.specs.Step.{Made, MayAct, step}
use Rattle.ss_vault.specs.Calls.{RefusesStart}
use Rattle.ss_vault.specs.Facts.{PlanFacts}
use Rattle.ss_vault.specs.Sound.{nothing_behind, stream_put, text_put}
use Rattle.ss_vault.specs.declared.fault.VaultFault.{VaultFault}
use Rattle.ss_elem.specs.Line.{text_of}
use Rattle.ss_run.specs.Ending.{Ends, EndsEarly, EndsWhole}
use Rattle.ss_run.specs.Running.{AllArePut, EndsRunning, FilesAreWhole, ObeyFromStart, StopsRunning, TellsRun, trace_wanted}
use Rattle.ss_run.specs.declared.running.Told.{Told}
use Rattle.ss_run.proofs.Sinks.{length_put, sink_of_file, whole_text}

-- ---- acts that obey can be made

obeys_may : (job : JobNumbers) (ts : List Trigger) (due : List Act) (s : State) (acts : List Act) → ObeysFrom job ts due s acts
    → AllByRecursion (MayAct job) acts
obeys_may job ts [] s [] obey = tt
obeys_may job ts (d ∷ due) s [] obey = absurd obey
obeys_may job ts [] s (a ∷ acts) obey = (obey.0, obeys_may job ts (due_after job ts s a) (step job s a).state acts obey.2)
obeys_may job ts (d ∷ due) s (a ∷ acts) obey = (obey.0, obeys_may job ts due (step job s a).state acts obey.2)

pub may_be_made : (job : JobNumbers) (ts : List Trigger) (s : State) (acts : List Act) → Obeys job ts s acts → All (MayAct job) acts
may_be_made job ts s acts obey = All-from_recursion (MayAct job) acts (obeys_may job ts [] s acts obey)

-- ---- a job that goes on

-- a trace of no act yet, which keeps those to come where they are wanted
abbrev pub wanted : Bool → TraceTold
wanted wants = record { keeps = wants; made = [] }

-- what it has of these
abbrev kept : Bool → List Made → List Made
kept wants made = (with_made (wanted wants) made).made

kept_of : (p q : PlantTold) (acts : List Act) (wants : Bool) (before after : TraceTold) (plays : PlaysAll p acts before q after) → before ≡ wanted wants
    → after.made ≡ kept wants plays.made
kept_of p q acts wants before after plays none =
    ap (λ (t : TraceTold). t.made) (plays.trace ∙ ap (λ (t : TraceTold). with_made t plays.made) none)

-- so the lines of all that it has are those that are wanted
lines_kept : (plan : PlanText) (wants : Bool) (made : List Made) → trace_wanted true plan (kept wants made) ≡ trace_wanted wants plan made
lines_kept plan true made = refl
lines_kept plan false made = refl

all_kept : (P : Act → Type 0) (wants : Bool) (made : List Made) → All P (acts_of made) → All P (acts_of (kept wants made))
all_kept P true made all = all
all_kept P false made all = λ i d h. absurd (omega (arith, h))

-- the acts that the driver made obey the rule, each with what came of it
obeyed : (p q : PlantTold) (ts : List Trigger) (before after : TraceTold) (drives : Drives ts p before (Ok tt) q after)
    → Obeys (plan_numbers p.plan) ts (state_of p) (acts_of drives.plays.made)
obeyed p q ts before after drives =
    subst (λ (acts : List Act). Obeys (plan_numbers p.plan) ts (state_of p) acts) (sym drives.plays.are) drives.obey

-- and those that its trace has can be told
pub made_may : (p q : PlantTold) (ts : List Trigger) (wants : Bool) (before after : TraceTold) → before ≡ wanted wants
    → Drives ts p before (Ok tt) q after → All (MayAct (plan_numbers q.plan)) (acts_of after.made)
made_may p q ts wants before after none drives =
    let made : List Made = drives.plays.made in
    subst (λ (list : List Made). All (MayAct (plan_numbers q.plan)) (acts_of list))
    (sym (kept_of p q drives.acts wants before after drives.plays none))
    (all_kept (MayAct (plan_numbers q.plan)) wants made
    (subst (λ (plan : PlanText). All (MayAct (plan_numbers plan)) (acts_of made)) (sym drives.plays.runs.plan)
    (may_be_made (plan_numbers p.plan) ts (state_of p) (acts_of made) (obeyed p q ts before after drives))))

pub ends_whole : (p q : PlantTold) (ts : List Trigger) (wants : Bool) (before after : TraceTold) (told : Told) → before ≡ wanted wants
    → Drives ts p before (Ok tt) q after → AllPut q → TellsRun q.plan true after.made (state_of q) told → EndsWhole p ts wants told q
ends_whole p q ts wants before after told none drives put tells =
    let made : List Made = drives.plays.made in
    record {
      made = made;
      obey = obeyed p q ts before after drives;
      runs = drives.plays.runs;
      put = put;
      tells = record {
        trace = tells.trace
            ∙ ap (trace_wanted true q.plan) (kept_of p q drives.acts wants before after drives.plays none)
            ∙ lines_kept q.plan wants made;
        summary = tells.summary;
        marks = tells.marks;
      };
    }

pub ends_untold : (p q : PlantTold) (ts : List Trigger) (before after : TraceTold) → Drives ts p before (Ok tt) q after
    → EndsEarly p ts fault.Memory q
ends_untold p q ts before after drives = record {
  acts = drives.acts;
  obey = drives.obey;
  stops = inr (drives.plays.made, drives.plays.are, drives.plays.runs, refl);
}

pub ends_early : (p q : PlantTold) (ts : List Trigger) (before after : TraceTold) (f : EngineFault) → Drives ts p before (Err f) q after
    → EndsEarly p ts (of_engine f) q
ends_early p q ts before after f drives = record {
  acts = drives.acts;
  obey = drives.obey;
  stops = inl (f, before, after, drives.plays, refl);
}

-- ---- a job, from its start on

-- what each sink puts is its own stream, as the job means it
abbrev pub SinksMean : Type 0
SinksMean = (plan : PlanText) → PlanFacts plan → (k : ℕ) → IsSink (plan_numbers plan) k → stream_put plan k ≡ meaning (vertices_of plan) k

module _ (all : AllAreTold) (stops : StopsAreTold) (means : SinksMean) (plan : PlanText) (facts : PlanFacts plan) (ts : List Trigger) (before : Devices)
    (p q : PlantTold) (since : SinceStart plan before p q) where
  obey_from : (acts : List Act) → Obeys (plan_numbers p.plan) ts (state_of p) acts → ObeyFromStart plan ts acts
  obey_from acts obey =
      subst (λ (s : State). Obeys (plan_numbers plan) ts s acts) since.begins.state
      (subst (λ (text : PlanText). Obeys (plan_numbers text) ts (state_of p) acts) since.begins.of_plan obey)

  all_put : q.plan ≡ plan → AllPut q → AllArePut plan (state_of q)
  all_put same put k is =
      let is_too : IsSink (plan_numbers q.plan) k = subst (λ (text : PlanText). IsSink (plan_numbers text) k) (sym same) is in
      put k is_too
      ∙ ap (λ (text : PlanText). size (vertex (plan_numbers text) (input (vertex (plan_numbers text) k) 0))) same
      ∙ length_put plan facts k is

  files_whole : (made : List Made) → Played plan (acts_of made) before made (state_of q) (devices_of q.vault) → AllArePut plan (state_of q)
      → FilesAreWhole plan (devices_of q.vault)
  files_whole made played put k file is =
      let l = (state_of q).vault.ledger in
      let sink : IsSink (plan_numbers plan) k = sink_of_file plan facts k file is in
      let same : text_put plan l k ++ nothing_behind k ≡ text_of (meaning (vertices_of plan) k) =
      whole_text plan l k (put k sink) ∙ ap text_of (means plan facts k sink) in
      subst (λ (text : List ℕ). IfSome (q.vault.outputs.bytes file) (λ bytes. bytes ≡ text)) same (played.files.sinks k file is)

  run_whole : (wants : Bool) (told : Told) → EndsWhole p ts wants told q → EndsRunning plan ts wants before (Ok told) (devices_of q.vault)
  run_whole wants told ends =
      let played : Played plan (acts_of ends.made) before ends.made (state_of q) (devices_of q.vault) =
      all plan before p q (acts_of ends.made) ends.made since refl ends.runs in
      let same : q.plan ≡ plan = ends.runs.plan ∙ since.begins.of_plan in
      let put : AllArePut plan (state_of q) = all_put same ends.put in (
        ends.made,
        state_of q,
        record { obey = obey_from (acts_of ends.made) ends.obey; played = played; put = put; files = files_whole ends.made played put },
        subst (λ (text : PlanText). TellsRun text wants ends.made (state_of q) told) same ends.tells,
      )

  run_early : (f : PlayFault) → EndsEarly p ts f q → StopsRunning plan ts before f (devices_of q.vault)
  run_early f ends =
      let obey : ObeyFromStart plan ts ends.acts = obey_from ends.acts ends.obey in
      record {
        acts = ends.acts;
        obey = obey;
        stops = stops plan before p q ends.acts f facts since
            (may_be_made (plan_numbers plan) ts (first_state (plan_numbers plan)) ends.acts obey) ends.stops;
      }

  run_ends : (wants : Bool) (answer : Result Told PlayFault) → Ends p ts wants answer q
      → EndsRunning plan ts wants before answer (devices_of q.vault)
  run_ends wants (Ok told) ends = run_whole wants told ends
  run_ends wants (Err f) ends = run_early f ends

  -- by what the devices tell that come back
  pub ran : (wants : Bool) (answer : Result Told PlayFault) → Ends p ts wants answer q → (outputs : OutputsTold) (depot : DepotTold)
      → outputs ≡ q.vault.outputs → depot ≡ q.vault.depot → EndsRunning plan ts wants before answer (record { outputs = outputs; depot = depot })
  ran wants answer ends outputs depot same_outputs same_depot =
      let same : devices_of q.vault ≡ record { outputs = outputs; depot = depot } = cc in
      subst (EndsRunning plan ts wants before answer) same (run_ends wants answer ends)

pub not_started : RefusalsAreTold → (plan : PlanText) (ts : List Trigger) (f : VaultFault) (before after : Devices)
    → after.outputs ≡ before.outputs → RefusesStart plan f before.depot after.depot → StopsRunning plan ts before (of_vault f) after
not_started refusals plan ts f before after same refuses =
    record { acts = []; obey = tt; stops = refusals plan before after [] f same refuses }
