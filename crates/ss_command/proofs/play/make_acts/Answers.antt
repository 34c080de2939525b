use Rattle.std.proofs.Common.{◌≡◌, ◌∙◌, List, Result, Ok, Err, inl, inr, refl, sym, ap, subst, length, get_or}
use Rattle.std.specs.Arc.{arc_value}
use Rattle.ss_fail.specs.declared.act.Act.{Act}
use Rattle.ss_job.specs.JobText.{JobText}
use Rattle.ss_plan.specs.Plan.{PlanText}
use Rattle.ss_play.specs.Playing.{Devices, EndsPlaying}
use Rattle.ss_play.specs.Releasing.{ReleasesAll}
use Rattle.ss_play.specs.declared.fault.PlayFault.{PlayFault}
use Rattle.ss_play.specs.declared.playing.Report.{Report}
use Rattle.ss_report.specs.declared.fault.Fault.TheVariants.{Output, Memory}
use Rattle.ss_vault.specs.Facts.{PlanFacts}
use Rattle.ss_command.specs.Order.{last, acts, starts}
use Rattle.ss_command.specs.Working.{devices, stop_told}
use Rattle.ss_command.specs.Puts.{PutFailed, StoppedBetween, WentWhole}
use Rattle.ss_command.specs.Refusal.{refusal_of}
use Rattle.ss_command.specs.Seen.{Seen, seen}
use Rattle.ss_command.proofs.Actions.{wanting}
use Rattle.ss_command.proofs.Ends.{keeps-same, refused_at}
use Rattle.ss_command.proofs.Working.{acts_done, acts_report_stops, acts_told, counted, marks_count, task_stops}
use Rattle.ss_command.proofs.play.make_acts.Goals as goal

-- what a job answers of a shared plan
shared_ends : (plan shared : PlanText) (before left : Devices) (answer is : Result Report PlayFault) (list : List Act) → shared ≡ plan → answer ≡ is →
    EndsPlaying shared list before answer left → EndsPlaying plan list before is left
shared_ends plan shared before left answer is list same known ends =
    subst (λ (a : Result Report PlayFault). EndsPlaying plan list before a left) known
    (subst (λ (p : PlanText). EndsPlaying p list before answer left) same ends)

pub returns-in_default : goal.returns-in_default
returns-in_default g c =
    let before = seen g.I.Inputs.told g.O.Outputs.told g.D.Depot.told c.args.outside in
    let after = seen g.I.Inputs.told g.O.Outputs.told g.D.Depot.told c.refused.result.outside in
    let order = last (starts (arc_value c.args.plan) (acts c.args.acts.now)) in
    refused_at order before before after c.refused.result.status (refusal_of Memory) (wanting order before before.inputs (keeps-same before.inputs))
    c.refused.ensures.status c.refused.ensures.line c.refused.ensures.inputs c.refused.ensures.depot

pub tell_acts-requires : goal.tell_acts-requires
tell_acts-requires g c =
    let plan = arc_value c.args.plan in
    let before = seen g.I.Inputs.told g.O.Outputs.told g.D.Depot.told c.args.outside in
    let left : Devices = record { outputs = g.O.Outputs.told c.play_acts-played.result.outputs; depot = g.D.Depot.told c.play_acts-played.result.depot } in
    let report = c.in-Ok-answer.report in
    let ends = shared_ends plan (arc_value c.in-Ok.shared) (devices before) left c.play_acts-played.result.answer (Ok report) c.args.acts.now
    c.in-Ok.ensures c.in-Ok-answer.is c.play_acts-played.ensures in
    let job : c.job.result.now ≡ plan.job = c.job.ensures.job ∙ ap (λ (p : PlanText). p.job) c.deref-in-Ok-answer.ensures in
    rw c.in-Ok-answer.is
    (marks_count plan c.args.acts.now (devices before) left report ends
    ∙ counted plan (subst PlanFacts c.deref.ensures c.plan_facts.ensures) ∙ sym (ap (λ (j : JobText). length j.vertices) job))

pub returns-in-Ok-tell_acts : goal.returns-in-Ok-tell_acts
returns-in-Ok-tell_acts g c =
    let plan = arc_value c.args.plan in
    let before = seen g.I.Inputs.told g.O.Outputs.told g.D.Depot.told c.args.outside in
    let left : Devices = record { outputs = g.O.Outputs.told c.play_acts-played.result.outputs; depot = g.D.Depot.told c.play_acts-played.result.depot } in
    let after : Seen = record { inputs = g.I.Inputs.told c.tell_acts.new.inputs; outputs = g.O.Outputs.told c.tell_acts.new.outputs; depot = left.depot } in
    let report = c.in-Ok-answer.report in
    let ends = shared_ends plan (arc_value c.in-Ok.shared) (devices before) left c.play_acts-played.result.answer (Ok report) c.args.acts.now
    c.in-Ok.ensures c.in-Ok-answer.is c.play_acts-played.ensures in
    let job : c.job.result.now ≡ plan.job = c.job.ensures.job ∙ ap (λ (p : PlanText). p.job) c.deref-in-Ok-answer.ensures in
    let whole : WentWhole left.outputs after.outputs (acts_told report) = rw c.in-Ok-answer.is at c.in-Ok-tell_acts.ensures.wrote in
    let released : ReleasesAll c.job.result.now (λ v. get_or report.marks.items v 0) before.inputs after.inputs = rw c.in-Ok-answer.is at c.in-Ok-tell_acts.ensures.released in
    inl (
      refl,
      acts_done plan c.args.acts.now before after left report (counted plan (subst PlanFacts c.deref.ensures c.plan_facts.ensures)) ends whole refl
          (subst (λ (j : JobText). ReleasesAll j (λ v. get_or report.marks.items v 0) before.inputs after.inputs) job released),
    )

pub returns-in-Err-Failed : goal.returns-in-Err-Failed
returns-in-Err-Failed g c =
    let plan = arc_value c.args.plan in
    let before = seen g.I.Inputs.told g.O.Outputs.told g.D.Depot.told c.args.outside in
    let left : Devices = record { outputs = g.O.Outputs.told c.play_acts-played.result.outputs; depot = g.D.Depot.told c.play_acts-played.result.depot } in
    let stopped : Seen = record { inputs = g.I.Inputs.told c.tell_acts.new.inputs; outputs = g.O.Outputs.told c.tell_acts.new.outputs; depot = left.depot } in
    let report = c.in-Ok-answer.report in
    let ends = shared_ends plan (arc_value c.in-Ok.shared) (devices before) left c.play_acts-played.result.answer (Ok report) c.args.acts.now
    c.in-Ok.ensures c.in-Ok-answer.is c.play_acts-played.ensures in
    let failed : PutFailed left.outputs stopped.outputs (acts_told report) = rw (c.in-Err-Failed.field-0-is, c.in-Ok-answer.is) at c.in-Err-Failed.ensures.wrote in
    let refused = c.refused-in-Err-Failed in
    let after = seen g.I.Inputs.told g.O.Outputs.told g.D.Depot.told refused.result.outside in
    refused_at (last (starts plan (acts c.args.acts.now))) before stopped after refused.result.status (refusal_of Output)
    (acts_report_stops plan c.args.acts.now before stopped left report (refusal_of Output) ends (inl (refl, failed)) c.in-Err-Failed.ensures.kept refl)
    refused.ensures.status refused.ensures.line refused.ensures.inputs refused.ensures.depot

pub returns-in-Ok-answer : goal.returns-in-Ok-answer
returns-in-Ok-answer g c =
    let plan = arc_value c.args.plan in
    let before = seen g.I.Inputs.told g.O.Outputs.told g.D.Depot.told c.args.outside in
    let left : Devices = record { outputs = g.O.Outputs.told c.play_acts-played.result.outputs; depot = g.D.Depot.told c.play_acts-played.result.depot } in
    let stopped : Seen = record { inputs = g.I.Inputs.told c.tell_acts.new.inputs; outputs = g.O.Outputs.told c.tell_acts.new.outputs; depot = left.depot } in
    let report = c.in-Ok-answer.report in
    let ends = shared_ends plan (arc_value c.in-Ok.shared) (devices before) left c.play_acts-played.result.answer (Ok report) c.args.acts.now
    c.in-Ok.ensures c.in-Ok-answer.is c.play_acts-played.ensures in
    let between : StoppedBetween left.outputs stopped.outputs (acts_told report) = rw (c.in-Err-Memory.field-0-is, c.in-Ok-answer.is) at c.in-Err-Memory.ensures.wrote in
    let refused = c.refused-in-Err-Memory in
    let after = seen g.I.Inputs.told g.O.Outputs.told g.D.Depot.told refused.result.outside in
    refused_at (last (starts plan (acts c.args.acts.now))) before stopped after refused.result.status (refusal_of Memory)
    (acts_report_stops plan c.args.acts.now before stopped left report (refusal_of Memory) ends (inr (refl, between)) c.in-Err-Memory.ensures.kept refl)
    refused.ensures.status refused.ensures.line refused.ensures.inputs refused.ensures.depot

pub returns : goal.returns
returns g c =
    let plan = arc_value c.args.plan in
    let before = seen g.I.Inputs.told g.O.Outputs.told g.D.Depot.told c.args.outside in
    let left : Devices = record { outputs = g.O.Outputs.told c.play_acts-played.result.outputs; depot = g.D.Depot.told c.play_acts-played.result.depot } in
    let stopped : Seen = record before { outputs = left.outputs; depot = left.depot } in
    let stop = c.in-Err.stop in
    let stops = shared_ends plan (arc_value c.in-Ok.shared) (devices before) left c.play_acts-played.result.answer (Err stop) c.args.acts.now
    c.in-Ok.ensures c.in-Err.is c.play_acts-played.ensures in
    let job : c.job-in-Err.result.now ≡ plan.job = c.job-in-Err.ensures.job ∙ ap (λ (p : PlanText). p.job) c.deref-in-Err.ensures in
    let told : refusal_of c.fault_of.result ≡ stop_told c.job-in-Err.result.now stop = c.fault_of.ensures in
    let refused = c.refused-in-Err in
    let after = seen g.I.Inputs.told g.O.Outputs.told g.D.Depot.told refused.result.outside in
    refused_at (last (starts plan (acts c.args.acts.now))) before stopped after refused.result.status (refusal_of c.fault_of.result)
    (task_stops plan (acts c.args.acts.now) before stopped stop (refusal_of c.fault_of.result) stops (told ∙ ap (λ (j : JobText). stop_told j stop) job) refl)
    refused.ensures.status refused.ensures.line refused.ensures.inputs refused.ensures.depot
