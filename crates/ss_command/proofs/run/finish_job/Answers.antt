use Rattle.std.proofs.Common.{◌≡◌, ◌∙◌, Bool, List, Result, Ok, Err, option_map, inl, inr, refl, sym, ap, subst, length, get_or}
use Rattle.std.specs.Arc.{arc_value}
use Rattle.ss_fail.specs.declared.trigger.Trigger.{Trigger}
use Rattle.ss_job.specs.JobText.{JobText}
use Rattle.ss_plan.specs.Plan.{PlanText}
use Rattle.ss_play.specs.Playing.{Devices}
use Rattle.ss_play.specs.Releasing.{ReleasesAll}
use Rattle.ss_play.specs.declared.fault.PlayFault.{PlayFault}
use Rattle.ss_report.specs.declared.fault.Fault.TheVariants.{Output, Memory}
use Rattle.ss_run.specs.Running.{EndsRunning}
use Rattle.ss_run.specs.declared.running.Told.{Told}
use Rattle.ss_vault.specs.Facts.{PlanFacts}
use Rattle.ss_command.specs.Order.{finish, last, starts}
use Rattle.ss_command.specs.Working.{devices, stop_told}
use Rattle.ss_command.specs.Puts.{PutFailed, StoppedBetween, WentWhole}
use Rattle.ss_command.specs.Refusal.{refusal_of}
use Rattle.ss_command.specs.Seen.{Seen, seen}
use Rattle.ss_command.proofs.Actions.{wanting}
use Rattle.ss_command.proofs.Ends.{keeps-same, refused_at}
use Rattle.ss_command.proofs.Working.{counted, named, run_done, run_marks_count, run_report_stops, run_told, task_stops}
use Rattle.ss_command.proofs.run.finish_job.Goals as goal

-- what a job answers of a shared plan
shared_ends : (plan shared : PlanText) (before left : Devices) (answer is : Result Told PlayFault) (triggers : List Trigger) (wants : Bool) → shared ≡ plan →
    answer ≡ is → EndsRunning shared triggers wants before answer left → EndsRunning plan triggers wants before is left
shared_ends plan shared before left answer is triggers wants same known ends =
    subst (λ (a : Result Told PlayFault). EndsRunning plan triggers wants before a left) known
    (subst (λ (p : PlanText). EndsRunning p triggers wants before answer left) same ends)

pub returns-in_default : goal.returns-in_default
returns-in_default g c =
    let before = seen g.I.Inputs.told g.O.Outputs.told g.D.Depot.told c.args.outside in
    let after = seen g.I.Inputs.told g.O.Outputs.told g.D.Depot.told c.refused.result.outside in
    let order = last (starts (arc_value c.args.plan) (finish c.args.triggers.now (option_map (λ name. name.now) c.args.trace))) in
    refused_at order before before after c.refused.result.status (refusal_of Memory) (wanting order before before.inputs (keeps-same before.inputs))
    c.refused.ensures.status c.refused.ensures.line c.refused.ensures.inputs c.refused.ensures.depot

pub tell_run-requires : goal.tell_run-requires
tell_run-requires g c =
    let plan = arc_value c.args.plan in
    let before = seen g.I.Inputs.told g.O.Outputs.told g.D.Depot.told c.args.outside in
    let left : Devices = record { outputs = g.O.Outputs.told c.run_job-ran.result.outputs; depot = g.D.Depot.told c.run_job-ran.result.depot } in
    let told = c.in-Ok-answer.told in
    let ends = shared_ends plan (arc_value c.in-Ok.shared) (devices before) left c.run_job-ran.result.answer (Ok told) c.args.triggers.now c.is_some.result
    c.in-Ok.ensures c.in-Ok-answer.is c.run_job-ran.ensures in
    let job : c.job.result.now ≡ plan.job = c.job.ensures.job ∙ ap (λ (p : PlanText). p.job) c.deref-in-Ok-answer.ensures in
    rw c.in-Ok-answer.is
    (run_marks_count plan c.args.triggers.now c.is_some.result (devices before) left told ends
    ∙ counted plan (subst PlanFacts c.deref.ensures c.plan_facts.ensures) ∙ sym (ap (λ (j : JobText). length j.vertices) job))

pub returns-in-Ok-tell_run : goal.returns-in-Ok-tell_run
returns-in-Ok-tell_run g c =
    let plan = arc_value c.args.plan in
    let trace = option_map (λ name. name.now) c.args.trace in
    let before = seen g.I.Inputs.told g.O.Outputs.told g.D.Depot.told c.args.outside in
    let left : Devices = record { outputs = g.O.Outputs.told c.run_job-ran.result.outputs; depot = g.D.Depot.told c.run_job-ran.result.depot } in
    let after : Seen = record { inputs = g.I.Inputs.told c.tell_run.new.inputs; outputs = g.O.Outputs.told c.tell_run.new.outputs; depot = left.depot } in
    let told = c.in-Ok-answer.told in
    let ends = shared_ends plan (arc_value c.in-Ok.shared) (devices before) left c.run_job-ran.result.answer (Ok told) c.args.triggers.now c.is_some.result
    c.in-Ok.ensures c.in-Ok-answer.is c.run_job-ran.ensures in
    let job : c.job.result.now ≡ plan.job = c.job.ensures.job ∙ ap (λ (p : PlanText). p.job) c.deref-in-Ok-answer.ensures in
    let wrote : WentWhole left.outputs after.outputs (run_told c.job.result.now trace told) = rw c.in-Ok-answer.is at c.in-Ok-tell_run.ensures.wrote in
    let whole : WentWhole left.outputs after.outputs (run_told plan.job trace told) =
    subst (λ (j : JobText). WentWhole left.outputs after.outputs (run_told j trace told)) job wrote in
    let released : ReleasesAll c.job.result.now (λ v. get_or told.marks.items v 0) before.inputs after.inputs = rw c.in-Ok-answer.is at c.in-Ok-tell_run.ensures.released in
    inl (
      refl,
      run_done plan c.args.triggers.now trace c.is_some.result (named c.args.trace c.is_some.result c.is_some.ensures) before after left told
          (counted plan (subst PlanFacts c.deref.ensures c.plan_facts.ensures)) ends whole refl
          (subst (λ (j : JobText). ReleasesAll j (λ v. get_or told.marks.items v 0) before.inputs after.inputs) job released),
    )

pub returns-in-Err-Failed : goal.returns-in-Err-Failed
returns-in-Err-Failed g c =
    let plan = arc_value c.args.plan in
    let trace = option_map (λ name. name.now) c.args.trace in
    let before = seen g.I.Inputs.told g.O.Outputs.told g.D.Depot.told c.args.outside in
    let left : Devices = record { outputs = g.O.Outputs.told c.run_job-ran.result.outputs; depot = g.D.Depot.told c.run_job-ran.result.depot } in
    let stopped : Seen = record { inputs = g.I.Inputs.told c.tell_run.new.inputs; outputs = g.O.Outputs.told c.tell_run.new.outputs; depot = left.depot } in
    let told = c.in-Ok-answer.told in
    let ends = shared_ends plan (arc_value c.in-Ok.shared) (devices before) left c.run_job-ran.result.answer (Ok told) c.args.triggers.now c.is_some.result
    c.in-Ok.ensures c.in-Ok-answer.is c.run_job-ran.ensures in
    let job : c.job.result.now ≡ plan.job = c.job.ensures.job ∙ ap (λ (p : PlanText). p.job) c.deref-in-Ok-answer.ensures in
    let wrote : PutFailed left.outputs stopped.outputs (run_told c.job.result.now trace told) = rw (c.in-Err-Failed.field-0-is, c.in-Ok-answer.is) at c.in-Err-Failed.ensures.wrote in
    let failed : PutFailed left.outputs stopped.outputs (run_told plan.job trace told) =
    subst (λ (j : JobText). PutFailed left.outputs stopped.outputs (run_told j trace told)) job wrote in
    let refused = c.refused-in-Err-Failed in
    let after = seen g.I.Inputs.told g.O.Outputs.told g.D.Depot.told refused.result.outside in
    refused_at (last (starts plan (finish c.args.triggers.now trace))) before stopped after refused.result.status (refusal_of Output)
    (run_report_stops plan c.args.triggers.now trace c.is_some.result (named c.args.trace c.is_some.result c.is_some.ensures) before stopped left told
    (refusal_of Output) ends (inl (refl, failed)) c.in-Err-Failed.ensures.kept refl)
    refused.ensures.status refused.ensures.line refused.ensures.inputs refused.ensures.depot

pub returns-in-Ok-answer : goal.returns-in-Ok-answer
returns-in-Ok-answer g c =
    let plan = arc_value c.args.plan in
    let trace = option_map (λ name. name.now) c.args.trace in
    let before = seen g.I.Inputs.told g.O.Outputs.told g.D.Depot.told c.args.outside in
    let left : Devices = record { outputs = g.O.Outputs.told c.run_job-ran.result.outputs; depot = g.D.Depot.told c.run_job-ran.result.depot } in
    let stopped : Seen = record { inputs = g.I.Inputs.told c.tell_run.new.inputs; outputs = g.O.Outputs.told c.tell_run.new.outputs; depot = left.depot } in
    let told = c.in-Ok-answer.told in
    let ends = shared_ends plan (arc_value c.in-Ok.shared) (devices before) left c.run_job-ran.result.answer (Ok told) c.args.triggers.now c.is_some.result
    c.in-Ok.ensures c.in-Ok-answer.is c.run_job-ran.ensures in
    let job : c.job.result.now ≡ plan.job = c.job.ensures.job ∙ ap (λ (p : PlanText). p.job) c.deref-in-Ok-answer.ensures in
    let wrote : StoppedBetween left.outputs stopped.outputs (run_told c.job.result.now trace told) = rw (c.in-Err-Memory.field-0-is, c.in-Ok-answer.is) at c.in-Err-Memory.ensures.wrote in
    let between : StoppedBetween left.outputs stopped.outputs (run_told plan.job trace told) =
    subst (λ (j : JobText). StoppedBetween left.outputs stopped.outputs (run_told j trace told)) job wrote in
    let refused = c.refused-in-Err-Memory in
    let after = seen g.I.Inputs.told g.O.Outputs.told g.D.Depot.told refused.result.outside in
    refused_at (last (starts plan (finish c.args.triggers.now trace))) before stopped after refused.result.status (refusal_of Memory)
    (run_report_stops plan c.args.triggers.now trace c.is_some.result (named c.args.trace c.is_some.result c.is_some.ensures) before stopped left told
    (refusal_of Memory) ends (inr (refl, between)) c.in-Err-Memory.ensures.kept refl)
    refused.ensures.status refused.ensures.line refused.ensures.inputs refused.ensures.depot

pub returns : goal.returns
returns g c =
    let plan = arc_value c.args.plan in
    let trace = option_map (λ name. name.now) c.args.trace in
    let before = seen g.I.Inputs.told g.O.Outputs.told g.D.Depot.told c.args.outside in
    let left : Devices = record { outputs = g.O.Outputs.told c.run_job-ran.result.outputs; depot = g.D.Depot.told c.run_job-ran.result.depot } in
    let stopped : Seen = record before { outputs = left.outputs; depot = left.depot } in
    let stop = c.in-Err.stop in
    let stops = shared_ends plan (arc_value c.in-Ok.shared) (devices before) left c.run_job-ran.result.answer (Err stop) c.args.triggers.now c.is_some.result
    c.in-Ok.ensures c.in-Err.is c.run_job-ran.ensures in
    let job : c.job-in-Err.result.now ≡ plan.job = c.job-in-Err.ensures.job ∙ ap (λ (p : PlanText). p.job) c.deref-in-Err.ensures in
    let told : refusal_of c.fault_of.result ≡ stop_told c.job-in-Err.result.now stop = c.fault_of.ensures in
    let refused = c.refused-in-Err in
    let after = seen g.I.Inputs.told g.O.Outputs.told g.D.Depot.told refused.result.outside in
    refused_at (last (starts plan (finish c.args.triggers.now trace))) before stopped after refused.result.status (refusal_of c.fault_of.result)
    (task_stops plan (finish c.args.triggers.now trace) before stopped stop (refusal_of c.fault_of.result) stops (told ∙ ap (λ (j : JobText). stop_told j stop) job) refl)
    refused.ensures.status refused.ensures.line refused.ensures.inputs refused.ensures.depot
