use Rattle.std.proofs.Common.{List, refl, sym, subst}
use Rattle.std.specs.Arc.{arc_value}
use Rattle.std.specs.List.{AllByRecursion}
use Rattle.ss_fail.specs.declared.trigger.Trigger.{Trigger}
use Rattle.ss_frames.specs.Plans.{plan_numbers}
use Rattle.ss_plan.specs.Plan.{PlanText, lists_of}
use Rattle.ss_report.specs.declared.fault.Fault.TheVariants.{Memory}
use Rattle.ss_state.specs.Rule.{IsTrigger}
use Rattle.ss_words.specs.Answers.{run_text}
use Rattle.ss_command.specs.Ends.{EndsBy, MayHave}
use Rattle.ss_command.specs.Order.{finish, last, starts, with_run}
use Rattle.ss_command.specs.Refusal.{refusal_of}
use Rattle.ss_command.specs.Seen.{seen}
use Rattle.ss_command.proofs.Actions.{are_source_lists, behind_run, failures_early, failures_fire, failures_keep, run_ends, sources_stop, wanting}
use Rattle.ss_command.proofs.Ends.{at_inputs, keeps-then, refused_at}
use Rattle.ss_command.proofs.run.run.Goals as goal

pub returns-in-Err : goal.returns-in-Err
returns-in-Err g c =
    let before = seen g.I.Inputs.told g.O.Outputs.told g.D.Depot.told c.args.outside in
    let job = c.args.job in
    let run = run_text c.args.options.now in
    let read = g.I.Inputs.told c.read_sources.new.inputs in
    let after = seen g.I.Inputs.told g.O.Outputs.told g.D.Depot.told c.refused.result.outside in
    let refusal = refusal_of c.in-Err.fault in
    refused_at (with_run job run) before (at_inputs read before) after c.refused.result.status refusal
    (sources_stop job (behind_run job run) before read refusal c.in-Err.ensures.fault)
    c.refused.ensures.status c.refused.ensures.line c.refused.ensures.inputs c.refused.ensures.depot

pub returns-in-Err-read_failures_of : goal.returns-in-Err-read_failures_of
returns-in-Err-read_failures_of g c =
    let before = seen g.I.Inputs.told g.O.Outputs.told g.D.Depot.told c.args.outside in
    let job = c.args.job in
    let run = run_text c.args.options.now in
    let read = g.I.Inputs.told c.read_sources.new.inputs in
    let later = g.I.Inputs.told c.read_failures_of.new.inputs in
    let (are, kept) = c.in-Ok.ensures.lists in
    let refused = c.refused-in-Err-read_failures_of in
    let after = seen g.I.Inputs.told g.O.Outputs.told g.D.Depot.told refused.result.outside in
    let refusal = refusal_of c.in-Err-read_failures_of.fault in
    refused_at (with_run job run) before (at_inputs later before) after refused.result.status refusal
    (failures_early job run run.failures before read later (lists_of c.in-Ok.lists.items) refusal refl are kept c.in-Err-read_failures_of.ensures.fault)
    refused.ensures.status refused.ensures.line refused.ensures.inputs refused.ensures.depot

pub shared_plan-requires-clause-lists : goal.shared_plan-requires-clause-lists
shared_plan-requires-clause-lists g c =
    let (are, kept) = c.in-Ok.ensures.lists in
    are_source_lists (MayHave (g.I.Inputs.told c.args.outside.inputs)) c.args.job (lists_of c.in-Ok.lists.items) are c.in-Ok.ensures.each

pub finish_job-requires-clause-triggers : goal.finish_job-requires-clause-triggers
finish_job-requires-clause-triggers g c =
    let plan = arc_value c.in-Ok-shared_plan.plan in
    let read = g.I.Inputs.told c.read_sources.new.inputs in
    let later = g.I.Inputs.told c.read_failures_of.new.inputs in
    subst (λ (ts : List Trigger). AllByRecursion (IsTrigger (plan_numbers plan)) ts) (sym c.as_slice.ensures.value)
    (failures_fire plan c.args.job (lists_of c.in-Ok.lists.items) (run_text c.args.options.now).failures read later c.in-Ok-read_failures_of.triggers.items
    c.failures_can_fire.ensures c.in-Ok-shared_plan.ensures.is c.in-Ok-shared_plan.ensures.plan c.in-Ok-read_failures_of.ensures.triggers)

pub returns-in-Ok-shared_plan : goal.returns-in-Ok-shared_plan
returns-in-Ok-shared_plan g c =
    let before = seen g.I.Inputs.told g.O.Outputs.told g.D.Depot.told c.args.outside in
    let job = c.args.job in
    let run = run_text c.args.options.now in
    let read = g.I.Inputs.told c.read_sources.new.inputs in
    let later = g.I.Inputs.told c.read_failures_of.new.inputs in
    let (are, kept) = c.in-Ok.ensures.lists in
    let triggers = c.in-Ok-read_failures_of.triggers.items in
    let after = seen g.I.Inputs.told g.O.Outputs.told g.D.Depot.told c.finish_job.result.outside in
    let status = c.finish_job.result.status in
    let ends = subst (λ (p : PlanText). EndsBy (last (starts p (finish triggers run.trace))) (at_inputs later before) after status) c.in-Ok-shared_plan.ensures.plan
    (subst (λ (ts : List Trigger). EndsBy (last (starts (arc_value c.in-Ok-shared_plan.plan) (finish ts run.trace))) (at_inputs later before) after status)
    c.as_slice.ensures.value c.finish_job.ensures) in
    run_ends job run run.failures before after read later (lists_of c.in-Ok.lists.items) triggers status refl are kept c.in-Ok-read_failures_of.ensures.triggers ends

pub returns : goal.returns
returns g c =
    let before = seen g.I.Inputs.told g.O.Outputs.told g.D.Depot.told c.args.outside in
    let job = c.args.job in
    let run = run_text c.args.options.now in
    let read = g.I.Inputs.told c.read_sources.new.inputs in
    let later = g.I.Inputs.told c.read_failures_of.new.inputs in
    let (are, kept) = c.in-Ok.ensures.lists in
    let keeps = failures_keep read later job run.failures c.in-Ok-read_failures_of.triggers.items c.in-Ok-read_failures_of.ensures.triggers in
    let refused = c.refused-in-Err-shared_plan in
    let after = seen g.I.Inputs.told g.O.Outputs.told g.D.Depot.told refused.result.outside in
    refused_at (with_run job run) before (at_inputs later before) after refused.result.status (refusal_of Memory)
    (wanting (with_run job run) before later (keeps-then before.inputs read later kept keeps))
    refused.ensures.status refused.ensures.line refused.ensures.inputs refused.ensures.depot
