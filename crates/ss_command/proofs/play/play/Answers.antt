use Rattle.std.proofs.Common.{List, subst}
use Rattle.std.specs.Arc.{arc_value}
use Rattle.ss_fail.specs.declared.act.Act.{Act}
use Rattle.ss_plan.specs.Plan.{PlanText, lists_of}
use Rattle.ss_report.specs.declared.fault.Fault.TheVariants.{Memory}
use Rattle.ss_command.specs.Ends.{EndsBy, MayHave}
use Rattle.ss_command.specs.Order.{acts, last, starts, with_acts}
use Rattle.ss_command.specs.Refusal.{refusal_of}
use Rattle.ss_command.specs.Seen.{seen}
use Rattle.ss_command.proofs.Actions.{acts_early, acts_end, are_source_lists, behind_lists, sources_stop, wanting}
use Rattle.ss_command.proofs.Ends.{at_inputs, keeps-then, refused_at}
use Rattle.ss_command.proofs.play.play.Goals as goal

pub returns-in-Err : goal.returns-in-Err
returns-in-Err g c =
    let before = seen g.I.Inputs.told g.O.Outputs.told g.D.Depot.told c.args.outside in
    let job = c.args.job in
    let schedule = c.args.schedule.now in
    let read = g.I.Inputs.told c.read_sources.new.inputs in
    let after = seen g.I.Inputs.told g.O.Outputs.told g.D.Depot.told c.refused.result.outside in
    let refusal = refusal_of c.in-Err.fault in
    refused_at (with_acts job schedule) before (at_inputs read before) after c.refused.result.status refusal
    (sources_stop job (behind_lists job schedule) before read refusal c.in-Err.ensures.fault)
    c.refused.ensures.status c.refused.ensures.line c.refused.ensures.inputs c.refused.ensures.depot

pub returns-in-Err-read_schedule_file : goal.returns-in-Err-read_schedule_file
returns-in-Err-read_schedule_file g c =
    let before = seen g.I.Inputs.told g.O.Outputs.told g.D.Depot.told c.args.outside in
    let job = c.args.job in
    let schedule = c.args.schedule.now in
    let read = g.I.Inputs.told c.read_sources.new.inputs in
    let later = g.I.Inputs.told c.read_schedule_file.new.inputs in
    let (are, kept) = c.in-Ok.ensures.lists in
    let refused = c.refused-in-Err-read_schedule_file in
    let after = seen g.I.Inputs.told g.O.Outputs.told g.D.Depot.told refused.result.outside in
    let refusal = refusal_of c.in-Err-read_schedule_file.fault in
    refused_at (with_acts job schedule) before (at_inputs later before) after refused.result.status refusal
    (acts_early job schedule before read later (lists_of c.in-Ok.lists.items) refusal are kept c.in-Err-read_schedule_file.ensures.fault)
    refused.ensures.status refused.ensures.line refused.ensures.inputs refused.ensures.depot

pub shared_plan-requires-clause-lists : goal.shared_plan-requires-clause-lists
shared_plan-requires-clause-lists g c =
    let (are, kept) = c.in-Ok.ensures.lists in
    are_source_lists (MayHave (g.I.Inputs.told c.args.outside.inputs)) c.args.job (lists_of c.in-Ok.lists.items) are c.in-Ok.ensures.each

pub returns-in-Ok-shared_plan : goal.returns-in-Ok-shared_plan
returns-in-Ok-shared_plan g c =
    let before = seen g.I.Inputs.told g.O.Outputs.told g.D.Depot.told c.args.outside in
    let job = c.args.job in
    let schedule = c.args.schedule.now in
    let read = g.I.Inputs.told c.read_sources.new.inputs in
    let later = g.I.Inputs.told c.read_schedule_file.new.inputs in
    let (are, kept) = c.in-Ok.ensures.lists in
    let (gives, keeps) = c.in-Ok-read_schedule_file.ensures.acts in
    let lists = lists_of c.in-Ok.lists.items in
    let made = c.in-Ok-read_schedule_file.acts.items in
    let after = seen g.I.Inputs.told g.O.Outputs.told g.D.Depot.told c.make_acts.result.outside in
    let status = c.make_acts.result.status in
    let ends = subst (λ (p : PlanText). EndsBy (last (starts p (acts made))) (at_inputs later before) after status) c.in-Ok-shared_plan.ensures.plan
    (subst (λ (l : List Act). EndsBy (last (starts (arc_value c.in-Ok-shared_plan.plan) (acts l))) (at_inputs later before) after status) c.as_slice.ensures.value c.make_acts.ensures) in
    acts_end job schedule before after read later lists made status are kept keeps gives ends

pub returns : goal.returns
returns g c =
    let before = seen g.I.Inputs.told g.O.Outputs.told g.D.Depot.told c.args.outside in
    let job = c.args.job in
    let schedule = c.args.schedule.now in
    let read = g.I.Inputs.told c.read_sources.new.inputs in
    let later = g.I.Inputs.told c.read_schedule_file.new.inputs in
    let (are, kept) = c.in-Ok.ensures.lists in
    let (gives, keeps) = c.in-Ok-read_schedule_file.ensures.acts in
    let refused = c.refused-in-Err-shared_plan in
    let after = seen g.I.Inputs.told g.O.Outputs.told g.D.Depot.told refused.result.outside in
    refused_at (with_acts job schedule) before (at_inputs later before) after refused.result.status (refusal_of Memory)
    (wanting (with_acts job schedule) before later (keeps-then before.inputs read later kept keeps))
    refused.ensures.status refused.ensures.line refused.ensures.inputs refused.ensures.depot
