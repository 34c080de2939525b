use Rattle.std.proofs.Common.{Ok, Err, inl, refl, subst}
use Rattle.ss_plan.specs.Plan.{PlanText, lists_of}
use Rattle.ss_report.specs.declared.fault.Fault.TheVariants.{Memory}
use Rattle.ss_command.specs.Computed.{PutsStreams}
use Rattle.ss_command.specs.Ends.{MayHave}
use Rattle.ss_command.specs.Order.{with_streams}
use Rattle.ss_command.specs.Refusal.{refusal_of}
use Rattle.ss_command.specs.Seen.{seen}
use Rattle.ss_command.proofs.Actions.{behind_sources, sources_stop, wanting, streams_put, streams_stop, are_source_lists}
use Rattle.ss_command.proofs.Ends.{at_inputs, refused_at}
use Rattle.ss_command.proofs.plain.plain.Goals as goal

pub returns-in-Err : goal.returns-in-Err
returns-in-Err g c =
    let before = seen g.I.Inputs.told g.O.Outputs.told g.D.Depot.told c.args.outside in
    let after = seen g.I.Inputs.told g.O.Outputs.told g.D.Depot.told c.refused.result.outside in
    let job = c.args.job in
    let read = g.I.Inputs.told c.read_sources.new.inputs in
    let refusal = refusal_of c.in-Err.fault in
    refused_at (with_streams job) before (at_inputs read before) after c.refused.result.status refusal
    (sources_stop job (behind_sources job) before read refusal c.in-Err.ensures.fault)
    c.refused.ensures.status c.refused.ensures.line c.refused.ensures.inputs c.refused.ensures.depot

pub of-requires : goal.of-requires
of-requires g c =
    let (are, kept) = c.in-Ok.ensures.lists in
    are_source_lists (MayHave (g.I.Inputs.told c.args.outside.inputs)) c.args.job (lists_of c.in-Ok.lists.items) are c.in-Ok.ensures.each

pub returns-in-Err-Memory : goal.returns-in-Err-Memory
returns-in-Err-Memory g c =
    let before = seen g.I.Inputs.told g.O.Outputs.told g.D.Depot.told c.args.outside in
    let refused = c.refused-in-Err-Memory in
    let after = seen g.I.Inputs.told g.O.Outputs.told g.D.Depot.told refused.result.outside in
    let read = g.I.Inputs.told c.read_sources.new.inputs in
    let (are, kept) = c.in-Ok.ensures.lists in
    refused_at (with_streams c.args.job) before (at_inputs read before) after refused.result.status (refusal_of Memory)
    (wanting (with_streams c.args.job) before read kept)
    refused.ensures.status refused.ensures.line refused.ensures.inputs refused.ensures.depot

pub returns-in-Ok-put_streams : goal.returns-in-Ok-put_streams
returns-in-Ok-put_streams g c =
    let before = seen g.I.Inputs.told g.O.Outputs.told g.D.Depot.told c.args.outside in
    let read = g.I.Inputs.told c.read_sources.new.inputs in
    let put = g.O.Outputs.told c.put_streams.new.outputs in
    let (are, kept) = c.in-Ok.ensures.lists in
    inl (
      refl,
      streams_put c.args.job before read put (lists_of c.in-Ok.lists.items) are kept
          (subst (λ (p : PlanText). PutsStreams p before.outputs put (Ok tt)) c.in-Ok-of.ensures.plan c.in-Ok-put_streams.ensures),
    )

pub returns : goal.returns
returns g c =
    let before = seen g.I.Inputs.told g.O.Outputs.told g.D.Depot.told c.args.outside in
    let refused = c.refused-in-Err-put_streams in
    let after = seen g.I.Inputs.told g.O.Outputs.told g.D.Depot.told refused.result.outside in
    let read = g.I.Inputs.told c.read_sources.new.inputs in
    let put = g.O.Outputs.told c.put_streams.new.outputs in
    let (are, kept) = c.in-Ok.ensures.lists in
    let fault = c.in-Err-put_streams.fault in
    refused_at (with_streams c.args.job) before (record before { inputs = read; outputs = put }) after refused.result.status (refusal_of fault)
    (streams_stop c.args.job before read put (lists_of c.in-Ok.lists.items) fault are kept
    (subst (λ (p : PlanText). PutsStreams p before.outputs put (Err fault)) c.in-Ok-of.ensures.plan c.in-Err-put_streams.ensures))
    refused.ensures.status refused.ensures.line refused.ensures.inputs refused.ensures.depot
