use Rattle.std.proofs.Common.{inl, inr, refl}
use Rattle.ss_report.specs.declared.fault.Fault.TheVariants.{Output, Memory}
use Rattle.ss_command.specs.Order.{last, puts}
use Rattle.ss_command.specs.Output.{job_lines}
use Rattle.ss_command.specs.Refusal.{refusal_of}
use Rattle.ss_command.specs.Seen.{seen}
use Rattle.ss_command.proofs.Actions.{at_outputs, puts_done, puts_stop}
use Rattle.ss_command.proofs.Ends.{refused_at}
use Rattle.ss_command.proofs.work.show.Goals as goal

pub returns-in-Ok : goal.returns-in-Ok
returns-in-Ok g c =
    let before = seen g.I.Inputs.told g.O.Outputs.told g.D.Depot.told c.args.outside in
    inl (refl, puts_done (job_lines c.args.job.now) before (g.O.Outputs.told c.check.new.outputs) c.in-Ok.ensures)

pub returns-in-Err-Failed : goal.returns-in-Err-Failed
returns-in-Err-Failed g c =
    let before = seen g.I.Inputs.told g.O.Outputs.told g.D.Depot.told c.args.outside in
    let after = seen g.I.Inputs.told g.O.Outputs.told g.D.Depot.told c.refused.result.outside in
    let put = g.O.Outputs.told c.check.new.outputs in
    let output = job_lines c.args.job.now in
    refused_at (last (puts output)) before (at_outputs put before) after c.refused.result.status (refusal_of Output)
    (puts_stop output before put (refusal_of Output) (inl (refl, rw c.in-Err-Failed.field-0-is at c.in-Err-Failed.ensures)))
    c.refused.ensures.status c.refused.ensures.line c.refused.ensures.inputs c.refused.ensures.depot

pub returns-in-Err-Memory : goal.returns-in-Err-Memory
returns-in-Err-Memory g c =
    let before = seen g.I.Inputs.told g.O.Outputs.told g.D.Depot.told c.args.outside in
    let refused = c.refused-in-Err-Memory in
    let after = seen g.I.Inputs.told g.O.Outputs.told g.D.Depot.told refused.result.outside in
    let put = g.O.Outputs.told c.check.new.outputs in
    let output = job_lines c.args.job.now in
    refused_at (last (puts output)) before (at_outputs put before) after refused.result.status (refusal_of Memory)
    (puts_stop output before put (refusal_of Memory) (inr (refl, rw c.in-Err-Memory.field-0-is at c.in-Err-Memory.ensures)))
    refused.ensures.status refused.ensures.line refused.ensures.inputs refused.ensures.depot
