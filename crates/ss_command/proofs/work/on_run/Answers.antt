use Rattle.ss_words.specs.Answers.{run_text}
use Rattle.ss_command.specs.Order.{first, job_file, with_run}
use Rattle.ss_command.specs.Refusal.{refusal_of}
use Rattle.ss_command.specs.Seen.{seen}
use Rattle.ss_command.proofs.Actions.{job_ends}
use Rattle.ss_command.proofs.Ends.{at_inputs, refused_at, stops_here}
use Rattle.ss_command.proofs.work.on_run.Goals as goal

pub returns-in-Ok : goal.returns-in-Ok
returns-in-Ok g c =
    let before = seen g.I.Inputs.told g.O.Outputs.told g.D.Depot.told c.args.outside in
    let after = seen g.I.Inputs.told g.O.Outputs.told g.D.Depot.told c.run.result.outside in
    let read = g.I.Inputs.told c.read_job_file.new.inputs in
    let (gives, kept) = c.in-Ok.ensures.job in
    job_ends c.args.file.now (λ job. with_run job (run_text c.args.options.now)) c.in-Ok.job before after read c.run.result.status gives kept c.run.ensures

pub returns-in-Err : goal.returns-in-Err
returns-in-Err g c =
    let before = seen g.I.Inputs.told g.O.Outputs.told g.D.Depot.told c.args.outside in
    let after = seen g.I.Inputs.told g.O.Outputs.told g.D.Depot.told c.refused.result.outside in
    let read = g.I.Inputs.told c.read_job_file.new.inputs in
    let refusal = refusal_of c.in-Err.fault in
    refused_at (first (job_file c.args.file.now) (λ job. with_run job (run_text c.args.options.now))) before (at_inputs read before) after c.refused.result.status refusal
    (stops_here (job_file c.args.file.now) (λ job. with_run job (run_text c.args.options.now)) before read refusal c.in-Err.ensures.fault)
    c.refused.ensures.status c.refused.ensures.line c.refused.ensures.inputs c.refused.ensures.depot
