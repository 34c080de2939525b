use Rattle.std.proofs.Common.{◌≡◌, None, map, string_bytes, inl, inr, refl}
use Rattle.ss_report.specs.declared.fault.Fault.TheVariants.{Usage, Memory}
use Rattle.ss_words.specs.Answers.{command_text}
use Rattle.ss_words.specs.Words.{command_of}
use Rattle.ss_command.specs.Order.{Asked, words, order_for, order_of}
use Rattle.ss_command.specs.Refusal.{refusal_of}
use Rattle.ss_command.specs.Seen.{seen}
use Rattle.ss_command.proofs.Ends.{keeps-same, stops_here, refused_at, ends-first, ends}
use Rattle.ss_command.proofs.Ways.{OneReading}
use Rattle.ss_command.proofs.command.perform.Goals as goal

pub returns-in-Ok : goal.returns-in-Ok
returns-in-Ok g c =
    let one : OneReading = record { one_job = c.job_file_has_one_reading.ensures.one_job; no_fault = c.job_file_has_one_reading.ensures.no_fault; one_fault = c.job_file_has_one_reading.ensures.one_fault } in
    let asked : Asked = command_of (map string_bytes c.args.words.now) in
    let before = seen g.I.Inputs.told g.O.Outputs.told g.D.Depot.told c.args.outside in
    let after = seen g.I.Inputs.told g.O.Outputs.told g.D.Depot.told c.work.result.outside in
    ends one asked before after c.work.result.status (ends-first (words asked) order_for (command_text c.in-Ok.command) before after c.work.result.status c.in-Ok.ensures c.work.ensures)

pub returns-in-Err-Usage : goal.returns-in-Err-Usage
returns-in-Err-Usage g c =
    let one : OneReading = record { one_job = c.job_file_has_one_reading.ensures.one_job; no_fault = c.job_file_has_one_reading.ensures.no_fault; one_fault = c.job_file_has_one_reading.ensures.one_fault } in
    let asked : Asked = command_of (map string_bytes c.args.words.now) in
    let none : asked ≡ None = rw c.in-Err-Usage.field-0-is at c.in-Err-Usage.ensures in
    let before = seen g.I.Inputs.told g.O.Outputs.told g.D.Depot.told c.args.outside in
    let after = seen g.I.Inputs.told g.O.Outputs.told g.D.Depot.told c.refused.result.outside in
    ends one asked before after c.refused.result.status
    (refused_at (order_of asked) before before after c.refused.result.status (refusal_of Usage)
    (stops_here (words asked) order_for before before.inputs (refusal_of Usage) (inl (inl ((none, refl), keeps-same before.inputs))))
    c.refused.ensures.status c.refused.ensures.line c.refused.ensures.inputs c.refused.ensures.depot)

pub returns-in-Err-Memory : goal.returns-in-Err-Memory
returns-in-Err-Memory g c =
    let one : OneReading = record { one_job = c.job_file_has_one_reading.ensures.one_job; no_fault = c.job_file_has_one_reading.ensures.no_fault; one_fault = c.job_file_has_one_reading.ensures.one_fault } in
    let asked : Asked = command_of (map string_bytes c.args.words.now) in
    let before = seen g.I.Inputs.told g.O.Outputs.told g.D.Depot.told c.args.outside in
    let refused = c.refused-in-Err-Memory in
    let after = seen g.I.Inputs.told g.O.Outputs.told g.D.Depot.told refused.result.outside in
    ends one asked before after refused.result.status
    (refused_at (order_of asked) before before after refused.result.status (refusal_of Memory)
    (stops_here (words asked) order_for before before.inputs (refusal_of Memory) (inr (refl, keeps-same before.inputs)))
    refused.ensures.status refused.ensures.line refused.ensures.inputs refused.ensures.depot)
