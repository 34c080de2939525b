use Rattle.std.proofs.Common.{sym, ◌∙◌}
use Rattle.toml.specs.View.{table_view}
use Rattle.ss_job.proofs.DocumentReadings.{read_document-job_of}
use Rattle.ss_job.proofs.Refusals.{refuses}
use Rattle.ss_job.proofs.reader.read_job.Goals as goal

pub returns-in-Ok-read_document-clause-job : goal.returns-in-Ok-read_document-clause-job
returns-in-Ok-read_document-clause-job c =
    (table_view c.in-Ok.document, c.in-Ok.ensures.ok, sym (read_document-job_of (table_view c.in-Ok.document)) ∙ c.in-Ok-read_document.ensures)

pub returns-in-Ok-clause-refused : goal.returns-in-Ok-clause-refused
returns-in-Ok-clause-refused c = refuses c.args.bytes.now (table_view c.in-Ok.document) c.in-Err-read_document.fault c.in-Ok.ensures.ok c.in-Err-read_document.ensures
