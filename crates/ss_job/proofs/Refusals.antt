-- What is answered for a document that says no job.
use Rattle.std.proofs.Common.{ℕ, List, sym, ◌∙◌, inr}
use Rattle.toml.specs.Data.{Members}
use Rattle.ss_job.proofs.DocumentReadings.{read_document-job_of}
use Rattle.ss_job.specs.Answers.{IsFaultOfDocument}
use Rattle.ss_job.specs.Reading.{read_document}
use Rattle.ss_job.specs.Says.{IsDocument, Refuses}
use Rattle.ss_job.specs.declared.fault.JobsFault.{JobsFault}
use Rattle.ss_job.specs.declared.fault.JobsFault.TheVariants.{At, Memory}

pub refuses : (bytes : List ℕ) (document : Members) (fault : JobsFault) → IsDocument bytes document → IsFaultOfDocument fault (read_document document) → Refuses bytes fault
refuses bytes document (At fault) is read = inr (document, is, sym (read_document-job_of document) ∙ read)
refuses bytes document Memory is read = tt
