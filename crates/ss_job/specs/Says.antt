-- What bytes say: a job, or a fault.
use Rattle.std.specs.Prelude.{◌≡◌, ◌⊎◌, ℕ, List, Some, Ok, Err, IsUtf8}
use Rattle.toml.specs.Data.{Members}
use Rattle.toml.specs.Parse.{parse_document}
use Rattle.ss_job.specs.Faults.{job_of, fault_of_document}
use Rattle.ss_job.specs.JobText.{JobText}
use Rattle.ss_job.specs.declared.fault.JobFault.{JobFault}
use Rattle.ss_job.specs.declared.fault.JobWhy.TheVariants.{NotToml}
use Rattle.ss_job.specs.declared.fault.JobsFault.{JobsFault}
use Rattle.ss_job.specs.declared.fault.JobsFault.TheVariants.{At, Memory}

-- the bytes are the UTF-8 text of this document, perhaps behind a byte order mark
abbrev pub IsDocument : List ℕ → Members → Type 0
IsDocument bytes document = IsUtf8 bytes × (parse_document bytes ≡ Some document)

-- the bytes are a document that says this job
abbrev pub Says : List ℕ → JobText → Type 0
Says bytes job = (document : Members) × IsDocument bytes document × (job_of document ≡ Ok job)

-- the bytes are no document, or one with this first fault
abbrev pub HasFault : List ℕ → JobFault → Type 0
HasFault bytes fault =
    ((fault ≡ fault_of_document NotToml) × ((document : Members) → ¬ (IsDocument bytes document)))
    ⊎ ((document : Members) × IsDocument bytes document × (job_of document ≡ Err fault))

-- an answer that the bytes give a cause for; want of memory needs none
abbrev pub Refuses : List ℕ → JobsFault → Type 0
Refuses bytes (At fault) = HasFault bytes fault
Refuses bytes Memory = Unit {0}
