-- The fault of bytes that are no document.
use Rattle.std.specs.Prelude.{◌≡◌}
use Rattle.toml.specs.Errors.{IsMemory}
use Rattle.toml.specs.declared.de.error.Error.{Error}
use Rattle.ss_job.specs.Faults.{fault_of_document}
use Rattle.ss_job.specs.declared.fault.JobWhy.TheVariants.{NotToml}
use Rattle.ss_job.specs.declared.fault.JobsFault.{JobsFault}
use Rattle.ss_job.specs.declared.fault.JobsFault.TheVariants.{At, Memory}

-- what an error of the TOML reader is answered by: only an error of memory by want of memory
abbrev pub IsToldBy : Error → JobsFault → Type 0
IsToldBy error Memory = IsMemory error
IsToldBy error (At fault) = (fault ≡ fault_of_document NotToml) × ¬ (IsMemory error)
