-- What a call answers beside what a plain reader gives.
use Rattle.std.specs.Prelude.{◌≡◌, Result, Ok, Err}
use Rattle.ss_job.specs.declared.fault.JobFault.{JobFault}
use Rattle.ss_job.specs.declared.fault.JobWhy.{JobWhy}
use Rattle.ss_job.specs.declared.fault.JobsFault.{JobsFault}
use Rattle.ss_job.specs.declared.fault.JobsFault.TheVariants as fault
use Rattle.ss_job.specs.declared.fault.Refusal.{Refusal}
use Rattle.ss_job.specs.declared.fault.Refusal.TheVariants as refusal

-- a result with its value seen in another way
abbrev pub result_map : {A B E : Type 0} → (A → B) → Result A E → Result B E
result_map view (Ok x) = Ok (view x)
result_map view (Err e) = Err e

-- the refusal is what the plain reader finds wrong, unless memory ran out
abbrev pub IsFaultOfReading : {A : Type 0} → Refusal → Result A JobWhy → Type 0
IsFaultOfReading (refusal.Why why) read = read ≡ Err why
IsFaultOfReading refusal.Memory read = Unit {0}

-- the answer, seen by `view`, is what the plain reader gives, unless memory ran out
abbrev pub AnswersReading : {A B : Type 0} → (A → B) → Result A Refusal → Result B JobWhy → Type 0
AnswersReading view (Ok x) read = read ≡ Ok (view x)
AnswersReading view (Err e) read = IsFaultOfReading e read

-- the same of a document
abbrev pub IsFaultOfDocument : {A : Type 0} → JobsFault → Result A JobFault → Type 0
IsFaultOfDocument (fault.At at) read = read ≡ Err at
IsFaultOfDocument fault.Memory read = Unit {0}

abbrev pub AnswersDocument : {A B : Type 0} → (A → B) → Result A JobsFault → Result B JobFault → Type 0
AnswersDocument view (Ok x) read = read ≡ Ok (view x)
AnswersDocument view (Err e) read = IsFaultOfDocument e read
