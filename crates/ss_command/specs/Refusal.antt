-- What a command tells where its work stops.
use Rattle.std.specs.Prelude.{ℕ, List}
use Rattle.std.specs.Borrow.{Bor}
use Rattle.ss_report.specs.FaultText.{fault_text}
use Rattle.ss_report.specs.Status.{status_of}
use Rattle.ss_report.specs.declared.fault.Fault.{Fault}

-- its status, and the line on standard error
pub record Refusal : Type 0 where
  pub status : ℕ
  pub line : List ℕ

abbrev pub refusal_of : Fault → Refusal
refusal_of fault = record { status = status_of fault; line = fault_text fault }

-- a name, as a fault has it
abbrev pub shared : List ℕ → Bor (List ℕ)
shared name = record { ref_ptr = (0, 0); now = name }
