-- The status with which the program ends at each fault.
use Rattle.std.specs.Prelude.{ℕ}
use Rattle.ss_report.specs.declared.fault.Fault.{Fault}
use Rattle.ss_report.specs.declared.fault.Fault.TheVariants.{Usage, Job, Events, Inputs}
use Rattle.ss_report.specs.declared.fault.Fault.TheVariants.{Store, Output, Script, Full, Memory, Damaged}

abbrev pub status_of : Fault → ℕ
status_of Usage = 2
status_of (Job fault) = 3
status_of (Events file fault) = 4
status_of (Inputs file) = 5
status_of Store = 6
status_of Output = 7
status_of (Script file fault) = 8
status_of (Full name most) = 9
status_of Memory = 10
status_of (Damaged name n) = 11
