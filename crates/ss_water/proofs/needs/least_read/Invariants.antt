use Rattle.ss_water.specs.Needs.{IsAtInput, IsLeastIfAny}
use Rattle.ss_water.proofs.needs.least_read.Given as goal

abbrev pub invariant-loop-i : goal.invariant-loop-i
invariant-loop-i l = IsLeastIfAny (IsAtInput l.node l.positions l.j l.i) l.least
