-- Where the operator is after the elements so far, and what it gave.
use Rattle.std.proofs.Common.{take}
use Rattle.ss_meaning.specs.Emit.{Except}
use Rattle.ss_plan.proofs.SideSteps.{IsAfter}
use Rattle.ss_plan.proofs.excepts.except_output.Given as goal

abbrev pub invariant-loop-x : goal.invariant-loop-x
invariant-loop-x l = IsAfter Except l.except l.bounds l.out.elements (take l.x-index l.arrived)
