-- Where the join is after the elements so far, and what it gave.
use Rattle.std.proofs.Common.{take}
use Rattle.ss_meaning.specs.Emit.{Join}
use Rattle.ss_plan.proofs.SideSteps.{IsAfter}
use Rattle.ss_plan.proofs.joins.join_output.Given as goal

abbrev pub invariant-loop-x : goal.invariant-loop-x
invariant-loop-x l = IsAfter Join l.join l.bounds l.out.elements (take l.x-index l.arrived)
