-- Where the window is after the elements so far.
use Rattle.std.proofs.Common.{take}
use Rattle.ss_plan.proofs.WindowSteps.{IsAfter}
use Rattle.ss_plan.proofs.windows.window_output.Given as goal

abbrev pub invariant-loop-x : goal.invariant-loop-x
invariant-loop-x l =
    IsAfter (record { size = l.fn.size; hop = l.fn.hop; agg = l.fn.agg; field = l.fn.of }) l.window l.out.elements l.bound (take l.x-index l.arrived)
