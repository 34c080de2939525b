-- Where the session window is after the elements so far.
use Rattle.std.proofs.Common.{take}
use Rattle.ss_plan.proofs.SessionSteps.{IsAfter}
use Rattle.ss_plan.proofs.sessions.session_output.Given as goal

abbrev pub invariant-loop-x : goal.invariant-loop-x
invariant-loop-x l =
    IsAfter (record { gap = l.fn.gap; agg = l.fn.agg; field = l.fn.of }) l.session l.out.elements l.bound (take l.x-index l.arrived)
