-- The inputs so far are marked, and nothing else besides what was.
use Rattle.std.proofs.Common.{◌≡◌, ℕ, ◌<◌, true, get_or, ◌⊎◌}
use Rattle.ss_plan.specs.Dependence.{IsInput}
use Rattle.ss_plan.specs.Streams.{is_wanted}
use Rattle.ss_plan.proofs.needed.mark_inputs.Given as goal

abbrev pub invariant-loop-i : goal.invariant-loop-i
invariant-loop-i l = record {
  kept : (u : ℕ) → is_wanted l.initial.marked u ≡ true → is_wanted l.marked u ≡ true;
  inputs : (j : ℕ) → j < l.i → is_wanted l.marked (get_or l.node.inputs j 0) ≡ true;
  only : (u : ℕ) → is_wanted l.marked u ≡ true → (is_wanted l.initial.marked u ≡ true) ⊎ IsInput l.node u;
}
