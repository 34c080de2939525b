use Rattle.std.proofs.Common.{◌≡◌, ◌+◌, ◌≤◌, ◌++◌, length}
use Rattle.std.specs.Map.{values_of}
use Rattle.ss_join.specs.States.{joined_elements}
use Rattle.ss_join.proofs.pairs.give.Given as goal

abbrev pub invariant-loop-other : goal.invariant-loop-other
invariant-loop-other l = record {
  given : l.out.elements ++ joined_elements l.input l.row (values_of l.other-iterator)
      ≡ l.initial.out.elements ++ joined_elements l.input l.row (values_of l.initial.other-iterator);
  room : length (joined_elements l.input l.row (values_of l.other-iterator)) + 1 ≤ l.out.spare;
}
