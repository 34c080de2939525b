use Rattle.std.proofs.Common.{◌≡◌, ◌+◌, ◌≤◌, ◌++◌, length}
use Rattle.ss_window.specs.States.{left, reached, rows_of_entries}
use Rattle.ss_window.proofs.given.give_reached.Given as goal

abbrev pub invariant-loop-end : goal.invariant-loop-end
invariant-loop-end l = record {
  given : l.out.elements ++ rows_of_entries l.hop (reached l.low l.panes)
      ≡ l.initial.out.elements ++ rows_of_entries l.hop (reached l.low l.initial.panes);
  left : left l.low l.panes ≡ left l.low l.initial.panes;
  room : length (reached l.low l.panes) + 1 ≤ l.out.spare;
}

abbrev pub decreases-loop-end : goal.decreases-loop-end
decreases-loop-end l = length l.panes
