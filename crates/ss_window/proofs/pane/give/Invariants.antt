use Rattle.std.proofs.Common.{◌≡◌, ◌+◌, ◌≤◌, ◌++◌, length}
use Rattle.ss_window.specs.Held.{entries_at}
use Rattle.ss_window.specs.States.{rows_of_entries}
use Rattle.ss_window.proofs.pane.give.Given as goal

abbrev pub invariant-loop-key : goal.invariant-loop-key
invariant-loop-key l = record {
  given : l.out.elements ++ rows_of_entries l.hop (entries_at l.end l.key-iterator)
      ≡ l.initial.out.elements ++ rows_of_entries l.hop (entries_at l.end l.pane.entries);
  room : length l.key-iterator ≤ l.out.spare;
  spare : l.out.spare + length l.pane.entries ≡ l.initial.out.spare + length l.key-iterator;
}
