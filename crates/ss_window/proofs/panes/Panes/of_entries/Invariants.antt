use Rattle.std.proofs.Common.{◌≡◌, take}
use Rattle.ss_window.proofs.panes.Panes.of_entries.Given as goal

abbrev pub invariant-loop-entry : goal.invariant-loop-entry
invariant-loop-entry l = l.panes ≡ take l.entry-index l.entries
