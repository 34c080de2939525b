use Rattle.std.proofs.Common.{◌≡◌, ◌+◌, length}
use Rattle.std.specs.List.{AllByRecursion}
use Rattle.ss_meaning.specs.EntryLists.{AreInOrder}
use Rattle.ss_window.specs.Held.{HasTotal, entries_in}
use Rattle.ss_window.specs.States.{reached}
use Rattle.ss_window.proofs.panes.Panes.due.Given as goal

abbrev pub invariant-loop-end : goal.invariant-loop-end
invariant-loop-end l = record {
  due : l.count + length (reached l.low (entries_in l.end-iterator)) ≡ length (reached l.low l.self);
  all : l.count + length (entries_in l.end-iterator) ≡ length l.self;
  order : AreInOrder (entries_in l.end-iterator);
  full : AllByRecursion HasTotal l.end-iterator;
}
