use Rattle.std.proofs.Common.{◌≡◌}
use Rattle.ss_events.specs.Events.{elements_from, event_list}
use Rattle.ss_events.proofs.Rows.{with_front}
use Rattle.ss_events.proofs.read.read_rows.Given as goal

abbrev pub invariant-loop-number : goal.invariant-loop-number
invariant-loop-number l = with_front l.list.items (elements_from l.late l.records l.number l.bound) ≡ event_list l.bytes l.late
