use Rattle.std.proofs.Common.{◌≡◌, ◌+◌, ◌-◌, ◌*◌, drop, None}
use Rattle.ss_window.specs.ImageTests.{entries_read, last}
use Rattle.ss_window.proofs.EntryReads.{with_front}
use Rattle.ss_window.proofs.image_reader.read_entries.Given as goal

abbrev pub invariant-loop-number : goal.invariant-loop-number
invariant-loop-number l =
    with_front l.entries.items
    (entries_read l.hop l.agg l.low (l.count - l.number) (4 + 48 * l.number) (last l.entries.items) (drop (48 * l.number) l.bytes))
    ≡ entries_read l.hop l.agg l.low l.count 4 None l.bytes
