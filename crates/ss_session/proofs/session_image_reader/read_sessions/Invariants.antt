use Rattle.std.proofs.Common.{◌≡◌, ◌+◌, ◌-◌, ◌*◌, drop, None}
use Rattle.ss_session.specs.SessionHeld.{last_of}
use Rattle.ss_session.specs.ImageTests.{sessions_read}
use Rattle.ss_session.proofs.SessionReads.{with_front}
use Rattle.ss_session.proofs.session_image_reader.read_sessions.Given as goal

abbrev pub invariant-loop-number : goal.invariant-loop-number
invariant-loop-number l =
    with_front l.entries.items
    (sessions_read l.gap l.agg l.low (l.count - l.number) (4 + 56 * l.number) (last_of l.entries.items) (drop (56 * l.number) l.bytes))
    ≡ sessions_read l.gap l.agg l.low l.count 4 None l.bytes
