use Rattle.std.proofs.Common.{◌≡◌, ◌≤◌, length}
use Rattle.ss_join.specs.Held.{AreHeld, matched, numbered}
use Rattle.ss_join.proofs.Numbers.{Rises}
use Rattle.ss_join.proofs.Matched.{lonely}
use Rattle.ss_join.proofs.side.Side.remove_matches.Given as goal

abbrev pub invariant-loop-found : goal.invariant-loop-found
invariant-loop-found l = record {
  held : AreHeld l.self-inside.rows l.self-inside.ends l.self-inside.next;
  same : lonely l.row l.self-inside.rows.entries ≡ lonely l.row l.initial.self-inside.rows.entries;
  behind : Rises l.from (numbered (matched l.row l.self-inside.rows.entries));
  within : l.from ≤ l.self-inside.next;
  next : l.self-inside.next ≡ l.initial.self-inside.next;
}

abbrev pub decreases-loop-found : goal.decreases-loop-found
decreases-loop-found l = length l.self-inside.rows.entries
