use Rattle.std.proofs.Common.{◌≡◌, length}
use Rattle.ss_join.specs.Held.{AreHeld}
use Rattle.ss_join.proofs.Holding.{above}
use Rattle.ss_join.proofs.side.Side.forget.Given as goal

abbrev pub invariant-loop-self : goal.invariant-loop-self
invariant-loop-self l = record {
  held : AreHeld l.self-inside.rows l.self-inside.ends l.self-inside.next;
  same : above l.bound l.self-inside.rows.entries ≡ above l.bound l.initial.self-inside.rows.entries;
  next : l.self-inside.next ≡ l.initial.self-inside.next;
}

abbrev pub decreases-loop-self : goal.decreases-loop-self
decreases-loop-self l = length l.self-inside.ends.keys
