use Rattle.std.proofs.Common.{◌≡◌, take}
use Rattle.ss_join.specs.Held.{AreHeld, rows_held}
use Rattle.ss_join.proofs.side.Side.of_rows.Given as goal

abbrev pub invariant-loop-number : goal.invariant-loop-number
invariant-loop-number l = record {
  held : AreHeld l.rows l.ends l.number;
  rows : rows_held l.number l.rows ≡ take l.number l.list;
}
