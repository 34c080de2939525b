-- The pass holds nothing between two rounds.
use Rattle.std.proofs.Common.{◌≡◌, ◌≤◌, [], Some}
use Rattle.ss_turns.specs.Values.{IsPassOf}
use Rattle.tests_outside.proofs.turns.count_up.Given as goal

abbrev pub invariant-loop-round : goal.invariant-loop-round
invariant-loop-round l = record {
  pass : IsPassOf l.turns l.pass;
  free : l.pass.view.has ≡ [];
  plan : l.pass.view.plan ≡ Some tt;
  counted : l.counted ≤ l.round;
}
