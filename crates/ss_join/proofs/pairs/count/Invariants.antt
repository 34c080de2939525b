use Rattle.std.proofs.Common.{◌≡◌, ◌+◌, ◌^◌, ◌<◌, length, count_by}
use Rattle.std.specs.Map.{values_of}
use Rattle.ss_meaning.specs.Join.{matches}
use Rattle.ss_join.proofs.pairs.count.Given as goal

abbrev pub invariant-loop-other : goal.invariant-loop-other
invariant-loop-other l = record {
  count : l.count + count_by (matches l.row) (values_of l.other-iterator) ≡ count_by (matches l.row) (values_of l.initial.other-iterator);
  few : l.count + length l.other-iterator < 2 ^ 63;
}
