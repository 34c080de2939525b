use Rattle.std.proofs.Common.{◌≡◌, ◌+◌, ◌^◌, ◌<◌, nat_le, length, count_by}
use Rattle.ss_elem.specs.declared.element.Event.{Event}
use Rattle.ss_join.proofs.side.Side.count_ended.Given as goal

abbrev pub invariant-loop-row : goal.invariant-loop-row
invariant-loop-row l = record {
  count : l.count + count_by (λ (row : Event). nat_le row.end l.bound) l.row-iterator ≡ count_by (λ (row : Event). nat_le row.end l.bound) l.initial.row-iterator;
  few : l.count + length l.row-iterator < 2 ^ 63;
}
