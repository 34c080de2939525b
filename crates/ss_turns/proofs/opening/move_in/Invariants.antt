-- The values that are left, and then those in slots, last first, are the values at the start.
use Rattle.std.proofs.Common.{◌≡◌, ◌+◌, map, reverse, vec_len, vec_capacity, ◌++◌, Some}
use Rattle.ss_turns.proofs.opening.move_in.Given as goal

abbrev pub invariant-values : goal.invariant-values
invariant-values g l = record {
  all : map Some l.values.items ++ reverse l.slots.items ≡ map Some l.initial.values.items;
  count : vec_len l.values + vec_len l.slots ≡ vec_len l.initial.values;
  room : vec_capacity l.slots ≡ vec_capacity l.initial.slots;
  kept : vec_capacity l.values ≡ vec_capacity l.initial.values;
}

abbrev pub decreases-values : goal.decreases-values
decreases-values g l = vec_len l.values
