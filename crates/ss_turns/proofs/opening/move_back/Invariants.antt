-- The values that are left in slots, and then those moved back, last first, are the values at the start.
use Rattle.std.proofs.Common.{◌≡◌, ◌+◌, ◌≤◌, reverse, vec_len, vec_capacity, ◌++◌}
use Rattle.std.specs.List.{filter_map}
use Rattle.ss_turns.proofs.opening.move_back.Given as goal

abbrev pub invariant-slots : goal.invariant-slots
invariant-slots g l = record {
  all : filter_map (λ slot. slot) l.slots.items ++ reverse l.values.items ≡ filter_map (λ slot. slot) l.initial.slots.items;
  count : vec_len l.slots + vec_len l.values ≤ vec_len l.initial.slots;
  room : vec_capacity l.values ≡ vec_capacity l.initial.values;
}

abbrev pub decreases-slots : goal.decreases-slots
decreases-slots g l = vec_len l.slots
