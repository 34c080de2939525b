-- The slots from `next` on still have what was in them, and the others have nothing.
use Rattle.std.proofs.Common.{◌≡◌, ℕ, ◌-◌, ◌<◌, false, get_or}
use Rattle.std.specs.Mem.Slots.{slots_filled, slots_len}
use Rattle.std.specs.Mem.Slots.Ownership.{Filled}
use Rattle.ss_turns.proofs.closed.Closed.drop.Given as goal

abbrev pub invariant-slots : goal.invariant-slots
invariant-slots g l = Filled (slots_filled l.slots.slots) l.next (slots_len l.slots.slots) × ((k : ℕ) → k < l.next → get_or (slots_filled l.slots.slots) k false ≡ false)

abbrev pub decreases-slots : goal.decreases-slots
decreases-slots g l = slots_len l.slots.slots - l.next
