-- Seat and slots held turn together, and the slot sought comes nearer.
use Rattle.std.proofs.Common.{◌≡◌, ℕ, eqb}
use Rattle.std.specs.List.{position_or_len}
use Rattle.std.specs.VecDeque.{deque_capacity}
use Rattle.ss_turns.specs.View.{times}
use Rattle.ss_turns.specs.Fits.{emptied}
use Rattle.ss_turns.proofs.pass.bring.Given as goal

abbrev pub invariant-turns : goal.invariant-turns
invariant-turns g l = record {
  table : l.seat.table_id ≡ l.initial.seat.table_id;
  id : l.seat.id ≡ l.initial.seat.id;
  view : l.seat.me.0 ≡ l.initial.seat.me.0;
  order : l.seat.me.1 ≡ emptied l.held.items;
  same : (k : ℕ) → times k l.held.items ≡ times k l.initial.held.items;
  room : deque_capacity l.held ≡ deque_capacity l.initial.held;
}

abbrev pub decreases-turns : goal.decreases-turns
decreases-turns g l = position_or_len (λ x. eqb x l.slot) l.held.items
