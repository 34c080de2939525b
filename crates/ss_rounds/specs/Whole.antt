-- When there is nothing left to do at a vertex, a stream is stored to its end, and a sink has taken all.
use Rattle.std.specs.Prelude.{◌≡◌, ℕ, ◌+◌, ◌<◌, ◌≤◌, nat_lt, nat_le, Bool, true, false, not, ◌&&◌, ◌||◌}
use Rattle.std.specs.Prelude.{Option, Some, None}
use Rattle.ss_fail.specs.declared.outcome.Outcome.{Outcome}
use Rattle.ss_fail.specs.declared.outcome.Outcome.TheVariants as outcome
use Rattle.ss_state.specs.Numbers.{VertexNumbers, JobNumbers, IsStream, IsSink, vertex, input, mlen, size}
use Rattle.ss_state.specs.State.{TailNumbers, InstNumbers, State, tail_at, inst_at, durable_at, next}
use Rattle.ss_state.specs.Tails.{batch_from}
use Rattle.ss_state.specs.Rule.{snap_due, last_snap}

-- What came of an act.

-- a read that found its element not there yet
abbrev pub is_wait : Outcome → Bool
is_wait (outcome.Wait i n) = true
is_wait o = false

-- a take that put a line
abbrev pub is_took : Outcome → Bool
is_took (outcome.Took n) = true
is_took o = false

-- a flush that wasn't made, since a pass must be made first
abbrev pub is_pass_due : Outcome → Bool
is_pass_due (outcome.PassDue since) = true
is_pass_due o = false

-- What there is to do at a vertex that gives a stream.

-- elements of the tail are still to be stored, as far as it knows
abbrev pub has_batch : TailNumbers → Bool
has_batch tail = nat_lt (batch_from tail) tail.end

-- as many of them as one flush stores
abbrev pub has_full_batch : TailNumbers → Bool
has_full_batch tail = nat_le (batch_from tail + 64) tail.end

-- a replica has accepted all its elements and written what it made of them
abbrev pub is_at_end : VertexNumbers → Option InstNumbers → Bool
is_at_end x None = false
is_at_end x (Some up) = not (nat_lt 0 up.left) && nat_le (mlen x) up.n

-- the number of the next element that it writes, 0 where it is down
abbrev pub next_of : VertexNumbers → Option InstNumbers → ℕ
next_of x None = 0
next_of x (Some up) = next x up

-- how many elements it has accepted, 0 where it is down
abbrev pub accepted_of : Option InstNumbers → ℕ
accepted_of None = 0
accepted_of (Some up) = up.n

-- nothing is left to do for it: its stream is in the tail to the end, and no snapshot is due
abbrev pub is_idle : VertexNumbers → Option InstNumbers → TailNumbers → ℕ → Bool
is_idle x inst tail last =
    is_at_end x inst && not (snap_due x (accepted_of inst) last) && nat_le (next_of x inst) tail.end

-- its stream is stored to the end
abbrev pub is_stored_whole : VertexNumbers → Option InstNumbers → ℕ → Bool
is_stored_whole x inst dur = is_at_end x inst && nat_le (next_of x inst) dur

-- nothing is left to do for the first replica of v
abbrev pub is_idle_at : JobNumbers → State → ℕ → Bool
is_idle_at job s v = is_idle (vertex job v) (inst_at s v 0) (tail_at s v) (last_snap (durable_at s v).snaps)

-- it has nothing to do, or nothing that need be done: it is idle, or its stream is stored to the end, or a full batch
-- is to be stored first
abbrev pub is_over : JobNumbers → State → ℕ → Bool
is_over job s v =
    is_idle_at job s v || is_stored_whole (vertex job v) (inst_at s v 0) (durable_at s v).dur
    || has_full_batch (tail_at s v)

-- When a job is at its end.

-- stream v is stored to its end
abbrev pub IsWhole : JobNumbers → State → ℕ → Type 0
IsWhole job s v = size (vertex job v) ≤ (durable_at s v).dur

-- so is each stream that is declared before v
abbrev pub WholeBelow : JobNumbers → State → ℕ → Type 0
WholeBelow job s v = (u : ℕ) → u < v → IsStream job u → IsWhole job s u

-- sink k has put all lines of its stream
abbrev pub IsTaken : JobNumbers → State → ℕ → Type 0
IsTaken job s k = size (vertex job (input (vertex job k) 0)) ≤ (durable_at s k).taken

-- so has each sink that is declared before k
abbrev pub TakenBelow : JobNumbers → State → ℕ → Type 0
TakenBelow job s k = (j : ℕ) → j < k → IsSink job j → IsTaken job s j

-- What failures leave of s: each tail has counted as many writes, and was told of as many stored elements, as before,
-- and as much is durable.
pub record LeftByFailures (s t : State) : Type 0 where
  pub stored : (u : ℕ) → (tail_at t u).stored ≡ (tail_at s u).stored
  pub seen : (u : ℕ) → (tail_at t u).seen ≡ (tail_at s u).seen
  pub row : (u : ℕ) → durable_at t u ≡ durable_at s u
