-- What becomes of a tail.
use Rattle.std.specs.Prelude.{ℕ, ◌+◌, ◌-◌, ◌^◌, min, max, true}
use Rattle.ss_state.specs.State.{TailNumbers}

-- a tail with one element more
abbrev pub appended : TailNumbers → TailNumbers
appended tail = record tail { end = tail.end + 1; stored = min (tail.stored + 1) (2 ^ 64 - 1) }

-- a tail that is told that so many elements are stored
abbrev pub told : TailNumbers → ℕ → TailNumbers
told tail dur = record tail { seen = max tail.seen dur }

-- a tail without its elements below this number
abbrev pub dropped_below : TailNumbers → ℕ → TailNumbers
dropped_below tail n = record tail { from = max tail.from (min n tail.end) }

-- a tail that holds nothing and goes on with this number
abbrev pub restarted : TailNumbers → ℕ → TailNumbers
restarted tail n = record tail { from = n; end = n; seen = n; torn = true }

-- a batch is what is to be stored next: the number of its first element
abbrev pub batch_from : TailNumbers → ℕ
batch_from tail = max tail.seen tail.from

-- and how many elements it has, where at most so many are asked for
abbrev pub batch_len : TailNumbers → ℕ → ℕ
batch_len tail most = min most (tail.end - batch_from tail)
