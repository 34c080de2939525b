-- Counts of faults and of calls, which stay at the greatest number of 64 bits.
use Rattle.std.specs.Prelude.{ℕ, ◌+◌, ◌-◌, ◌^◌, ◌≤◌, min, Result, is_ok, if◌then◌else◌}

-- the count after one more
abbrev pub next_count : ℕ → ℕ
next_count count = min (count + 1) (2 ^ 64 - 1)

-- the count rose, or stands at its end
abbrev pub Rose : ℕ → ℕ → Type 0
Rose old new = next_count old ≤ new

-- the count after an answer, where each error raises it by one
abbrev pub counted : {E : Type 0} → Result (Unit {0}) E → ℕ → ℕ
counted answer count = if is_ok answer then count else next_count count
