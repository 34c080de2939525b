-- How large an expression may be.
use Rattle.std.specs.Prelude.{ℕ}

-- the bytes of its text
abbrev pub most_bytes : ℕ
most_bytes = 256

-- the levels that are open at once
abbrev pub most_levels : ℕ
most_levels = 16
