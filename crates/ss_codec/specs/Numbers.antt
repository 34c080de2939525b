-- Numbers in bytes, the highest byte first, and where they stand.
use Rattle.std.specs.Prelude.{ℕ, ℤ, List, drop}
use Rattle.std.specs.Int.{Width, w64, cast_signed, cast_unsigned, from_be_bytes, to_be_bytes}

-- a number of this width
unfoldable pub number_bytes : Width → ℕ → List ℕ
number_bytes w n = to_be_bytes w n

-- a signed number of 64 bits, as two's complement
abbrev pub signed_bytes : ℤ → List ℕ
signed_bytes z = number_bytes w64 (cast_unsigned w64 z)

-- the number of this width that begins at a place
unfoldable pub number_at : Width → ℕ → List ℕ → ℕ
number_at w place bytes = from_be_bytes w (drop place bytes)

abbrev pub signed_at : ℕ → List ℕ → ℤ
signed_at place bytes = cast_signed w64 (number_at w64 place bytes)
