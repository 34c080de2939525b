-- Keys as texts and as numbers.
use Rattle.std.specs.Prelude.{◌≡◌, ℕ, zero, suc, ◌+◌, ◌*◌, ◌^◌, Bool, true, false, ◌&&◌, not, ◌==◌, nat_lt, nat_le}
use Rattle.std.specs.Prelude.{List, [], ◌∷◌, length, take, slice_get, Option, Some, None, if◌then◌else◌}
use Rattle.std.specs.List.{list_all, take_while}
use Rattle.std.specs.Int.{w128, to_be_bytes}

-- a byte that a key may have: printable, and no space, comma or double quote
abbrev pub is_key_byte : ℕ → Bool
is_key_byte b = nat_le 0x21 b && nat_le b 0x7E && not (b == 0x2C) && not (b == 0x22)

-- 1 to 16 such bytes
abbrev pub is_key_text : List ℕ → Bool
is_key_text text = nat_lt 0 (length text) && nat_le (length text) 16 && list_all is_key_byte text

-- the text as the digits of a number of k places in base 256, padded with zeros behind
abbrev pub weight : ℕ → List ℕ → ℕ
weight zero text = 0
weight (suc k) [] = 0
weight (suc k) (b ∷ text) = b * 256 ^ k + weight k text

-- a key text's number
abbrev pub key_number : List ℕ → ℕ
key_number text = weight 16 text

abbrev pub is_not_zero : ℕ → Bool
is_not_zero b = not (b == 0)

-- the text that a number spells: its 16 bytes, up to the first zero
abbrev pub key_text : ℕ → List ℕ
key_text n = take_while is_not_zero (to_be_bytes w128 n)

-- the key with this text, where there is one
abbrev pub key_of : List ℕ → Option ℕ
key_of text = if is_key_text text then Some (key_number text) else None

-- the number of a key: that of the text that it spells
abbrev pub IsKeyNumber : ℕ → Type 0
IsKeyNumber n = key_of (key_text n) ≡ Some n

-- the byte at this place may not stand in a key, and all before it may
abbrev pub IsFirstBadByte : List ℕ → ℕ → ℕ → Type 0
IsFirstBadByte text at byte =
    (slice_get text at ≡ Some byte) × (is_key_byte byte ≡ false) × (list_all is_key_byte (take at text) ≡ true)
