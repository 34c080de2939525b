-- Numbers and keys in bytes, and where they stand.
use Rattle.std.specs.Prelude.{ℕ, ◌-◌, ◌<◌, if◌then◌else◌, List, ◌++◌, length, drop, slice_index, replicate, bytes_eq}
use Rattle.std.specs.Prelude.{Option, Some, None}
use Rattle.std.specs.List.{take_while}
use Rattle.std.specs.Option.{option_and_then}
use Rattle.byteorder.specs.Endian.{big_bytes, big_number}
use Rattle.ss_elem.specs.Key.{is_not_zero, key_of, key_text}

-- each of these numbers is a byte
abbrev pub AreBytes : List ℕ → Type 0
AreBytes bytes = (i : ℕ) → slice_index bytes i < 256

-- a number in so many bytes, the highest first
unfoldable pub number_bytes : ℕ → ℕ → List ℕ
number_bytes len n = big_bytes len n

-- the number in the so many bytes from a place on
unfoldable pub number_at : ℕ → ℕ → List ℕ → ℕ
number_at len place bytes = big_number len (drop place bytes)

-- a key's bytes, and zeros up to 16
unfoldable pub key_bytes : ℕ → List ℕ
key_bytes key = key_text key ++ replicate (16 - length (key_text key)) 0

-- the key whose bytes, with zeros behind, are these 16
unfoldable pub key_in : List ℕ → Option ℕ
key_in bytes =
    option_and_then (λ key. if bytes_eq (key_bytes key) bytes then Some key else None)
    (key_of (take_while is_not_zero bytes))
