-- Tests of bytes, in an order.
use Rattle.std.specs.Prelude.{ℕ, List, [], ◌∷◌, ◌-◌, Bool, nat_le, ◌==◌, bytes_eq, length, take, drop, Option, Some}
use Rattle.std.specs.Prelude.{None, if◌then◌else◌}
use Rattle.std.specs.Int.{w32, w64}
use Rattle.sha2.specs.Sha256.{sha256}
use Rattle.ss_codec.specs.declared.fault.CodecFault.{CodecFault}
use Rattle.ss_codec.specs.declared.fault.CodecFault.TheVariants.{Short, BadTag, Extra, BadDigest, BadValue}
use Rattle.ss_codec.specs.Numbers.{number_at}

-- a test, and what is wrong where it isn't passed
pub record Test : Type 0 where
  pub passed : Bool
  pub fault : CodecFault

-- what the first test says that isn't passed
abbrev pub first_fault : List Test → Option CodecFault
first_fault [] = None
first_fault (test ∷ tests) = if test.passed then first_fault tests else Some test.fault

-- there are at least so many bytes
abbrev pub has_bytes : ℕ → List ℕ → Test
has_bytes want bytes = record { passed = nat_le want (length bytes); fault = Short (length bytes) want }

-- there are no more bytes
abbrev pub has_no_more : ℕ → List ℕ → Test
has_no_more len bytes = record { passed = nat_le (length bytes) len; fault = Extra len }

-- the last 32 of so many bytes are the digest of those before them
abbrev pub has_digest : ℕ → List ℕ → Test
has_digest len bytes = let kept = drop (len - 32) bytes in let found = sha256 (take (len - 32) bytes) in
    record { passed = bytes_eq kept found; fault = BadDigest kept found }

-- the bytes are so many, and sealed
abbrev pub seal_tests : ℕ → List ℕ → List Test
seal_tests len bytes = has_bytes len bytes ∷ has_no_more len bytes ∷ has_digest len bytes ∷ []

-- the byte at this place passes
abbrev pub has_tag : ℕ → Bool → Test
has_tag place passed = record { passed = passed; fault = BadTag place }

-- what stands at this place passes
abbrev pub has_value : ℕ → Bool → Test
has_value place passed = record { passed = passed; fault = BadValue place }

-- the bytes are of this vertex and number
abbrev pub name_tests : ℕ → ℕ → List ℕ → List Test
name_tests v n bytes = has_value 2 (number_at w32 2 bytes == v) ∷ has_value 6 (number_at w64 6 bytes == n) ∷ []
