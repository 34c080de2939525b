-- The record of an element: its bytes, and which elements have one.
use Rattle.std.specs.Prelude.{ℕ, List, [], ◌∷◌, ◌++◌, ◌-◌, length, replicate, IsSome, if◌then◌else◌}
use Rattle.std.specs.Int.{w32, w64}
use Rattle.sha2.specs.Sha256.{sha256}
use Rattle.ss_elem.specs.declared.element.Event.{Event}
use Rattle.ss_elem.specs.declared.element.Element.{Element}
use Rattle.ss_elem.specs.declared.element.Element.TheVariants.{Row, Cti, End}
use Rattle.ss_elem.specs.Key.{key_text}
use Rattle.ss_elem.specs.Rows.{has_two_values, IsKept}
use Rattle.ss_elem.specs.Validity.{next_bound}
use Rattle.ss_codec.specs.Numbers.{number_bytes, signed_bytes}

-- bytes, and the digest of them
abbrev pub sealed : List ℕ → List ℕ
sealed bytes = bytes ++ sha256 bytes

-- a key's bytes, and zeros up to 16
unfoldable pub key_bytes : ℕ → List ℕ
key_bytes key = key_text key ++ replicate (16 - length (key_text key)) 0

abbrev pub row_bytes : Event → List ℕ
row_bytes row =
    number_bytes w64 row.start ++ number_bytes w64 row.end ++ key_bytes row.key
    ++ signed_bytes row.a ++ signed_bytes row.b

-- the third and the fourth value, unless both are 0
abbrev pub last_bytes : Event → List ℕ
last_bytes row = if has_two_values row then [] else signed_bytes row.c ++ signed_bytes row.d

-- form 2 is that of the rows whose third or fourth value isn't 0
abbrev pub form_number : Element → ℕ
form_number (Row row) = if has_two_values row then 1 else 2
form_number (Cti time) = 1
form_number End = 1

abbrev pub kind_number : Element → ℕ
kind_number (Row row) = 0
kind_number (Cti time) = 1
kind_number End = 2

abbrev pub element_bytes : Element → List ℕ
element_bytes (Row row) = row_bytes row ++ last_bytes row
element_bytes (Cti time) = number_bytes w64 time
element_bytes End = []

-- a record without its digest
abbrev pub record_front : ℕ → ℕ → Element → List ℕ
record_front v n x = form_number x ∷ kind_number x ∷ number_bytes w32 v ++ number_bytes w64 n ++ element_bytes x

-- the record of the element that has number n in the stream of vertex v
unfoldable pub record_bytes : ℕ → ℕ → Element → List ℕ
record_bytes v n x = sealed (record_front v n x)

-- what has a record: what may stand first in a stream
pub record HasRecord (x : Element) : Type 0 where
  pub first : IsSome (next_bound 0 x)
  pub kept : IsKept x
