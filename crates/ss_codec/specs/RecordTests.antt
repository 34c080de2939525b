-- What bytes say as a record, and the order in which they are tested.
use Rattle.std.specs.Prelude.{ℕ, pos, Bool, List, [], ◌∷◌, ◌++◌, ◌&&◌, ◌||◌, not, nat_lt, ◌==◌, bytes_eq, take, drop}
use Rattle.std.specs.Prelude.{slice_index, Option, Some, None, is_some, unwrap_or, Result, Ok, Err, if◌then◌else◌}
use Rattle.std.specs.Option.{option_and_then, option_map_or}
use Rattle.std.specs.List.{take_while}
use Rattle.std.specs.Int.{w64}
use Rattle.ss_elem.specs.declared.element.Event.{Event}
use Rattle.ss_elem.specs.declared.element.Element.{Element}
use Rattle.ss_elem.specs.declared.element.Element.TheVariants.{Row, Cti, End}
use Rattle.ss_elem.specs.Key.{is_not_zero, key_of}
use Rattle.ss_elem.specs.Rows.{has_two_values}
use Rattle.ss_elem.specs.Validity.{top}
use Rattle.ss_codec.specs.declared.fault.CodecFault.{CodecFault}
use Rattle.ss_codec.specs.Numbers.{number_at, signed_at}
use Rattle.ss_codec.specs.Record.{key_bytes}
use Rattle.ss_codec.specs.Tests.{Test, first_fault, has_bytes, has_tag, has_value, name_tests, seal_tests}

-- the key whose bytes, with zeros behind, are these 16
unfoldable pub key_in : List ℕ → Option ℕ
key_in bytes =
    option_and_then (λ key. if bytes_eq (key_bytes key) bytes then Some key else None)
    (key_of (take_while is_not_zero bytes))

-- the key in the 16 bytes from this place on
abbrev pub key_at : ℕ → List ℕ → Option ℕ
key_at place bytes = key_in (take 16 (drop place bytes))

-- what a record says, by its form and its kind
pub data Shape : Type 0 where
  TwoValues : Shape
  FourValues : Shape
  Time : Shape
  TheEnd : Shape

-- the shape of this form and this kind
abbrev pub shape_of : ℕ → ℕ → Shape
shape_of form kind =
    if form == 2 then FourValues else (if kind == 0 then TwoValues else (if kind == 1 then Time else TheEnd))

-- the row that the bytes say with two values
abbrev pub row_at : List ℕ → Event
row_at bytes = record {
  start = number_at w64 14 bytes;
  end = number_at w64 22 bytes;
  key = unwrap_or (key_at 30 bytes) 0;
  a = signed_at 46 bytes;
  b = signed_at 54 bytes;
  c = pos 0;
  d = pos 0;
}

-- and with four
abbrev pub long_row_at : List ℕ → Event
long_row_at bytes = record {
  start = number_at w64 14 bytes;
  end = number_at w64 22 bytes;
  key = unwrap_or (key_at 30 bytes) 0;
  a = signed_at 46 bytes;
  b = signed_at 54 bytes;
  c = signed_at 62 bytes;
  d = signed_at 70 bytes;
}

-- the element of this shape that the bytes say
unfoldable pub element_at : Shape → List ℕ → Element
element_at TwoValues bytes = Row (row_at bytes)
element_at FourValues bytes = Row (long_row_at bytes)
element_at Time bytes = Cti (number_at w64 14 bytes)
element_at TheEnd bytes = End

-- how many bytes a record of this shape has
abbrev pub record_len : Shape → ℕ
record_len TwoValues = 94
record_len FourValues = 110
record_len Time = 54
record_len TheEnd = 46

-- the tests of a row's span and of its key
abbrev pub row_tests : List ℕ → List Test
row_tests bytes =
    has_value 14 (nat_lt (number_at w64 14 bytes) (number_at w64 22 bytes) && nat_lt (number_at w64 22 bytes) top)
    ∷ has_value 30 (is_some (key_at 30 bytes)) ∷ []

unfoldable pub value_tests : Shape → List ℕ → List Test
value_tests TwoValues bytes = row_tests bytes
value_tests FourValues bytes = row_tests bytes ++ has_value 62 (not (has_two_values (long_row_at bytes))) ∷ []
value_tests Time bytes = has_value 14 (nat_lt 0 (number_at w64 14 bytes) && nat_lt (number_at w64 14 bytes) top) ∷ []
value_tests TheEnd bytes = []

-- a record of this form may be of this kind: of the second form are rows alone
abbrev pub is_kind_of : ℕ → ℕ → Bool
is_kind_of form kind = if form == 2 then kind == 0 else nat_lt kind 3

-- form and kind
abbrev pub tag_tests : ℕ → ℕ → List Test
tag_tests form kind = has_tag 0 (form == 1 || form == 2) ∷ has_tag 1 (is_kind_of form kind) ∷ []

-- the tests of the bytes as a record for v and n of this shape
abbrev pub record_tests : Shape → ℕ → ℕ → List ℕ → List Test
record_tests shape v n bytes =
    has_bytes 2 bytes ∷ tag_tests (slice_index bytes 0) (slice_index bytes 1)
    ++ seal_tests (record_len shape) bytes ++ name_tests v n bytes ++ value_tests shape bytes

-- what the bytes say as a record for v and n: the first fault, or the element
unfoldable pub record_read : ℕ → ℕ → List ℕ → Result Element CodecFault
record_read v n bytes = let shape = shape_of (slice_index bytes 0) (slice_index bytes 1) in
    option_map_or (λ fault. Err fault) (first_fault (record_tests shape v n bytes)) (Ok (element_at shape bytes))
