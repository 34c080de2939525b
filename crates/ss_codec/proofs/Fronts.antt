-- Records without their digests: of a row with two values, of one with four, and how long each is.
use Rattle.std.proofs.Common.{◌≡◌, ℕ, ◌+◌, ◌≤◌, Bool, true, false, cond, List, [], ◌∷◌, ◌++◌, length, ap, ◌∙◌, arith}
use Rattle.std.specs.Int.{w32, w64, cast_unsigned}
use Rattle.std.proofs.lemmas.List.{append-nil, length-append}
use Rattle.ss_elem.specs.Rows.{has_two_values}
use Rattle.ss_elem.specs.declared.element.Event.{Event}
use Rattle.ss_elem.specs.declared.element.Element.{Element}
use Rattle.ss_elem.specs.declared.element.Element.TheVariants.{Row, Cti, End}
use Rattle.ss_codec.specs.Numbers.{number_bytes, signed_bytes}
use Rattle.ss_codec.specs.OldRecords.{old_front}
use Rattle.ss_codec.specs.Record.{form_number, kind_number, record_front, row_bytes}
use Rattle.ss_codec.specs.RecordTests.{Shape, TwoValues, FourValues, Time, TheEnd, record_len, shape_of}
use Rattle.ss_codec.proofs.Bytes.{length-number_bytes, wide32, wide64}
use Rattle.ss_codec.proofs.Keys.{length-key_bytes}

-- a row's front, by whether it has two values
abbrev pub front_by : ℕ → ℕ → Event → Bool → List ℕ
front_by v n row two =
    cond two 1 2 ∷ 0 ∷ number_bytes w32 v ++ number_bytes w64 n
    ++ (row_bytes row ++ cond two [] (signed_bytes row.c ++ signed_bytes row.d))

abbrev pub long_front : ℕ → ℕ → Event → List ℕ
long_front v n row = 2 ∷ 0 ∷ number_bytes w32 v ++ number_bytes w64 n ++ (row_bytes row ++ (signed_bytes row.c ++ signed_bytes row.d))

pub two_front : (v n : ℕ) (row : Event) → has_two_values row ≡ true → record_front v n (Row row) ≡ old_front v n (Row row)
two_front v n row h =
    ap (front_by v n row) h ∙ ap (λ (t : List ℕ). 1 ∷ 0 ∷ (number_bytes w32 v ++ number_bytes w64 n ++ t)) (append-nil (row_bytes row))

pub four_front : (v n : ℕ) (row : Event) → has_two_values row ≡ false → record_front v n (Row row) ≡ long_front v n row
four_front v n row h = ap (front_by v n row) h

-- ---- lengths

pub length-row_bytes : (row : Event) → length (row_bytes row) ≡ 48
length-row_bytes row = simp length-append (omega (arith, length-number_bytes w64 wide64, length-key_bytes row.key))

pub length-old_front : (v n : ℕ) (row : Event) → length (old_front v n (Row row)) ≡ 62
length-old_front v n row =
    omega (
      arith,
      length-append (number_bytes w32 v ++ number_bytes w64 n) (row_bytes row),
      length-append (number_bytes w32 v) (number_bytes w64 n),
      length-number_bytes w32 wide32 v,
      length-number_bytes w64 wide64 n,
      length-row_bytes row,
    )

pub length-long_front : (v n : ℕ) (row : Event) → length (long_front v n row) ≡ 78
length-long_front v n row =
    omega (
      arith,
      length-append (number_bytes w32 v ++ number_bytes w64 n) (row_bytes row ++ (signed_bytes row.c ++ signed_bytes row.d)),
      length-append (number_bytes w32 v) (number_bytes w64 n),
      length-append (row_bytes row) (signed_bytes row.c ++ signed_bytes row.d),
      length-append (signed_bytes row.c) (signed_bytes row.d),
      length-number_bytes w32 wide32 v,
      length-number_bytes w64 wide64 n,
      length-row_bytes row,
      length-number_bytes w64 wide64 (cast_unsigned w64 row.c),
      length-number_bytes w64 wide64 (cast_unsigned w64 row.d),
    )

length-row_front : (v n : ℕ) (row : Event) (two : Bool) → length (front_by v n row two) + 32 ≡ record_len (shape_of (cond two 1 2) 0)
length-row_front v n row true =
    omega (arith, ap length (ap (λ (t : List ℕ). 1 ∷ 0 ∷ (number_bytes w32 v ++ number_bytes w64 n ++ t)) (append-nil (row_bytes row))), length-old_front v n row)
length-row_front v n row false = omega (arith, length-long_front v n row)

-- the shape of an element's record
abbrev pub shape : Element → Shape
shape x = shape_of (form_number x) (kind_number x)

pub length-front : (v n : ℕ) (x : Element) → length (record_front v n x) + 32 ≡ record_len (shape x)
length-front v n (Row row) = length-row_front v n row (has_two_values row)
length-front v n (Cti time) = simp length-append (omega (arith, length-number_bytes w32 wide32 v, length-number_bytes w64 wide64 n, length-number_bytes w64 wide64 time))
length-front v n End = simp length-append (omega (arith, length-number_bytes w32 wide32 v, length-number_bytes w64 wide64 n))

pub record_len-le : (s : Shape) → record_len s ≤ 110
record_len-le TwoValues = omega arith
record_len-le FourValues = omega arith
record_len-le Time = omega arith
record_len-le TheEnd = omega arith
