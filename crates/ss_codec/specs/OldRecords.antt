-- Records as they were written when rows had two values.
use Rattle.std.specs.Prelude.{◌≡◌, ℕ, true, List, ◌∷◌, ◌++◌}
use Rattle.std.specs.Int.{w32, w64}
use Rattle.ss_elem.specs.declared.element.Element.{Element}
use Rattle.ss_elem.specs.declared.element.Element.TheVariants.{Row, Cti, End}
use Rattle.ss_elem.specs.Rows.{has_two_values}
use Rattle.ss_codec.specs.Numbers.{number_bytes}
use Rattle.ss_codec.specs.Record.{row_bytes, sealed}

-- form 1 and the kind; of a row the times, the key and two values
abbrev pub old_front : ℕ → ℕ → Element → List ℕ
old_front v n (Row row) = 1 ∷ 0 ∷ number_bytes w32 v ++ number_bytes w64 n ++ row_bytes row
old_front v n (Cti time) = 1 ∷ 1 ∷ number_bytes w32 v ++ number_bytes w64 n ++ number_bytes w64 time
old_front v n End = 1 ∷ 2 ∷ number_bytes w32 v ++ number_bytes w64 n

abbrev pub old_record : ℕ → ℕ → Element → List ℕ
old_record v n x = sealed (old_front v n x)

-- what such a record could say: a row with two values, a time, or the end
abbrev pub IsOld : Element → Type 0
IsOld (Row row) = has_two_values row ≡ true
IsOld (Cti time) = Unit {0}
IsOld End = Unit {0}
