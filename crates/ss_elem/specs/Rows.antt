-- What is known of every row, and which rows are written in short.
use Rattle.std.specs.Prelude.{Bool, ◌==◌, ◌&&◌, nat_abs, FitsSigned}
use Rattle.std.specs.Int.{w64}
use Rattle.ss_elem.specs.declared.element.Event.{Event}
use Rattle.ss_elem.specs.declared.element.Element.{Element}
use Rattle.ss_elem.specs.declared.element.Element.TheVariants.{Row, Cti, End}
use Rattle.ss_elem.specs.Key.{IsKeyNumber}

-- the third and the fourth value are 0, so that the first two say all
abbrev pub has_two_values : Event → Bool
has_two_values row = nat_abs row.c == 0 && nat_abs row.d == 0

-- what the program's type of rows keeps: the key is one, and the values have 64 bits
pub record IsKeptRow (row : Event) : Type 0 where
  pub is_key : IsKeyNumber row.key
  pub a : FitsSigned w64 row.a
  pub b : FitsSigned w64 row.b
  pub c : FitsSigned w64 row.c
  pub d : FitsSigned w64 row.d

-- what its type of elements keeps
abbrev pub IsKept : Element → Type 0
IsKept (Row row) = IsKeptRow row
IsKept (Cti time) = Unit {0}
IsKept End = Unit {0}
