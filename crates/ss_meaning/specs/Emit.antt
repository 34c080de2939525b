-- What a vertex gives.
use Rattle.std.specs.Prelude.{ℕ, ◌-◌, Bool, ℤ, List, [], ◌∷◌, ◌++◌, map, filter, flat_map}
use Rattle.ss_elem.specs.declared.element.Event.{Event}
use Rattle.ss_elem.specs.declared.element.Element.{Element}
use Rattle.ss_elem.specs.declared.element.Element.TheVariants.{Row}
use Rattle.ss_meaning.specs.Bound.{row_of, rows}
use Rattle.ss_meaning.specs.Merge.{Arrival, from_input}
use Rattle.ss_meaning.specs.Low.{low, advance}
use Rattle.ss_meaning.specs.Window.{Window, window_rows}
use Rattle.ss_meaning.specs.Join.{join_rows}
use Rattle.ss_meaning.specs.Session.{SessionWindow, session_rows}
use Rattle.ss_meaning.specs.Except.{absent_row, left_alone}

-- which rows pass, and their new values
pub record Selection : Type 0 where
  pub test : Event → Bool
  pub a : Event → ℤ
  pub b : Event → ℤ
  pub c : Event → ℤ
  pub d : Event → ℤ

-- what a vertex does with what arrives
pub data Kind : Type 0 where
  Select : Selection → Kind
  Union : Kind
  Hopping : Window → Kind
  Join : Kind
  Session : SessionWindow → Kind
  Except : Kind

-- a row with the values that a select computes from it
abbrev pub revalued : Selection → Event → Event
revalued select row = record {
  start = row.start;
  end = row.end;
  key = row.key;
  a = select.a row;
  b = select.b row;
  c = select.c row;
  d = select.d row;
}

-- the rows that a vertex with so many inputs gives at x, where p arrived before
abbrev pub rows_at : Kind → ℕ → List Arrival → Arrival → List Event
rows_at (Select select) inputs p x = map (revalued select) (filter select.test (row_of x.element))
rows_at Union inputs p x = row_of x.element
rows_at (Hopping window) inputs p x =
    window_rows window (rows (from_input 0 p)) (low inputs p) (low inputs (p ++ x ∷ []))
rows_at Join inputs p x = flat_map (λ row. join_rows x.input row (rows (from_input (1 - x.input) p))) (row_of x.element)
rows_at (Session window) inputs p x =
    session_rows window (rows (from_input 0 p)) (low inputs p) (low inputs (p ++ x ∷ []))
rows_at Except inputs p x = map absent_row (left_alone p x)

-- all that it gives at x: the rows, and then how far Low rose
abbrev pub emit : Kind → ℕ → List Arrival → Arrival → List Element
emit kind inputs p x =
    map (λ row. Row row) (rows_at kind inputs p x) ++ advance (low inputs p) (low inputs (p ++ x ∷ []))

-- what a rule gives at each of these, where p arrived before them, joined
abbrev pub given_along : (List Arrival → Arrival → List Element) → List Arrival → List Arrival → List Element
given_along give p [] = []
given_along give p (x ∷ xs) = give p x ++ given_along give (p ++ x ∷ []) xs

-- the output over all that arrived
abbrev pub output : Kind → ℕ → List Arrival → List Element
output kind inputs p = given_along (emit kind inputs) [] p
