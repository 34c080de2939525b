-- What a spec computes.
use Rattle.std.specs.Prelude.{◌≡◌, ℕ, ◌*◌, ◌%◌, ◌^◌, ◌≤◌, Bool, true, false, ℤ, pos, List, Option, Some, None, IfSome}
use Rattle.std.specs.Prelude.{if◌then◌else◌}
use Rattle.ss_elem.specs.declared.element.Event.{Event}
use Rattle.ss_elem.specs.declared.element.Element.{Element}
use Rattle.ss_elem.specs.declared.element.Element.TheVariants.{Row, Cti, End}
use Rattle.ss_meaning.specs.Merge.{Arrival}
use Rattle.ss_meaning.specs.Window.{total, least, greatest}
use Rattle.ss_meaning.specs.Emit.{Kind, Selection, revalued, rows_at}
use Rattle.ss_meaning.specs.Emit as meaning
use Rattle.ss_expr.specs.Kinds.{HasKind}
use Rattle.ss_expr.specs.Tree.{Tree}
use Rattle.ss_expr.specs.Values.{value_of, HasShortTimes}
use Rattle.ss_expr.specs.declared.kind.ValueKind.TheVariants as kind
use Rattle.ss_expr.specs.declared.stream_operator.Agg.{Agg}
use Rattle.ss_expr.specs.declared.stream_operator.Agg.TheVariants.{Sum, Least, Greatest}
use Rattle.ss_expr.specs.declared.stream_operator.Field.{Field}
use Rattle.ss_expr.specs.declared.stream_operator.Field.TheVariants.{A, B, C, D}
use Rattle.ss_expr.specs.declared.stream_operator.Spec.{Spec}
use Rattle.ss_expr.specs.declared.stream_operator.Spec.TheVariants.{Select, Union, Window, Join, Session, Except}
use Rattle.ss_expr.specs.declared.value.Value.{Value}
use Rattle.ss_expr.specs.declared.value.Value.TheVariants.{Num, Text, Truth}

-- the number that a value is; expressions that give none are never asked for one
abbrev pub as_number : Value → ℤ
as_number (Num n) = n
as_number (Text k) = pos 0
as_number (Truth p) = pos 0

-- the truth that a value is
abbrev pub as_truth : Value → Bool
as_truth (Num n) = false
as_truth (Text k) = false
as_truth (Truth p) = p

-- whether a row passes a test; without a test every row does
abbrev pub passes : Option Tree → Event → Bool
passes None row = true
passes (Some test) row = as_truth (value_of test row)

abbrev pub aggregate_of : Agg → List ℤ → ℤ
aggregate_of Sum = total
aggregate_of Least = least
aggregate_of Greatest = greatest

abbrev pub field_of : Field → Event → ℤ
field_of A row = row.a
field_of B row = row.b
field_of C row = row.c
field_of D row = row.d

-- what a select with these expressions does: all four new values are computed from the old ones
abbrev pub selection_of : Option Tree → Tree → Tree → Tree → Tree → Selection
selection_of test a b c d = record {
  test = passes test;
  a = λ row. as_number (value_of a row);
  b = λ row. as_number (value_of b row);
  c = λ row. as_number (value_of c row);
  d = λ row. as_number (value_of d row);
}

-- the row that such a select gives for a row, where it gives one
abbrev pub selected : Option Tree → Tree → Tree → Tree → Tree → Event → Option Event
selected test a b c d row = if passes test row then Some (revalued (selection_of test a b c d) row) else None

-- the operator that a spec says: a select by the values of its expressions, a window and a session by their aggregate
-- and their field
abbrev pub operator_of : Spec → Kind
operator_of (Select test a b c d) = meaning.Select (selection_of test a b c d)
operator_of Union = meaning.Union
operator_of (Window size hop agg of) =
    meaning.Hopping (record { size = size; hop = hop; aggregate = aggregate_of agg; field = field_of of })
operator_of Join = meaning.Join
operator_of (Session gap agg of) =
    meaning.Session (record { gap = gap; aggregate = aggregate_of agg; field = field_of of })
operator_of Except = meaning.Except

-- the hop of a window is 1 to 2^40, and its size is 1 to 64 whole hops
pub record HasWholeHops (size hop : ℕ) : Type 0 where
  pub least_hop : 1 ≤ hop
  pub most_hop : hop ≤ 2 ^ 40
  pub least_size : hop ≤ size
  pub most_size : size ≤ 64 * hop
  pub whole : size % hop ≡ 0

-- the gap of a session is 1 to 2^40
pub record HasGap (gap : ℕ) : Type 0 where
  pub least : 1 ≤ gap
  pub most : gap ≤ 2 ^ 40

-- the test of a select, where there is one, is a truth
abbrev pub IsTest : Option Tree → Type 0
IsTest test = IfSome test (λ e. HasKind e kind.Truth)

-- a spec can be computed: a select's expressions are of the right kinds, a window has whole hops, and a session a gap
-- that is neither none nor too long
abbrev pub IsComputable : Spec → Type 0
IsComputable (Select test a b c d) =
    IsTest test × HasKind a kind.Num × HasKind b kind.Num × HasKind c kind.Num × HasKind d kind.Num
IsComputable Union = Unit {0}
IsComputable (Window size hop agg of) = HasWholeHops size hop
IsComputable Join = Unit {0}
IsComputable (Session gap agg of) = HasGap gap
IsComputable Except = Unit {0}

-- a select and a union give at each element what it alone says
abbrev pub is_row_by_row : Spec → Bool
is_row_by_row (Select test a b c d) = true
is_row_by_row Union = true
is_row_by_row (Window size hop agg of) = false
is_row_by_row Join = false
is_row_by_row (Session gap agg of) = false
is_row_by_row Except = false

-- these are the rows that the operator gives where x arrives, whatever arrived before
abbrev pub AreRowsAt : Spec → Element → List Event → Type 0
AreRowsAt spec x rows =
    (inputs input : ℕ) (p : List Arrival)
    → rows ≡ rows_at (operator_of spec) inputs p (record { input = input; element = x })

-- a row's times are also numbers of an expression
abbrev pub HasShortRow : Element → Type 0
HasShortRow (Row row) = HasShortTimes row
HasShortRow (Cti time) = Unit {0}
HasShortRow End = Unit {0}
