-- What a join is at a moment.
use Rattle.std.specs.Prelude.{◌≡◌, ℕ, ◌==◌, if◌then◌else◌, List, [], ◌∷◌, ◌++◌, length, map, slice_index, nat_eq, Some}
use Rattle.std.specs.Set.{distinct_count}
use Rattle.ss_elem.specs.Validity.{next_bound}
use Rattle.ss_elem.specs.declared.element.Event.{Event}
use Rattle.ss_elem.specs.declared.element.Element.{Element}
use Rattle.ss_elem.specs.declared.element.Element.TheVariants.{Row}
use Rattle.ss_meaning.specs.Bound.{bound}
use Rattle.ss_meaning.specs.Merge.{Arrival, from_input}
use Rattle.ss_meaning.specs.Join.{join_rows}
use Rattle.ss_meaning.specs.Emit.{Kind, Join, rows_at}
use Rattle.ss_meaning.specs.Entries.{JoinRows, rows_ending_above, entries_after}

-- the rows that are remembered of the left and of the right input
pub record Sides : Type 0 where
  pub left : List Event
  pub right : List Event

-- these sides are what an operator of this kind, a join or a join by absence, has to remember after p
abbrev pub StandsAs : Kind → Sides → List Arrival → Type 0
StandsAs kind sides p = JoinRows sides.left sides.right ≡ entries_after kind 2 p

-- the join remembers what its operator has to remember after p
abbrev pub StandsAfter : Sides → List Arrival → Type 0
StandsAfter sides p = StandsAs Join sides p

-- an element from an input
abbrev pub arrival : ℕ → Element → Arrival
arrival input x = record { input = input; element = x }

-- x may follow in its input after p, and leads that input to its next bound
abbrev pub MayFollow : List Arrival → Arrival → Type 0
MayFollow p x =
    next_bound (bound (from_input x.input p)) x.element ≡ Some (bound (from_input x.input (p ++ x ∷ [])))

-- the first two of these are the bounds of the two inputs after p
pub record AreBoundsAfter (p : List Arrival) (bounds : List ℕ) : Type 0 where
  pub left : slice_index bounds 0 ≡ bound (from_input 0 p)
  pub right : slice_index bounds 1 ≡ bound (from_input 1 p)

-- at x these sides step as an operator of this kind does after p: they are what is to be remembered then, and the
-- operator's rows stand behind what was given before
pub record Steps (kind : Kind) (new : Sides) (before after : List Element) (p : List Arrival) (x : Arrival) : Type 0 where
  pub stands : StandsAs kind new (p ++ x ∷ [])
  pub given : after ≡ before ++ map (λ row. Row row) (rows_at kind 2 p x)

-- they do so after each p after which they stood and x may follow, where the bounds given are those after x
abbrev pub StepsAs : Kind → Sides → Sides → List Element → List Element → ℕ → Element → List ℕ → Type 0
StepsAs kind old new before after input x bounds =
    (p : List Arrival) → StandsAs kind old p → MayFollow p (arrival input x)
    → AreBoundsAfter (p ++ arrival input x ∷ []) bounds → Steps kind new before after p (arrival input x)

-- the join steps as its operator does
abbrev pub StepsFromAll : Sides → Sides → List Element → List Element → ℕ → Element → List ℕ → Type 0
StepsFromAll old new before after input x bounds = StepsAs Join old new before after input x bounds

-- after each p after which the join stood and x may follow, the operator gives so many rows at x
abbrev pub CountsGiven : Sides → ℕ → Element → ℕ → Type 0
CountsGiven sides input x count =
    (p : List Arrival) → StandsAfter sides p → MayFollow p (arrival input x)
    → count ≡ length (rows_at Join 2 p (arrival input x))

-- what is remembered of the input that isn't this one
abbrev pub other_side : ℕ → Sides → List Event
other_side input sides = if input == 0 then sides.right else sides.left

-- the sides with one more row of an input, where it ends above the other input's bound
abbrev pub with_row : ℕ → Event → List ℕ → Sides → Sides
with_row input row bounds sides =
    if input == 0
    then record { left = sides.left ++ rows_ending_above (slice_index bounds 1) (row ∷ []); right = sides.right }
    else record { left = sides.left; right = sides.right ++ rows_ending_above (slice_index bounds 0) (row ∷ []) }

-- the sides without the other input's rows that this input's bound has reached
abbrev pub without_ended : ℕ → List ℕ → Sides → Sides
without_ended input bounds sides =
    if input == 0
    then record { left = sides.left; right = rows_ending_above (slice_index bounds 0) sides.right }
    else record { left = rows_ending_above (slice_index bounds 1) sides.left; right = sides.right }

-- the elements that a row of an input gives with earlier rows of the other one
abbrev pub joined_elements : ℕ → Event → List Event → List Element
joined_elements input row earlier = map (λ joined. Row joined) (join_rows input row earlier)

-- the same, where the earlier rows are those that are remembered
abbrev pub given_at : ℕ → Event → Sides → List Element
given_at input row sides = joined_elements input row (other_side input sides)

-- the keys of rows
abbrev pub row_keys : List Event → List ℕ
row_keys rows = map (λ row. row.key) rows

-- how many different keys rows have
abbrev pub key_count : List Event → ℕ
key_count rows = distinct_count nat_eq (row_keys rows)
