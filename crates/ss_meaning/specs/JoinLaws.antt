-- What is true of the rows that a join remembers of an input.
use Rattle.std.specs.Prelude.{◌≡◌, ℕ, ◌≤◌, List, [], ◌∷◌, ◌++◌}
use Rattle.ss_elem.specs.declared.element.Event.{Event}
use Rattle.ss_meaning.specs.Join.{join_rows}
use Rattle.ss_meaning.specs.Entries.{rows_ending_above}

-- a row that starts at a bound or above it joins no earlier row that ended by then: those that end above the bound,
-- in their order, give all that it gives
abbrev pub EndedRowsNeverJoin : Type 0
EndedRowsNeverJoin =
    (input : ℕ) (row : Event) (seen : List Event) (bound : ℕ) → bound ≤ row.start
    → join_rows input row seen ≡ join_rows input row (rows_ending_above bound seen)

-- where the bound rises, the rows that it reaches go
abbrev pub SideAfterRise : Type 0
SideAfterRise =
    (seen : List Event) (before after : ℕ) → before ≤ after
    → rows_ending_above after seen ≡ rows_ending_above after (rows_ending_above before seen)

-- one more row stands behind the others, where it ends above the bound
abbrev pub SideAfterRow : Type 0
SideAfterRow =
    (seen : List Event) (row : Event) (bound : ℕ)
    → rows_ending_above bound (seen ++ row ∷ [])
    ≡ rows_ending_above bound seen ++ rows_ending_above bound (row ∷ [])
