-- What is true of the left rows that a join by absence remembers, and of those that it gives.
use Rattle.std.specs.Prelude.{◌≡◌, ℕ, ◌≤◌, nat_le, List, [], ◌∷◌, ◌++◌, length, filter}
use Rattle.ss_elem.specs.declared.element.Event.{Event}
use Rattle.ss_meaning.specs.ByTime.{by_time}
use Rattle.ss_meaning.specs.Except.{is_alone, alone, ending_between}
use Rattle.ss_meaning.specs.Entries.{rows_ending_above}

-- the rows in the order of their ends, and those of one end in theirs
abbrev pub by_end : List Event → List Event
by_end rows = by_time (λ row. row.end) rows

-- the rows that end up to a bound, in the order of their ends
abbrev pub ending_up_to : ℕ → List Event → List Event
ending_up_to bound rows = by_end (filter (λ row. nat_le row.end bound) rows)

-- a left row that starts at a bound or above it is alone just where it is so among the right rows that end above the
-- bound: those that ended by then have no time in common with it
abbrev pub EndedRowsNeverMatch : Type 0
EndedRowsNeverMatch =
    (row : Event) (rights : List Event) (bound : ℕ) → bound ≤ row.start
    → is_alone rights row ≡ is_alone (rows_ending_above bound rights) row

-- one more left row stands behind the others, where it is alone and ends above the bound
abbrev pub LeftsAfterLeftRow : Type 0
LeftsAfterLeftRow =
    (rights lefts : List Event) (row : Event) (bound : ℕ)
    → rows_ending_above bound (alone rights (lefts ++ row ∷ []))
    ≡ rows_ending_above bound (alone rights lefts) ++ rows_ending_above bound (alone rights (row ∷ []))

-- one more right row takes away the left rows that it matches
abbrev pub LeftsAfterRightRow : Type 0
LeftsAfterRightRow =
    (rights lefts : List Event) (row : Event) (bound : ℕ)
    → rows_ending_above bound (alone (rights ++ row ∷ []) lefts)
    ≡ alone (row ∷ []) (rows_ending_above bound (alone rights lefts))

-- where the bound rises, those that it reaches are given in the order of their ends: they are among those that end above
-- the bound before
abbrev pub ReachedRowsAreGiven : Type 0
ReachedRowsAreGiven =
    (rows : List Event) (before after : ℕ)
    → ending_between rows before after ≡ ending_up_to after (rows_ending_above before rows)

-- where it doesn't rise, none is given
abbrev pub NoneGivenWithoutRise : Type 0
NoneGivenWithoutRise = (rows : List Event) (bound : ℕ) → ending_between rows bound bound ≡ []

-- as many as end up to the bound
abbrev pub EndedRowsAreCounted : Type 0
EndedRowsAreCounted =
    (rows : List Event) (bound : ℕ)
    → length (ending_up_to bound rows) ≡ length (filter (λ row. nat_le row.end bound) rows)
