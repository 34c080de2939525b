-- Worked examples of what operators remember, each written out by hand.
use Rattle.std.specs.Prelude.{◌≡◌, ℕ, ◌-◌, ◌^◌, pos, ◌+ℤ◌, [], ◌∷◌}
use Rattle.std.specs.Int.{int_max}
use Rattle.ss_elem.specs.declared.element.Event.{Event}
use Rattle.ss_elem.specs.declared.element.Element.TheVariants.{Cti, End}
use Rattle.ss_meaning.specs.Emit.{Union, Join}
use Rattle.ss_meaning.specs.Entries.{WindowEntry, NoEntries, WindowEntries, JoinRows, entries_after, held}
use Rattle.ss_meaning.specs.EntryLists.{put_values, row_of_entry}
use Rattle.ss_meaning.specs.Examples.{k, p, q, row, from, sums, swapped}

-- the entry of a window: its end, its key, its sum and its count
abbrev pub summed : ℕ → ℕ → ℕ → ℕ → WindowEntry
summed end key sum count = record { end = end; key = key; value = pos sum; rows = count }

-- a row of a join's side
abbrev pub kept : ℕ → ℕ → ℕ → ℕ → Event
kept start end key a = record { start = start; end = end; key = key; a = pos a; b = pos 0; c = pos 0; d = pos 0 }

-- a row stands in the entry of each window to which it belongs
abbrev pub RowInTwoWindows : Type 0
RowInTwoWindows =
    entries_after (sums 20 10) 1 (from 0 (row 5 9 k 3 0) ∷ []) ≡ WindowEntries (summed 10 k 3 1 ∷ summed 20 k 3 1 ∷ [])

-- entries stand in the order of ends and then of keys, and those that Low has reached are gone
abbrev pub EntriesInOrder : Type 0
EntriesInOrder =
    entries_after (sums 20 10) 1
    (from 0 (row 5 9 q 3 0) ∷ from 0 (row 6 9 p 4 0) ∷ from 0 (row 7 9 q 5 0) ∷ from 0 (Cti 10)
    ∷ from 0 (row 10 11 k 6 0) ∷ [])
    ≡ WindowEntries (summed 20 k 6 1 ∷ summed 20 p 4 1 ∷ summed 20 q 8 2 ∷ summed 30 k 6 1 ∷ [])

-- nothing is left after End
abbrev pub NothingAfterEnd : Type 0
NothingAfterEnd = entries_after (sums 20 10) 1 (from 0 (row 5 9 k 3 0) ∷ from 0 End ∷ []) ≡ WindowEntries []

-- a side of a join loses the rows that the other side's bound has reached, whatever its own bound is
abbrev pub SidesByTheOtherBound : Type 0
SidesByTheOtherBound =
    entries_after Join 2
    (from 0 (row 1 6 k 1 0) ∷ from 0 (row 1 10 k 2 0) ∷ from 0 (Cti 20)
    ∷ from 1 (row 5 7 k 3 0) ∷ from 1 (Cti 6) ∷ from 1 (row 9 30 q 4 0) ∷ [])
    ≡ JoinRows (kept 1 10 k 2 ∷ []) (kept 9 30 q 4 ∷ [])

-- how many entries there are
abbrev pub EntriesAreCounted : Type 0
EntriesAreCounted =
    (held (sums 20 10) 1 (from 0 (row 5 9 k 3 0) ∷ []) ≡ 2)
    × (held Join 2 (from 0 (row 1 10 k 2 0) ∷ from 1 (row 5 7 k 3 0) ∷ from 1 (Cti 6) ∷ []) ≡ 2)

-- selects and unions remember nothing
abbrev pub NothingElsewhere : Type 0
NothingElsewhere =
    (entries_after swapped 1 (from 0 (row 1 10 k 2 0) ∷ []) ≡ NoEntries)
    × (entries_after Union 2 (from 0 (row 1 10 k 2 0) ∷ from 1 (row 5 7 k 3 0) ∷ []) ≡ NoEntries)
    × (held Union 2 (from 0 (row 1 10 k 2 0) ∷ []) ≡ 0)

-- one more row is put at both its ends: joined to the entry of its key at the first, as a new entry at the second
abbrev pub ValuePutAtEachEnd : Type 0
ValuePutAtEachEnd =
    put_values ◌+ℤ◌ k (pos 6) (20 ∷ 30 ∷ []) (summed 20 k 3 1 ∷ summed 20 p 4 1 ∷ [])
    ≡ summed 20 k 9 2 ∷ summed 20 p 4 1 ∷ summed 30 k 6 1 ∷ []

-- a key that comes later may stand before those that are there
abbrev pub LaterKeyInItsPlace : Type 0
LaterKeyInItsPlace =
    put_values int_max k (pos 6) (20 ∷ []) (summed 10 q 3 1 ∷ summed 20 p 4 1 ∷ [])
    ≡ summed 10 q 3 1 ∷ summed 20 k 6 1 ∷ summed 20 p 4 1 ∷ []

-- an entry becomes the row of the hop behind its end, its value clamped
abbrev pub EntryBecomesRow : Type 0
EntryBecomesRow =
    row_of_entry 10 (summed 20 k (2 ^ 64) 2)
    ≡ record { start = 20; end = 30; key = k; a = pos (2 ^ 63 - 1); b = pos 2; c = pos 0; d = pos 0 }
