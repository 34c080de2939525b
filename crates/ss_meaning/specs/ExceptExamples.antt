-- Worked examples of joins by absence, each written out by hand.
use Rattle.std.specs.Prelude.{◌≡◌, ℕ, ◌+◌, pos, [], ◌∷◌}
use Rattle.ss_elem.specs.declared.element.Element.{Element}
use Rattle.ss_elem.specs.declared.element.Element.TheVariants.{Cti, End}
use Rattle.ss_meaning.specs.Emit.{Except}
use Rattle.ss_meaning.specs.Entries.{JoinRows, entries_after}
use Rattle.ss_meaning.specs.EntryExamples.{kept}
use Rattle.ss_meaning.specs.Examples.{k, p, q, row, from, of_four, over_two}
use Rattle.ss_meaning.specs.Meaning.{meaning}

-- a left row without its like on the right, as it is given
abbrev pub absent : ℕ → ℕ → ℕ → ℕ → Element
absent start end key a = of_four end (end + 1) key (pos a) (pos 0) (pos start) (pos 0)

-- of two left rows one has its like on the right; the other is given where the right bound reaches its end, before the
-- Cti that the operator gives there
abbrev pub RowWithoutItsLike : Type 0
RowWithoutItsLike =
    meaning
    (over_two Except (row 1 10 k 1 0 ∷ row 2 4 p 2 0 ∷ Cti 20 ∷ End ∷ [])
    (row 5 7 k 9 0 ∷ Cti 6 ∷ End ∷ []))
    2
    ≡ absent 2 4 p 2 ∷ Cti 6 ∷ Cti 20 ∷ End ∷ []

-- rows that one Cti reaches stand in the order in which they end, and of one end in that in which they came
abbrev pub RowsInOrderOfEnd : Type 0
RowsInOrderOfEnd =
    meaning
    (over_two Except (row 1 9 k 1 0 ∷ row 2 5 p 2 0 ∷ row 3 9 q 3 0 ∷ End ∷ [])
    (Cti 9 ∷ End ∷ []))
    2
    ≡ absent 2 5 p 2 ∷ absent 1 9 k 1 ∷ absent 3 9 q 3 ∷ Cti 9 ∷ End ∷ []

-- a left row that comes when the right bound has reached its end is given at once, where it is alone: one that starts
-- where a right row ends is
abbrev pub LateLeftRows : Type 0
LateLeftRows =
    meaning
    (over_two Except (Cti 3 ∷ row 4 6 k 1 0 ∷ row 7 9 k 2 0 ∷ End ∷ [])
    (row 5 7 k 9 0 ∷ Cti 20 ∷ End ∷ []))
    2
    ≡ Cti 3 ∷ absent 7 9 k 2 ∷ Cti 20 ∷ End ∷ []

-- what is remembered: the left rows that are alone and that the right bound hasn't reached, and the right rows that the
-- left bound hasn't
abbrev pub LonelyAndOpenRows : Type 0
LonelyAndOpenRows =
    entries_after Except 2
    (from 0 (row 1 10 k 1 0) ∷ from 0 (row 2 4 p 2 0) ∷ from 0 (row 3 30 q 3 0) ∷ from 0 (Cti 20)
    ∷ from 1 (row 5 7 k 9 0) ∷ from 1 (row 9 30 p 4 0) ∷ from 1 (Cti 6) ∷ [])
    ≡ JoinRows (kept 3 30 q 3 ∷ []) (kept 9 30 p 4 ∷ [])
