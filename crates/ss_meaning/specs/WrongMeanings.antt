-- Meanings that a job doesn't have, each with an example on which it differs from the right one.
use Rattle.std.specs.Prelude.{◌≢◌, ℕ, zero, suc, ◌+◌, ◌-◌, ◌==◌, nat_lt, nat_le, ◌&&◌, pos, List, [], ◌∷◌, ◌++◌}
use Rattle.std.specs.Prelude.{length, map, filter, flat_map}
use Rattle.ss_elem.specs.declared.element.Event.{Event}
use Rattle.ss_elem.specs.declared.element.Element.{Element}
use Rattle.ss_elem.specs.declared.element.Element.TheVariants.{Row, Cti, End}
use Rattle.ss_meaning.specs.Bound.{bound, row_of, rows}
use Rattle.ss_meaning.specs.Merge.{Arrival, merge, from_input}
use Rattle.ss_meaning.specs.Low.{low, advance}
use Rattle.ss_meaning.specs.Window.{Window, total, clamped, window_rows, window_keys, window_ends}
use Rattle.ss_meaning.specs.Join.{join_rows}
use Rattle.ss_meaning.specs.Emit.{Union, Hopping, Join, rows_at, given_along, output}
use Rattle.ss_meaning.specs.Examples.{k, p, q, row, from}

-- so many turns, of which each takes one element of the first input and puts that input last
abbrev pub take_turns : ℕ → List (List Arrival) → List Arrival
take_turns zero queue = []
take_turns (suc turns) [] = []
take_turns (suc turns) ([] ∷ others) = take_turns turns others
take_turns (suc turns) ((x ∷ xs) ∷ others) = x ∷ take_turns turns (others ++ xs ∷ [])

-- wrong: the input that has waited longest goes next, and not the one with the least bound
abbrev pub waits_longest : List Element → List Element → List Arrival
waits_longest left right = take_turns (2 + length left + length right) (map (from 0) left ∷ map (from 1) right ∷ [])

-- with it this union gives another stream
abbrev pub WaitingLongestDiffers : Type 0
WaitingLongestDiffers =
    let left = row 1 2 p 1 0 ∷ row 2 3 p 2 0 ∷ Cti 9 ∷ End ∷ [] in
    let right = row 1 2 q 3 0 ∷ Cti 5 ∷ row 6 7 q 4 0 ∷ End ∷ [] in
    output Union 2 (waits_longest left right) ≢ output Union 2 (merge (left ∷ right ∷ []))

-- the row of a window that counts a row which starts at its end
abbrev pub counts_rows_at_the_end : Window → List Event → ℕ → ℕ → Event
counts_rows_at_the_end window rows w key =
    let counted = filter (λ row. nat_le row.start w && nat_le w (row.start + window.size) && row.key == key) rows in
    let value = clamped (window.aggregate (map window.field counted)) in
    record { start = w; end = w + window.hop; key = key; a = value; b = pos (length counted); c = pos 0; d = pos 0 }

-- wrong: a row that starts where a window ends is counted into it
abbrev pub windows_with_rows_at_the_end : Window → List Arrival → Arrival → List Element
windows_with_rows_at_the_end window p x =
    let seen = rows (from_input 0 p) in
    let row_at : ℕ → List Element =
    λ w. map (λ key. Row (counts_rows_at_the_end window seen w key)) (window_keys window seen w) in
    flat_map row_at (window_ends window seen (low 1 p) (low 1 (p ++ x ∷ []))) ++ advance (low 1 p) (low 1 (p ++ x ∷ []))

-- windows of ten, one behind the other
abbrev pub tens : Window
tens = record { size = 10; hop = 10; aggregate = total; field = λ row. row.a }

-- with it these windows have other rows
abbrev pub RowsAtTheEndDiffer : Type 0
RowsAtTheEndDiffer =
    let arriving = merge ((row 5 6 k 3 0 ∷ row 10 11 k 4 0 ∷ End ∷ []) ∷ []) in
    given_along (windows_with_rows_at_the_end tens) [] arriving ≢ output (Hopping tens) 1 arriving

-- the rows of windows where x is a Cti, and none elsewhere
abbrev pub rows_at_cti : Window → List Arrival → Arrival → Element → List Event
rows_at_cti window p x (Row row) = []
rows_at_cti window p x (Cti time) = window_rows window (rows (from_input 0 p)) (low 1 p) (low 1 (p ++ x ∷ []))
rows_at_cti window p x End = []

-- wrong: windows are given at each Cti alone, and not wherever Low rises
abbrev pub windows_at_each_cti : Window → List Arrival → Arrival → List Element
windows_at_each_cti window p x =
    map (λ row. Row row) (rows_at_cti window p x x.element) ++ advance (low 1 p) (low 1 (p ++ x ∷ []))

-- with it the windows after the last Cti are missing
abbrev pub WindowsAtEachCtiDiffer : Type 0
WindowsAtEachCtiDiffer =
    let arriving = merge ((row 5 9 k 3 0 ∷ Cti 20 ∷ row 25 26 k 4 0 ∷ End ∷ []) ∷ []) in
    given_along (windows_at_each_cti tens) [] arriving ≢ output (Hopping tens) 1 arriving

-- wrong: a join forgets a row once the row's own input has passed its end
abbrev pub prunes_by_own_bound : List Arrival → Arrival → List Element
prunes_by_own_bound p x =
    let other = from_input (1 - x.input) p in
    let kept = filter (λ y. nat_lt (bound other) y.end) (rows other) in
    map (λ row. Row row) (flat_map (λ row. join_rows x.input row kept) (row_of x.element))
    ++ advance (low 2 p) (low 2 (p ++ x ∷ []))

-- with it both rows of this join are missing
abbrev pub PruningByOwnBoundDiffers : Type 0
PruningByOwnBoundDiffers =
    let left = row 1 10 k 1 0 ∷ Cti 20 ∷ End ∷ [] in
    let right = row 5 7 k 2 0 ∷ Cti 6 ∷ row 9 12 k 3 0 ∷ End ∷ [] in
    given_along prunes_by_own_bound [] (merge (left ∷ right ∷ [])) ≢ output Join 2 (merge (left ∷ right ∷ []))

-- End where x is one
abbrev pub end_or_advance : Element → ℕ → ℕ → List Element
end_or_advance (Row row) before after = advance before after
end_or_advance (Cti time) before after = advance before after
end_or_advance End before after = End ∷ []

-- wrong: End is given where an input ends, and not where all have
abbrev pub ends_with_the_first : List Arrival → Arrival → List Element
ends_with_the_first p x =
    map (λ row. Row row) (rows_at Union 2 p x) ++ end_or_advance x.element (low 2 p) (low 2 (p ++ x ∷ []))

-- with it a row of this union stands behind End
abbrev pub EndingWithTheFirstDiffers : Type 0
EndingWithTheFirstDiffers =
    let left = row 1 2 p 1 0 ∷ End ∷ [] in
    let right = Cti 5 ∷ row 6 7 q 2 0 ∷ End ∷ [] in
    given_along ends_with_the_first [] (merge (left ∷ right ∷ [])) ≢ output Union 2 (merge (left ∷ right ∷ []))
