-- The rows that a join by absence gives.
use Rattle.std.proofs.Common.{◌≡◌, ℕ, ◌+◌, ◌<◌, ◌≤◌, ◌==◌, Bool, true, false, cond, ◌&&◌, nat_le, List, [], ◌∷◌, ◌++◌, map, filter, arith, eqb-true}
use Rattle.std.specs.List.{AllByRecursion}
use Rattle.ss_elem.specs.declared.element.Event.{Event}
use Rattle.ss_meaning.specs.Bound.{bound, row_of, rows}
use Rattle.ss_meaning.specs.Merge.{Arrival, from_input}
use Rattle.ss_meaning.specs.Except.{is_alone, alone, absent_row, ends_between, ending_between, left_alone}
use Rattle.ss_meaning.proofs.Each.{each-map, each-filter, each-flat_map, each_weaker, each_given, each_passes}
use Rattle.ss_meaning.proofs.GivenRows.{IsGiven, rising_above}

-- a row that ends above Low and before a limit
abbrev EndsIn : ℕ → ℕ → Event → Type 0
EndsIn q limit row = (q ≤ row.end) × (row.end + 1 < limit)

ending_in : (q g g' limit : ℕ) (seen : List Event) → q ≤ g → AllByRecursion (λ (row : Event). row.end + 1 < limit) seen → AllByRecursion (EndsIn q limit) (ending_between seen g g')
ending_in q g g' limit seen h early =
    each-flat_map (λ (at : ℕ). (g < at) × Unit {0}) (EndsIn q limit) (λ at. filter (λ (row : Event). row.end == at) seen)
    (λ at above. each_weaker (λ (row : Event). (row.end + 1 < limit) × ((row.end == at) ≡ true)) (EndsIn q limit)
    (λ row pair. let same : row.end ≡ at = eqb-true row.end at pair.1 in (omega (arith, above.0), pair.0))
    (filter (λ (row : Event). row.end == at) seen)
    (each_passes (λ (row : Event). row.end + 1 < limit) (λ (row : Event). row.end == at) seen early))
    (ends_between seen g g') (rising_above g g' (map (λ (row : Event). row.end) seen) (λ n. Unit {0}) (each_given (λ (n : ℕ). Unit {0}) (λ n. tt) (map (λ (row : Event). row.end) seen)))

pub left_given : (q limit : ℕ) (p : List Arrival) (x : Arrival) → q ≤ bound (from_input 1 p) → AllByRecursion (EndsIn q limit) (row_of x.element)
    → AllByRecursion (λ (row : Event). row.end + 1 < limit) (rows (from_input 0 p)) → AllByRecursion (IsGiven q limit) (map absent_row (left_alone p x))
left_given q limit p x h here early =
    each-map (IsGiven q limit) absent_row (left_alone p x)
    (each_weaker (EndsIn q limit) (λ (row : Event). IsGiven q limit (absent_row row)) (λ row ends. (ends.0, omega arith, ends.1)) (left_alone p x) (by_input (x.input == 0)))
  where
    rights : List Event
    rights = rows (from_input 1 p)

    reached : ℕ
    reached = bound (from_input 1 p)

    by_input : (b : Bool) → AllByRecursion (EndsIn q limit) (cond b (filter (λ row. nat_le row.end reached && is_alone rights row) (row_of x.element)) (ending_between (alone rights (rows (from_input 0 p))) reached (bound (from_input 1 (p ++ x ∷ [])))))
    by_input true = each-filter (EndsIn q limit) (λ row. nat_le row.end reached && is_alone rights row) (row_of x.element) here
    by_input false =
        ending_in q reached (bound (from_input 1 (p ++ x ∷ []))) limit (alone rights (rows (from_input 0 p))) h
        (each-filter (λ (row : Event). row.end + 1 < limit) (is_alone rights) (rows (from_input 0 p)) early)
