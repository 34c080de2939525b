-- What a row gives with the rows of its key.
use Rattle.std.proofs.Common.{◌≡◌, ℕ, ◌≤◌, ◌==◌, nat_lt, Bool, true, false, cond, ◌&&◌, List, [], ◌∷◌, length, map, filter, count_by, refl, sym, ap, ◌∙◌, arith}
use Rattle.std.proofs.lemmas.Bool.{and_left}
use Rattle.std.proofs.lemmas.List.{length-map}
use Rattle.std.proofs.lemmas.List.Sums.{length-filter, count_by-le-length}
use Rattle.ss_elem.specs.declared.element.Element.TheVariants.{Row}
use Rattle.ss_elem.specs.declared.element.Event.{Event}
use Rattle.ss_meaning.specs.Join.{joined_from, join_rows, matches}
use Rattle.ss_join.specs.States.{joined_elements}

matching : (row : Event) (rows : List Event) → filter (matches row) (filter (λ (other : Event). row.key == other.key) rows) ≡ filter (matches row) rows
matching row [] = refl
matching row (x ∷ xs) = by_test (row.key == x.key) refl (matching row xs)
  where
    none : (row.key == x.key) ≡ false → matches row x ≡ false
    none h =
        and_left ((row.key == x.key) && nat_lt row.start x.end) (nat_lt x.start row.end) (and_left (row.key == x.key) (nat_lt row.start x.end) h)

    by_test : (b : Bool) → (row.key == x.key) ≡ b
        → filter (matches row) (filter (λ (other : Event). row.key == other.key) xs) ≡ filter (matches row) xs
        → filter (matches row) (cond b (x ∷ filter (λ (other : Event). row.key == other.key) xs) (filter (λ (other : Event). row.key == other.key) xs))
        ≡ cond (matches row x) (x ∷ filter (matches row) xs) (filter (matches row) xs)
    by_test true h rest = ap (λ (ys : List Event). cond (matches row x) (x ∷ ys) ys) rest
    by_test false h rest = rest ∙ sym (ap (λ b. cond b (x ∷ filter (matches row) xs) (filter (matches row) xs)) (none h))

-- a row gives with the rows of its key what it gives with all
pub joined_same : (input : ℕ) (row : Event) (some rows : List Event) → some ≡ filter (λ (other : Event). row.key == other.key) rows
    → joined_elements input row some ≡ joined_elements input row rows
joined_same input row some rows h =
    ap (joined_elements input row) h ∙ ap (λ (xs : List Event). map (λ (joined : Event). Row joined) (map (joined_from input row) xs)) (matching row rows)

pub joined_count : (input : ℕ) (row : Event) (xs : List Event) → count_by (matches row) xs ≡ length (joined_elements input row xs)
joined_count input row xs =
    sym (length-map (join_rows input row xs) (λ (joined : Event). Row joined)
    ∙ (length-map (filter (matches row) xs) (joined_from input row) ∙ length-filter (matches row) xs))

-- it gives no more than there are rows
pub joined_few : (input : ℕ) (row : Event) (xs : List Event) → length (joined_elements input row xs) ≤ length xs
joined_few input row xs = omega (arith, joined_count input row xs, count_by-le-length (matches row) xs)
