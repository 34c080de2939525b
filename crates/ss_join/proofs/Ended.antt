-- How many rows have ended.
use Rattle.std.proofs.Common.{◌≡◌, ℕ, suc, ◌<◌, ◌≤◌, nat_lt, nat_le, Bool, true, false, cond, List, [], ◌∷◌, length, filter, count_by, refl, sym, ap, ◌∙◌, arith, ltb-true}
use Rattle.std.specs.List.{AllByRecursion}
use Rattle.std.specs.Map.{values_of}
use Rattle.std.proofs.lemmas.Bool.{lt-leb}
use Rattle.std.proofs.lemmas.List.Sums.{length-filter}
use Rattle.std.specs.BTreeMap.{BTreeMap}
use Rattle.std.specs.BTreeSet.{BTreeSet}
use Rattle.ss_elem.specs.declared.element.Event.{Event}
use Rattle.ss_meaning.specs.Entries.{rows_ending_above}
use Rattle.ss_join.specs.Held.{numbered, rows_held, AreHeld}
use Rattle.ss_join.proofs.Numbers.{filter-in_order, length-in_order}
use Rattle.ss_join.proofs.Places.{placed_below}

each_kept : {A : Type 0} (P : A → Type 0) (p : A → Bool) (xs : List A) → AllByRecursion P xs → AllByRecursion P (filter p xs)
each_kept P p [] h = tt
each_kept P p (x ∷ xs) h = by_test (p x) (each_kept P p xs h.1)
  where
    by_test : (b : Bool) → AllByRecursion P (filter p xs) → AllByRecursion P (cond b (x ∷ filter p xs) (filter p xs))
    by_test true rest = (h.0, rest)
    by_test false rest = rest

length-numbered : (p : Event → Bool) (es : List ((ℕ × ℕ) × Event)) → length (filter (λ (x : ℕ × Event). p x.1) (numbered es)) ≡ length (filter p (values_of es))
length-numbered p [] = refl
length-numbered p (e ∷ es) = by_test (p e.1) (length-numbered p es)
  where
    by_test : (b : Bool) → length (filter (λ (x : ℕ × Event). p x.1) (numbered es)) ≡ length (filter p (values_of es))
        → length (cond b ((e.0.1, e.1) ∷ filter (λ (x : ℕ × Event). p x.1) (numbered es)) (filter (λ (x : ℕ × Event). p x.1) (numbered es)))
        ≡ length (cond b (e.1 ∷ filter p (values_of es)) (filter p (values_of es)))
    by_test true rest = ap suc rest
    by_test false rest = rest

pub counted : (p : Event → Bool) (rows : BTreeMap (ℕ × ℕ) Event) (ends : BTreeSet (ℕ × ℕ × ℕ)) (next : ℕ) → AreHeld rows ends next
    → count_by p (values_of rows.entries) ≡ length (filter p (rows_held next rows))
counted p rows ends next held =
    sym (length-filter p (values_of rows.entries)) ∙ (sym (length-numbered p rows.entries)
    ∙ (sym (length-in_order next (filter (λ (x : ℕ × Event). p x.1) (numbered rows.entries))
    (each_kept (λ (x : ℕ × Event). x.0 < next) (λ (x : ℕ × Event). p x.1) (numbered rows.entries) (placed_below next rows.entries held.placed)))
    ∙ ap (λ (xs : List Event). length xs) (sym (filter-in_order p 0 next (numbered rows.entries)))))

-- where all end above a bound, none ends up to it

length_kept : (p : Event → Bool) (xs : List Event) → length (filter p xs) ≤ length xs
length_kept p [] = omega arith
length_kept p (x ∷ xs) = by_test (p x) (length_kept p xs)
  where
    by_test : (b : Bool) → length (filter p xs) ≤ length xs → length (cond b (x ∷ filter p xs) (filter p xs)) ≤ suc (length xs)
    by_test true rest = omega (arith, rest)
    by_test false rest = omega (arith, rest)

none_counted : (bound : ℕ) (rows : List Event) → length (rows_ending_above bound rows) ≡ length rows → length (filter (λ (r : Event). nat_le r.end bound) rows) ≡ 0
none_counted bound [] h = refl
none_counted bound (row ∷ rows) h = by_test (nat_lt bound row.end) refl h (none_counted bound rows)
  where
    by_test : (b : Bool) → nat_lt bound row.end ≡ b → length (cond b (row ∷ rows_ending_above bound rows) (rows_ending_above bound rows)) ≡ suc (length rows)
        → (length (rows_ending_above bound rows) ≡ length rows → length (filter (λ (r : Event). nat_le r.end bound) rows) ≡ 0)
        → length (cond (nat_le row.end bound) (row ∷ filter (λ (r : Event). nat_le r.end bound) rows) (filter (λ (r : Event). nat_le r.end bound) rows)) ≡ 0
    by_test true e k rest =
        let late = ltb-true bound row.end e in
        ap (λ b. length (cond b (row ∷ filter (λ (r : Event). nat_le r.end bound) rows) (filter (λ (r : Event). nat_le r.end bound) rows))) (lt-leb row.end bound late) ∙ rest (omega (arith, k))
    by_test false e k rest = absurd (let short = length_kept (λ r. nat_lt bound r.end) rows in omega (arith, k, short))

pub none_reached : (bound : ℕ) (rows : List Event) → rows_ending_above bound rows ≡ rows → length (filter (λ (r : Event). nat_le r.end bound) rows) ≡ 0
none_reached bound rows h = none_counted bound rows (ap (λ (xs : List Event). length xs) h)
