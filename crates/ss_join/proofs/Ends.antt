-- The ends stay those of the rows.
use Rattle.std.proofs.Common.{◌≡◌, ℕ, Bool, true, false, cond, Option, Some, None, refl, sym, ap, subst, ◌∙◌, eq-eqb}
use Rattle.std.specs.Ordering.{is_eq}
use Rattle.std.specs.Map.{lookup}
use Rattle.std.specs.BTreeMap.{BTreeMap, get, is_at}
use Rattle.std.specs.BTreeSet.{BTreeSet, contains}
use Rattle.std.proofs.lemmas.Bool.{ne_eqb, eqb-true}
use Rattle.std.proofs.lemmas.Cmp.{tied_itself}
use Rattle.ss_elem.specs.declared.element.Event.{Event}
use Rattle.ss_join.specs.Held.{place_cmp, end_cmp, ends_at}
use Rattle.ss_join.proofs.Places.{place_total, place_exact, end_total, end_exact, equal_from}

-- the ends are those of the rows
abbrev pub AreEnds : BTreeMap (ℕ × ℕ) Event → BTreeSet (ℕ × ℕ × ℕ) → Type 0
AreEnds rows ends = (end number key : ℕ) → contains end_cmp ends (end, number, key) ≡ ends_at end (get place_cmp rows (key, number))

-- after a change at one end, and at one place
abbrev pub EndIs : BTreeSet (ℕ × ℕ × ℕ) → BTreeSet (ℕ × ℕ × ℕ) → ℕ × ℕ × ℕ → Bool → Type 0
EndIs old new t b = (q : ℕ × ℕ × ℕ) → contains end_cmp new q ≡ cond (is_at (end_cmp t) q) b (contains end_cmp old q)

abbrev pub RowIs : BTreeMap (ℕ × ℕ) Event → BTreeMap (ℕ × ℕ) Event → ℕ × ℕ → Option Event → Type 0
RowIs old new p o = (q : ℕ × ℕ) → get place_cmp new q ≡ cond (is_at (place_cmp p) q) o (get place_cmp old q)

same_end : (t q : ℕ × ℕ × ℕ) → is_at (end_cmp t) q ≡ true → t ≡ q
same_end t q h = end_exact t q (equal_from (end_cmp t q) h)

same_place : (p q : ℕ × ℕ) → is_at (place_cmp p) q ≡ true → p ≡ q
same_place p q h = place_exact p q (equal_from (place_cmp p q) h)

at_end : (t q : ℕ × ℕ × ℕ) → t ≡ q → is_at (end_cmp t) q ≡ true
at_end t q h = subst (λ r. is_at (end_cmp t) r ≡ true) h (ap is_eq (tied_itself end_total t))

pub at_place : (p q : ℕ × ℕ) → p ≡ q → is_at (place_cmp p) q ≡ true
at_place p q h = subst (λ r. is_at (place_cmp p) r ≡ true) h (ap is_eq (tied_itself place_total p))

no_both : (b : Bool) → b ≡ true → b ≡ false → ⊥
no_both b h k = cc

-- where ends are the same, so are places
place_too : (t q : ℕ × ℕ × ℕ) → is_at (end_cmp t) q ≡ true → is_at (place_cmp (t.2, t.1)) (q.2, q.1) ≡ true
place_too t q h =
    at_place (t.2, t.1) (q.2, q.1) (ap (λ (r : ℕ × ℕ × ℕ). let p : ℕ × ℕ = (r.2, r.1) in p) (same_end t q h))

triple : (d e n k m l : ℕ) → d ≡ e → n ≡ k → m ≡ l → let t : ℕ × ℕ × ℕ = (d, n, m) in let q : ℕ × ℕ × ℕ = (e, k, l) in t ≡ q
triple d e n k m l a b c =
    let made = λ (x y z : ℕ). let t : ℕ × ℕ × ℕ = (x, y, z) in t in
    ap (λ x. made x n m) a ∙ (ap (λ y. made e y m) b ∙ ap (made e k) c)

-- with the same place, apart ends are apart
end_apart : (t : ℕ × ℕ × ℕ) (e n k : ℕ) → is_at (place_cmp (t.2, t.1)) (k, n) ≡ true → is_at (end_cmp t) (e, n, k) ≡ false → t.0 ≡ e → ⊥
end_apart t e n k h other s =
    let same = same_place (t.2, t.1) (k, n) h in
    no_both (is_at (end_cmp t) (e, n, k)) (at_end t (e, n, k) (triple t.0 e t.1 n t.2 k s (ap (λ (p : ℕ × ℕ). p.1) same) (ap (λ (p : ℕ × ℕ). p.0) same))) other

ends_apart : (o : Option Event) (d e : ℕ) → ends_at d o ≡ true → (d ≡ e → ⊥) → ends_at e o ≡ false
ends_apart None d e h k = refl
ends_apart (Some row) d e h k = ne_eqb row.end e (λ s. k (sym (eqb-true row.end d h) ∙ s))

pub ends_put : (rows rows' : BTreeMap (ℕ × ℕ) Event) (ends ends' : BTreeSet (ℕ × ℕ × ℕ)) (row : Event) (number : ℕ)
    → get place_cmp rows (row.key, number) ≡ None → AreEnds rows ends → EndIs ends ends' (row.end, number, row.key) true
    → RowIs rows rows' (row.key, number) (Some row) → AreEnds rows' ends'
ends_put rows rows' ends ends' row number fresh are end_is row_is e n k =
    end_is (e, n, k) ∙ (by_tests (is_at (end_cmp (row.end, number, row.key)) (e, n, k)) (is_at (place_cmp (row.key, number)) (k, n)) refl refl
    ∙ sym (ap (ends_at e) (row_is (k, n))))
  where
    by_tests : (a b : Bool) → is_at (end_cmp (row.end, number, row.key)) (e, n, k) ≡ a → is_at (place_cmp (row.key, number)) (k, n) ≡ b
        → cond a true (contains end_cmp ends (e, n, k)) ≡ ends_at e (cond b (Some row) (get place_cmp rows (k, n)))
    by_tests true true s t = sym (eq-eqb row.end e (ap (λ (r : ℕ × ℕ × ℕ). r.0) (same_end (row.end, number, row.key) (e, n, k) s)))
    by_tests true false s t = absurd (no_both _ (place_too (row.end, number, row.key) (e, n, k) s) t)
    by_tests false true s t =
        let same = same_place (row.key, number) (k, n) t in
        let none : get place_cmp rows (k, n) ≡ None = ap (get place_cmp rows) (sym same) ∙ fresh in
        are e n k ∙ (ap (ends_at e) none ∙ sym (ne_eqb row.end e (end_apart (row.end, number, row.key) e n k t s)))
    by_tests false false s t = are e n k

pub ends_removed : (rows rows' : BTreeMap (ℕ × ℕ) Event) (ends ends' : BTreeSet (ℕ × ℕ × ℕ)) (t : ℕ × ℕ × ℕ)
    → contains end_cmp ends t ≡ true → AreEnds rows ends → EndIs ends ends' t false → RowIs rows rows' (t.2, t.1) None → AreEnds rows' ends'
ends_removed rows rows' ends ends' t member are end_is row_is e n k =
    end_is (e, n, k) ∙ (by_tests (is_at (end_cmp t) (e, n, k)) (is_at (place_cmp (t.2, t.1)) (k, n)) refl refl ∙ sym (ap (ends_at e) (row_is (k, n))))
  where
    by_tests : (a b : Bool) → is_at (end_cmp t) (e, n, k) ≡ a → is_at (place_cmp (t.2, t.1)) (k, n) ≡ b
        → cond a false (contains end_cmp ends (e, n, k)) ≡ ends_at e (cond b None (get place_cmp rows (k, n)))
    by_tests true true s u = refl
    by_tests true false s u = absurd (no_both _ (place_too t (e, n, k) s) u)
    by_tests false true s u =
        let here : ends_at t.0 (get place_cmp rows (t.2, t.1)) ≡ true = sym (are t.0 t.1 t.2) ∙ member in
        let there : ends_at t.0 (get place_cmp rows (k, n)) ≡ true =
        subst (λ (p : ℕ × ℕ). ends_at t.0 (get place_cmp rows p) ≡ true) (same_place (t.2, t.1) (k, n) u) here in
        are e n k ∙ ends_apart (get place_cmp rows (k, n)) t.0 e there (end_apart t e n k u s)
    by_tests false false s u = are e n k

-- an end that is put and taken out again where there was no row
pub ends_undone : (rows rows' : BTreeMap (ℕ × ℕ) Event) (ends mid new : BTreeSet (ℕ × ℕ × ℕ)) (row : Event) (number : ℕ)
    → get place_cmp rows (row.key, number) ≡ None → AreEnds rows ends → EndIs ends mid (row.end, number, row.key) true
    → EndIs mid new (row.end, number, row.key) false → rows'.entries ≡ rows.entries → AreEnds rows' new
ends_undone rows rows' ends mid new row number fresh are put taken same e n k =
    taken (e, n, k) ∙ (ap (λ b. cond (is_at (end_cmp (row.end, number, row.key)) (e, n, k)) false b) (put (e, n, k))
    ∙ (by_test (is_at (end_cmp (row.end, number, row.key)) (e, n, k)) refl
    ∙ (are e n k ∙ ap (λ es. ends_at e (lookup (is_at (place_cmp (k, n))) es)) (sym same))))
  where
    by_test : (a : Bool) → is_at (end_cmp (row.end, number, row.key)) (e, n, k) ≡ a
        → cond a false (cond a true (contains end_cmp ends (e, n, k))) ≡ contains end_cmp ends (e, n, k)
    by_test true s =
        let place = same_place (row.key, number) (k, n) (place_too (row.end, number, row.key) (e, n, k) s) in
        let none : get place_cmp rows (k, n) ≡ None = ap (get place_cmp rows) (sym place) ∙ fresh in
        sym (are e n k ∙ ap (ends_at e) none)
    by_test false s = refl
