-- Rows in the order of their numbers.
use Rattle.std.proofs.Common.{◌≡◌, ℕ, zero, suc, ◌+◌, ◌<◌, ◌≤◌, ◌==◌, Bool, true, false, cond, ◌⊎◌, inl, inr, List, [], ◌∷◌, ◌++◌, length, map, filter, refl, sym, ap, subst, ◌∙◌, arith, eq-eqb}
use Rattle.std.specs.List.{AllByRecursion}
use Rattle.std.proofs.lemmas.Bool.{cases_eq, cases_order, ne_eqb}
use Rattle.std.proofs.lemmas.List.{append_assoc, append-nil, length-append}
use Rattle.std.proofs.lemmas.List.Elements.{filter-append}
use Rattle.ss_elem.specs.declared.element.Event.{Event}
use Rattle.ss_join.specs.Held.{with_number, in_order}

-- one row more in front

pub with-hit : (n : ℕ) (x : ℕ × Event) (xs : List (ℕ × Event)) → x.0 ≡ n → with_number n (x ∷ xs) ≡ x.1 ∷ with_number n xs
with-hit n x xs h =
    let test : ℕ × Event → Bool = λ r. r.0 == n in
    ap (λ b. map (λ (r : ℕ × Event). r.1) (cond b (x ∷ filter test xs) (filter test xs))) (eq-eqb x.0 n h)

pub with-miss : (n : ℕ) (x : ℕ × Event) (xs : List (ℕ × Event)) → (x.0 ≡ n → ⊥) → with_number n (x ∷ xs) ≡ with_number n xs
with-miss n x xs h =
    let test : ℕ × Event → Bool = λ r. r.0 == n in
    ap (λ b. map (λ (r : ℕ × Event). r.1) (cond b (x ∷ filter test xs) (filter test xs))) (ne_eqb x.0 n h)

pub length-with : (n : ℕ) (x : ℕ × Event) (xs : List (ℕ × Event)) → length (with_number n (x ∷ xs)) ≡ cond (x.0 == n) 1 0 + length (with_number n xs)
length-with n x xs =
    elim (cases_eq x.0 n) [
      | inl h ↦ omega (arith, ap (λ (ys : List Event). length ys) (with-hit n x xs h), ap {B = ℕ} (λ b. cond b 1 0) (eq-eqb x.0 n h))
      | inr h ↦ omega (arith, ap (λ (ys : List Event). length ys) (with-miss n x xs h), ap {B = ℕ} (λ b. cond b 1 0) (ne_eqb x.0 n h))
    ]

pub in_order-skip : (from count : ℕ) (x : ℕ × Event) (xs : List (ℕ × Event)) → x.0 < from → in_order from count (x ∷ xs) ≡ in_order from count xs
unfolding in_order
in_order-skip from zero x xs h = refl
in_order-skip from (suc count) x xs h =
    ap (λ (ys : List Event). ys ++ in_order (suc from) count (x ∷ xs)) (with-miss from x xs (λ e. omega (arith, e, h)))
    ∙ ap (λ (ys : List Event). with_number from xs ++ ys) (in_order-skip (suc from) count x xs (omega (arith, h)))

pub in_order-nil : (from count : ℕ) → in_order from count [] ≡ []
unfolding in_order
in_order-nil from zero = refl
in_order-nil from (suc count) = in_order-nil (suc from) count

-- one number more behind

pub in_order-more : (from count : ℕ) (xs : List (ℕ × Event)) → in_order from (suc count) xs ≡ in_order from count xs ++ with_number (from + count) xs
unfolding in_order
in_order-more from zero xs =
    let e : from ≡ from + 0 = omega arith in
    append-nil (with_number from xs) ∙ ap (λ n. with_number n xs) e
in_order-more from (suc count) xs =
    let e : suc from + count ≡ from + suc count = omega arith in
    ap (λ (ys : List Event). with_number from xs ++ ys) (in_order-more (suc from) count xs)
    ∙ (sym (append_assoc (with_number from xs) (in_order (suc from) count xs) (with_number (suc from + count) xs))
    ∙ ap (λ n. (with_number from xs ++ in_order (suc from) count xs) ++ with_number n xs) e)

-- rows whose numbers rise stand in the order of their numbers

abbrev pub Rises : ℕ → List (ℕ × Event) → Type 0
Rises from [] = Unit {0}
Rises from (x ∷ xs) = (from ≤ x.0) × Rises (suc x.0) xs

pub none_below : (n from : ℕ) (xs : List (ℕ × Event)) → Rises from xs → n < from → with_number n xs ≡ []
none_below n from [] r h = refl
none_below n from (x ∷ xs) r h =
    let above = r.0 in
    with-miss n x xs (λ e. omega (arith, e, h, above)) ∙ none_below n (suc x.0) xs r.1 (omega (arith, h, above))

pub in_order-rising : (from count top : ℕ) (xs : List (ℕ × Event)) → from + count ≡ top → Rises from xs → AllByRecursion (λ (x : ℕ × Event). x.0 < top) xs
    → in_order from count xs ≡ map (λ (x : ℕ × Event). x.1) xs
unfolding in_order
in_order-rising from zero top [] e r b = refl
in_order-rising from zero top (x ∷ xs) e r b = let least = r.0 in let most = b.0 in absurd (omega (arith, e, least, most))
in_order-rising from (suc count) top [] e r b = in_order-nil (suc from) count
in_order-rising from (suc count) top (x ∷ xs) e r b =
    by_order (cases_order x.0 from) (in_order-rising (suc from) count top xs next) (in_order-rising (suc from) count top (x ∷ xs) next)
  where
    next : suc from + count ≡ top
    next = omega (arith, e)

    by_order : (x.0 ≡ from) ⊎ ((x.0 < from) ⊎ (from < x.0)) → (Rises (suc from) xs → AllByRecursion (λ (y : ℕ × Event). y.0 < top) xs → in_order (suc from) count xs ≡ map (λ (y : ℕ × Event). y.1) xs)
        → (Rises (suc from) (x ∷ xs) → AllByRecursion (λ (y : ℕ × Event). y.0 < top) (x ∷ xs) → in_order (suc from) count (x ∷ xs) ≡ map (λ (y : ℕ × Event). y.1) (x ∷ xs))
        → with_number from (x ∷ xs) ++ in_order (suc from) count (x ∷ xs) ≡ x.1 ∷ map (λ (y : ℕ × Event). y.1) xs
    by_order (inl same) later here =
        let alone : with_number from (x ∷ xs) ≡ x.1 ∷ [] =
        with-hit from x xs same ∙ ap (λ (ys : List Event). x.1 ∷ ys) (none_below from (suc x.0) xs r.1 (omega (arith, same))) in
        ap (λ (ys : List Event). ys ++ in_order (suc from) count (x ∷ xs)) alone
        ∙ ap (λ (ys : List Event). x.1 ∷ ys) (in_order-skip (suc from) count x xs (omega (arith, same)) ∙ later (subst (λ n. Rises (suc n) xs) same r.1) b.1)
    by_order (inr (inl less)) later here = let least = r.0 in absurd (omega (arith, less, least))
    by_order (inr (inr more)) later here =
        let rises : Rises (suc from) (x ∷ xs) = (omega (arith, more), r.1) in
        ap (λ (ys : List Event). ys ++ in_order (suc from) count (x ∷ xs)) (none_below from (suc from) (x ∷ xs) rises (omega arith)) ∙ here rises b

-- what passes a test, in its order

filter-with : (p : Event → Bool) (n : ℕ) (xs : List (ℕ × Event)) → filter p (with_number n xs) ≡ with_number n (filter (λ (x : ℕ × Event). p x.1) xs)
filter-with p n [] = refl
filter-with p n (x ∷ xs) = by_tests (x.0 == n) (p x.1) refl refl (filter-with p n xs)
  where
    by_tests : (a b : Bool) → (x.0 == n) ≡ a → p x.1 ≡ b → filter p (with_number n xs) ≡ with_number n (filter (λ (y : ℕ × Event). p y.1) xs)
        → filter p (map (λ (y : ℕ × Event). y.1) (cond a (x ∷ filter (λ (y : ℕ × Event). y.0 == n) xs) (filter (λ (y : ℕ × Event). y.0 == n) xs)))
        ≡ with_number n (cond b (x ∷ filter (λ (y : ℕ × Event). p y.1) xs) (filter (λ (y : ℕ × Event). p y.1) xs))
    by_tests true true here passes rest =
        ap (λ t. cond t (x.1 ∷ filter p (with_number n xs)) (filter p (with_number n xs))) passes
        ∙ (ap (λ (ys : List Event). x.1 ∷ ys) rest
        ∙ sym (ap (λ t. map (λ (y : ℕ × Event). y.1) (cond t (x ∷ filter (λ (y : ℕ × Event). y.0 == n) (filter (λ (y : ℕ × Event). p y.1) xs)) (filter (λ (y : ℕ × Event). y.0 == n) (filter (λ (y : ℕ × Event). p y.1) xs)))) here))
    by_tests true false here passes rest =
        ap (λ t. cond t (x.1 ∷ filter p (with_number n xs)) (filter p (with_number n xs))) passes ∙ rest
    by_tests false true here passes rest =
        rest ∙ sym (ap (λ t. map (λ (y : ℕ × Event). y.1) (cond t (x ∷ filter (λ (y : ℕ × Event). y.0 == n) (filter (λ (y : ℕ × Event). p y.1) xs)) (filter (λ (y : ℕ × Event). y.0 == n) (filter (λ (y : ℕ × Event). p y.1) xs)))) here)
    by_tests false false here passes rest = rest

pub filter-in_order : (p : Event → Bool) (from count : ℕ) (xs : List (ℕ × Event)) → filter p (in_order from count xs) ≡ in_order from count (filter (λ (x : ℕ × Event). p x.1) xs)
unfolding in_order
filter-in_order p from zero xs = refl
filter-in_order p from (suc count) xs =
    filter-append p (with_number from xs) (in_order (suc from) count xs)
    ∙ (ap (λ (ys : List Event). ys ++ filter p (in_order (suc from) count xs)) (filter-with p from xs)
    ∙ ap (λ (ys : List Event). with_number from (filter (λ (x : ℕ × Event). p x.1) xs) ++ ys) (filter-in_order p (suc from) count xs))

-- two lists with the same rows at each number

pub in_order-same : (from count top : ℕ) (xs ys : List (ℕ × Event)) → from + count ≡ top → ((n : ℕ) → n < top → with_number n xs ≡ with_number n ys)
    → in_order from count xs ≡ in_order from count ys
unfolding in_order
in_order-same from zero top xs ys e h = refl
in_order-same from (suc count) top xs ys e h =
    ap (λ (zs : List Event). zs ++ in_order (suc from) count xs) (h from (omega (arith, e)))
    ∙ ap (λ (zs : List Event). with_number from ys ++ zs) (in_order-same (suc from) count top xs ys (omega (arith, e)) h)

-- how many rows there are

in_order-counts : (from count top : ℕ) (x : ℕ × Event) (xs : List (ℕ × Event)) → from + count ≡ top → from ≤ x.0 → x.0 < top
    → length (in_order from count (x ∷ xs)) ≡ suc (length (in_order from count xs))
unfolding in_order
in_order-counts from zero top x xs e least most = absurd (omega (arith, e, least, most))
in_order-counts from (suc count) top x xs e least most =
    by_order (cases_order x.0 from) (in_order-counts (suc from) count top x xs (omega (arith, e)))
  where
    by_order : (x.0 ≡ from) ⊎ ((x.0 < from) ⊎ (from < x.0)) → (suc from ≤ x.0 → x.0 < top → length (in_order (suc from) count (x ∷ xs)) ≡ suc (length (in_order (suc from) count xs)))
        → length (with_number from (x ∷ xs) ++ in_order (suc from) count (x ∷ xs)) ≡ suc (length (with_number from xs ++ in_order (suc from) count xs))
    by_order (inl same) later =
        let hit : length (with_number from (x ∷ xs)) ≡ suc (length (with_number from xs)) = ap (λ (ys : List Event). length ys) (with-hit from x xs same) in
        let skipped : length (in_order (suc from) count (x ∷ xs)) ≡ length (in_order (suc from) count xs) =
        ap (λ (ys : List Event). length ys) (in_order-skip (suc from) count x xs (omega (arith, same))) in
        omega (arith, length-append (with_number from (x ∷ xs)) (in_order (suc from) count (x ∷ xs)), length-append (with_number from xs) (in_order (suc from) count xs), hit, skipped)
    by_order (inr (inl less)) later = absurd (omega (arith, less, least))
    by_order (inr (inr more)) later =
        let missed : length (with_number from (x ∷ xs)) ≡ length (with_number from xs) =
        ap (λ (ys : List Event). length ys) (with-miss from x xs (λ e. omega (arith, e, more))) in
        let counted = later (omega (arith, more)) most in
        omega (arith, length-append (with_number from (x ∷ xs)) (in_order (suc from) count (x ∷ xs)), length-append (with_number from xs) (in_order (suc from) count xs), missed, counted)

pub length-in_order : (count : ℕ) (xs : List (ℕ × Event)) → AllByRecursion (λ (x : ℕ × Event). x.0 < count) xs → length (in_order 0 count xs) ≡ length xs
length-in_order count [] b = ap (λ (ys : List Event). length ys) (in_order-nil 0 count)
length-in_order count (x ∷ xs) b =
    let rest = length-in_order count xs b.1 in
    let counted = in_order-counts 0 count count x xs (omega arith) (omega arith) b.0 in
    omega (arith, counted, rest)
