-- Lists of snapshots: membership, the greatest one that passes a test, and order.
use Rattle.std.proofs.Common.{◌≡◌, ℕ, ◌<◌, ◌≤◌, max, Bool, true, false, cond, nat_eq, nat_lt, List, [], ◌∷◌, filter, refl, sym, subst, ◌⊎◌, inl, inr, ⊎_elim, arith, eq-eqb, ltb-true, ltb-false}
use Rattle.std.proofs.lemmas.Bool.{cases_lt, cond_both, cond-true, or_cases, or_left, or_right, eqb-true, both_ways}
use Rattle.std.specs.List.{AllByRecursion}
use Rattle.ss_state.specs.LowWater.{greatest_where}
use Rattle.ss_state.specs.Journal.{is_one_of, put_in}
use Rattle.ss_state.specs.Joint.{Rises}

pub one_of_nil : (n : ℕ) → is_one_of n [] ≡ true → ⊥
one_of_nil n h = cc

pub one_of_cons : (n m : ℕ) (ms : List ℕ) → is_one_of n (m ∷ ms) ≡ true → (m ≡ n) ⊎ (is_one_of n ms ≡ true)
one_of_cons n m ms h = ⊎_elim (λ e. inl (eqb-true m n e)) (λ e. inr e) (or_cases (nat_eq m n) (is_one_of n ms) h)

pub one_of_here : (n m : ℕ) (ms : List ℕ) → m ≡ n → is_one_of n (m ∷ ms) ≡ true
one_of_here n m ms e = or_left (nat_eq m n) (is_one_of n ms) (eq-eqb m n e)

pub one_of_there : (n m : ℕ) (ms : List ℕ) → is_one_of n ms ≡ true → is_one_of n (m ∷ ms) ≡ true
one_of_there n m ms e = or_right (nat_eq m n) (is_one_of n ms) e

-- a number put among others

pub one_of_put : (n k : ℕ) (ms : List ℕ) → is_one_of n (put_in k ms) ≡ true → (k ≡ n) ⊎ (is_one_of n ms ≡ true)
one_of_put n k [] h = one_of_cons n k [] h
one_of_put n k (m ∷ ms) h =
    let P : List ℕ → Type 0 = λ xs. is_one_of n xs ≡ true → (k ≡ n) ⊎ (is_one_of n (m ∷ ms) ≡ true) in
    cond_both (nat_lt k m) (k ∷ m ∷ ms) (m ∷ put_in k ms) P
    (λ t e. one_of_cons n k (m ∷ ms) e)
    (λ t e. ⊎_elim (λ here. inr (one_of_here n m ms here))
    (λ there. ⊎_elim (λ same. inl same) (λ more. inr (one_of_there n m ms more)) (one_of_put n k ms there)) (one_of_cons n m (put_in k ms) e)) h

pub put_same : (k : ℕ) (ms : List ℕ) → is_one_of k (put_in k ms) ≡ true
put_same k [] = one_of_here k k [] refl
put_same k (m ∷ ms) =
    let P : List ℕ → Type 0 = λ xs. is_one_of k xs ≡ true in
    cond_both (nat_lt k m) (k ∷ m ∷ ms) (m ∷ put_in k ms) P
    (λ t. one_of_here k k (m ∷ ms) refl) (λ t. one_of_there k m (put_in k ms) (put_same k ms))

pub put_other : (n k : ℕ) (ms : List ℕ) → is_one_of n ms ≡ true → is_one_of n (put_in k ms) ≡ true
put_other n k [] h = absurd (one_of_nil n h)
put_other n k (m ∷ ms) h =
    let P : List ℕ → Type 0 = λ xs. is_one_of n xs ≡ true in
    cond_both (nat_lt k m) (k ∷ m ∷ ms) (m ∷ put_in k ms) P
    (λ t. one_of_there n k (m ∷ ms) h)
    (λ t. ⊎_elim (λ here. one_of_here n m (put_in k ms) here) (λ there. one_of_there n m (put_in k ms) (put_other n k ms there)) (one_of_cons n m ms h))

-- those that pass a test

pub one_of_filter : (f : ℕ → Bool) (n : ℕ) (ms : List ℕ) → is_one_of n (filter f ms) ≡ true → (f n ≡ true) × (is_one_of n ms ≡ true)
one_of_filter f n [] h = absurd (one_of_nil n h)
one_of_filter f n (m ∷ ms) h =
    let P : List ℕ → Type 0 = λ xs. is_one_of n xs ≡ true → (f n ≡ true) × (is_one_of n (m ∷ ms) ≡ true) in
    let rest : is_one_of n (filter f ms) ≡ true → (f n ≡ true) × (is_one_of n (m ∷ ms) ≡ true) =
    λ e. let found = one_of_filter f n ms e in (found.0, one_of_there n m ms found.1) in
    cond_both (f m) (m ∷ filter f ms) (filter f ms) P
    (λ t e. ⊎_elim (λ here. (subst (λ k. f k ≡ true) here t, one_of_here n m ms here)) rest (one_of_cons n m (filter f ms) e))
    (λ t e. rest e) h

pub filter_keeps : (f : ℕ → Bool) (n : ℕ) (ms : List ℕ) → f n ≡ true → is_one_of n ms ≡ true → is_one_of n (filter f ms) ≡ true
filter_keeps f n [] p h = absurd (one_of_nil n h)
filter_keeps f n (m ∷ ms) p h =
    let P : List ℕ → Type 0 = λ xs. is_one_of n xs ≡ true in
    cond_both (f m) (m ∷ filter f ms) (filter f ms) P
    (λ t. ⊎_elim (λ here. one_of_here n m (filter f ms) here) (λ there. one_of_there n m (filter f ms) (filter_keeps f n ms p there)) (one_of_cons n m ms h))
    (λ t. ⊎_elim (λ here. absurd (both_ways (f n) (subst (λ k. f k ≡ false) here t) p)) (λ there. filter_keeps f n ms p there) (one_of_cons n m ms h))

-- the greatest that passes a test

pub greatest_in : (test : ℕ → Bool) (ns : List ℕ) → (greatest_where test ns ≡ 0) ⊎ (is_one_of (greatest_where test ns) ns ≡ true)
greatest_in test [] = inl refl
greatest_in test (n ∷ ns) =
    let g = greatest_where test ns in
    let P : ℕ → Type 0 = λ k. (max k g ≡ 0) ⊎ (is_one_of (max k g) (n ∷ ns) ≡ true) in
    let other : (k : ℕ) → k ≤ g → (max k g ≡ 0) ⊎ (is_one_of (max k g) (n ∷ ns) ≡ true) = λ k less.
    ⊎_elim (λ none. inl (omega arith))
    (λ some. inr (one_of_there (max k g) n ns (subst (λ j. is_one_of j ns ≡ true) (let e : g ≡ max k g = omega arith in e) some)))
    (greatest_in test ns) in
    cond_both (test n) n 0 P
    (λ t. ⊎_elim (λ less. other n (omega arith)) (λ more. inr (one_of_here (max n g) n ns (omega arith))) (cases_lt n g))
    (λ t. other 0 (omega arith))

-- it is at least each of them that passes
pub greatest_least : (test : ℕ → Bool) (n : ℕ) (ns : List ℕ) → is_one_of n ns ≡ true → test n ≡ true → n ≤ greatest_where test ns
greatest_least test n [] h t = absurd (one_of_nil n h)
greatest_least test n (m ∷ ns) h t =
    ⊎_elim (λ here. let e : cond (test m) m 0 ≡ m = cond-true (test m) m 0 (subst (λ k. test k ≡ true) (sym here) t) in omega arith)
    (λ there. let less = greatest_least test n ns there t in omega arith) (one_of_cons n m ns h)

-- it passes, where 0 does
pub greatest_passes : (test : ℕ → Bool) (ns : List ℕ) → test 0 ≡ true → test (greatest_where test ns) ≡ true
greatest_passes test [] z = z
greatest_passes test (n ∷ ns) z =
    let g = greatest_where test ns in
    let rest = greatest_passes test ns z in
    let P : ℕ → Type 0 = λ k. test (max k g) ≡ true in
    cond_both (test n) n 0 P
    (λ t. ⊎_elim (λ less. subst (λ j. test j ≡ true) (let e : g ≡ max n g = omega arith in e) rest) (λ more. subst (λ j. test j ≡ true) (let e : n ≡ max n g = omega arith in e) t) (cases_lt n g))
    (λ t. subst (λ j. test j ≡ true) (let e : g ≡ max 0 g = omega arith in e) rest)

-- of more numbers, and of those that pass a weaker test, it is no less
pub greatest_grows : (f g : ℕ → Bool) (ms ns : List ℕ) → f 0 ≡ true → ((n : ℕ) → is_one_of n ms ≡ true → f n ≡ true → (is_one_of n ns ≡ true) × (g n ≡ true))
    → greatest_where f ms ≤ greatest_where g ns
greatest_grows f g ms ns z h = ⊎_elim (λ none. omega arith)
    (λ some. let more = h (greatest_where f ms) some (greatest_passes f ms z) in greatest_least g (greatest_where f ms) ns more.0 more.1) (greatest_in f ms)

-- order

pub above_put : (n k : ℕ) (ms : List ℕ) → n < k → AllByRecursion (λ m. n < m) ms → AllByRecursion (λ m. n < m) (put_in k ms)
above_put n k [] h all = (h, tt)
above_put n k (m ∷ ms) h all =
    let P : List ℕ → Type 0 = λ xs. AllByRecursion (λ j. n < j) xs in
    cond_both (nat_lt k m) (k ∷ m ∷ ms) (m ∷ put_in k ms) P (λ t. (h, all)) (λ t. (all.0, above_put n k ms h all.1))

above_more : (n k : ℕ) (ms : List ℕ) → n ≤ k → AllByRecursion (λ m. k < m) ms → AllByRecursion (λ m. n < m) ms
above_more n k [] h all = tt
above_more n k (m ∷ ms) h all = (omega (arith, all.0), above_more n k ms h all.1)

pub rises_put : (k : ℕ) (ms : List ℕ) → is_one_of k ms ≡ false → Rises ms → Rises (put_in k ms)
rises_put k [] new h = (tt, tt)
rises_put k (m ∷ ms) new h =
    let differs : m ≡ k → ⊥ = λ e. both_ways (is_one_of k (m ∷ ms)) new (one_of_here k m ms e) in
    let rest : is_one_of k ms ≡ false = by_test (is_one_of k ms) refl in
    let P : List ℕ → Type 0 = λ xs. Rises xs in
    cond_both (nat_lt k m) (k ∷ m ∷ ms) (m ∷ put_in k ms) P
    (λ t. let less = ltb-true k m t in ((less, above_more k m ms (omega arith) h.0), h))
    (λ t. let more = ltb-false k m t in (above_put m k ms (omega (arith, differs)) h.0, rises_put k ms rest h.1))
  where
    by_test : (b : Bool) → is_one_of k ms ≡ b → is_one_of k ms ≡ false
    by_test true e = absurd (both_ways (is_one_of k (m ∷ ms)) new (one_of_there k m ms e))
    by_test false e = e

above_filter : (n : ℕ) (f : ℕ → Bool) (ms : List ℕ) → AllByRecursion (λ m. n < m) ms → AllByRecursion (λ m. n < m) (filter f ms)
above_filter n f [] all = tt
above_filter n f (m ∷ ms) all =
    let P : List ℕ → Type 0 = λ xs. AllByRecursion (λ j. n < j) xs in
    cond_both (f m) (m ∷ filter f ms) (filter f ms) P (λ t. (all.0, above_filter n f ms all.1)) (λ t. above_filter n f ms all.1)

pub rises_filter : (f : ℕ → Bool) (ms : List ℕ) → Rises ms → Rises (filter f ms)
rises_filter f [] h = tt
rises_filter f (m ∷ ms) h =
    let P : List ℕ → Type 0 = λ xs. Rises xs in
    cond_both (f m) (m ∷ filter f ms) (filter f ms) P (λ t. (above_filter m f ms h.0, rises_filter f ms h.1)) (λ t. rises_filter f ms h.1)
