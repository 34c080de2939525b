-- How often a number stands in a list, and sums over the elements of a list that is read by `get_elem?`.
use Rattle.std.proofs.Common.{◌≡◌, ◌≢◌, ℕ, zero, suc, ◌+◌, ◌<◌, ◌≤◌, eqb, Bool, not, cond, List, [], ◌∷◌, length, get_or, set, Some, refl, sym, ap, ◌∙◌, subst, arith, eq-eqb, ne_eqb}
use Rattle.std.specs.List.{sum_by, slice_get}
use Rattle.std.proofs.lemmas.List.Sums.{sum_by-cons, sum_by-set, get_or-le-sum_by}
use mathlib.Core.Logic.{dite}
use mathlib.Core.Option.{some, some-injective, some-ne-none}
use native.Mathlib.Decide.{ℕ_discrete}
use lib.ListN.{get_elem?}
use Rattle.ss_turns.specs.View.{times, without}

abbrev one_if : Bool → ℕ
one_if b = cond b 1 0

pub times_here : (k : ℕ) (xs : List ℕ) → times k (k ∷ xs) ≡ times k xs + 1
times_here k xs =
    let cons = sum_by-cons (λ x. cond (eqb x k) 1 0) k xs in
    let one : one_if (eqb k k) ≡ 1 = ap one_if (eq-eqb k k refl) in
    omega (arith, cons, one)

pub times_else : (j k : ℕ) (xs : List ℕ) → k ≢ j → times j (k ∷ xs) ≡ times j xs
times_else j k xs other =
    let cons = sum_by-cons (λ x. cond (eqb x j) 1 0) k xs in
    let none : one_if (eqb k j) ≡ 0 = ap one_if (ne_eqb k j other) in
    omega (arith, cons, none)

-- a test that holds of the head keeps it
filter_yes : (k x : ℕ) (xs : List ℕ) → x ≢ k → without k (x ∷ xs) ≡ x ∷ without k xs
filter_yes k x xs other = ap (λ b. cond (not b) (x ∷ without k xs) (without k xs)) (ne_eqb x k other)

filter_no : (k x : ℕ) (xs : List ℕ) → x ≡ k → without k (x ∷ xs) ≡ without k xs
filter_no k x xs same = ap (λ b. cond (not b) (x ∷ without k xs) (without k xs)) (eq-eqb x k same)

pub times_without : (k : ℕ) (xs : List ℕ) → times k (without k xs) ≡ 0
times_without k [] = refl
times_without k (x ∷ xs) = dite (ℕ_discrete x k)
    (λ same. ap (times k) (filter_no k x xs same) ∙ times_without k xs)
    (λ other. ap (times k) (filter_yes k x xs other) ∙ (times_else k x (without k xs) other ∙ times_without k xs))

pub times_without_else : (j k : ℕ) (xs : List ℕ) → j ≢ k → times j (without k xs) ≡ times j xs
times_without_else j k [] apart = refl
times_without_else j k (x ∷ xs) apart =
    let rest = times_without_else j k xs apart in
    dite (ℕ_discrete x k)
    (λ same. ap (times j) (filter_no k x xs same) ∙ (rest ∙ sym (times_else j x xs (λ e. apart (sym e ∙ same)))))
    (λ other. ap (times j) (filter_yes k x xs other) ∙ (dite (ℕ_discrete x j)
    (λ here. subst (λ y. times j (y ∷ without k xs) ≡ times j (y ∷ xs)) (sym here) (times_here j (without k xs) ∙ (ap (λ n. n + 1) rest ∙ sym (times_here j xs))))
    (λ there. times_else j x (without k xs) there ∙ (rest ∙ sym (times_else j x xs there)))))

pub length_without : (k : ℕ) (xs : List ℕ) → length (without k xs) + times k xs ≡ length xs
length_without k [] = refl
length_without k (x ∷ xs) =
    let rest = length_without k xs in
    dite (ℕ_discrete x k)
    (λ same.
    let less = ap length (filter_no k x xs same) in
    let more : times k (x ∷ xs) ≡ times k xs + 1 = subst (λ y. times k (y ∷ xs) ≡ times k xs + 1) (sym same) (times_here k xs) in
    omega arith)
    (λ other.
    let kept = ap length (filter_yes k x xs other) in
    let same = times_else k x xs other in
    omega arith)

-- numbers below n, each at most once, are at most n
pub few : (n : ℕ) (xs : List ℕ) → ((k : ℕ) → times k xs ≤ 1) → ((k : ℕ) → 0 < times k xs → k < n) → length xs ≤ n
few zero [] once below = omega arith
few zero (x ∷ xs) once below = let here = times_here x xs in let no = below x (omega arith) in absurd (omega arith)
few (suc n) xs once below =
    let fewer = few n (without n xs)
    (λ k. dite (ℕ_discrete k n)
    (λ e. let none = times_without n xs in subst (λ y. times y (without n xs) ≤ 1) (sym e) (omega arith))
    (λ ne. let same = times_without_else k n xs ne in let o = once k in omega arith))
    (λ k has. dite (ℕ_discrete k n)
    (λ e. let none : times k (without n xs) ≡ 0 = subst (λ y. times y (without n xs) ≡ 0) (sym e) (times_without n xs) in absurd (omega arith))
    (λ ne. let same = times_without_else k n xs ne in let b = below k (omega arith) in omega arith)) in
    let whole = length_without n xs in
    let one = once n in
    omega arith

module _ {A : Type 0} where
  read : (l : List A) (i : ℕ) (a : A) → get_elem? l i ≡ some a → (i < length l) × (get_or l i a ≡ a)
  read [] i a e = absurd (some-ne-none a (sym e))
  read (x ∷ xs) zero a e = (omega arith, some-injective x a e)
  read (x ∷ xs) (suc i) a e = let r = read xs i a e in (omega arith, r.1)

  pub sum_set : (f : A → ℕ) (l : List A) (i : ℕ) (a b : A) → get_elem? l i ≡ some a → sum_by f (set l i b) + f a ≡ sum_by f l + f b
  sum_set f l i a b at = let r = read l i a at in subst (λ x. sum_by f (set l i b) + f x ≡ sum_by f l + f b) r.1 (sum_by-set f l i b a r.0)

  pub sum_at : (f : A → ℕ) (l : List A) (i : ℕ) (a : A) → get_elem? l i ≡ some a → f a ≤ sum_by f l
  sum_at f l i a at = let r = read l i a at in subst (λ x. f x ≤ sum_by f l) r.1 (get_or-le-sum_by f l i a r.0)

  -- two elements at two places
  pub sum_two : (f : A → ℕ) (l : List A) (i j : ℕ) (a b : A) → i ≢ j → get_elem? l i ≡ some a → get_elem? l j ≡ some b → f a + f b ≤ sum_by f l
  sum_two f [] i j a b apart p q = absurd (some-ne-none a (sym p))
  sum_two f (x ∷ xs) zero zero a b apart p q = absurd (apart refl)
  sum_two f (x ∷ xs) zero (suc j) a b apart p q =
      let cons = sum_by-cons f x xs in let here = ap f (some-injective x a p) in let there = sum_at f xs j b q in omega arith
  sum_two f (x ∷ xs) (suc i) zero a b apart p q =
      let cons = sum_by-cons f x xs in let here = ap f (some-injective x b q) in let there = sum_at f xs i a p in omega arith
  sum_two f (x ∷ xs) (suc i) (suc j) a b apart p q =
      let cons = sum_by-cons f x xs in let both = sum_two f xs i j a b (λ e. apart (ap suc e)) p q in omega arith

  pub sum_none : (f : A → ℕ) (l : List A) → ((i : ℕ) (a : A) → get_elem? l i ≡ some a → f a ≡ 0) → sum_by f l ≡ 0
  sum_none f [] none = refl
  sum_none f (x ∷ xs) none = let cons = sum_by-cons f x xs in let here = none 0 x refl in let rest = sum_none f xs (λ i a. none (suc i) a) in omega arith

  -- where the terms of all other elements are 0
  pub sum_only : (f : A → ℕ) (l : List A) (i : ℕ) (a : A) → get_elem? l i ≡ some a → ((j : ℕ) (b : A) → j ≢ i → get_elem? l j ≡ some b → f b ≡ 0) → sum_by f l ≡ f a
  sum_only f [] i a at none = absurd (some-ne-none a (sym at))
  sum_only f (x ∷ xs) zero a at none =
      let cons = sum_by-cons f x xs in let here = ap f (some-injective x a at) in
      let rest = sum_none f xs (λ j b. none (suc j) b (λ e. omega arith)) in omega arith
  sum_only f (x ∷ xs) (suc i) a at none =
      let cons = sum_by-cons f x xs in let here = none 0 x (λ e. omega arith) refl in
      let rest = sum_only f xs i a at (λ j b apart. none (suc j) b (λ e. apart (omega arith))) in omega arith

  -- an element by its index, in both of the ways to read a list
  pub there : (l : List A) (i : ℕ) → i < length l → (a : A) × (slice_get l i ≡ Some a) × (get_elem? l i ≡ some a)
  there [] i h = absurd (omega arith)
  there (x ∷ xs) zero h = (x, refl, refl)
  there (x ∷ xs) (suc i) h = there xs i (omega arith)
