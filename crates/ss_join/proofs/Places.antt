-- Rows at their places: one more, and one fewer.
use Rattle.std.proofs.Common.{◌≡◌, ℕ, ◌+◌, ◌<◌, ◌≤◌, ◌==◌, Bool, true, false, cond, List, [], ◌∷◌, length, map, filter, Some, None, refl, sym, ap, subst, ◌∙◌, arith}
use Rattle.std.specs.List.{AllByRecursion}
use Rattle.std.specs.declared.cmp.Ordering.{Ordering}
use Rattle.std.specs.declared.cmp.Ordering.TheVariants.{Less, Equal, Greater}
use Rattle.std.specs.Ordering.{nat_cmp, ordering_then, is_eq, match_ordering}
use Rattle.std.specs.Cmp.{IsTotalOrder, nat_cmp_total, then_total, on_total}
use Rattle.std.specs.Map.{lookup, remove_entry}
use Rattle.std.specs.BTreeMap.{is_at, insert_entry}
use Rattle.std.proofs.lemmas.Bool.{eqb-true}
use Rattle.std.proofs.lemmas.Map.{NonePasses, lookup-none}
use Rattle.std.proofs.lemmas.Map.Lookups.{CmpEqualImpliesEq, exact_pairs, exact_unsigned}
use Rattle.ss_elem.specs.declared.element.Event.{Event}
use Rattle.ss_join.specs.Held.{place_cmp, end_cmp, numbered, with_number, IsPlaced}
use Rattle.ss_join.proofs.Numbers.{with-hit, with-miss, length-with}

-- the two orders

pub place_total : IsTotalOrder place_cmp
place_total = then_total (on_total (λ (p : ℕ × ℕ). p.0) nat_cmp_total) (on_total (λ (p : ℕ × ℕ). p.1) nat_cmp_total)

pub place_exact : CmpEqualImpliesEq place_cmp
place_exact = exact_pairs nat_cmp nat_cmp exact_unsigned exact_unsigned

pub end_total : IsTotalOrder end_cmp
end_total =
    then_total (then_total (on_total (λ (p : ℕ × ℕ × ℕ). p.0) nat_cmp_total) (on_total (λ (p : ℕ × ℕ × ℕ). p.1) nat_cmp_total))
    (on_total (λ (p : ℕ × ℕ × ℕ). p.2) nat_cmp_total)

both_equal : (a b : Ordering) → ordering_then a b ≡ Equal → (a ≡ Equal) × (b ≡ Equal)
both_equal Less b h = let no : ⊥ = cc in absurd no
both_equal Equal b h = (refl, h)
both_equal Greater b h = let no : ⊥ = cc in absurd no

pub end_exact : CmpEqualImpliesEq end_cmp
end_exact x y h =
    let last = both_equal (ordering_then (nat_cmp x.0 y.0) (nat_cmp x.1 y.1)) (nat_cmp x.2 y.2) h in
    let first = both_equal (nat_cmp x.0 y.0) (nat_cmp x.1 y.1) last.0 in
    let a : x.0 ≡ y.0 = exact_unsigned x.0 y.0 first.0 in
    let b : x.1 ≡ y.1 = exact_unsigned x.1 y.1 first.1 in
    let c : x.2 ≡ y.2 = exact_unsigned x.2 y.2 last.1 in
    let triple = λ (m n k : ℕ). let t : ℕ × ℕ × ℕ = (m, n, k) in t in
    ap (λ n. triple n x.1 x.2) a ∙ (ap (λ n. triple y.0 n x.2) b ∙ ap (triple y.0 y.1) c)

pub equal_from : (c : Ordering) → is_eq c ≡ true → c ≡ Equal
equal_from Less h = let no : ⊥ = cc in absurd no
equal_from Equal h = refl
equal_from Greater h = let no : ⊥ = cc in absurd no

-- rows by the numbers of their places

abbrev pub by : {K : Type 0} → (K → ℕ) → List (K × Event) → List (ℕ × Event)
by num es = map (λ e. (num e.0, e.1)) es

-- no place has this number
abbrev pub IsFresh : {K : Type 0} → (K → ℕ) → ℕ → List (K × Event) → Type 0
IsFresh num n es = AllByRecursion (λ e. num e.0 ≡ n → ⊥) es

pub fresh_none : {K : Type 0} (num : K → ℕ) (n : ℕ) (es : List (K × Event)) → IsFresh num n es → with_number n (by num es) ≡ []
fresh_none num n [] h = refl
fresh_none num n (e ∷ es) h = with-miss n (num e.0, e.1) (by num es) h.0 ∙ fresh_none num n es h.1

some_none : (x : Event) (xs : List Event) → x ∷ xs ≡ [] → ⊥
some_none x xs h = cc

pub none_fresh : {K : Type 0} (num : K → ℕ) (n : ℕ) (es : List (K × Event)) → with_number n (by num es) ≡ [] → IsFresh num n es
none_fresh num n [] h = tt
none_fresh {K} num n (e ∷ es) h =
    let apart : num e.0 ≡ n → ⊥ = λ s. some_none e.1 (with_number n (by num es)) (sym (with-hit n (num e.0, e.1) (by num es) s) ∙ h) in
    (apart, none_fresh num n es (sym (with-miss n (num e.0, e.1) (by num es) apart) ∙ h))

-- a row at a new place is the one row with its number

pub with-inserted : {K : Type 0} (cmp : K → K → Ordering) → CmpEqualImpliesEq cmp → (num : K → ℕ) (n : ℕ) (k : K) (v : Event) (es : List (K × Event))
    → IsFresh num (num k) es
    → with_number n (by num (insert_entry cmp es k v)) ≡ cond (num k == n) (v ∷ []) (with_number n (by num es))
with-inserted cmp exact num n k v [] h = by_test (num k == n)
  where
    by_test : (b : Bool) → map (λ (x : ℕ × Event). x.1) (cond b ((num k, v) ∷ []) []) ≡ cond b (v ∷ []) []
    by_test true = refl
    by_test false = refl
with-inserted {K} cmp exact num n k v (e ∷ es) h =
    by_order (cmp k e.0) refl (with-inserted cmp exact num n k v es h.1)
  where
    at_new : (b : Bool) → (num k == n) ≡ b
        → map (λ (x : ℕ × Event). x.1) (cond b ((num k, v) ∷ filter (λ (x : ℕ × Event). x.0 == n) (by num (e ∷ es))) (filter (λ (x : ℕ × Event). x.0 == n) (by num (e ∷ es))))
        ≡ cond b (v ∷ []) (with_number n (by num (e ∷ es)))
    at_new true s =
        let same = eqb-true (num k) n s in
        ap (λ (xs : List Event). v ∷ xs) (fresh_none num n (e ∷ es) (subst (λ m. IsFresh num m (e ∷ es)) same h))
    at_new false s = refl

    at_head : (a b : Bool) → (num e.0 == n) ≡ a → (num k == n) ≡ b
        → with_number n (by num (insert_entry cmp es k v)) ≡ cond b (v ∷ []) (with_number n (by num es))
        → map (λ (x : ℕ × Event). x.1) (cond a ((num e.0, e.1) ∷ filter (λ (x : ℕ × Event). x.0 == n) (by num (insert_entry cmp es k v))) (filter (λ (x : ℕ × Event). x.0 == n) (by num (insert_entry cmp es k v))))
        ≡ cond b (v ∷ []) (map (λ (x : ℕ × Event). x.1) (cond a ((num e.0, e.1) ∷ filter (λ (x : ℕ × Event). x.0 == n) (by num es)) (filter (λ (x : ℕ × Event). x.0 == n) (by num es))))
    at_head true true s t rest = absurd (h.0 (eqb-true (num e.0) n s ∙ sym (eqb-true (num k) n t)))
    at_head true false s t rest = ap (λ (xs : List Event). e.1 ∷ xs) rest
    at_head false b s t rest = rest

    by_order : (c : Ordering) → cmp k e.0 ≡ c
        → with_number n (by num (insert_entry cmp es k v)) ≡ cond (num k == n) (v ∷ []) (with_number n (by num es))
        → with_number n (by num (match_ordering c ((k, v) ∷ e ∷ es) ((e.0, v) ∷ es) (e ∷ insert_entry cmp es k v)))
        ≡ cond (num k == n) (v ∷ []) (with_number n (by num (e ∷ es)))
    by_order Less s rest = at_new (num k == n) refl
    by_order Equal s rest = absurd (h.0 (sym (ap num (exact k e.0 s))))
    by_order Greater s rest = at_head (num e.0 == n) (num k == n) refl refl rest

pub all-inserted : {K : Type 0} (cmp : K → K → Ordering) → CmpEqualImpliesEq cmp → (num : K → ℕ) (P : K × Event → Type 0) (k : K) (v : Event) (es : List (K × Event))
    → IsFresh num (num k) es → P (k, v) → AllByRecursion P es → AllByRecursion P (insert_entry cmp es k v)
all-inserted cmp exact num P k v [] h p all = (p, tt)
all-inserted cmp exact num P k v (e ∷ es) h p all = by_order (cmp k e.0) refl (all-inserted cmp exact num P k v es h.1 p all.1)
  where
    by_order : (c : Ordering) → cmp k e.0 ≡ c → AllByRecursion P (insert_entry cmp es k v)
        → AllByRecursion P (match_ordering c ((k, v) ∷ e ∷ es) ((e.0, v) ∷ es) (e ∷ insert_entry cmp es k v))
    by_order Less s rest = (p, all)
    by_order Equal s rest = absurd (h.0 (sym (ap num (exact k e.0 s))))
    by_order Greater s rest = (all.0, rest)

-- there is nothing at a place with a new number

pub fresh_lookup : (key n : ℕ) (es : List ((ℕ × ℕ) × Event)) → IsFresh (λ (p : ℕ × ℕ). p.1) n es → lookup (is_at (place_cmp (key, n))) es ≡ None
fresh_lookup key n es h = lookup-none (is_at (place_cmp (key, n))) es (none es h)
  where
    apart : (e : (ℕ × ℕ) × Event) (b : Bool) → (e.0.1 ≡ n → ⊥) → is_at (place_cmp (key, n)) e.0 ≡ b → b ≡ false
    apart e true k s = absurd (k (sym (ap (λ (p : ℕ × ℕ). p.1) (place_exact (key, n) e.0 (equal_from (place_cmp (key, n) e.0) s)))))
    apart e false k s = refl

    none : (xs : List ((ℕ × ℕ) × Event)) → IsFresh (λ (p : ℕ × ℕ). p.1) n xs → NonePasses (is_at (place_cmp (key, n))) xs
    none [] k = tt
    none (x ∷ xs) k = (apart x (is_at (place_cmp (key, n)) x.0) k.0 refl, none xs k.1)

pub placed_fresh : (next : ℕ) (es : List ((ℕ × ℕ) × Event)) → AllByRecursion (IsPlaced next) es → IsFresh (λ (p : ℕ × ℕ). p.1) next es
placed_fresh next [] h = tt
placed_fresh next (e ∷ es) h = let below = h.0.below in (λ s. omega (arith, s, below), placed_fresh next es h.1)

pub placed_more : (next : ℕ) (es : List ((ℕ × ℕ) × Event)) → AllByRecursion (IsPlaced next) es → AllByRecursion (IsPlaced (next + 1)) es
placed_more next [] h = tt
placed_more next (e ∷ es) h = let below = h.0.below in (record { key = h.0.key; below = omega (arith, below) }, placed_more next es h.1)

pub placed_below : (next : ℕ) (es : List ((ℕ × ℕ) × Event)) → AllByRecursion (IsPlaced next) es → AllByRecursion (λ (x : ℕ × Event). x.0 < next) (numbered es)
placed_below next [] h = tt
placed_below next (e ∷ es) h = (h.0.below, placed_below next es h.1)

-- one row fewer

pub all-removed : {K : Type 0} (P : K × Event → Type 0) (test : K → Bool) (es : List (K × Event)) → AllByRecursion P es → AllByRecursion P (remove_entry test es)
all-removed P test [] all = tt
all-removed P test (e ∷ es) all = by_test (test e.0) (all-removed P test es all.1)
  where
    by_test : (b : Bool) → AllByRecursion P (remove_entry test es) → AllByRecursion P (cond b es (e ∷ remove_entry test es))
    by_test true rest = all.1
    by_test false rest = (all.0, rest)

pub length-removed : (n : ℕ) (test : ℕ × ℕ → Bool) (es : List ((ℕ × ℕ) × Event))
    → length (with_number n (numbered (remove_entry test es))) ≤ length (with_number n (numbered es))
length-removed n test [] = omega arith
length-removed n test (e ∷ es) = by_test (test e.0) (length-removed n test es)
  where
    by_test : (b : Bool) → length (with_number n (numbered (remove_entry test es))) ≤ length (with_number n (numbered es))
        → length (with_number n (numbered (cond b es (e ∷ remove_entry test es)))) ≤ length (with_number n (numbered (e ∷ es)))
    by_test true rest = omega (arith, length-with n (e.0.1, e.1) (numbered es))
    by_test false rest = omega (arith, length-with n (e.0.1, e.1) (numbered es), length-with n (e.0.1, e.1) (numbered (remove_entry test es)), rest)

none_some : (x : Event) → None ≡ Some x → ⊥
none_some x h = cc

-- a row that fails a test may go
pub filter-removed : (p : Event → Bool) (test : ℕ × ℕ → Bool) (v : Event) (es : List ((ℕ × ℕ) × Event)) → lookup test es ≡ Some v → p v ≡ false
    → filter (λ (e : (ℕ × ℕ) × Event). p e.1) (remove_entry test es) ≡ filter (λ (e : (ℕ × ℕ) × Event). p e.1) es
filter-removed p test v [] h k = absurd (none_some v h)
filter-removed p test v (e ∷ es) h k = by_test (test e.0) refl h (filter-removed p test v es)
  where
    by_test : (b : Bool) → test e.0 ≡ b → cond b (Some e.1) (lookup test es) ≡ Some v
        → (lookup test es ≡ Some v → p v ≡ false → filter (λ (x : (ℕ × ℕ) × Event). p x.1) (remove_entry test es) ≡ filter (λ (x : (ℕ × ℕ) × Event). p x.1) es)
        → filter (λ (x : (ℕ × ℕ) × Event). p x.1) (cond b es (e ∷ remove_entry test es))
        ≡ cond (p e.1) (e ∷ filter (λ (x : (ℕ × ℕ) × Event). p x.1) es) (filter (λ (x : (ℕ × ℕ) × Event). p x.1) es)
    by_test true s found rest =
        let same : e.1 ≡ v = cc in
        sym (ap (λ b. cond b (e ∷ filter (λ (x : (ℕ × ℕ) × Event). p x.1) es) (filter (λ (x : (ℕ × ℕ) × Event). p x.1) es)) (ap p same ∙ k))
    by_test false s found rest =
        ap (λ xs. cond (p e.1) (e ∷ xs) xs) (rest found k)
