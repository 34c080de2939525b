-- The different keys of rows, counted where they stand by key.
use Rattle.std.proofs.Common.{◌≡◌, ℕ, zero, suc, ◌+◌, ◌<◌, ◌≤◌, ◌==◌, Bool, true, false, cond, not, ◌&&◌, ◌||◌, ◌⊎◌, inl, inr, List, [], ◌∷◌, ◌++◌, length, map, filter, Option, Some, None, refl, sym, ap, subst, ◌∙◌, arith, eq-eqb}
use Rattle.std.specs.Prelude.{nat_eq}
use Rattle.std.specs.List.{AllByRecursion, list_any, IsDistinct}
use Rattle.std.specs.List.Sorted.{IsStrictlySortedBy}
use Rattle.std.specs.declared.cmp.Ordering.{Ordering}
use Rattle.std.specs.declared.cmp.Ordering.TheVariants.{Less, Equal, Greater}
use Rattle.std.specs.Ordering.{nat_cmp, ordering_then, MatchOrdering}
use Rattle.std.specs.Cmp.{nat_eq_equiv}
use Rattle.std.specs.Map.{keys_of, values_of}
use Rattle.std.specs.Map.Iter.{TakesFirst}
use Rattle.std.specs.Option.{is_some}
use Rattle.std.specs.Set.{is_member, distinct_count, unique_keys}
use Rattle.std.specs.BTreeMap.{BTreeMap}
use Rattle.std.specs.BTreeSet.{BTreeSet}
use Rattle.std.proofs.lemmas.Bool.{cases_order, ne_eqb, eqb-true, eqb-false}
use Rattle.std.proofs.lemmas.Cmp.{ranked}
use Rattle.std.proofs.lemmas.List.Folds.{list_any-append}
use Rattle.std.proofs.lemmas.Map.Keys.{IsDistinct-cons}
use Rattle.std.proofs.lemmas.Map.Made.{is_member-filter, length-from_keys}
use Rattle.ss_elem.specs.declared.element.Event.{Event}
use Rattle.ss_join.specs.Held.{place_cmp, numbered, with_number, in_order, rows_held, IsPlaced, AreHeld, is_new, keys_apart}
use Rattle.ss_join.specs.States.{row_keys}
use Rattle.ss_join.proofs.Numbers.{with-hit, with-miss, in_order-nil, in_order-skip}
use Rattle.ss_join.proofs.Places.{placed_below}
use Rattle.ss_join.proofs.Listings.{values-numbered}

-- the first of each run of keys, without those that are skipped

abbrev pub first_keys : (ℕ → Bool) → Option ℕ → List ℕ → List ℕ
first_keys skip before [] = []
first_keys skip before (k ∷ ks) = cond (is_new before k && not (skip k)) (k ∷ first_keys skip (Some k) ks) (first_keys skip (Some k) ks)

-- keys from one on that don't fall
abbrev DontFall : ℕ → List ℕ → Type 0
DontFall from [] = Unit {0}
DontFall from (k ∷ ks) = (from ≤ k) × DontFall k ks

none_below : (q from : ℕ) (ks : List ℕ) → DontFall from ks → q < from → is_member nat_eq ks q ≡ false
none_below q from [] h l = refl
none_below q from (k ∷ ks) h l =
    let least = h.0 in
    ap (λ b. b || is_member nat_eq ks q) (ne_eqb q k (λ e. omega (arith, e, l, least))) ∙ none_below q k ks h.1 (omega (arith, l, least))

none_above : (q from : ℕ) (ks : List ℕ) → AllByRecursion (λ (k : ℕ). from < k) ks → q ≤ from → is_member nat_eq ks q ≡ false
none_above q from [] h l = refl
none_above q from (k ∷ ks) h l =
    let more = h.0 in
    ap (λ b. b || is_member nat_eq ks q) (ne_eqb q k (λ e. omega (arith, e, l, more))) ∙ none_above q from ks h.1 l

weaker : (from least : ℕ) (ks : List ℕ) → least ≤ from → AllByRecursion (λ (k : ℕ). from < k) ks → AllByRecursion (λ (k : ℕ). least < k) ks
weaker from least [] l h = tt
weaker from least (k ∷ ks) l h = let more = h.0 in (omega (arith, l, more), weaker from least ks l h.1)

above_before : (skip : ℕ → Bool) (before : ℕ) (ks : List ℕ) → DontFall before ks → AllByRecursion (λ (k : ℕ). before < k) (first_keys skip (Some before) ks)
above_before skip before [] h = tt
above_before skip before (k ∷ ks) h =
    by_tests (before == k) (not (skip k)) refl (weaker k before (first_keys skip (Some k) ks) h.0 (above_before skip k ks h.1))
  where
    by_tests : (b c : Bool) → (before == k) ≡ b → AllByRecursion (λ (n : ℕ). before < n) (first_keys skip (Some k) ks)
        → AllByRecursion (λ (n : ℕ). before < n) (cond (not b && c) (k ∷ first_keys skip (Some k) ks) (first_keys skip (Some k) ks))
    by_tests true c s rest = rest
    by_tests false true s rest =
        let least = h.0 in
        let apart = eqb-false before k s in
        (grind (arith, least, apart), rest)
    by_tests false false s rest = rest

rising_distinct : (k : ℕ) (ks : List ℕ) → AllByRecursion (λ (n : ℕ). k < n) ks → AllByRecursion (λ (n : ℕ). nat_eq k n ≡ false) ks
rising_distinct k [] h = tt
rising_distinct k (n ∷ ks) h = let more = h.0 in (ne_eqb k n (λ e. omega (arith, e, more)), rising_distinct k ks h.1)

distinct_none : IsDistinct nat_eq []
unfolding IsDistinct
distinct_none = tt

first_distinct : (skip : ℕ → Bool) (before : Option ℕ) (from : ℕ) (ks : List ℕ) → DontFall from ks → IsDistinct nat_eq (first_keys skip before ks)
first_distinct skip before from [] h = distinct_none
first_distinct skip before from (k ∷ ks) h =
    by_test (is_new before k && not (skip k)) (first_distinct skip (Some k) k ks h.1)
  where
    by_test : (b : Bool) → IsDistinct nat_eq (first_keys skip (Some k) ks) → IsDistinct nat_eq (cond b (k ∷ first_keys skip (Some k) ks) (first_keys skip (Some k) ks))
    by_test true rest = IsDistinct-cons nat_eq k (first_keys skip (Some k) ks) (rising_distinct k (first_keys skip (Some k) ks) (above_before skip k ks h.1)) rest
    by_test false rest = rest

-- the key before is below another, where there is one
abbrev IsAfter : Option ℕ → ℕ → Type 0
IsAfter None q = Unit {0}
IsAfter (Some before) q = before < q

after_new : (before : Option ℕ) (q : ℕ) → IsAfter before q → is_new before q ≡ true
after_new None q h = refl
after_new (Some before) q h = ap not (ne_eqb before q (λ e. omega (arith, e, h)))

first_members : (skip : ℕ → Bool) (q : ℕ) (before : Option ℕ) (from : ℕ) (ks : List ℕ) → DontFall from ks → IsAfter before q
    → is_member nat_eq (first_keys skip before ks) q ≡ (is_member nat_eq ks q && not (skip q))
first_members skip q before from [] h after = refl
first_members skip q before from (k ∷ ks) h after =
    by_order (cases_order q k) (λ (l : k < q). first_members skip q (Some k) k ks h.1 l)
  where
    apart : (c : Bool) → (q ≡ k → ⊥) → is_member nat_eq (cond c (k ∷ first_keys skip (Some k) ks) (first_keys skip (Some k) ks)) q ≡ is_member nat_eq (first_keys skip (Some k) ks) q
    apart true other = ap (λ b. b || is_member nat_eq (first_keys skip (Some k) ks) q) (ne_eqb q k other)
    apart false other = refl

    here : (s : Bool) → q ≡ k
        → is_member nat_eq (cond (true && not s) (k ∷ first_keys skip (Some k) ks) (first_keys skip (Some k) ks)) q ≡ not s
    here true same = none_above q k (first_keys skip (Some k) ks) (above_before skip k ks h.1) (omega (arith, same))
    here false same = ap (λ b. b || is_member nat_eq (first_keys skip (Some k) ks) q) (eq-eqb q k same)

    by_order : (q ≡ k) ⊎ ((q < k) ⊎ (k < q)) → (k < q → is_member nat_eq (first_keys skip (Some k) ks) q ≡ (is_member nat_eq ks q && not (skip q)))
        → is_member nat_eq (cond (is_new before k && not (skip k)) (k ∷ first_keys skip (Some k) ks) (first_keys skip (Some k) ks)) q
        ≡ (((q == k) || is_member nat_eq ks q) && not (skip q))
    by_order (inl same) rest =
        let new : is_new before k ≡ true = subst (λ n. is_new before n ≡ true) same (after_new before q after) in
        ap (λ b. is_member nat_eq (cond (b && not (skip k)) (k ∷ first_keys skip (Some k) ks) (first_keys skip (Some k) ks)) q) new
        ∙ (here (skip k) same ∙ (ap (λ n. not (skip n)) (sym same) ∙ sym (ap (λ b. (b || is_member nat_eq ks q) && not (skip q)) (eq-eqb q k same))))
    by_order (inr (inl less)) rest =
        apart (is_new before k && not (skip k)) (λ e. omega (arith, e, less))
        ∙ (none_above q k (first_keys skip (Some k) ks) (above_before skip k ks h.1) (omega (arith, less))
        ∙ sym (ap (λ b. (b || is_member nat_eq ks q) && not (skip q)) (ne_eqb q k (λ e. omega (arith, e, less)))
        ∙ ap (λ b. b && not (skip q)) (none_below q k ks h.1 less)))
    by_order (inr (inr more)) rest =
        apart (is_new before k && not (skip k)) (λ e. omega (arith, e, more))
        ∙ (rest more ∙ sym (ap (λ b. (b || is_member nat_eq ks q) && not (skip q)) (ne_eqb q k (λ e. omega (arith, e, more)))))

-- rows in the order of their arrival have the keys that they have in another order

any_with : (p : Event → Bool) (n : ℕ) (x : ℕ × Event) (xs : List (ℕ × Event)) → x.0 ≡ n
    → list_any p (with_number n (x ∷ xs)) ≡ (p x.1 || list_any p (with_number n xs))
any_with p n x xs h = ap (list_any p) (with-hit n x xs h)

or_shift : (a b c : Bool) → (a || (b || c)) ≡ (b || (a || c))
or_shift true true c = refl
or_shift true false c = refl
or_shift false b c = refl

or_group : (a b c : Bool) → ((a || b) || c) ≡ (a || (b || c))
or_group true b c = refl
or_group false b c = refl

any_more : (p : Event → Bool) (from count top : ℕ) (x : ℕ × Event) (xs : List (ℕ × Event)) → from + count ≡ top → from ≤ x.0 → x.0 < top
    → list_any p (in_order from count (x ∷ xs)) ≡ (p x.1 || list_any p (in_order from count xs))
unfolding in_order
any_more p from zero top x xs e least most = absurd (omega (arith, e, least, most))
any_more p from (suc count) top x xs e least most =
    list_any-append p (with_number from (x ∷ xs)) (in_order (suc from) count (x ∷ xs))
    ∙ (by_order (cases_order x.0 from) (any_more p (suc from) count top x xs (omega (arith, e)))
    ∙ ap (λ b. p x.1 || b) (sym (list_any-append p (with_number from xs) (in_order (suc from) count xs))))
  where
    by_order : (x.0 ≡ from) ⊎ ((x.0 < from) ⊎ (from < x.0))
        → (suc from ≤ x.0 → x.0 < top → list_any p (in_order (suc from) count (x ∷ xs)) ≡ (p x.1 || list_any p (in_order (suc from) count xs)))
        → (list_any p (with_number from (x ∷ xs)) || list_any p (in_order (suc from) count (x ∷ xs)))
        ≡ (p x.1 || (list_any p (with_number from xs) || list_any p (in_order (suc from) count xs)))
    by_order (inl same) rest =
        ap (λ b. b || list_any p (in_order (suc from) count (x ∷ xs))) (any_with p from x xs same)
        ∙ (ap (λ ys. (p x.1 || list_any p (with_number from xs)) || list_any p ys) (in_order-skip (suc from) count x xs (omega (arith, same)))
        ∙ or_group (p x.1) (list_any p (with_number from xs)) (list_any p (in_order (suc from) count xs)))
    by_order (inr (inl less)) rest = absurd (omega (arith, less, least))
    by_order (inr (inr more)) rest =
        ap (λ ys. list_any p ys || list_any p (in_order (suc from) count (x ∷ xs))) (with-miss from x xs (λ s. omega (arith, s, more)))
        ∙ (ap (λ b. list_any p (with_number from xs) || b) (rest (omega (arith, more)) most)
        ∙ or_shift (list_any p (with_number from xs)) (p x.1) (list_any p (in_order (suc from) count xs)))

any_in_order : (p : Event → Bool) (count : ℕ) (xs : List (ℕ × Event)) → AllByRecursion (λ (x : ℕ × Event). x.0 < count) xs
    → list_any p (in_order 0 count xs) ≡ list_any p (map (λ (x : ℕ × Event). x.1) xs)
any_in_order p count [] h = ap (list_any p) (in_order-nil 0 count)
any_in_order p count (x ∷ xs) h =
    any_more p 0 count count x xs (omega arith) (omega arith) h.0 ∙ ap (λ b. p x.1 || b) (any_in_order p count xs h.1)

any_keys : (q : ℕ) (rows : List Event) → is_member nat_eq (row_keys rows) q ≡ list_any (λ (row : Event). q == row.key) rows
any_keys q [] = refl
any_keys q (r ∷ rs) = ap (λ b. (q == r.key) || b) (any_keys q rs)

any_places : (q next : ℕ) (es : List ((ℕ × ℕ) × Event)) → AllByRecursion (IsPlaced next) es
    → list_any (λ (row : Event). q == row.key) (values_of es) ≡ is_member nat_eq (map (λ (p : ℕ × ℕ). p.0) (keys_of es)) q
any_places q next [] h = refl
any_places q next (e ∷ es) h =
    ap (λ k. (q == k) || list_any (λ (row : Event). q == row.key) (values_of es)) h.0.key ∙ ap (λ b. (q == e.0.0) || b) (any_places q next es h.1)

first_not_less : (x y : ℕ) (c : Ordering) → ordering_then (nat_cmp x y) c ≡ Less → x ≤ y
first_not_less x y c h = by_order (nat_cmp x y) (ranked x y (nat_cmp x y) refl) h
  where
    by_order : (o : Ordering) → MatchOrdering o (x < y) (x ≡ y) (y < x) → ordering_then o c ≡ Less → x ≤ y
    by_order Less l k = omega (arith, l)
    by_order Equal l k = omega (arith, l)
    by_order Greater l k = let none : ⊥ = cc in absurd none

keys_dont_fall : (from : ℕ) (ps : List (ℕ × ℕ)) → AllByRecursion (λ (p : ℕ × ℕ). from ≤ p.0) ps → IsStrictlySortedBy place_cmp ps
    → DontFall from (map (λ (p : ℕ × ℕ). p.0) ps)
unfolding IsStrictlySortedBy
keys_dont_fall from [] all h = tt
keys_dont_fall from (p ∷ ps) all h = (all.0, keys_dont_fall p.0 ps (later ps h.0) h.1)
  where
    later : (qs : List (ℕ × ℕ)) → AllByRecursion (λ (q : ℕ × ℕ). place_cmp p q ≡ Less) qs → AllByRecursion (λ (q : ℕ × ℕ). p.0 ≤ q.0) qs
    later [] l = tt
    later (q ∷ qs) l = (first_not_less p.0 q.0 (nat_cmp p.1 q.1) l.0, later qs l.1)

all_from_zero : (ps : List (ℕ × ℕ)) → AllByRecursion (λ (p : ℕ × ℕ). 0 ≤ p.0) ps
all_from_zero [] = tt
all_from_zero (p ∷ ps) = (omega arith, all_from_zero ps)

alike : (others : List ℕ) (q k : ℕ) → nat_eq q k ≡ true → not (is_member nat_eq others q) ≡ not (is_member nat_eq others k)
alike others q k h = ap (λ n. not (is_member nat_eq others n)) (eqb-true q k h)

pub keys_counted : (rows : BTreeMap (ℕ × ℕ) Event) (ends : BTreeSet (ℕ × ℕ × ℕ)) (next : ℕ) (others : List ℕ) → AreHeld rows ends next
    → length (first_keys (is_member nat_eq others) None (map (λ (p : ℕ × ℕ). p.0) (keys_of rows.entries)))
    ≡ distinct_count nat_eq (keys_apart others (row_keys (rows_held next rows)))
keys_counted rows ends next others held =
    let keys = map (λ (p : ℕ × ℕ). p.0) (keys_of rows.entries) in
    let skip = is_member nat_eq others in
    let listed = row_keys (rows_held next rows) in
    let rises = keys_dont_fall 0 (keys_of rows.entries) (all_from_zero (keys_of rows.entries)) held.ordered in
    let same_keys = λ (q : ℕ).
    any_keys q (rows_held next rows)
    ∙ (any_in_order (λ (row : Event). q == row.key) next (numbered rows.entries) (placed_below next rows.entries held.placed)
    ∙ (ap (list_any (λ (row : Event). q == row.key)) (values-numbered rows.entries) ∙ any_places q next rows.entries held.placed)) in
    length-from_keys nat_eq_equiv (first_keys skip None keys) (keys_apart others listed) (first_distinct skip None 0 keys rises)
    (λ q. first_members skip q None 0 keys rises tt
    ∙ (ap (λ b. b && not (skip q)) (sym (same_keys q))
    ∙ sym (is_member-filter nat_eq_equiv (λ (k : ℕ). not (is_member nat_eq others k)) q (alike others q) listed)))

-- the keys of two lists: those of the first that the second lacks, and those of the second

pub keys_joined : (xs ys : List ℕ) → distinct_count nat_eq (xs ++ ys) ≡ distinct_count nat_eq (keys_apart ys xs) + distinct_count nat_eq ys
keys_joined [] ys = omega arith
keys_joined (x ∷ xs) ys = by_test (is_member nat_eq ys x) refl (keys_joined xs ys)
  where
    counted : (b : Bool) → length (cond b (unique_keys nat_eq (xs ++ ys)) (x ∷ unique_keys nat_eq (xs ++ ys))) ≡ cond b 0 1 + distinct_count nat_eq (xs ++ ys)
    counted true = omega arith
    counted false = omega arith

    counted_apart : (b : Bool) → length (cond b (unique_keys nat_eq (keys_apart ys xs)) (x ∷ unique_keys nat_eq (keys_apart ys xs))) ≡ cond b 0 1 + distinct_count nat_eq (keys_apart ys xs)
    counted_apart true = omega arith
    counted_apart false = omega arith

    whole : is_member nat_eq (xs ++ ys) x ≡ (is_member nat_eq xs x || is_member nat_eq ys x)
    whole = list_any-append (nat_eq x) xs ys

    or_true : (b : Bool) → (b || true) ≡ true
    or_true true = refl
    or_true false = refl

    or_false : (b : Bool) → (b || false) ≡ b
    or_false true = refl
    or_false false = refl

    and_true : (b : Bool) → (b && true) ≡ b
    and_true true = refl
    and_true false = refl

    by_test : (b : Bool) → is_member nat_eq ys x ≡ b → distinct_count nat_eq (xs ++ ys) ≡ distinct_count nat_eq (keys_apart ys xs) + distinct_count nat_eq ys
        → length (cond (is_member nat_eq (xs ++ ys) x) (unique_keys nat_eq (xs ++ ys)) (x ∷ unique_keys nat_eq (xs ++ ys)))
        ≡ distinct_count nat_eq (cond (not b) (x ∷ keys_apart ys xs) (keys_apart ys xs)) + distinct_count nat_eq ys
    by_test true h rest =
        let in_both : is_member nat_eq (xs ++ ys) x ≡ true = whole ∙ (ap (λ b. is_member nat_eq xs x || b) h ∙ or_true (is_member nat_eq xs x)) in
        counted (is_member nat_eq (xs ++ ys) x) ∙ (ap (λ b. cond b 0 1 + distinct_count nat_eq (xs ++ ys)) in_both ∙ omega (arith, rest))
    by_test false h rest =
        let in_first : is_member nat_eq (xs ++ ys) x ≡ is_member nat_eq xs x = whole ∙ (ap (λ b. is_member nat_eq xs x || b) h ∙ or_false (is_member nat_eq xs x)) in
        let in_apart : is_member nat_eq (keys_apart ys xs) x ≡ is_member nat_eq xs x =
        is_member-filter nat_eq_equiv (λ (k : ℕ). not (is_member nat_eq ys k)) x (alike ys x) xs
        ∙ (ap (λ b. is_member nat_eq xs x && not b) h ∙ and_true (is_member nat_eq xs x)) in
        counted (is_member nat_eq (xs ++ ys) x)
        ∙ (ap (λ b. cond b 0 1 + distinct_count nat_eq (xs ++ ys)) (in_first ∙ sym in_apart)
        ∙ omega (arith, rest, counted_apart (is_member nat_eq (keys_apart ys xs) x)))

-- a side without rows leaves out no key
pub none_apart : (keys : List ℕ) → keys_apart [] keys ≡ keys
none_apart [] = refl
none_apart (k ∷ ks) = ap (λ (xs : List ℕ). k ∷ xs) (none_apart ks)

-- the first of the rows of a key tells whether there is one

pub none_keyed : (key : ℕ) (rows : List Event) → filter (λ (row : Event). key == row.key) rows ≡ [] → is_member nat_eq (row_keys rows) key ≡ false
none_keyed key [] h = refl
none_keyed key (r ∷ rs) h = by_test (key == r.key) h (none_keyed key rs)
  where
    by_test : (b : Bool) → cond b (r ∷ filter (λ (row : Event). key == row.key) rs) (filter (λ (row : Event). key == row.key) rs) ≡ []
        → (filter (λ (row : Event). key == row.key) rs ≡ [] → is_member nat_eq (row_keys rs) key ≡ false)
        → (b || is_member nat_eq (row_keys rs) key) ≡ false
    by_test true k rest = let none : ⊥ = cc in absurd none
    by_test false k rest = rest k

pub some_keyed : (key : ℕ) (rows : List Event) (x : Event) (xs : List Event) → filter (λ (row : Event). key == row.key) rows ≡ x ∷ xs → is_member nat_eq (row_keys rows) key ≡ true
some_keyed key [] x xs h = let none : ⊥ = cc in absurd none
some_keyed key (r ∷ rs) x xs h = by_test (key == r.key) h (some_keyed key rs x xs)
  where
    by_test : (b : Bool) → cond b (r ∷ filter (λ (row : Event). key == row.key) rs) (filter (λ (row : Event). key == row.key) rs) ≡ x ∷ xs
        → (filter (λ (row : Event). key == row.key) rs ≡ x ∷ xs → is_member nat_eq (row_keys rs) key ≡ true)
        → (b || is_member nat_eq (row_keys rs) key) ≡ true
    by_test true k rest = refl
    by_test false k rest = rest k

pub first_tells : {A : Type 0} (shows : A → (ℕ × ℕ) × Event) (range rest : List ((ℕ × ℕ) × Event)) (r : Option A) (key : ℕ) (rows : List Event)
    → values_of range ≡ filter (λ (row : Event). key == row.key) rows → TakesFirst shows range r rest → is_some r ≡ is_member nat_eq (row_keys rows) key
first_tells shows range rest None key rows h steps = sym (none_keyed key rows (sym h ∙ ap values_of steps.0))
first_tells shows range rest (Some x) key rows h steps = sym (some_keyed key rows (shows x).1 (values_of rest) (sym h ∙ ap values_of steps))
