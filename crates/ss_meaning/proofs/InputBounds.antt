-- The bounds and counts of the inputs.
use Rattle.std.proofs.Common.{◌≡◌, ℕ, zero, suc, ◌+◌, ◌<◌, ◌≤◌, min, nat_lt, nat_le, Bool, true, false, ◌&&◌, List, [], ◌∷◌, ◌++◌, length, get_or, set, map, Some, None, refl, sym, ap, append-nil, length-append, add-one, ne_eqb, lt-ltb, le-leb, ◌∙◌, subst, ⊎_elim, inl, inr, arith}
use Rattle.std.proofs.lemmas.Bool.{cases_eq, le-ltb, lt-leb, and_from, cond-true, cond-false}
use Rattle.std.proofs.lemmas.List.{ext_get_or, get_or-set_same, get_or-set_other, length-set}
use Rattle.std.proofs.lemmas.List.FromFn.{get_or-map-range_with_len, length-map-range_with_len, map-range_with_len_more}
use Rattle.std.specs.List.{range_with_len}
use Rattle.ss_elem.specs.Validity.{top}
use Rattle.ss_elem.specs.declared.element.Element.{Element}
use Rattle.ss_meaning.specs.Bound.{bound_after, bound}
use Rattle.ss_meaning.specs.Inputs.{bounds, least_bound, next_from}
use Rattle.ss_meaning.specs.Low.{low}
use Rattle.ss_meaning.specs.Merge.{Arrival, is_from, from_input}
use Rattle.ss_meaning.specs.Laws.{BoundsAfterArrival, CountsAfterArrival, LowIsTheLeastBound, NextInputArrives, GoesBefore}
use Rattle.ss_meaning.proofs.Arriving.{x_within, x_follows, low_is_top_at_the_end}
use Rattle.ss_meaning.proofs.LeastBound.{least_bound_goes_next}
use Rattle.ss_meaning.proofs.Outputs.{from_input-here}
use Rattle.ss_meaning.proofs.Prefixes.{from_input-append}
use Rattle.ss_meaning.proofs.Steps.{bound_past-append, follows_below}

-- what is computed of each input, after one arrival more

from_input-other : (input : ℕ) (p : List Arrival) (x : Arrival) → (x.input ≡ input → ⊥)
    → from_input input (p ++ x ∷ []) ≡ from_input input p
from_input-other input p x other =
    let none : from_input input (x ∷ []) ≡ [] =
    ap (map (λ (y : Arrival). y.element)) (cond-false (is_from input x) (x ∷ []) [] (ne_eqb x.input input other)) in
    from_input-append input p (x ∷ []) ∙ ap (λ (back : List Element). from_input input p ++ back) none
    ∙ append-nil (from_input input p)

abbrev each_input : (List Element → ℕ) → ℕ → List Arrival → List ℕ
each_input f inputs p = map (λ input. f (from_input input p)) (range_with_len 0 inputs)

at_input : (f : List Element → ℕ) (inputs input : ℕ) (p : List Arrival) → input < inputs
    → get_or (each_input f inputs p) input 0 ≡ f (from_input input p)
at_input f inputs input p within =
    get_or-map-range_with_len (λ input. f (from_input input p)) 0 inputs input input 0 within (omega arith)

per_input : (f : List Element → ℕ) (next : ℕ → Element → ℕ) (inputs : ℕ) (p : List Arrival) (x : Arrival)
    → ((xs : List Element) (y : Element) → f (xs ++ y ∷ []) ≡ next (f xs) y) → x.input < inputs
    → each_input f inputs (p ++ x ∷ [])
    ≡ set (each_input f inputs p) x.input (next (get_or (each_input f inputs p) x.input 0) x.element)
per_input f next inputs p x grows within =
    let old : List ℕ = each_input f inputs p in
    let new : List ℕ = each_input f inputs (p ++ x ∷ []) in
    let count : length old ≡ inputs = length-map-range_with_len (λ input. f (from_input input p)) 0 inputs in
    let count_new : length new ≡ inputs =
    length-map-range_with_len (λ input. f (from_input input (p ++ x ∷ []))) 0 inputs in
    let value : ℕ = next (get_or old x.input 0) x.element in
    let same : length new ≡ length (set old x.input value) = count_new ∙ sym (length-set old x.input value ∙ count) in
    ext_get_or 0 new (set old x.input value) same (λ i h. at_place i (omega (arith, h, count_new)))
  where
    here : get_or (each_input f inputs (p ++ x ∷ [])) x.input 0
        ≡ next (get_or (each_input f inputs p) x.input 0) x.element
    here =
        at_input f inputs x.input (p ++ x ∷ []) within ∙ ap f (from_input-here p [] x)
        ∙ grows (from_input x.input p) x.element
        ∙ ap (λ n. next n x.element) (sym (at_input f inputs x.input p within))

    at_place : (i : ℕ) → i < inputs → get_or (each_input f inputs (p ++ x ∷ [])) i 0
        ≡ get_or (set (each_input f inputs p) x.input (next (get_or (each_input f inputs p) x.input 0) x.element)) i 0
    at_place i h =
        let old : List ℕ = each_input f inputs p in
        let value : ℕ = next (get_or old x.input 0) x.element in
        let count : length old ≡ inputs = length-map-range_with_len (λ input. f (from_input input p)) 0 inputs in
        ⊎_elim
        (λ (e : i ≡ x.input).
        ap (λ j. get_or (each_input f inputs (p ++ x ∷ [])) j 0) e ∙ here
        ∙ sym (ap (λ j. get_or (set old x.input value) j 0) e
        ∙ get_or-set_same old x.input value 0 (omega (arith, within, count))))
        (λ (e : i ≡ x.input → ⊥).
        at_input f inputs i (p ++ x ∷ []) h
        ∙ ap f (from_input-other i p x (λ back. e (sym back)))
        ∙ sym (get_or-set_other old x.input i value 0 e ∙ at_input f inputs i p h))
        (cases_eq i x.input)

pub bounds_after_arrival : BoundsAfterArrival
bounds_after_arrival inputs p x within =
    per_input bound bound_after inputs p x (λ xs y. bound_past-append 0 xs (y ∷ [])) within

pub counts_after_arrival : CountsAfterArrival
counts_after_arrival inputs p x within =
    per_input length (λ n y. n + 1) inputs p x (λ xs y. length-append xs (y ∷ [])) within

-- Low

least_bound-append : (b : ℕ) (bs : List ℕ) → least_bound (bs ++ b ∷ []) ≡ min b (least_bound bs)
least_bound-append b [] = refl
least_bound-append b (c ∷ bs) = omega (arith, least_bound-append b bs)

pub low_is_the_least_bound : LowIsTheLeastBound
low_is_the_least_bound zero p = refl
low_is_the_least_bound (suc inputs) p =
    let more : bounds (inputs + 1) p ≡ bounds inputs p ++ bound (from_input inputs p) ∷ [] =
    map-range_with_len_more (λ input. bound (from_input input p)) 0 inputs inputs (omega arith) in
    let grown : bounds (suc inputs) p ≡ bounds inputs p ++ bound (from_input inputs p) ∷ [] =
    ap (λ n. bounds n p) (sym (add-one inputs)) ∙ more in
    omega (arith, low_is_the_least_bound inputs p, ap least_bound grown, least_bound-append (bound (from_input inputs p)) (bounds inputs p))

-- the input that goes next

none_next : (input : ℕ) (bs : List ℕ) → top ≤ least_bound bs → next_from input bs ≡ None
none_next input [] h = refl
none_next input (b ∷ bs) h =
    let ended : nat_lt b top ≡ false = le-ltb b top (omega (arith, h)) in
    cond-false (nat_lt b top && nat_le b (least_bound bs)) (Some input) (next_from (input + 1) bs)
    (ap (λ (t : Bool). t && nat_le b (least_bound bs)) ended)
    ∙ none_next (input + 1) bs (omega (arith, h))

least_above : (b : ℕ) (bs : List ℕ) → b ≤ top → ((j : ℕ) → j < length bs → b ≤ get_or bs j 0) → b ≤ least_bound bs
least_above b [] h each = h
least_above b (c ∷ bs) h each =
    let here : b ≤ c = each 0 (omega arith) in
    let rest : b ≤ least_bound bs = least_above b bs h (λ j k. each (suc j) (omega (arith, k))) in
    omega arith

least_below : (bs : List ℕ) (j : ℕ) → j < length bs → least_bound bs ≤ get_or bs j 0
least_below [] j h = absurd (omega (arith, h))
least_below (b ∷ bs) zero h = omega arith
least_below (b ∷ bs) (suc j) h = omega (arith, least_below bs j (omega (arith, h)))

-- the bound of input i goes before each of these
abbrev GoesFirst : List ℕ → ℕ → Type 0
GoesFirst bs i = (j : ℕ) → j < length bs → GoesBefore (get_or bs i 0) i (get_or bs j 0) j

goes_before-le : (b i c j : ℕ) → GoesBefore b i c j → b ≤ c
goes_before-le b i c j h = ⊎_elim (λ (less : b < c). omega arith) (λ (tie : (b ≡ c) × (i ≤ j)). omega arith) h

goes_before-shift : (b i c j : ℕ) → GoesBefore b (suc i) c (suc j) → GoesBefore b i c j
goes_before-shift b i c j h =
    ⊎_elim {C = GoesBefore b i c j} (λ (less : b < c). inl less) (λ (tie : (b ≡ c) × (suc i ≤ suc j)). inr (tie.0, omega arith)) h

goes_before-strict : (b i c : ℕ) → GoesBefore b (suc i) c 0 → b < c
goes_before-strict b i c h = ⊎_elim (λ (less : b < c). less) (λ (tie : (b ≡ c) × (suc i ≤ 0)). absurd (omega arith)) h

and_with_false : (t : Bool) → (t && false) ≡ false
and_with_false true = refl
and_with_false false = refl

next_is : (input i : ℕ) (bs : List ℕ) → i < length bs → get_or bs i 0 < top → GoesFirst bs i
    → next_from input bs ≡ Some (input + i)
next_is input i [] within below first = absurd (omega (arith, within))
next_is input zero (b ∷ bs) within below first =
    let least : b ≤ least_bound bs =
    least_above b bs (omega (arith, below)) (λ j k. goes_before-le b 0 (get_or bs j 0) (suc j) (first (suc j) (omega (arith, k)))) in
    cond-true (nat_lt b top && nat_le b (least_bound bs)) (Some input) (next_from (input + 1) bs)
    (and_from (nat_lt b top) (nat_le b (least_bound bs)) (lt-ltb b top below) (le-leb b (least_bound bs) least))
    ∙ ap Some (omega arith)
next_is input (suc i) (b ∷ bs) within below first =
    let strict : get_or bs i 0 < b = goes_before-strict (get_or bs i 0) i b (first 0 (omega arith)) in
    let low_rest : least_bound bs ≤ get_or bs i 0 = least_below bs i (omega (arith, within)) in
    let not_least : nat_le b (least_bound bs) ≡ false = lt-leb b (least_bound bs) (omega arith) in
    cond-false (nat_lt b top && nat_le b (least_bound bs)) (Some input) (next_from (input + 1) bs)
    (ap (λ (t : Bool). nat_lt b top && t) not_least ∙ and_with_false (nat_lt b top))
    ∙ next_is (input + 1) i bs (omega (arith, within)) below
    (λ j k. goes_before-shift (get_or bs i 0) i (get_or bs j 0) j (first (suc j) (omega (arith, k))))
    ∙ ap Some (omega arith)

pub next_input_arrives : NextInputArrives
next_input_arrives inputs whole p [] e =
    let ended : low (length inputs) p ≡ top = (low_is_top_at_the_end inputs whole p [] e).1 refl in
    none_next 0 (bounds (length inputs) p) (omega (arith, ended, low_is_the_least_bound (length inputs) p))
next_input_arrives inputs whole p (x ∷ rest) e =
    let count : ℕ = length inputs in
    let within : x.input < count = x_within inputs p rest x e in
    let below : bound (from_input x.input p) < top =
    follows_below (bound (from_input x.input p)) x.element (x_follows inputs whole p rest x e) in
    let many : length (bounds count p) ≡ count = length-map-range_with_len (λ input. bound (from_input input p)) 0 count in
    let mine : get_or (bounds count p) x.input 0 ≡ bound (from_input x.input p) = at_input bound count x.input p within in
    let first : GoesFirst (bounds count p) x.input =
    λ j h.
    let inside : j < count = omega (arith, h, many) in
    subst (λ b. GoesBefore b x.input (get_or (bounds count p) j 0) j) (sym mine)
    (subst (λ b. GoesBefore (bound (from_input x.input p)) x.input b j) (sym (at_input bound count j p inside))
    (least_bound_goes_next inputs whole p rest x e j inside)) in
    next_is 0 x.input (bounds count p) (omega (arith, within, many)) (omega (arith, below, mine)) first
    ∙ ap Some (omega arith)
