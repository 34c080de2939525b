-- What arrives next comes from the input with the least bound.
use Rattle.std.proofs.Common.{◌≡◌, ℕ, ◌<◌, Bool, true, false, cond, ◌&&◌, nat_lt, nat_le, ◌==◌, List, [], ◌∷◌, ◌++◌, length, get_or, map, filter, Some, refl, sym, ap, ◌∙◌, subst, inl, inr, ⊎_elim, arith, append_assoc, append-nil, eqb-true, ltb-true, leb-true, eq-eqb, ne_eqb}
use Rattle.std.proofs.lemmas.Bool.Decides.{nat_tests}
use Rattle.std.proofs.lemmas.Bool.{cases_eq, or_cases, and_parts, cond-true, cond-false}
use Rattle.std.proofs.lemmas.List.{map-append}
use Rattle.std.specs.List.{AllByRecursion, flat_map}
use Rattle.ss_elem.specs.Validity.{top, bound_from}
use Rattle.ss_elem.specs.declared.element.Event.{Event}
use Rattle.ss_elem.specs.declared.element.Element.{Element}
use Rattle.ss_elem.specs.declared.element.Element.TheVariants.{Row, Cti, End}
use Rattle.ss_meaning.specs.Bound.{bound_after, bound_past, bound}
use Rattle.ss_meaning.specs.Segments.{Segment, segment, extend_first_segment, input_segments, all_segments}
use Rattle.ss_meaning.specs.Merge.{Arrival, goes_first, insert_segment, segments_in_order, arrivals, from_input}
use Rattle.ss_meaning.specs.Laws.{GoesBefore, LeastBoundGoesNext}
use Rattle.ss_meaning.proofs.Each.{each_weaker, each-filter}
use Rattle.ss_meaning.proofs.Prefixes.{from_input-append}
use Rattle.ss_meaning.proofs.Steps.{bound_from-first, bound_past-append}
use Rattle.ss_meaning.proofs.Merging.{is_of, IsFrom, each-put_in, each-in_order, cut_all-input, arrivals-mine, arrivals-other, segments_of}

-- the order of the segments

pub goes_first-trans : (s t u : Segment) → goes_first s t ≡ true → goes_first t u ≡ true → goes_first s u ≡ true
goes_first-trans s t u h k = grind (arith, nat_tests)

pub goes_first-total : (s t : Segment) → goes_first s t ≡ false → goes_first t s ≡ true
goes_first-total s t h = grind (arith, nat_tests)

goes_before : (s t : Segment) → goes_first s t ≡ true → GoesBefore s.bound s.input t.bound t.input
goes_before s t h =
    ⊎_elim (λ less. inl (ltb-true s.bound t.bound less))
    (λ tie. let parts = and_parts (s.bound == t.bound) (nat_le s.input t.input) tie in
    inr (eqb-true s.bound t.bound parts.0, leb-true s.input t.input parts.1))
    (or_cases (nat_lt s.bound t.bound) (s.bound == t.bound && nat_le s.input t.input) h)

abbrev pub InOrder : List Segment → Type 0
InOrder [] = Unit {0}
InOrder (s ∷ ss) = AllByRecursion (λ t. goes_first s t ≡ true) ss × InOrder ss

put_in-order : (s : Segment) (ts : List Segment) → InOrder ts → InOrder (insert_segment s ts)
put_in-order s [] h = (tt, tt)
put_in-order s (t ∷ ts) h = by_test (goes_first s t) refl (put_in-order s ts h.1)
  where
    by_test : (b : Bool) → goes_first s t ≡ b → InOrder (insert_segment s ts) → InOrder (cond b (s ∷ t ∷ ts) (t ∷ insert_segment s ts))
    by_test true e rest = ((e, each_weaker (λ u. goes_first t u ≡ true) (λ u. goes_first s u ≡ true) (λ u k. goes_first-trans s t u e k) ts h.0), h)
    by_test false e rest = (each-put_in (λ u. goes_first t u ≡ true) s ts (goes_first-total s t e) h.0, rest)

pub in_order-order : (ss : List Segment) → InOrder (segments_in_order ss)
in_order-order [] = tt
in_order-order (s ∷ ss) = put_in-order s (segments_in_order ss) (in_order-order ss)

-- the first segment of a list, and what stands behind it

record First (input bound : ℕ) (s : Segment) (ss : List Segment) : Type 0 where
  -- the list hasn't ended, and the segment has its bound
  below : bound < top
  same : s.bound ≡ bound
  -- what stands behind the segment, at the bound that it leads to
  rest : List Element
  valid : bound_from (bound_past bound s.elements) rest ≡ Some top
  behind : ss ≡ input_segments input (bound_past bound s.elements) rest
  -- no element of the segment but the last changes the bound
  inside : (front back : List Element) (x : Element) → s.elements ≡ front ++ x ∷ back → bound_past bound front ≡ bound

alone : (bound : ℕ) (y : Element) (front back : List Element) (x : Element) → y ∷ [] ≡ front ++ x ∷ back → bound_past bound front ≡ bound
alone bound y [] back x e = refl
alone bound y (z ∷ []) back x e = cc
alone bound y (z ∷ w ∷ front) back x e = cc

-- a segment of one element
single : (input bound : ℕ) (x : Element) (xs : List Element) → bound < top → bound_from (bound_after bound x) xs ≡ Some top → First input bound (segment input bound (x ∷ [])) (input_segments input (bound_after bound x) xs)
single input bound x xs below valid = record {
  below = below;
  same = refl;
  rest = xs;
  valid = valid;
  behind = refl;
  inside = λ front back y e. alone bound x front back y e;
}

not_nil : (input bound : ℕ) (xs : List Element) → bound_from bound xs ≡ Some top → input_segments input bound xs ≡ [] → bound ≡ top
not_nil input bound [] h e = grind arith
not_nil input bound (Row row ∷ xs) h e = go (input_segments input bound xs) e
  where
    go : (ss : List Segment) → extend_first_segment input bound (Row row) ss ≡ [] → bound ≡ top
    go [] k = cc
    go (s ∷ ss) k = cc
not_nil input bound (Cti time ∷ xs) h e = cc
not_nil input bound (End ∷ xs) h e = cc

-- a row in front of a first segment
abbrev with_row : Event → Segment → Segment
with_row row s = record s { elements = Row row ∷ s.elements }

longer_inside : (bound : ℕ) (row : Event) (elements : List Element) → ((front back : List Element) (x : Element) → elements ≡ front ++ x ∷ back → bound_past bound front ≡ bound)
    → (front back : List Element) (x : Element) → Row row ∷ elements ≡ front ++ x ∷ back → bound_past bound front ≡ bound
longer_inside bound row elements h [] back x e = refl
longer_inside bound row elements h (y ∷ front) back x e =
    let first : Row row ≡ y = cc in
    let rest : elements ≡ front ++ x ∷ back = cc in
    ap (λ (z : Element). bound_past (bound_after bound z) front) (sym first) ∙ h front back x rest

longer_first : (input bound : ℕ) (row : Event) (s : Segment) (ss : List Segment) → First input bound s ss → First input bound (with_row row s) ss
longer_first input bound row s ss f = record {
  below = f.below;
  same = f.same;
  rest = f.rest;
  valid = f.valid;
  behind = f.behind;
  inside = longer_inside bound row s.elements f.inside;
}

cut_first : (input bound : ℕ) (xs : List Element) (s : Segment) (ss : List Segment) → bound_from bound xs ≡ Some top → input_segments input bound xs ≡ s ∷ ss → First input bound s ss
cut_first input bound [] s ss h e = cc
cut_first input bound (Row row ∷ xs) s ss h e =
    let first = bound_from-first bound top (Row row) xs h in
    go (input_segments input bound xs) refl e (λ t ts k. cut_first input bound xs t ts first.1 k)
  where
    go : (those : List Segment) → input_segments input bound xs ≡ those → extend_first_segment input bound (Row row) those ≡ s ∷ ss
        → ((t : Segment) (ts : List Segment) → input_segments input bound xs ≡ t ∷ ts → First input bound t ts) → First input bound s ss
    go [] k l f =
        let first = bound_from-first bound top (Row row) xs h in
        let ended = not_nil input bound xs first.1 k in
        absurd (omega (arith, first.0.0))
    go (t ∷ ts) k l f =
        let a : with_row row t ≡ s = cc in
        let b : ts ≡ ss = cc in
        subst (λ those. First input bound s those) b (subst (λ that. First input bound that ts) a (longer_first input bound row t ts (f t ts k)))
cut_first input bound (Cti time ∷ xs) s ss h e =
    let first = bound_from-first bound top (Cti time) xs h in
    let a : segment input bound (Cti time ∷ []) ≡ s = cc in
    let b : input_segments input time xs ≡ ss = cc in
    subst (λ those. First input bound s those) b (subst (λ that. First input bound that (input_segments input time xs)) a (single input bound (Cti time) xs first.0.0 first.1))
cut_first input bound (End ∷ xs) s ss h e =
    let first = bound_from-first bound top End xs h in
    let a : segment input bound (End ∷ []) ≡ s = cc in
    let b : input_segments input top xs ≡ ss = cc in
    subst (λ those. First input bound s those) b (subst (λ that. First input bound that (input_segments input top xs)) a (single input bound End xs first.0 first.1))

-- where x stands, in the first segment or behind it

data Place (first behind q : List Arrival) (x : Arrival) (rest : List Arrival) : Type 0 where
  in_first : (back : List Arrival) → first ≡ q ++ x ∷ back → Place first behind q x rest
  after_first : (more : List Arrival) → q ≡ first ++ more → behind ≡ more ++ x ∷ rest → Place first behind q x rest

place_next : (y : Arrival) (first behind q : List Arrival) (x : Arrival) (rest : List Arrival) → Place first behind q x rest → Place (y ∷ first) behind (y ∷ q) x rest
place_next y first behind q x rest (in_first back e) = in_first back (ap (λ (ys : List Arrival). y ∷ ys) e)
place_next y first behind q x rest (after_first more e k) = after_first more (ap (λ (ys : List Arrival). y ∷ ys) e) k

place : (first behind q : List Arrival) (x : Arrival) (rest : List Arrival) → first ++ behind ≡ q ++ x ∷ rest → Place first behind q x rest
place [] behind q x rest e = after_first q refl e
place (y ∷ first) behind [] x rest e =
    let same : y ≡ x = cc in
    in_first first (ap (λ (z : Arrival). z ∷ first) same)
place (y ∷ first) behind (z ∷ q) x rest e =
    let same : y ≡ z = cc in
    let tails : first ++ behind ≡ q ++ x ∷ rest = cc in
    subst (λ (w : Arrival). Place (y ∷ first) behind (w ∷ q) x rest) same (place_next y first behind q x rest (place first behind q x rest tails))

-- the elements of a segment, and those of another input

arrivals-input_is : (s : Segment) (q back : List Arrival) (x : Arrival) → arrivals s ≡ q ++ x ∷ back → (x.input ≡ s.input) × AllByRecursion (λ (y : Arrival). y.input ≡ s.input) q
arrivals-input_is s q back x e = go q s.elements e
  where
    go : (q : List Arrival) (xs : List Element) → map (λ y. record { input = s.input; element = y }) xs ≡ q ++ x ∷ back → (x.input ≡ s.input) × AllByRecursion (λ (y : Arrival). y.input ≡ s.input) q
    go [] [] k = cc
    go [] (y ∷ xs) k =
        let same : ◌≡◌ {A = Arrival} (record { input = s.input; element = y }) x = cc in
        (ap (λ (z : Arrival). z.input) (sym same), tt)
    go (z ∷ q) [] k = cc
    go (z ∷ q) (y ∷ xs) k =
        let same : ◌≡◌ {A = Arrival} (record { input = s.input; element = y }) z = cc in
        let tails : map (λ y. record { input = s.input; element = y }) xs ≡ q ++ x ∷ back = cc in
        let rest = go q xs tails in
        (rest.0, (ap (λ (w : Arrival). w.input) (sym same), rest.1))

own_elements : (input : ℕ) (q : List Arrival) → AllByRecursion (λ (y : Arrival). y.input ≡ input) q → from_input input q ≡ map (λ (y : Arrival). y.element) q
own_elements input [] h = refl
own_elements input (y ∷ q) h =
    let e = eq-eqb y.input input h.0 in
    rw e (ap (λ (rest : List Element). y.element ∷ rest) (own_elements input q h.1))

no_elements : (input own : ℕ) (q : List Arrival) → (own ≡ input → ⊥) → AllByRecursion (λ (y : Arrival). y.input ≡ own) q → from_input input q ≡ []
no_elements input own [] apart h = refl
no_elements input own (y ∷ q) apart h =
    let e = ne_eqb y.input input (λ same. apart (sym h.0 ∙ same)) in
    rw e (no_elements input own q apart h.1)

elements-arrivals : (s : Segment) → map (λ (y : Arrival). y.element) (arrivals s) ≡ s.elements
elements-arrivals s = go s.elements
  where
    go : (xs : List Element) → map (λ (y : Arrival). y.element) (map (λ x. record { input = s.input; element = x }) xs) ≡ xs
    go [] = refl
    go (x ∷ xs) = ap (λ (rest : List Element). x ∷ rest) (go xs)

-- what is left of each input, at its bound

abbrev Left : List Segment → ℕ → ℕ → Type 0
Left ss input bound = (rest : List Element) × (bound_from bound rest ≡ Some top) × (filter (is_of input) ss ≡ input_segments input bound rest)

abbrev AllLeft : ℕ → List Segment → List Arrival → Type 0
AllLeft inputs ss p = (input : ℕ) → input < inputs → Left ss input (bound (from_input input p))

-- an input that the first segment is none of: its next segment goes behind the first, or it has ended
later_goes : (s : Segment) (ss : List Segment) (input c : ℕ) → s.bound < top → AllByRecursion (λ t. goes_first s t ≡ true) ss → Left ss input c → GoesBefore s.bound s.input c input
later_goes s ss input c below order left = go (filter (is_of input) ss) refl (each-filter (λ t. goes_first s t ≡ true) (is_of input) ss order) (filter_all input ss)
  where
    kept : (j : ℕ) (t : Segment) (ts : List Segment) (b : Bool) → is_of j t ≡ b → AllByRecursion (λ t. is_of j t ≡ true) ts → AllByRecursion (λ t. is_of j t ≡ true) (cond b (t ∷ ts) ts)
    kept j t ts true e h = (e, h)
    kept j t ts false e h = h

    filter_all : (j : ℕ) (ts : List Segment) → AllByRecursion (λ t. is_of j t ≡ true) (filter (is_of j) ts)
    filter_all j [] = tt
    filter_all j (t ∷ ts) = kept j t (filter (is_of j) ts) (is_of j t) refl (filter_all j ts)

    go : (those : List Segment) → filter (is_of input) ss ≡ those → AllByRecursion (λ t. goes_first s t ≡ true) those → AllByRecursion (λ t. is_of input t ≡ true) those → GoesBefore s.bound s.input c input
    go [] e h k =
        let ended : c ≡ top = not_nil input c left.0 left.1 (sym left.2 ∙ e) in
        inl (omega arith)
    go (t ∷ ts) e h k =
        let first = cut_first input c left.0 t ts left.1 (sym left.2 ∙ e) in
        let mine : t.input ≡ input = eqb-true t.input input k.0 in
        subst (λ n. GoesBefore s.bound s.input c n) mine (subst (λ n. GoesBefore s.bound s.input n t.input) first.same (goes_before s t h.0))

-- the first segment's own input
own_first : (s : Segment) (ss : List Segment) (inputs : ℕ) (p : List Arrival) → s.input < inputs → AllLeft inputs (s ∷ ss) p → First s.input (bound (from_input s.input p)) s (filter (is_of s.input) ss)
own_first s ss inputs p within left =
    let mine = left s.input within in
    let e = eq-eqb s.input s.input refl in
    cut_first s.input (bound (from_input s.input p)) mine.0 s (filter (is_of s.input) ss) mine.1
    (sym mine.2 ∙ cond-true (is_of s.input s) (s ∷ filter (is_of s.input) ss) (filter (is_of s.input) ss) e ∙ refl)

other_left : (s : Segment) (ss : List Segment) (input c : ℕ) → (s.input ≡ input → ⊥) → Left (s ∷ ss) input c → Left ss input c
other_left s ss input c apart left =
    (left.0, left.1, sym (cond-false (is_of input s) (s ∷ filter (is_of input) ss) (filter (is_of input) ss) (ne_eqb s.input input apart)) ∙ left.2)

same_bound : (input : ℕ) (p q : List Arrival) → from_input input q ≡ [] → bound (from_input input (p ++ q)) ≡ bound (from_input input p)
same_bound input p q e = ap bound (from_input-append input p q ∙ ap (λ (back : List Element). from_input input p ++ back) e ∙ append-nil (from_input input p))

-- after the whole first segment
left_behind : (s : Segment) (ss : List Segment) (inputs : ℕ) (p : List Arrival) → s.input < inputs → AllLeft inputs (s ∷ ss) p → AllLeft inputs ss (p ++ arrivals s)
left_behind s ss inputs p within left input k = ⊎_elim mine others (cases_eq s.input input)
  where
    first : First s.input (bound (from_input s.input p)) s (filter (is_of s.input) ss)
    first = own_first s ss inputs p within left

    moved : bound (from_input s.input (p ++ arrivals s)) ≡ bound_past (bound (from_input s.input p)) s.elements
    moved =
        ap bound (from_input-append s.input p (arrivals s) ∙ ap (λ (back : List Element). from_input s.input p ++ back) (arrivals-mine s.input s (eq-eqb s.input s.input refl)))
        ∙ bound_past-append 0 (from_input s.input p) s.elements

    here : Left ss s.input (bound (from_input s.input (p ++ arrivals s)))
    here = subst (Left ss s.input) (sym moved) (first.rest, first.valid, first.behind)

    mine : s.input ≡ input → Left ss input (bound (from_input input (p ++ arrivals s)))
    mine e = subst (λ j. Left ss j (bound (from_input j (p ++ arrivals s)))) e here

    others : (s.input ≡ input → ⊥) → Left ss input (bound (from_input input (p ++ arrivals s)))
    others apart =
        subst (Left ss input) (sym (same_bound input p (arrivals s) (arrivals-other input s (ne_eqb s.input input apart))))
        (other_left s ss input (bound (from_input input p)) apart (left input k))

-- x in the first segment
goes_within : (s : Segment) (ss : List Segment) (inputs : ℕ) (p q back : List Arrival) (x : Arrival) → InOrder (s ∷ ss) → s.input < inputs → AllLeft inputs (s ∷ ss) p
    → arrivals s ≡ q ++ x ∷ back → (input : ℕ) → input < inputs → GoesBefore (bound (from_input x.input (p ++ q))) x.input (bound (from_input input (p ++ q))) input
goes_within s ss inputs p q back x order within left e input k =
    subst (λ j. GoesBefore (bound (from_input j (p ++ q))) j (bound (from_input input (p ++ q))) input) (sym parts.0) (⊎_elim mine others (cases_eq s.input input))
  where
    parts : (x.input ≡ s.input) × AllByRecursion (λ (y : Arrival). y.input ≡ s.input) q
    parts = arrivals-input_is s q back x e

    first : First s.input (bound (from_input s.input p)) s (filter (is_of s.input) ss)
    first = own_first s ss inputs p within left

    split : s.elements ≡ map (λ (y : Arrival). y.element) q ++ x.element ∷ map (λ (y : Arrival). y.element) back
    split = sym (elements-arrivals s) ∙ ap (map (λ (y : Arrival). y.element)) e ∙ map-append (λ (y : Arrival). y.element) q (x ∷ back)

    stays : bound (from_input s.input (p ++ q)) ≡ s.bound
    stays =
        ap bound (from_input-append s.input p q ∙ ap (λ (more : List Element). from_input s.input p ++ more) (own_elements s.input q parts.1))
        ∙ bound_past-append 0 (from_input s.input p) (map (λ (y : Arrival). y.element) q)
        ∙ first.inside (map (λ (y : Arrival). y.element) q) (map (λ (y : Arrival). y.element) back) x.element split
        ∙ sym first.same

    mine : s.input ≡ input → GoesBefore (bound (from_input s.input (p ++ q))) s.input (bound (from_input input (p ++ q))) input
    mine same = inr (ap (λ j. bound (from_input j (p ++ q))) same, omega arith)

    below : s.bound < top
    below = let low = first.below in let same = first.same in omega arith

    others : (s.input ≡ input → ⊥) → GoesBefore (bound (from_input s.input (p ++ q))) s.input (bound (from_input input (p ++ q))) input
    others apart =
        subst (λ b. GoesBefore b s.input (bound (from_input input (p ++ q))) input) (sym stays)
        (subst (λ c. GoesBefore s.bound s.input c input) (sym (same_bound input p q (no_elements input s.input q apart parts.1)))
        (later_goes s ss input (bound (from_input input p)) below order.0 (other_left s ss input (bound (from_input input p)) apart (left input k))))

goes_next : (ss : List Segment) (inputs : ℕ) (p q rest : List Arrival) (x : Arrival) → InOrder ss → AllByRecursion (λ (s : Segment). s.input < inputs) ss → AllLeft inputs ss p
    → flat_map arrivals ss ≡ q ++ x ∷ rest → (input : ℕ) → input < inputs → GoesBefore (bound (from_input x.input (p ++ q))) x.input (bound (from_input input (p ++ q))) input
goes_next [] inputs p [] rest x order within left e input k = cc
goes_next [] inputs p (y ∷ q) rest x order within left e input k = cc
goes_next (s ∷ ss) inputs p q rest x order within left e input k =
    by_place (place (arrivals s) (flat_map arrivals ss) q x rest e)
    (λ more l. goes_next ss inputs (p ++ arrivals s) more rest x order.1 within.1 (left_behind s ss inputs p within.0 left) l input k)
  where
    by_place : Place (arrivals s) (flat_map arrivals ss) q x rest
        → ((more : List Arrival) → flat_map arrivals ss ≡ more ++ x ∷ rest
        → GoesBefore (bound (from_input x.input ((p ++ arrivals s) ++ more))) x.input (bound (from_input input ((p ++ arrivals s) ++ more))) input)
        → GoesBefore (bound (from_input x.input (p ++ q))) x.input (bound (from_input input (p ++ q))) input
    by_place (in_first back l) f = goes_within s ss inputs p q back x order within.0 left l input k
    by_place (after_first more l m) f =
        subst (λ (seen : List Arrival). GoesBefore (bound (from_input x.input seen)) x.input (bound (from_input input seen)) input)
        (append_assoc p (arrivals s) more ∙ ap (λ (back : List Arrival). p ++ back) (sym l)) (f more m)

pub least_bound_goes_next : LeastBoundGoesNext
least_bound_goes_next inputs whole p rest x e other k =
    goes_next (segments_in_order (all_segments 0 inputs)) (length inputs) [] p rest x (in_order-order (all_segments 0 inputs)) segments_within
    (λ input l. (get_or inputs input [], whole input [] l, segments_of inputs whole input)) e other k
  where
    segments_within : AllByRecursion (λ (s : Segment). s.input < length inputs) (segments_in_order (all_segments 0 inputs))
    segments_within =
        each_weaker (IsFrom 0 (length inputs)) (λ (s : Segment). s.input < length inputs) (λ s from. omega (arith, from.1)) (segments_in_order (all_segments 0 inputs))
        (each-in_order (IsFrom 0 (length inputs)) (all_segments 0 inputs) (cut_all-input 0 inputs))
