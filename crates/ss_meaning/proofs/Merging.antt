-- A merge has exactly the elements of its inputs, each input's in their order.
use Rattle.std.proofs.Common.{◌≡◌, ℕ, zero, suc, ◌+◌, ◌<◌, ◌≤◌, Bool, true, false, cond, ◌==◌, List, [], ◌∷◌, ◌++◌, length, get_or, map, filter, Some, refl, sym, ap, ◌∙◌, append-nil, arith, eq-eqb, ne_eqb, eqb-true}
use Rattle.std.proofs.lemmas.Bool.Decides.{nat_tests}
use Rattle.std.proofs.lemmas.Bool.{cond-true, cond-false, false≢true, false_from_ne_true}
use Rattle.std.proofs.lemmas.List.Elements.{filter-append, recursion_from_All}
use Rattle.std.specs.List.{AllByRecursion, flat_map, All}
use Rattle.ss_elem.specs.Validity.{top, bound_from, Whole}
use Rattle.ss_elem.specs.declared.element.Element.{Element}
use Rattle.ss_elem.specs.declared.element.Element.TheVariants.{Row, Cti, End}
use Rattle.ss_meaning.specs.Segments.{Segment, segment, extend_first_segment, input_segments, all_segments}
use Rattle.ss_meaning.specs.Merge.{Arrival, goes_first, insert_segment, segments_in_order, arrivals, merge, from_input}
use Rattle.ss_meaning.proofs.Each.{each-append, each_weaker, each-flat_map}
use Rattle.ss_meaning.specs.Laws.{MergeKeepsEachInput}
use Rattle.ss_meaning.proofs.Steps.{bound_from-first}
use Rattle.ss_meaning.proofs.Prefixes.{from_input-append}

-- what holds of all segments holds after they were put in order

put_in_by : (P : Segment → Type 0) (s t : Segment) (ts : List Segment) (b : Bool) → P s → P t → AllByRecursion P ts → AllByRecursion P (insert_segment s ts) → AllByRecursion P (cond b (s ∷ t ∷ ts) (t ∷ insert_segment s ts))
put_in_by P s t ts true h k l m = (h, (k, l))
put_in_by P s t ts false h k l m = (k, m)

pub each-put_in : (P : Segment → Type 0) (s : Segment) (ts : List Segment) → P s → AllByRecursion P ts → AllByRecursion P (insert_segment s ts)
each-put_in P s [] h k = (h, tt)
each-put_in P s (t ∷ ts) h k = put_in_by P s t ts (goes_first s t) h k.0 k.1 (each-put_in P s ts h k.1)

pub each-in_order : (P : Segment → Type 0) (ss : List Segment) → AllByRecursion P ss → AllByRecursion P (segments_in_order ss)
each-in_order P [] h = tt
each-in_order P (s ∷ ss) h = each-put_in P s (segments_in_order ss) h.0 (each-in_order P ss h.1)

-- what holds of the segments of a list, by their bounds and inputs

abbrev Keyed : (ℕ → ℕ → Type 0) → Segment → Type 0
Keyed Q s = Q s.bound s.input

each-lengthen : (Q : ℕ → ℕ → Type 0) (input bound : ℕ) (x : Element) (ss : List Segment) → Q bound input → AllByRecursion (Keyed Q) ss → AllByRecursion (Keyed Q) (extend_first_segment input bound x ss)
each-lengthen Q input bound x [] h k = (h, tt)
each-lengthen Q input bound x (s ∷ ss) h k = (k.0, k.1)

-- each segment of an input has its number
abbrev IsOf : ℕ → Segment → Type 0
IsOf input s = s.input ≡ input

cut-input : (input bound : ℕ) (xs : List Element) → AllByRecursion (IsOf input) (input_segments input bound xs)
cut-input input bound [] = tt
cut-input input bound (Row row ∷ xs) = each-lengthen (λ b i. i ≡ input) input bound (Row row) (input_segments input bound xs) refl (cut-input input bound xs)
cut-input input bound (Cti time ∷ xs) = (refl, cut-input input time xs)
cut-input input bound (End ∷ xs) = (refl, cut-input input top xs)

abbrev pub IsFrom : ℕ → ℕ → Segment → Type 0
IsFrom first count s = (first ≤ s.input) × (s.input < first + count)

pub cut_all-input : (first : ℕ) (lists : List (List Element)) → AllByRecursion (IsFrom first (length lists)) (all_segments first lists)
cut_all-input first [] = tt
cut_all-input first (xs ∷ others) =
    each-append (IsFrom first (suc (length others))) (input_segments first 0 xs) (all_segments (first + 1) others)
    (each_weaker (IsOf first) (IsFrom first (suc (length others))) (λ s e. (omega arith, omega arith)) (input_segments first 0 xs) (cut-input first 0 xs))
    (each_weaker (IsFrom (first + 1) (length others)) (IsFrom first (suc (length others))) (λ s h. (omega arith, omega arith)) (all_segments (first + 1) others) (cut_all-input (first + 1) others))

arrivals-input : (first count : ℕ) (s : Segment) → IsFrom first count s → AllByRecursion (λ (x : Arrival). x.input < first + count) (arrivals s)
arrivals-input first count s h = go s.elements
  where
    go : (xs : List Element) → AllByRecursion (λ (x : Arrival). x.input < first + count) (map (λ x. record { input = s.input; element = x }) xs)
    go [] = tt
    go (x ∷ xs) = (h.1, go xs)

pub merge-input : (lists : List (List Element)) → AllByRecursion (λ (x : Arrival). x.input < 0 + length lists) (merge lists)
merge-input lists =
    each-flat_map (IsFrom 0 (length lists)) (λ (x : Arrival). x.input < 0 + length lists) arrivals (arrivals-input 0 (length lists)) (segments_in_order (all_segments 0 lists))
    (each-in_order (IsFrom 0 (length lists)) (all_segments 0 lists) (cut_all-input 0 lists))

-- the segments of one input keep their order

abbrev pub is_of : ℕ → Segment → Bool
is_of input s = s.input == input

-- of this input, and so behind s
abbrev Trails : ℕ → Segment → Segment → Type 0
Trails input s t = is_of input t ≡ true → goes_first s t ≡ true

abbrev OwnOrder : ℕ → List Segment → Type 0
OwnOrder input [] = Unit {0}
OwnOrder input (s ∷ ss) = (is_of input s ≡ true → AllByRecursion (Trails input s) ss) × OwnOrder input ss

put_in-other : (input : ℕ) (s : Segment) (ts : List Segment) → is_of input s ≡ false → filter (is_of input) (insert_segment s ts) ≡ filter (is_of input) ts
put_in-other input s [] h = cond-false (is_of input s) (s ∷ []) [] h
put_in-other input s (t ∷ ts) h = by_test (goes_first s t) (put_in-other input s ts h)
  where
    by_test : (b : Bool) → filter (is_of input) (insert_segment s ts) ≡ filter (is_of input) ts → filter (is_of input) (cond b (s ∷ t ∷ ts) (t ∷ insert_segment s ts)) ≡ filter (is_of input) (t ∷ ts)
    by_test true rest = cond-false (is_of input s) (s ∷ filter (is_of input) (t ∷ ts)) (filter (is_of input) (t ∷ ts)) h
    by_test false rest = ap (λ (kept : List Segment). cond (is_of input t) (t ∷ kept) kept) rest

put_in-own : (input : ℕ) (s : Segment) (ts : List Segment) → is_of input s ≡ true → AllByRecursion (Trails input s) ts → filter (is_of input) (insert_segment s ts) ≡ s ∷ filter (is_of input) ts
put_in-own input s [] h k = cond-true (is_of input s) (s ∷ []) [] h
put_in-own input s (t ∷ ts) h k = by_test (goes_first s t) refl (put_in-own input s ts h k.1)
  where
    passed : goes_first s t ≡ false → is_of input t ≡ false
    passed e = false_from_ne_true (is_of input t) (λ mine. false≢true (sym e ∙ k.0 mine))

    by_test : (b : Bool) → goes_first s t ≡ b → filter (is_of input) (insert_segment s ts) ≡ s ∷ filter (is_of input) ts → filter (is_of input) (cond b (s ∷ t ∷ ts) (t ∷ insert_segment s ts)) ≡ s ∷ filter (is_of input) (t ∷ ts)
    by_test true e rest = cond-true (is_of input s) (s ∷ filter (is_of input) (t ∷ ts)) (filter (is_of input) (t ∷ ts)) h
    by_test false e rest =
        cond-false (is_of input t) (t ∷ filter (is_of input) (insert_segment s ts)) (filter (is_of input) (insert_segment s ts)) (passed e)
        ∙ rest
        ∙ ap (λ (kept : List Segment). s ∷ kept) (sym (cond-false (is_of input t) (t ∷ filter (is_of input) ts) (filter (is_of input) ts) (passed e)))

in_order-own : (input : ℕ) (ss : List Segment) → OwnOrder input ss → filter (is_of input) (segments_in_order ss) ≡ filter (is_of input) ss
in_order-own input [] h = refl
in_order-own input (s ∷ ss) h = by_test (is_of input s) refl (in_order-own input ss h.1)
  where
    by_test : (b : Bool) → is_of input s ≡ b → filter (is_of input) (segments_in_order ss) ≡ filter (is_of input) ss → filter (is_of input) (insert_segment s (segments_in_order ss)) ≡ cond b (s ∷ filter (is_of input) ss) (filter (is_of input) ss)
    by_test true e rest = put_in-own input s (segments_in_order ss) e (each-in_order (Trails input s) ss (h.0 e)) ∙ ap (λ (kept : List Segment). s ∷ kept) rest
    by_test false e rest = put_in-other input s (segments_in_order ss) e ∙ rest

-- the segments of a list whose elements may follow each other stand in their order

abbrev IsAt : ℕ → ℕ → Segment → Type 0
IsAt input low s = (low ≤ s.bound) × (s.input ≡ input)

goes_first-own : (s t : Segment) → s.bound ≤ t.bound → t.input ≡ s.input → goes_first s t ≡ true
goes_first-own s t h e = grind (arith, nat_tests)

trails : (input own : ℕ) (s : Segment) (ts : List Segment) → s.input ≡ own → AllByRecursion (IsAt own s.bound) ts → AllByRecursion (Trails input s) ts
trails input own s ts e h = each_weaker (IsAt own s.bound) (Trails input s) (λ t at mine. goes_first-own s t at.0 (at.1 ∙ sym e)) ts h

lengthen-order : (input own bound : ℕ) (x : Element) (ss : List Segment) → OwnOrder input ss → OwnOrder input (extend_first_segment own bound x ss)
lengthen-order input own bound x [] h = (λ _. tt, tt)
lengthen-order input own bound x (s ∷ ss) h = (h.0, h.1)

cut-at : (own bound c : ℕ) (xs : List Element) → bound_from bound xs ≡ Some c → AllByRecursion (IsAt own bound) (input_segments own bound xs)
cut-at own bound c [] h = tt
cut-at own bound c (Row row ∷ xs) h =
    each-lengthen (λ b i. (bound ≤ b) × (i ≡ own)) own bound (Row row) (input_segments own bound xs) (omega arith, refl) (cut-at own bound c xs (bound_from-first bound c (Row row) xs h).1)
cut-at own bound c (Cti time ∷ xs) h =
    let first = bound_from-first bound c (Cti time) xs h in
    ((omega arith, refl), each_weaker (IsAt own time) (IsAt own bound) (λ s at. (omega (arith, first.0.1, at.0), at.1)) (input_segments own time xs) (cut-at own time c xs first.1))
cut-at own bound c (End ∷ xs) h =
    let first = bound_from-first bound c End xs h in
    ((omega arith, refl), each_weaker (IsAt own top) (IsAt own bound) (λ s at. (omega (arith, first.0, at.0), at.1)) (input_segments own top xs) (cut-at own top c xs first.1))

cut-order : (input own bound c : ℕ) (xs : List Element) → bound_from bound xs ≡ Some c → OwnOrder input (input_segments own bound xs)
cut-order input own bound c [] h = tt
cut-order input own bound c (Row row ∷ xs) h =
    lengthen-order input own bound (Row row) (input_segments own bound xs) (cut-order input own bound c xs (bound_from-first bound c (Row row) xs h).1)
cut-order input own bound c (Cti time ∷ xs) h =
    let first = bound_from-first bound c (Cti time) xs h in
    let s = segment own bound (Cti time ∷ []) in
    let later = each_weaker (IsAt own time) (IsAt own bound) (λ t at. (omega (arith, first.0.1, at.0), at.1)) (input_segments own time xs) (cut-at own time c xs first.1) in
    (λ _. trails input own s (input_segments own time xs) refl later, cut-order input own time c xs first.1)
cut-order input own bound c (End ∷ xs) h =
    let first = bound_from-first bound c End xs h in
    let s = segment own bound (End ∷ []) in
    let later = each_weaker (IsAt own top) (IsAt own bound) (λ t at. (omega (arith, first.0, at.0), at.1)) (input_segments own top xs) (cut-at own top c xs first.1) in
    (λ _. trails input own s (input_segments own top xs) refl later, cut-order input own top c xs first.1)

-- segments before others that are none of their input
order-append : (input own : ℕ) (ss ts : List Segment) → AllByRecursion (IsOf own) ss → OwnOrder input ss → AllByRecursion (λ (t : Segment). own < t.input) ts → OwnOrder input ts → OwnOrder input (ss ++ ts)
order-append input own [] ts mine h others k = k
order-append input own (s ∷ ss) ts mine h others k = (
  λ e. each-append (Trails input s) ss ts (h.0 e)
      (each_weaker (λ (t : Segment). own < t.input) (Trails input s) (λ t above same.
      let here : s.input ≡ input = eqb-true s.input input e in
      let there : t.input ≡ input = eqb-true t.input input same in
      absurd (omega (arith, mine.0))) ts others),
  order-append input own ss ts mine.1 h.1 others k,
)

cut_all-order : (input first : ℕ) (lists : List (List Element)) → AllByRecursion Whole lists → OwnOrder input (all_segments first lists)
cut_all-order input first [] h = tt
cut_all-order input first (xs ∷ others) h =
    order-append input first (input_segments first 0 xs) (all_segments (first + 1) others) (cut-input first 0 xs) (cut-order input first 0 top xs h.0)
    (each_weaker (IsFrom (first + 1) (length others)) (λ (t : Segment). first < t.input) (λ t from. omega (arith, from.0)) (all_segments (first + 1) others) (cut_all-input (first + 1) others))
    (cut_all-order input (first + 1) others h.1)

-- the elements of the segments of an input

abbrev elements_of : Segment → List Element
elements_of s = s.elements

lengthen-elements : (input bound : ℕ) (x : Element) (ss : List Segment) → flat_map elements_of (extend_first_segment input bound x ss) ≡ x ∷ flat_map elements_of ss
lengthen-elements input bound x [] = refl
lengthen-elements input bound x (s ∷ ss) = refl

cut-elements : (input bound : ℕ) (xs : List Element) → flat_map elements_of (input_segments input bound xs) ≡ xs
cut-elements input bound [] = refl
cut-elements input bound (Row row ∷ xs) = lengthen-elements input bound (Row row) (input_segments input bound xs) ∙ ap (λ (rest : List Element). Row row ∷ rest) (cut-elements input bound xs)
cut-elements input bound (Cti time ∷ xs) = ap (λ (rest : List Element). Cti time ∷ rest) (cut-elements input time xs)
cut-elements input bound (End ∷ xs) = ap (λ (rest : List Element). End ∷ rest) (cut-elements input top xs)

filter-mine : (input own : ℕ) (ss : List Segment) → own ≡ input → AllByRecursion (IsOf own) ss → filter (is_of input) ss ≡ ss
filter-mine input own [] e h = refl
filter-mine input own (s ∷ ss) e h =
    cond-true (is_of input s) (s ∷ filter (is_of input) ss) (filter (is_of input) ss) (eq-eqb s.input input (h.0 ∙ e))
    ∙ ap (λ (rest : List Segment). s ∷ rest) (filter-mine input own ss e h.1)

filter_none : (input : ℕ) (ss : List Segment) → AllByRecursion (λ (s : Segment). s.input ≡ input → ⊥) ss → filter (is_of input) ss ≡ []
filter_none input [] h = refl
filter_none input (s ∷ ss) h =
    cond-false (is_of input s) (s ∷ filter (is_of input) ss) (filter (is_of input) ss) (ne_eqb s.input input h.0) ∙ filter_none input ss h.1

pub cut_all-own : (input first place : ℕ) (lists : List (List Element)) → input ≡ first + place → filter (is_of input) (all_segments first lists) ≡ input_segments input 0 (get_or lists place [])
cut_all-own input first place [] e = refl
cut_all-own input first zero (xs ∷ others) e =
    let same : first ≡ input = omega arith in
    filter-append (is_of input) (input_segments first 0 xs) (all_segments (first + 1) others)
    ∙ ap (λ (rest : List Segment). filter (is_of input) (input_segments first 0 xs) ++ rest)
    (filter_none input (all_segments (first + 1) others)
    (each_weaker (IsFrom (first + 1) (length others)) (λ (s : Segment). s.input ≡ input → ⊥) (λ s from same. omega (arith, from.0)) (all_segments (first + 1) others) (cut_all-input (first + 1) others)))
    ∙ append-nil (filter (is_of input) (input_segments first 0 xs))
    ∙ filter-mine input first (input_segments first 0 xs) same (cut-input first 0 xs)
    ∙ ap (λ (own : ℕ). input_segments own 0 xs) same
cut_all-own input first (suc place) (xs ∷ others) e =
    filter-append (is_of input) (input_segments first 0 xs) (all_segments (first + 1) others)
    ∙ ap (λ (front : List Segment). front ++ filter (is_of input) (all_segments (first + 1) others))
    (filter_none input (input_segments first 0 xs) (each_weaker (IsOf first) (λ (s : Segment). s.input ≡ input → ⊥) (λ s own same. omega arith) (input_segments first 0 xs) (cut-input first 0 xs)))
    ∙ cut_all-own input (first + 1) place others (omega arith)

-- the segments of an input, in the order of a merge
pub segments_of : (inputs : List (List Element)) → All Whole inputs → (input : ℕ) → filter (is_of input) (segments_in_order (all_segments 0 inputs)) ≡ input_segments input 0 (get_or inputs input [])
segments_of inputs whole input =
    in_order-own input (all_segments 0 inputs) (cut_all-order input 0 inputs (recursion_from_All Whole inputs whole)) ∙ cut_all-own input 0 input inputs (omega arith)

-- what came from an input

pub arrivals-mine : (input : ℕ) (s : Segment) → is_of input s ≡ true → from_input input (arrivals s) ≡ s.elements
arrivals-mine input s h = go s.elements
  where
    go : (xs : List Element) → from_input input (map (λ x. record { input = s.input; element = x }) xs) ≡ xs
    go [] = refl
    go (x ∷ xs) = rw h (ap (λ (rest : List Element). x ∷ rest) (go xs))

pub arrivals-other : (input : ℕ) (s : Segment) → is_of input s ≡ false → from_input input (arrivals s) ≡ []
arrivals-other input s h = go s.elements
  where
    go : (xs : List Element) → from_input input (map (λ x. record { input = s.input; element = x }) xs) ≡ []
    go [] = refl
    go (x ∷ xs) = rw h (go xs)

from_segments : (input : ℕ) (ss : List Segment) → from_input input (flat_map arrivals ss) ≡ flat_map elements_of (filter (is_of input) ss)
from_segments input [] = refl
from_segments input (s ∷ ss) = from_input-append input (arrivals s) (flat_map arrivals ss) ∙ by_test (is_of input s) refl (from_segments input ss)
  where
    by_test : (b : Bool) → is_of input s ≡ b → from_input input (flat_map arrivals ss) ≡ flat_map elements_of (filter (is_of input) ss)
        → from_input input (arrivals s) ++ from_input input (flat_map arrivals ss) ≡ flat_map elements_of (cond b (s ∷ filter (is_of input) ss) (filter (is_of input) ss))
    by_test true e rest = ap (λ (front : List Element). front ++ from_input input (flat_map arrivals ss)) (arrivals-mine input s e) ∙ ap (λ (back : List Element). s.elements ++ back) rest
    by_test false e rest = ap (λ (front : List Element). front ++ from_input input (flat_map arrivals ss)) (arrivals-other input s e) ∙ rest

-- the law

pub merge_keeps_each_input : MergeKeepsEachInput
merge_keeps_each_input inputs whole input =
    from_segments input (segments_in_order (all_segments 0 inputs)) ∙ ap (flat_map elements_of) (segments_of inputs whole input) ∙ cut-elements input 0 (get_or inputs input [])
