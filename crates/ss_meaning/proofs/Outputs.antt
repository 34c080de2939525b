-- What an operator gives over whole inputs is whole.
use Rattle.std.proofs.Common.{◌≡◌, ℕ, ◌+◌, ◌^◌, ◌<◌, ◌≤◌, Bool, true, false, cond, nat_lt, List, [], ◌∷◌, ◌++◌, length, map, Some, refl, sym, ap, ◌∙◌, subst, inl, inr, ⊎_elim, arith, append_assoc, append-nil, ltb-true, ltb-false, eq-eqb}
use Rattle.std.proofs.lemmas.Bool.{cond-true}
use Rattle.std.specs.List.{AllByRecursion, All}
use Rattle.ss_elem.specs.Validity.{top, bound_from, Whole}
use Rattle.ss_elem.specs.declared.element.Event.{Event}
use Rattle.ss_elem.specs.declared.element.Element.{Element}
use Rattle.ss_elem.specs.declared.element.Element.TheVariants.{Row, Cti, End}
use Rattle.ss_meaning.specs.Bound.{bound}
use Rattle.ss_meaning.specs.Merge.{Arrival, is_from, from_input, merge}
use Rattle.ss_meaning.specs.Low.{low, cti_or_end, advance}
use Rattle.ss_meaning.specs.Emit.{Kind, Select, Union, Hopping, Join, Session, Except, rows_at, emit, given_along, output}
use Rattle.ss_meaning.specs.Jobs.{IsBefore, Takes}
use Rattle.ss_meaning.proofs.Each.{each-append}
use Rattle.ss_meaning.proofs.Prefixes.{from_input-append}
use Rattle.ss_meaning.proofs.Steps.{follows_in, follows_below, bound_from-cons, bound_past_is}
use Rattle.ss_meaning.proofs.Lows.{low-le, low-most, low-top, low-nil, low_rises, low-time, valid_first, IsTime, IsEarly, merge_whole}
use Rattle.ss_meaning.proofs.GivenRows.{IsGiven}
use Rattle.ss_meaning.proofs.Rows.{Arrives, rows_given}
use Rattle.ss_meaning.proofs.Merging.{merge-input}

-- rows, and then how far Low rose

rows_from : (q limit : ℕ) (rs : List Event) (more : List Element) → q < top → limit ≤ top → AllByRecursion (IsGiven q limit) rs → bound_from q (map (λ row. Row row) rs ++ more) ≡ bound_from q more
rows_from q limit [] more h k given = refl
rows_from q limit (row ∷ rs) more h k given =
    bound_from-cons q (Row row) (map (λ r. Row r) rs ++ more) (h, given.0.0, given.0.1, omega (arith, given.0.2)) ∙ rows_from q limit rs more h k given.1

mark_from : (q q' : ℕ) (more : List Element) → q < q' → q' ≤ top → bound_from q (cti_or_end q' ∷ more) ≡ bound_from q' more
mark_from q q' more h k = by_test (nat_lt q' top) refl
  where
    by_test : (b : Bool) → nat_lt q' top ≡ b → bound_from q (cond b (Cti q') End ∷ more) ≡ bound_from q' more
    by_test true e = let less = ltb-true q' top e in bound_from-cons q (Cti q') more (omega arith, h, less)
    by_test false e =
        let same : q' ≡ top = let least = ltb-false q' top e in omega arith in
        bound_from-cons q End more (omega arith) ∙ ap (λ n. bound_from n more) (sym same)

advance_from : (q q' : ℕ) (more : List Element) → q ≤ q' → q' ≤ top → bound_from q (advance q q' ++ more) ≡ bound_from q' more
advance_from q q' more h k = by_test (nat_lt q q') refl
  where
    by_test : (b : Bool) → nat_lt q q' ≡ b → bound_from q (cond b (cti_or_end q' ∷ []) [] ++ more) ≡ bound_from q' more
    by_test true e = mark_from q q' more (ltb-true q q' e) k
    by_test false e =
        let same : q ≡ q' = let least = ltb-false q q' e in omega arith in
        ap (λ n. bound_from n more) same

-- the times of what is given

rows_before : (q limit : ℕ) (rs : List Event) → AllByRecursion (IsGiven q limit) rs → AllByRecursion (IsBefore limit) (map (λ row. Row row) rs)
rows_before q limit [] given = tt
rows_before q limit (row ∷ rs) given = ((omega (arith, given.0.1, given.0.2), given.0.2), rows_before q limit rs given.1)

mark_before : (limit q : ℕ) → IsTime limit q → IsBefore limit (cti_or_end q)
mark_before limit q h = by_test (nat_lt q top) refl
  where
    by_test : (b : Bool) → nat_lt q top ≡ b → IsBefore limit (cond b (Cti q) End)
    by_test true e = let less = ltb-true q top e in ⊎_elim (λ early. early) (λ same. absurd (omega arith)) h
    by_test false e = tt

advance_before : (limit q q' : ℕ) → IsTime limit q' → AllByRecursion (IsBefore limit) (advance q q')
advance_before limit q q' h = by_test (nat_lt q q')
  where
    by_test : (b : Bool) → AllByRecursion (IsBefore limit) (cond b (cti_or_end q' ∷ []) [])
    by_test true = (mark_before limit q' h, tt)
    by_test false = tt

later_time : (time limit q : ℕ) → time ≤ limit → IsTime time q → IsTime limit q
later_time time limit q h k = ⊎_elim (λ early. inl (omega arith)) (λ same. inr same) k

-- what is known at each place of what arrives

abbrev AllWhole : ℕ → List Arrival → Type 0
AllWhole inputs p = (input : ℕ) → input < inputs → Whole (from_input input p)

pub from_input-here : (p xs : List Arrival) (x : Arrival) → from_input x.input (p ++ x ∷ xs) ≡ from_input x.input p ++ x.element ∷ from_input x.input xs
from_input-here p xs x =
    let e = eq-eqb x.input x.input refl in
    from_input-append x.input p (x ∷ xs)
    ∙ ap (λ (back : List Element). from_input x.input p ++ back) (ap (map (λ (y : Arrival). y.element)) (cond-true (is_from x.input x) (x ∷ _) _ e))

arrives : (inputs time : ℕ) (p xs : List Arrival) (x : Arrival) → x.input < inputs → AllWhole inputs (p ++ x ∷ xs) → AllByRecursion (IsEarly time) p → IsEarly time x → Arrives inputs time p x
arrives inputs time p xs x within whole early here = record {
  within = within;
  follows = follows_in (from_input x.input p) (from_input x.input xs) x.element (subst Whole (from_input-here p xs x) (whole x.input within));
  above = low-le inputs p x.input within;
  valid = valid_first inputs p (x ∷ xs) whole;
  early = here;
  all_early = early;
}

emit_from : (kind : Kind) (inputs time : ℕ) (p xs : List Arrival) (x : Arrival) (more : List Element) → Takes kind inputs → time + 2 ^ 47 ≤ top → AllWhole inputs (p ++ x ∷ xs)
    → Arrives inputs time p x → bound_from (low inputs p) (emit kind inputs p x ++ more) ≡ bound_from (low inputs (p ++ x ∷ [])) more
emit_from kind inputs time p xs x more takes h whole arrived =
    let q = low inputs p in
    let q' = low inputs (p ++ x ∷ []) in
    let rs = rows_at kind inputs p x in
    let below : q < top = let b = follows_below (bound (from_input x.input p)) x.element arrived.follows in omega (arith, arrived.above) in
    let split : AllWhole inputs ((p ++ x ∷ []) ++ xs) = λ input k. subst (λ (all : List Arrival). Whole (from_input input all)) (sym (append_assoc p (x ∷ []) xs)) (whole input k) in
    let rises = low_rises inputs p (x ∷ []) (valid_first inputs (p ++ x ∷ []) xs split) in
    ap (bound_from q) (append_assoc (map (λ row. Row row) rs) (advance q q') more)
    ∙ rows_from q (time + 2 ^ 47) rs (advance q q' ++ more) below h (rows_given kind inputs time (time + 2 ^ 47) p x takes (omega arith) arrived)
    ∙ advance_from q q' more rises (low-most inputs (p ++ x ∷ []))

emit_before : (kind : Kind) (inputs time : ℕ) (p : List Arrival) (x : Arrival) → Takes kind inputs → 0 < time → Arrives inputs time p x
    → AllByRecursion (IsBefore (time + 2 ^ 47)) (emit kind inputs p x)
emit_before kind inputs time p x takes positive arrived =
    let limit = time + 2 ^ 47 in
    let q' = low inputs (p ++ x ∷ []) in
    let early = each-append (IsEarly time) p (x ∷ []) arrived.all_early (arrived.early, tt) in
    each-append (IsBefore limit) (map (λ row. Row row) (rows_at kind inputs p x)) (advance (low inputs p) q')
    (rows_before (low inputs p) limit (rows_at kind inputs p x) (rows_given kind inputs time limit p x takes (omega arith) arrived))
    (advance_before limit (low inputs p) q' (later_time time limit q' (omega arith) (low-time time inputs (p ++ x ∷ []) positive early)))

-- along all that arrives

abbrev EndsWell : ℕ → ℕ → List Element → Type 0
EndsWell q limit xs = (bound_from q xs ≡ Some top) × AllByRecursion (IsBefore limit) xs

ends_well : (kind : Kind) (inputs time : ℕ) (p rest : List Arrival) → Takes kind inputs → 0 < time → time + 2 ^ 47 ≤ top → AllWhole inputs (p ++ rest)
    → AllByRecursion (λ (x : Arrival). x.input < 0 + inputs) rest → AllByRecursion (IsEarly time) p → AllByRecursion (IsEarly time) rest
    → EndsWell (low inputs p) (time + 2 ^ 47) (given_along (emit kind inputs) p rest)
ends_well kind inputs time p [] takes positive h whole within early rest_early =
    (ap Some (low-top inputs p (λ input k. bound_past_is 0 top (from_input input p) (subst (λ (all : List Arrival). Whole (from_input input all)) (append-nil p) (whole input k)))), tt)
ends_well kind inputs time p (x ∷ xs) takes positive h whole within early rest_early =
    let arrived = arrives inputs time p xs x (omega (arith, within.0)) whole early rest_early.0 in
    let next : AllWhole inputs ((p ++ x ∷ []) ++ xs) = λ input k. subst (λ (all : List Arrival). Whole (from_input input all)) (sym (append_assoc p (x ∷ []) xs)) (whole input k) in
    let rest = ends_well kind inputs time (p ++ x ∷ []) xs takes positive h next within.1 (each-append (IsEarly time) p (x ∷ []) early (rest_early.0, tt)) rest_early.1 in (
      emit_from kind inputs time p xs x (given_along (emit kind inputs) (p ++ x ∷ []) xs) takes h whole arrived ∙ rest.0,
      each-append (IsBefore (time + 2 ^ 47)) (emit kind inputs p x) (given_along (emit kind inputs) (p ++ x ∷ []) xs) (emit_before kind inputs time p x takes positive arrived) rest.1,
    )

-- what arrives is as early as the inputs

abbrev EachInput : (Element → Type 0) → ℕ → List Arrival → Type 0
EachInput P inputs p = (input : ℕ) → input < inputs → AllByRecursion P (from_input input p)

tail_of : (P : Element → Type 0) (input : ℕ) (x : Arrival) (p : List Arrival) (b : Bool) → AllByRecursion P (map (λ (y : Arrival). y.element) (cond b (x ∷ p) p)) → AllByRecursion P (map (λ (y : Arrival). y.element) p)
tail_of P input x p true h = h.1
tail_of P input x p false h = h

each_arrival : (P : Element → Type 0) (inputs : ℕ) (p : List Arrival) → AllByRecursion (λ (x : Arrival). x.input < 0 + inputs) p → EachInput P inputs p → AllByRecursion (λ (x : Arrival). P x.element) p
each_arrival P inputs [] within h = tt
each_arrival P inputs (x ∷ p) within h =
    let first = subst (AllByRecursion P) (from_input-here [] p x) (h x.input (omega (arith, within.0))) in
    (first.0, each_arrival P inputs p within.1 (λ input k. tail_of P input x _ (is_from input x) (h input k)))

pub at_least_one : (kind : Kind) (inputs : ℕ) → Takes kind inputs → 1 ≤ inputs
at_least_one (Select select) inputs h = omega arith
at_least_one Union inputs h = omega arith
at_least_one (Hopping window) inputs h = omega (arith, h.0)
at_least_one Join inputs h = omega arith
at_least_one (Session window) inputs h = omega (arith, h.0)
at_least_one Except inputs h = omega arith

pub operator_whole : (kind : Kind) (lists : List (List Element)) (time : ℕ) → Takes kind (length lists) → 0 < time → time + 2 ^ 47 ≤ top → All Whole lists
    → ((input : ℕ) → input < length lists → AllByRecursion (IsBefore time) (from_input input (merge lists)))
    → EndsWell 0 (time + 2 ^ 47) (output kind (length lists) (merge lists))
operator_whole kind lists time takes positive h whole early =
    let inputs = length lists in
    let within = merge-input lists in
    subst (λ q. EndsWell q (time + 2 ^ 47) (output kind inputs (merge lists))) (low-nil inputs (at_least_one kind inputs takes))
    (ends_well kind inputs time [] (merge lists) takes positive h (merge_whole lists whole) within tt (each_arrival (IsBefore time) inputs (merge lists) within early))
