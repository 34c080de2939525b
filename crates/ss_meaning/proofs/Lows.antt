-- Low of what has arrived.
use Rattle.std.proofs.Common.{◌≡◌, ℕ, zero, suc, ◌<◌, ◌≤◌, min, List, [], ◌∷◌, ◌++◌, length, take, drop, filter, Some, refl, sym, ap, subst, inl, inr, ⊎_elim, ◌⊎◌, arith, take-append-drop}
use Rattle.std.proofs.lemmas.Bool.{cases_eq, cases_lt}
use Rattle.std.specs.List.{AllByRecursion, All}
use Rattle.ss_elem.specs.Validity.{top, bound_from, Whole}
use Rattle.ss_elem.specs.declared.element.Element.{Element}
use Rattle.ss_elem.specs.declared.element.Element.TheVariants.{Row, Cti, End}
use Rattle.ss_meaning.specs.Bound.{bound_after, bound_past, bound}
use Rattle.ss_meaning.specs.Merge.{Arrival, is_from, from_input, merge}
use Rattle.ss_meaning.specs.Low.{low}
use Rattle.ss_meaning.specs.Jobs.{IsBefore}
use Rattle.ss_meaning.specs.Laws.{LowIsBelowBounds, LowNeverFalls, BoundOfValid}
use Rattle.ss_meaning.proofs.Each.{each-map, each-filter}
use Rattle.ss_meaning.proofs.Prefixes.{from_input-append, longer}
use Rattle.ss_meaning.proofs.Steps.{bound_from-split, bound_rises, bound_past_is}
use Rattle.ss_meaning.proofs.Merging.{merge_keeps_each_input}

pub bound_of_valid : BoundOfValid
bound_of_valid xs b h = bound_past_is 0 b xs h

-- Low against the bounds of the inputs

pub low-le : LowIsBelowBounds
low-le zero p input h = absurd (omega arith)
low-le (suc inputs) p input h = ⊎_elim last (before (low-le inputs p input)) (cases_eq input inputs)
  where
    last : input ≡ inputs → low (suc inputs) p ≤ bound (from_input input p)
    last e = let same : bound (from_input input p) ≡ bound (from_input inputs p) = ap (λ i. bound (from_input i p)) e in omega arith

    before : (input < inputs → low inputs p ≤ bound (from_input input p)) → (input ≡ inputs → ⊥) → low (suc inputs) p ≤ bound (from_input input p)
    before those e = let rest = those (omega arith) in omega arith

pub low-most : (inputs : ℕ) (p : List Arrival) → low inputs p ≤ top
low-most zero p = omega arith
low-most (suc inputs) p = let rest = low-most inputs p in omega arith

pub low-top : (inputs : ℕ) (p : List Arrival) → ((input : ℕ) → input < inputs → bound (from_input input p) ≡ top) → low inputs p ≡ top
low-top zero p h = refl
low-top (suc inputs) p h =
    let rest = low-top inputs p (λ input k. h input (omega arith)) in
    let here = h inputs (omega arith) in
    omega arith

pub low-nil : (inputs : ℕ) → 1 ≤ inputs → low inputs [] ≡ 0
low-nil zero h = absurd (omega arith)
low-nil (suc inputs) h = omega arith

bound_grows : (xs ys : List Element) (c : ℕ) → bound_from 0 (xs ++ ys) ≡ Some c → bound xs ≤ bound (xs ++ ys)
bound_grows xs ys c h =
    let up = bound_rises (bound_past 0 xs) c ys (bound_from-split 0 c xs ys h).1 in
    let e = bound_past_is 0 c (xs ++ ys) h in
    omega arith

-- every input's elements may follow each other
abbrev pub AllValid : ℕ → List Arrival → Type 0
AllValid inputs p = (input : ℕ) → input < inputs → (c : ℕ) × (bound_from 0 (from_input input p) ≡ Some c)

bound_grows_of : (p more : List Arrival) (input c : ℕ) → bound_from 0 (from_input input (p ++ more)) ≡ Some c → bound (from_input input p) ≤ bound (from_input input (p ++ more))
bound_grows_of p more input c h =
    let e = from_input-append input p more in
    subst (λ (xs : List Element). bound (from_input input p) ≤ bound xs) (sym e)
    (bound_grows (from_input input p) (from_input input more) c (subst (λ (xs : List Element). bound_from 0 xs ≡ Some c) e h))

pub low_rises : (inputs : ℕ) (p more : List Arrival) → AllValid inputs (p ++ more) → low inputs p ≤ low inputs (p ++ more)
low_rises zero p more h = omega arith
low_rises (suc inputs) p more h =
    let valid = h inputs (omega arith) in
    let here = bound_grows_of p more inputs valid.0 valid.1 in
    let rest = low_rises inputs p more (λ input k. h input (omega arith)) in
    omega arith

pub valid_first : (inputs : ℕ) (p more : List Arrival) → ((input : ℕ) → input < inputs → Whole (from_input input (p ++ more))) → AllValid inputs p
valid_first inputs p more h input k = (
  bound_past 0 (from_input input p),
  (bound_from-split 0 top (from_input input p) (from_input input more)
      (subst (λ (xs : List Element). bound_from 0 xs ≡ Some top) (from_input-append input p more) (h input k))).0,
)

-- what came from each input of whole lists is whole
pub merge_whole : (inputs : List (List Element)) → All Whole inputs → (input : ℕ) → input < length inputs → Whole (from_input input (merge inputs))
merge_whole inputs h input k = subst Whole (sym (merge_keeps_each_input inputs h input)) (h input [] k)

pub low_never_falls : LowNeverFalls
low_never_falls inputs h m n k =
    let all = merge inputs in
    let more = longer m n all k in
    let count = length inputs in
    let valid : AllValid count (take n all) = valid_first count (take n all) (drop n all) (λ input l.
    subst (λ (xs : List Arrival). Whole (from_input input xs)) (sym (take-append-drop n all)) (merge_whole inputs h input l)) in
    subst (λ (p : List Arrival). low count (take m all) ≤ low count p) (sym more.1)
    (low_rises count (take m all) more.0 (subst (AllValid count) more.1 valid))

-- Low is a time of the inputs, or top

abbrev pub IsTime : ℕ → ℕ → Type 0
IsTime limit t = (t < limit) ⊎ (t ≡ top)

after-time : (limit b : ℕ) (x : Element) → IsBefore limit x → IsTime limit b → IsTime limit (bound_after b x)
after-time limit b (Row row) h k = k
after-time limit b (Cti time) h k = inl h
after-time limit b End h k = inr refl

bound-time : (limit b : ℕ) (xs : List Element) → AllByRecursion (IsBefore limit) xs → IsTime limit b → IsTime limit (bound_past b xs)
bound-time limit b [] h k = k
bound-time limit b (x ∷ xs) h k = bound-time limit (bound_after b x) xs h.1 (after-time limit b x h.0 k)

-- an arrival all of whose times are below a limit
abbrev pub IsEarly : ℕ → Arrival → Type 0
IsEarly limit x = IsBefore limit x.element

pub from_input-early : (limit input : ℕ) (p : List Arrival) → AllByRecursion (IsEarly limit) p → AllByRecursion (IsBefore limit) (from_input input p)
from_input-early limit input p h =
    each-map (IsBefore limit) (λ (x : Arrival). x.element) (filter (is_from input) p) (each-filter (IsEarly limit) (is_from input) p h)

min-time : (limit a b : ℕ) → IsTime limit a → IsTime limit b → IsTime limit (min a b)
min-time limit a b h k = ⊎_elim (λ less. subst (IsTime limit) (sym (min-left less)) h) (λ more. subst (IsTime limit) (sym (min-right more)) k) (cases_lt a b)
  where
    min-left : a < b → min a b ≡ a
    min-left less = omega arith

    min-right : b ≤ a → min a b ≡ b
    min-right more = omega arith

pub low-time : (limit inputs : ℕ) (p : List Arrival) → 0 < limit → AllByRecursion (IsEarly limit) p → IsTime limit (low inputs p)
low-time limit zero p k h = inr refl
low-time limit (suc inputs) p k h =
    min-time limit (bound (from_input inputs p)) (low inputs p) (bound-time limit 0 (from_input inputs p) (from_input-early limit inputs p h) (inl k)) (low-time limit inputs p k h)
