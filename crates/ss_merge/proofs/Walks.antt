-- The bounds from one input on, walked from the last one to the first.
use Rattle.std.proofs.Common.{◌≡◌, ℕ, suc, ◌+◌, ◌<◌, ◌≤◌, min, Bool, true, false, ◌&&◌, cond, nat_lt, nat_le, List, [], ◌∷◌, length, get_or, drop, Option, Some, None, IfSome, IsNone, ◌↔◌, refl, sym, ap, ◌∙◌, arith}
use Rattle.std.proofs.lemmas.Bool.{le-ltb, cond-false}
use Rattle.std.proofs.lemmas.Bool.Decides.{nat_tests}
use Rattle.std.proofs.lemmas.List.{drop_more}
use Rattle.ss_elem.specs.Validity.{top}
use Rattle.ss_meaning.specs.Inputs.{least_bound, next_from}

pub least_more : (bs : List ℕ) (i : ℕ) → i < length bs → least_bound (drop i bs) ≡ min (get_or bs i 0) (least_bound (drop (i + 1) bs))
least_more bs i h = ap least_bound (drop_more bs i 0 h)

pub next_more : (bs : List ℕ) (i : ℕ) → i < length bs
    → next_from i (drop i bs)
    ≡ cond (nat_lt (get_or bs i 0) top && nat_le (get_or bs i 0) (least_bound (drop (i + 1) bs))) (Some i) (next_from (i + 1) (drop (i + 1) bs))
next_more bs i h = ap (next_from i) (drop_more bs i 0 h)

-- the input that goes next is one of those whose bounds these are

next_within_by : (t : Bool) (input i count : ℕ) (rest : Option ℕ) → ((i : ℕ) → rest ≡ Some i → i < input + 1 + count)
    → cond t (Some input) rest ≡ Some i → i < input + suc count
next_within_by true input i count rest later e = let same : input ≡ i = cc in omega arith
next_within_by false input i count rest later e = let h : i < input + 1 + count = later i e in omega arith

pub next_within : (input : ℕ) (bs : List ℕ) (i : ℕ) → next_from input bs ≡ Some i → i < input + length bs
next_within input [] i e = cc
next_within input (b ∷ bs) i e =
    next_within_by (nat_lt b top && nat_le b (least_bound bs)) input i (length bs) (next_from (input + 1) bs)
    (λ j h. next_within (input + 1) bs j h) e

pub next_within_all : (bs : List ℕ) (next : Option ℕ) → next ≡ next_from 0 bs → IfSome next (λ input. input < length bs)
next_within_all bs None e = tt
next_within_all bs (Some input) e = omega (arith, next_within 0 bs input (sym e))

-- there is none exactly where the least bound is that of an end

least-most : (bs : List ℕ) → least_bound bs ≤ top
least-most [] = omega arith
least-most (b ∷ bs) = omega (arith, least-most bs)

all_ended_by : (t : Bool) (input : ℕ) (rest : Option ℕ) → cond t (Some input) rest ≡ None → (t ≡ false) × (rest ≡ None)
all_ended_by true input rest e = cc
all_ended_by false input rest e = (refl, e)

pub all_ended : (input : ℕ) (bs : List ℕ) → next_from input bs ≡ None → least_bound bs ≡ top
all_ended input [] e = refl
all_ended input (b ∷ bs) e =
    let both = all_ended_by (nat_lt b top && nat_le b (least_bound bs)) input (next_from (input + 1) bs) e in
    let rest : least_bound bs ≡ top = all_ended (input + 1) bs both.1 in
    let here : top ≤ b = grind (arith, nat_tests, both.0, rest) in
    omega (arith, least-most bs)

pub none_left : (input : ℕ) (bs : List ℕ) → least_bound bs ≡ top → next_from input bs ≡ None
none_left input [] e = refl
none_left input (b ∷ bs) e =
    let late : top ≤ b = omega (arith, least-most bs) in
    let rest : least_bound bs ≡ top = omega (arith, least-most bs) in
    let ended : nat_lt b top ≡ false = le-ltb b top late in
    cond-false (nat_lt b top && nat_le b (least_bound bs)) (Some input) (next_from (input + 1) bs)
    (ap (λ (t : Bool). t && nat_le b (least_bound bs)) ended)
    ∙ none_left (input + 1) bs rest

pub none_where_ended : (bs : List ℕ) (next : Option ℕ) → next ≡ next_from 0 bs → IsNone next ↔ (least_bound bs ≡ top)
none_where_ended bs None e = (λ h. all_ended 0 bs (sym e), λ h. refl)
none_where_ended bs (Some input) e = (λ h. cc, λ h. let none = none_left 0 bs h in cc)
