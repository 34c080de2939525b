-- A stable sort of segments has one result.
use Rattle.std.proofs.Common.{◌≡◌, ℕ, suc, ◌<◌, ◌≤◌, Bool, true, false, cond, not, ◌&&◌, List, [], ◌∷◌, length, get_or, filter, refl, sym, ap, ◌∙◌, subst, arith}
use Rattle.std.proofs.lemmas.Bool.{and_parts, and_from, cond-true, not-false}
use Rattle.std.proofs.lemmas.Bool.Decides.{nat_tests}
use Rattle.std.proofs.lemmas.List.MinMax.{IsStrictWeakOrder-from_at_least}
use Rattle.std.proofs.lemmas.List.Sorted.{sorted_far}
use Rattle.std.specs.Cmp.{IsStrictWeakOrder}
use Rattle.std.specs.List.{AllByRecursion}
use Rattle.std.specs.List.Sorted.{ties}
use Rattle.ss_meaning.specs.Segments.{Segment}
use Rattle.ss_meaning.specs.Merge.{goes_first, precedes, insert_segment, segments_in_order}
use Rattle.ss_meaning.specs.Laws.{SortedIsInOrder}
use Rattle.ss_meaning.proofs.Each.{each-filter}
use Rattle.ss_meaning.proofs.LeastBound.{InOrder, in_order-order, goes_first-trans, goes_first-total}

goes_first-self : (s : Segment) → goes_first s s ≡ true
goes_first-self s = grind (arith, nat_tests)

-- two segments that tie go before each other

not_not : (b : Bool) → not (not b) ≡ b
not_not true = refl
not_not false = refl

ties_are : (x y : Segment) → ties precedes x y ≡ (goes_first y x && goes_first x y)
ties_are x y =
    ap (λ (b : Bool). b && not (not (goes_first x y))) (not_not (goes_first y x))
    ∙ ap (λ (b : Bool). goes_first y x && b) (not_not (goes_first x y))

tied : (x y : Segment) → ties precedes x y ≡ true → (goes_first y x ≡ true) × (goes_first x y ≡ true)
tied x y h = and_parts (goes_first y x) (goes_first x y) (sym (ties_are x y) ∙ h)

ties_from : (x y : Segment) → goes_first y x ≡ true → goes_first x y ≡ true → ties precedes x y ≡ true
ties_from x y h k = ties_are x y ∙ and_from (goes_first y x) (goes_first x y) h k

ties-self : (x : Segment) → ties precedes x x ≡ true
ties-self x = ties_from x x (goes_first-self x) (goes_first-self x)

-- an insertion keeps those that tie in their order

insert_keeps : (x s : Segment) (ts : List Segment) → filter (ties precedes x) (insert_segment s ts) ≡ filter (ties precedes x) (s ∷ ts)
insert_keeps x s [] = refl
insert_keeps x s (t ∷ ts) = by_test (goes_first s t) refl (insert_keeps x s ts)
  where
    apart : (b c : Bool) → ties precedes x s ≡ b → ties precedes x t ≡ c → goes_first s t ≡ false
        → cond c (t ∷ cond b (s ∷ filter (ties precedes x) ts) (filter (ties precedes x) ts)) (cond b (s ∷ filter (ties precedes x) ts) (filter (ties precedes x) ts))
        ≡ cond b (s ∷ cond c (t ∷ filter (ties precedes x) ts) (filter (ties precedes x) ts)) (cond c (t ∷ filter (ties precedes x) ts) (filter (ties precedes x) ts))
    apart true true h k e =
        let both : goes_first s t ≡ true = goes_first-trans s x t (tied x s h).0 (tied x t k).1 in
        cc
    apart true false h k e = refl
    apart false true h k e = refl
    apart false false h k e = refl

    by_test : (b : Bool) → goes_first s t ≡ b → filter (ties precedes x) (insert_segment s ts) ≡ filter (ties precedes x) (s ∷ ts)
        → filter (ties precedes x) (cond b (s ∷ t ∷ ts) (t ∷ insert_segment s ts)) ≡ filter (ties precedes x) (s ∷ t ∷ ts)
    by_test true e rest = refl
    by_test false e rest =
        ap (λ (us : List Segment). cond (ties precedes x t) (t ∷ us) us) rest
        ∙ apart (ties precedes x s) (ties precedes x t) refl refl e

sort_keeps : (x : Segment) (ss : List Segment) → filter (ties precedes x) (segments_in_order ss) ≡ filter (ties precedes x) ss
sort_keeps x [] = refl
sort_keeps x (s ∷ ss) =
    insert_keeps x s (segments_in_order ss)
    ∙ ap (λ (us : List Segment). cond (ties precedes x s) (s ∷ us) us) (sort_keeps x ss)

-- two lists in order with the same elements among each that tie are equal

first_of : (s u : Segment) (ss us : List Segment) → InOrder (s ∷ ss) → filter (ties precedes u) (s ∷ ss) ≡ u ∷ us → goes_first s u ≡ true
first_of s u ss us order e =
    let P : Segment → Type 0 = λ t. goes_first s t ≡ true in
    let all : AllByRecursion P (s ∷ ss) = (goes_first-self s, order.0) in
    let kept : AllByRecursion P (u ∷ us) = subst (AllByRecursion P) e (each-filter P (ties precedes u) (s ∷ ss) all) in
    kept.0

kept_first : (x s : Segment) (ss : List Segment) → ties precedes x s ≡ true → filter (ties precedes x) (s ∷ ss) ≡ s ∷ filter (ties precedes x) ss
kept_first x s ss h = cond-true (ties precedes x s) (s ∷ filter (ties precedes x) ss) (filter (ties precedes x) ss) h

same_tails : (x s : Segment) (ss ts : List Segment) (b : Bool)
    → cond b (s ∷ filter (ties precedes x) ss) (filter (ties precedes x) ss) ≡ cond b (s ∷ filter (ties precedes x) ts) (filter (ties precedes x) ts)
    → filter (ties precedes x) ss ≡ filter (ties precedes x) ts
same_tails x s ss ts true e = cc
same_tails x s ss ts false e = e

same_in_order : (ss ts : List Segment) → InOrder ss → InOrder ts → ((x : Segment) → filter (ties precedes x) ss ≡ filter (ties precedes x) ts) → ss ≡ ts
same_in_order [] [] o p same = refl
same_in_order [] (t ∷ ts) o p same = let e = same t ∙ kept_first t t ts (ties-self t) in cc
same_in_order (s ∷ ss) [] o p same = let e = sym (same s) ∙ kept_first s s ss (ties-self s) in cc
same_in_order (s ∷ ss) (t ∷ ts) o p same =
    let s_first = kept_first s s ss (ties-self s) in
    let t_first = kept_first t t ts (ties-self t) in
    let s_to_t : goes_first s t ≡ true = first_of s t ss (filter (ties precedes t) ts) o (same t ∙ t_first) in
    let t_to_s : goes_first t s ≡ true = first_of t s ts (filter (ties precedes s) ss) p (sym (same s) ∙ s_first) in
    let both = sym s_first ∙ same s ∙ kept_first s t ts (ties_from s t t_to_s s_to_t) in
    let one : s ≡ t = cc in
    let tails : (x : Segment) → filter (ties precedes x) ss ≡ filter (ties precedes x) ts =
    λ x. same_tails x s ss ts (ties precedes x s)
    (same x ∙ ap (λ (u : Segment). filter (ties precedes x) (u ∷ ts)) (sym one)) in
    let rest : ss ≡ ts = same_in_order ss ts o.1 p.1 tails in
    cc

-- from an order that an index tells

order_is : IsStrictWeakOrder precedes
order_is = IsStrictWeakOrder-from_at_least goes_first goes_first-total goes_first-trans

pub far_in_order : (ts : List Segment) → ((i j : ℕ) (d : Segment) → i ≤ j → j < length ts → precedes (get_or ts j d) (get_or ts i d) ≡ false) → InOrder ts
far_in_order [] far = tt
far_in_order (t ∷ ts) far = (
  behind t ts (λ j d h. not-false (goes_first t (get_or ts j d)) (far 0 (suc j) d (omega arith) (omega (arith, h)))),
  far_in_order ts (λ i j d h k. far (suc i) (suc j) d (omega arith) (omega (arith, k))),
)
  where
    behind : (t : Segment) (us : List Segment) → ((j : ℕ) (d : Segment) → j < length us → goes_first t (get_or us j d) ≡ true)
        → AllByRecursion (λ u. goes_first t u ≡ true) us
    behind t [] h = tt
    behind t (u ∷ us) h = (h 0 u (omega arith), behind t us (λ j d k. h (suc j) d (omega (arith, k))))

pub sorted_is_in_order : SortedIsInOrder
sorted_is_in_order ss ts sorted stable =
    same_in_order ts (segments_in_order ss) (far_in_order ts (sorted_far precedes order_is ts sorted)) (in_order-order ss)
    (λ x. stable x ∙ sym (sort_keeps x ss))
