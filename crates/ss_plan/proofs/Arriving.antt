-- Arrivals, one more and all of them.
use Rattle.std.proofs.Common.{◌≡◌, ℕ, ◌+◌, ◌<◌, ◌≤◌, List, [], ◌∷◌, ◌++◌, length, get_or, take, map, refl, sym, ap, ◌∙◌, subst, append_assoc, take_all}
use Rattle.std.proofs.lemmas.List.{map_more, take_more}
use Rattle.ss_elem.specs.declared.element.Element.{Element}
use Rattle.ss_elem.specs.declared.element.Element.TheVariants.{Row}
use Rattle.ss_meaning.specs.Emit.{Kind, rows_at, emit, output}
use Rattle.ss_meaning.specs.Inputs.{bounds, least_bound}
use Rattle.ss_meaning.specs.Laws.{BoundsAfterArrival, LowIsTheLeastBound, OutputGrowsByEmit}
use Rattle.ss_meaning.specs.Low.{low, advance}
use Rattle.ss_meaning.specs.Merge.{Arrival, arrivals}
use Rattle.ss_meaning.specs.Segments.{Segment, segment}
use Rattle.ss_plan.specs.Steps.{moved, Adds}

-- the elements of an input as they arrive, one more and all of them

pub arrivals_more : (input i : ℕ) (xs : List Element) (x : Element) → i < length xs → x ≡ get_or xs i x
    → arrivals (segment input 0 (take (i + 1) xs)) ≡ arrivals (segment input 0 (take i xs)) ++ record { input = input; element = x } ∷ []
arrivals_more input i xs x h is =
    let f : Element → Arrival = λ y. record { input = input; element = y } in
    map_more f xs i x h ∙ ap (λ (y : Element). map f (take i xs) ++ f y ∷ []) (sym is)

pub join_more : (before now after : List Arrival) (input i : ℕ) (xs : List Element) (x : Element) → i < length xs → x ≡ get_or xs i x
    → now ≡ before ++ arrivals (segment input 0 (take i xs)) → after ≡ now ++ record { input = input; element = x } ∷ []
    → after ≡ before ++ arrivals (segment input 0 (take (i + 1) xs))
join_more before now after input i xs x h is done grown =
    let front : List Arrival = arrivals (segment input 0 (take i xs)) in
    let one : List Arrival = record { input = input; element = x } ∷ [] in
    grown ∙ ap (λ (all : List Arrival). all ++ one) done ∙ append_assoc before front one
    ∙ ap (λ (back : List Arrival). before ++ back) (sym (arrivals_more input i xs x h is))

pub join_all : (before now : List Arrival) (s : Segment) (input i : ℕ) (xs : List Element) → length xs ≤ i → xs ≡ s.elements → input ≡ s.input
    → now ≡ before ++ arrivals (segment input 0 (take i xs)) → now ≡ before ++ arrivals s
join_all before now s input i xs h same from done =
    let elements : take i xs ≡ s.elements = take_all i xs h ∙ same in
    done
    ∙ ap (λ (ys : List Element). before ++ arrivals (segment input 0 ys)) elements
    ∙ ap (λ n. before ++ arrivals (segment n 0 s.elements)) from

-- what an operator gives, one arrival more

pub step_more : BoundsAfterArrival → LowIsTheLeastBound → OutputGrowsByEmit
    → (kind : Kind) (width i : ℕ) (all : List Arrival) (x : Arrival) (at after : List ℕ) (given more : List Element)
    → i < length all → x ≡ get_or all i x → x.input < width
    → given ≡ output kind width (take i all) → at ≡ bounds width (take i all)
    → after ≡ moved at x → Adds kind x at given more
    → (more ≡ output kind width (take (i + 1) all)) × (after ≡ bounds width (take (i + 1) all))
step_more bounds_law low_law output_law kind width i all x at after given more h is within done stood moves adds =
    let p : List Arrival = take i all in
    let longer : take (i + 1) all ≡ p ++ x ∷ [] =
    take_more all i x h ∙ ap (λ (y : Arrival). p ++ y ∷ []) (sym is) in
    let rows : List Element = map (λ row. Row row) (rows_at kind width p x) in
    let new_bounds : moved at x ≡ bounds width (p ++ x ∷ []) =
    ap (λ (bs : List ℕ). moved bs x) stood ∙ sym (bounds_law width p x within) in
    let low_before : least_bound at ≡ low width p = ap least_bound stood ∙ sym (low_law width p) in
    let low_after : least_bound (moved at x) ≡ low width (p ++ x ∷ []) = ap least_bound new_bounds ∙ sym (low_law width (p ++ x ∷ [])) in
    let rise : advance (least_bound at) (least_bound (moved at x)) ≡ advance (low width p) (low width (p ++ x ∷ [])) =
    ap (λ n. advance n (least_bound (moved at x))) low_before ∙ ap (advance (low width p)) low_after in
    let all_given : more ≡ output kind width (p ++ x ∷ []) =
    adds width p
    ∙ append_assoc given rows (advance (least_bound at) (least_bound (moved at x)))
    ∙ ap (λ (back : List Element). given ++ (rows ++ back)) rise
    ∙ ap (λ (front : List Element). front ++ emit kind width p x) done
    ∙ sym (output_law kind width p x) in
    (all_given ∙ ap (output kind width) (sym longer), moves ∙ new_bounds ∙ ap (bounds width) (sym longer))
