-- One element more of what arrives at a join, by presence or by absence.
use Rattle.std.proofs.Common.{◌≡◌, ℕ, ◌+◌, ◌<◌, List, [], ◌∷◌, ◌++◌, length, get_or, take, map, refl, sym, ap, subst, ◌∙◌, arith, append_assoc}
use Rattle.std.proofs.lemmas.List.{take_more}
use Rattle.ss_elem.specs.declared.element.Event.{Event}
use Rattle.ss_elem.specs.declared.element.Element.{Element}
use Rattle.ss_elem.specs.declared.element.Element.TheVariants.{Row}
use Rattle.ss_join.specs.States.{Sides, StandsAs, StepsAs, AreBoundsAfter, MayFollow}
use Rattle.ss_meaning.specs.Emit.{Kind, rows_at, emit, output}
use Rattle.ss_meaning.specs.Inputs.{bounds, least_bound}
use Rattle.ss_meaning.specs.Laws.{BoundsAfterArrival, LowIsTheLeastBound, OutputGrowsByEmit}
use Rattle.ss_meaning.specs.Low.{low, advance}
use Rattle.ss_meaning.specs.Merge.{Arrival}
use Rattle.ss_plan.specs.Steps.{moved, EachMayFollow, SideSteps}

-- the first two bounds, as an array has them, are those after p
two_bounds : (all stood : List ℕ) (p : List Arrival) → ((input : ℕ) → input < length stood → get_or all input 0 ≡ get_or stood input 0)
    → stood ≡ bounds 2 p → AreBoundsAfter p all
two_bounds all stood p same is = record {
  left = same 0 (omega (arith, ap length is)) ∙ ap (λ (bs : List ℕ). get_or bs 0 0) is;
  right = same 1 (omega (arith, ap length is)) ∙ ap (λ (bs : List ℕ). get_or bs 1 0) is;
}

-- the operator's own step, and then what tells that the least bound rose
pub side_steps : BoundsAfterArrival → LowIsTheLeastBound → (kind : Kind) (old new : Sides) (stood next all : List ℕ) (before middle after : List Element) (x : Arrival)
    → x.input < 2 → next ≡ moved stood x → ((input : ℕ) → input < length next → get_or all input 0 ≡ get_or next input 0)
    → StepsAs kind old new before middle x.input x.element all → after ≡ middle ++ advance (least_bound stood) (least_bound next)
    → SideSteps kind old new stood before after x
side_steps bounds_law low_law kind old new stood next all before middle after x within moves same steps told p stands is follows =
    let q : List Arrival = p ++ x ∷ [] in
    let next_is : next ≡ bounds 2 q = moves ∙ ap (λ (bs : List ℕ). moved bs x) is ∙ sym (bounds_law 2 p x within) in
    let step = steps p stands follows (two_bounds all next q same next_is) in
    let rows : List Element = map (λ (row : Event). Row row) (rows_at kind 2 p x) in
    let low_before : least_bound stood ≡ low 2 p = ap least_bound is ∙ sym (low_law 2 p) in
    let low_after : least_bound next ≡ low 2 q = ap least_bound next_is ∙ sym (low_law 2 q) in
    let rise : advance (least_bound stood) (least_bound next) ≡ advance (low 2 p) (low 2 q) =
    ap (λ n. advance n (least_bound next)) low_before ∙ ap (advance (low 2 p)) low_after in (
      step.stands,
      told
          ∙ ap (λ (front : List Element). front ++ advance (least_bound stood) (least_bound next)) step.given
          ∙ append_assoc before rows (advance (least_bound stood) (least_bound next))
          ∙ ap (λ (back : List Element). before ++ (rows ++ back)) rise,
    )

-- where such an operator is after what arrived, the bounds, and what was given
pub record IsAfter (kind : Kind) (sides : Sides) (stood : List ℕ) (elements : List Element) (p : List Arrival) : Type 0 where
  pub stands : StandsAs kind sides p
  pub bounds_are : stood ≡ bounds 2 p
  pub given : elements ≡ output kind 2 p

pub sides_more : BoundsAfterArrival → OutputGrowsByEmit → (kind : Kind) (old new : Sides) (stood next : List ℕ) (before after : List Element) (all : List Arrival) (i : ℕ) (x : Arrival)
    → i < length all → x ≡ get_or all i x → x.input < 2 → EachMayFollow all → IsAfter kind old stood before (take i all)
    → next ≡ moved stood x → SideSteps kind old new stood before after x → IsAfter kind new next after (take (i + 1) all)
sides_more bounds_law grows kind old new stood next before after all i x h seen within follow is moves steps =
    let p : List Arrival = take i all in
    let longer : p ++ x ∷ [] ≡ take (i + 1) all = sym (take_more all i x h ∙ ap (λ (y : Arrival). p ++ y ∷ []) (sym seen)) in
    let step = steps p is.stands is.bounds_are (subst (MayFollow p) (sym seen) (follow i x h)) in
    subst (IsAfter kind new next after) longer (record {
      stands = step.0;
      bounds_are = moves ∙ ap (λ (bs : List ℕ). moved bs x) is.bounds_are ∙ sym (bounds_law 2 p x within);
      given = step.1 ∙ ap (λ (front : List Element). front ++ emit kind 2 p x) is.given ∙ sym (grows kind 2 p x);
    })
