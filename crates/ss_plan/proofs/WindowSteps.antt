-- One element more of what arrives at a window.
use Rattle.std.proofs.Common.{◌≡◌, ℕ, ◌+◌, ◌^◌, ◌<◌, ◌≤◌, min, List, [], ◌∷◌, ◌++◌, length, get_or, take, map, filter, refl, sym, ap, subst, ◌∙◌, arith, append_assoc, All}
use Rattle.std.proofs.lemmas.List.{map-append, take_more}
use Rattle.std.proofs.lemmas.List.Elements.{filter-append}
use Rattle.ss_elem.specs.Validity.{top}
use Rattle.ss_elem.specs.declared.element.Event.{Event}
use Rattle.ss_elem.specs.declared.element.Element.{Element}
use Rattle.ss_elem.specs.declared.element.Element.TheVariants.{Row, Cti, End}
use Rattle.ss_meaning.specs.Bound.{bound_after, bound_past, bound}
use Rattle.ss_meaning.specs.Emit.{output, rows_at}
use Rattle.ss_meaning.specs.Jobs.{IsBefore}
use Rattle.ss_meaning.specs.Laws.{OutputGrowsByEmit}
use Rattle.ss_meaning.specs.Low.{low, advance}
use Rattle.ss_meaning.specs.Merge.{Arrival, is_from, from_input}
use Rattle.ss_window.specs.States.{Settings, State, kind_of, StandsAfter, StepsFromAll, arrival}

from_input-push : (p : List Arrival) (x : Element) → from_input 0 (p ++ arrival x ∷ []) ≡ from_input 0 p ++ x ∷ []
from_input-push p x =
    ap (map (λ (y : Arrival). y.element)) (filter-append (is_from 0) p (arrival x ∷ []))
    ∙ map-append (λ (y : Arrival). y.element) (filter (is_from 0) p) (arrival x ∷ [])

bound_past-push : (b : ℕ) (xs : List Element) (x : Element) → bound_past b (xs ++ x ∷ []) ≡ bound_after (bound_past b xs) x
bound_past-push b [] x = refl
bound_past-push b (y ∷ ys) x = bound_past-push (bound_after b y) ys x

least_after : (b : ℕ) (x : Element) → IsBefore (2 ^ 63) x → bound_after (min b top) x ≡ min (bound_after b x) top
least_after b (Row row) h = refl
least_after b (Cti time) h = omega (arith, h)
least_after b End h = omega arith

pub low-push : (p : List Arrival) (x : Element) → IsBefore (2 ^ 63) x → bound_after (low 1 p) x ≡ low 1 (p ++ arrival x ∷ [])
low-push p x h =
    least_after (bound (from_input 0 p)) x h
    ∙ sym (ap (λ n. min n top) (ap bound (from_input-push p x) ∙ bound_past-push 0 (from_input 0 p) x))

-- where a window is after what arrived, what was given, and the bound
pub record IsAfter (s : Settings) (state : State) (elements : List Element) (b : ℕ) (p : List Arrival) : Type 0 where
  pub settings : state.settings ≡ s
  pub stands : StandsAfter state p
  pub given : elements ≡ output (kind_of s) 1 p
  pub low : b ≡ low 1 p

pub window_more : OutputGrowsByEmit → (s : Settings) (old new : State) (before middle after : List Element) (p : List Arrival) (x : Element) (b next : ℕ)
    → IsAfter s old before b p → IsBefore (2 ^ 63) x → low 1 p ≤ low 1 (p ++ arrival x ∷ []) → next ≡ bound_after b x
    → new.settings ≡ old.settings → StepsFromAll old new before middle x next → after ≡ middle ++ advance b next
    → IsAfter s new after next (p ++ arrival x ∷ [])
window_more grows s old new before middle after p x b next is early rises moved same steps told =
    let q : List Arrival = p ++ arrival x ∷ [] in
    let next_low : next ≡ low 1 q = moved ∙ (ap (λ n. bound_after n x) is.low ∙ low-push p x early) in
    let step = steps p is.stands (subst (λ n. low 1 p ≤ n) (sym next_low) rises) next_low in
    let rows : List Element = map (λ (row : Event). Row row) (rows_at (kind_of s) 1 p (arrival x)) in
    let mine : middle ≡ before ++ rows = step.given ∙ ap (λ t. before ++ map (λ (row : Event). Row row) (rows_at (kind_of t) 1 p (arrival x))) is.settings in
    let rise : advance b next ≡ advance (low 1 p) (low 1 q) = ap (λ n. advance n next) is.low ∙ ap (advance (low 1 p)) next_low in
    record {
      settings = same ∙ is.settings;
      stands = step.stands;
      given =
          told
          ∙ (ap (λ (front : List Element). front ++ advance b next) (mine ∙ ap (λ (front : List Element). front ++ rows) is.given)
          ∙ (ap (λ (back : List Element). output (kind_of s) 1 p ++ rows ++ back) rise
          ∙ (append_assoc (output (kind_of s) 1 p) rows (advance (low 1 p) (low 1 q)) ∙ sym (grows (kind_of s) 1 p (arrival x)))));
      low = next_low;
    }

-- an element of a list of arrivals, which came from the one input, is its element's arrival
pub take_arrival : (arrived : List Arrival) (i : ℕ) (y : Arrival) → i < length arrived → y ≡ get_or arrived i y → y.input < 1
    → take (i + 1) arrived ≡ take i arrived ++ arrival y.element ∷ []
take_arrival arrived i y h is first =
    let zero_input : y.input ≡ 0 = omega (arith, first) in
    let made = λ (n : ℕ). let a : Arrival = record { input = n; element = y.element } in a in
    take_more arrived i y h ∙ ap (λ (a : Arrival). take i arrived ++ a ∷ []) (sym is ∙ ap made zero_input)
