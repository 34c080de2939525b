-- One element more of what arrives at a session window.
use Rattle.std.proofs.Common.{◌≡◌, ℕ, ◌+◌, ◌^◌, ◌<◌, ◌≤◌, min, Bool, true, false, cond, ◌&&◌, nat_lt, nat_le, List, [], ◌∷◌, ◌++◌, map, Option, Some, None, refl, sym, ap, subst, ◌∙◌, arith, append_assoc}
use Rattle.std.proofs.lemmas.Bool.{and_parts, leb-true}
use Rattle.ss_elem.specs.Validity.{top, next_bound}
use Rattle.ss_elem.specs.declared.element.Event.{Event}
use Rattle.ss_elem.specs.declared.element.Element.{Element}
use Rattle.ss_elem.specs.declared.element.Element.TheVariants.{Row, Cti, End}
use Rattle.ss_join.specs.States.{MayFollow}
use Rattle.ss_meaning.specs.Bound.{bound_after, bound}
use Rattle.ss_meaning.specs.Emit.{output, rows_at}
use Rattle.ss_meaning.specs.Jobs.{IsBefore}
use Rattle.ss_meaning.specs.Laws.{OutputGrowsByEmit}
use Rattle.ss_meaning.specs.Low.{low, advance}
use Rattle.ss_meaning.specs.Merge.{Arrival, from_input}
use Rattle.ss_session.specs.States.{Settings, State, kind_of, StandsAfter, StartsFrom, StepsFromAll, arrival}
use Rattle.ss_plan.proofs.WindowSteps.{low-push}

passed : (t : Bool) (b c : ℕ) → cond t (Some b) None ≡ Some c → t ≡ true
passed true b c e = refl
passed false b c e = cc

-- a row that may follow starts at the bound or above it
starts_at : (b c n : ℕ) (x : Element) → next_bound b x ≡ Some c → n ≤ b → StartsFrom n x
starts_at b c n (Row row) e h =
    let t = passed (nat_lt b top && nat_lt row.end top && nat_lt row.start row.end && nat_le b row.start) b c e in
    let least = leb-true b row.start (and_parts (nat_lt b top && nat_lt row.end top && nat_lt row.start row.end) (nat_le b row.start) t).1 in
    omega (arith, least, h)
starts_at b c n (Cti time) e h = tt
starts_at b c n End e h = tt

any_bound : (x : Element) (b n m : ℕ) → StartsFrom n x → m ≡ bound_after n x → StartsFrom m x
any_bound (Row row) b n m h e = omega (arith, e, h)
any_bound (Cti time) b n m h e = tt
any_bound End b n m h e = tt

starts : (p : List Arrival) (x : Element) (b next : ℕ) → b ≡ low 1 p → next ≡ bound_after b x → MayFollow p (arrival x) → StartsFrom next x
starts p x b next low_is moved follow =
    any_bound x b b next (starts_at (bound (from_input 0 p)) (bound (from_input 0 (p ++ arrival x ∷ []))) b x follow (omega (arith, low_is))) moved

pub first_follows : (p : List Arrival) (y : Arrival) → y.input < 1 → MayFollow p y → MayFollow p (arrival y.element)
first_follows p y within follow =
    let zero_input : y.input ≡ 0 = omega (arith, within) in
    subst (λ (n : ℕ). MayFollow p (let a : Arrival = record { input = n; element = y.element } in a)) zero_input follow

-- where a session window is after what arrived, what was given, and the bound
pub record IsAfter (s : Settings) (state : State) (elements : List Element) (b : ℕ) (p : List Arrival) : Type 0 where
  pub settings : state.settings ≡ s
  pub stands : StandsAfter state p
  pub given : elements ≡ output (kind_of s) 1 p
  pub low : b ≡ low 1 p

pub session_more : OutputGrowsByEmit → (s : Settings) (old new : State) (before middle after : List Element) (p : List Arrival) (x : Element) (b next : ℕ)
    → IsAfter s old before b p → IsBefore (2 ^ 63) x → low 1 p ≤ low 1 (p ++ arrival x ∷ []) → MayFollow p (arrival x) → next ≡ bound_after b x
    → new.settings ≡ old.settings → StepsFromAll old new before middle x next → after ≡ middle ++ advance b next
    → IsAfter s new after next (p ++ arrival x ∷ [])
session_more grows s old new before middle after p x b next is early rises follow moved same steps told =
    let q : List Arrival = p ++ arrival x ∷ [] in
    let next_low : next ≡ low 1 q = moved ∙ (ap (λ n. bound_after n x) is.low ∙ low-push p x early) in
    let step = steps p is.stands (subst (λ n. low 1 p ≤ n) (sym next_low) rises) next_low (starts p x b next is.low moved follow) in
    let rows : List Element = map (λ (row : Event). Row row) (rows_at (kind_of s) 1 p (arrival x)) in
    let mine : middle ≡ before ++ rows = step.given ∙ ap (λ t. before ++ map (λ (row : Event). Row row) (rows_at (kind_of t) 1 p (arrival x))) is.settings in
    let rise : advance b next ≡ advance (low 1 p) (low 1 q) = ap (λ n. advance n next) is.low ∙ ap (advance (low 1 p)) next_low in
    record {
      settings = same ∙ is.settings;
      stands = step.stands;
      given =
          told
          ∙ (ap (λ (front : List Element). front ++ advance b next) (mine ∙ ap (λ (front : List Element). front ++ rows) is.given)
          ∙ (ap (λ (back : List Element). output (kind_of s) 1 p ++ rows ++ back) rise
          ∙ (append_assoc (output (kind_of s) 1 p) rows (advance (low 1 p) (low 1 q)) ∙ sym (grows (kind_of s) 1 p (arrival x)))));
      low = next_low;
    }
