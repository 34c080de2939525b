-- An operator's instance accepts the element that it wants.
use Rattle.std.proofs.Common.{◌≡◌, ℕ, ◌+◌, ◌*◌, ◌^◌, ◌<◌, ◌≤◌, List, [], ◌∷◌, ◌++◌, length, get_or, Option, Some, None, option_map, IsSome, IsSomeAnd, IfSome, refl, sym, ap, ◌∙◌, subst, arith}
use Rattle.std.proofs.lemmas.List.{length-set}
use Rattle.std.proofs.lemmas.List.FromFn.{length-map-range_with_len}
use Rattle.std.specs.List.{slice_get}
use Rattle.ss_elem.specs.Validity.{next_bound}
use Rattle.ss_elem.specs.declared.element.Element.{Element}
use Rattle.ss_expr.specs.Operators.{operator_of}
use Rattle.ss_expr.specs.declared.stream_operator.Spec.{Spec}
use Rattle.ss_frames.specs.Frames.{accepted, inputs_at}
use Rattle.ss_frames.specs.Within.{IsWithin}
use Rattle.ss_meaning.specs.Bound.{bound, bound_after}
use Rattle.ss_meaning.specs.Emit.{emit}
use Rattle.ss_meaning.specs.Entries.{entries_after}
use Rattle.ss_meaning.specs.Inputs.{bounds, counts, next_input}
use Rattle.ss_meaning.specs.Jobs.{IsBefore, Takes}
use Rattle.ss_meaning.specs.Low.{low}
use Rattle.ss_meaning.specs.Meaning.{Vertex, merged}
use Rattle.ss_meaning.specs.Merge.{Arrival, from_input}
use Rattle.ss_meaning.specs.Positions.{pos, out}
use Rattle.ss_merge.specs.Merging as merging
use Rattle.ss_merge.specs.Merging.{MergerState, MayBeNext, StandsAfter, StandsAfterNext, merger_after, arriving}
use Rattle.ss_oper.specs.Standing.{OperStandsAfter, MayArrive, Steps, StepsAt, CountsGiven, CountFew}
use Rattle.ss_plan.specs.Limit.{IsPlan}
use Rattle.ss_plan.specs.Plan.{PlanText, vertices_of}
use Rattle.ss_vertex.specs.Arriving.{given_at, wanted, wanted_by}
use Rattle.ss_vertex.specs.Calls.{IsWantedAt}
use Rattle.ss_vertex.specs.Kept.{OperatesAt}
use Rattle.ss_vertex.specs.Known.{Known}
use Rattle.ss_vertex.specs.declared.operating.Operating.{Operating}
use Rattle.ss_vertex.proofs.Arrives as arrival
use Rattle.ss_vertex.proofs.Arrives.{Arriving}
use Rattle.ss_vertex.proofs.Operators.{Operator, AtWork, operator, at_work, operates}
use Rattle.ss_vertex.proofs.Snapshots.{few_accepted, few_counted}

-- an operator at work that wants x
pub record Wants (plan : PlanText) (v : ℕ) (o : Operating) (x : Element) : Type 0 where
  pub known : Known
  pub plan_is : IsPlan plan
  pub work : AtWork plan v o
  pub operator : Operator plan v work.s
  pub arrives : Arriving plan v o.n x
  pub within : IsWithin plan v o.n

pub wants : Known → (plan : PlanText) → IsPlan plan → (v : ℕ) (o : Operating) (x : Element) → OperatesAt plan v o → IsWithin plan v o.n
    → IsWantedAt plan v o.n x → Wants plan v o x
wants known plan plan_is v o x stands within wanted =
    let work = at_work plan v o stands in
    let op = operator known.vertices known.jobs plan plan_is v work.s work.spec in
    record {
      known = known;
      plan_is = plan_is;
      work = work;
      operator = op;
      arrives = arrival.arrives known.follow known.whole plan v o.n work.s x op wanted;
      within = within;
    }

bounds_are : (plan : PlanText) (v : ℕ) (o : Operating) → AtWork plan v o → o.merger.bounds ≡ bounds (inputs_at plan v) (accepted plan v o.n)
bounds_are plan v o w = ap (λ (m : MergerState). m.bounds) w.merger

positions_are : (plan : PlanText) (v : ℕ) (o : Operating) → AtWork plan v o → o.merger.positions ≡ counts (inputs_at plan v) (accepted plan v o.n)
positions_are plan v o w = ap (λ (m : MergerState). m.positions) w.merger

pub bounds_count : (plan : PlanText) (v : ℕ) (o : Operating) → AtWork plan v o → length o.merger.bounds ≡ inputs_at plan v
bounds_count plan v o w =
    ap length (bounds_are plan v o w)
    ∙ length-map-range_with_len (λ input. bound (from_input input (accepted plan v o.n))) 0 (inputs_at plan v)

pub positions_count : (plan : PlanText) (v : ℕ) (o : Operating) → AtWork plan v o → length o.merger.positions ≡ inputs_at plan v
positions_count plan v o w =
    ap length (positions_are plan v o w)
    ∙ length-map-range_with_len (λ input. length (from_input input (accepted plan v o.n))) 0 (inputs_at plan v)

-- the merger names its input

pub chosen : (plan : PlanText) (v : ℕ) (o : Operating) (x : Element) → (w : Wants plan v o x) → next_input o.merger.bounds ≡ Some w.arrives.input
chosen plan v o x w =
    ap next_input (bounds_are plan v o w.work)
    ∙ arrival.arrives_next w.known.next w.known.whole plan v o.n w.work.s w.operator
    ∙ ap (option_map (λ (y : Arrival). y.input)) w.arrives.at

pub may_be_next : (plan : PlanText) (v : ℕ) (o : Operating) (x : Element) → Wants plan v o x → MayBeNext o.merger x
may_be_next plan v o x w =
    let i : ℕ = w.arrives.input in
    let p = accepted plan v o.n in
    let width = inputs_at plan v in
    let b : get_or o.merger.bounds i 0 ≡ bound (from_input i p) =
    ap (λ (bs : List ℕ). get_or bs i 0) (bounds_are plan v o w.work) ∙ arrival.bound_under width p i w.arrives.within in
    let q : get_or o.merger.positions i 0 ≡ length (from_input i p) =
    ap (λ (ps : List ℕ). get_or ps i 0) (positions_are plan v o w.work) ∙ arrival.count_under width p i w.arrives.within in
    let follows : IsSome (next_bound (get_or o.merger.bounds i 0) x) =
    subst (λ k. IsSome (next_bound k x)) (sym b) (arrival.arrives_following w.known.may_follow w.known.whole plan v o.n w.work.s x w.operator w.arrives) in
    let below : length (from_input i p) < plan.job.max_elements = w.arrives.below in
    let limit : plan.job.max_elements ≤ 131072 = w.plan_is.job.max_elements.most_of in
    let room : get_or o.merger.positions i 0 < 2 ^ 63 = omega arith in
    subst (λ (next : Option ℕ). IsSomeAnd next (λ input. IsSome (next_bound (get_or o.merger.bounds input 0) x) × (get_or o.merger.positions input 0 < 2 ^ 63)))
    (sym (chosen plan v o x w)) (follows, room)

pub early : (plan : PlanText) (v : ℕ) (o : Operating) (x : Element) → Wants plan v o x → IsBefore (2 ^ 63) x
early plan v o x w = arrival.arrives_early w.known.whole plan v o.n w.work.s x w.operator w.arrives

pub few : (plan : PlanText) (v : ℕ) (o : Operating) (x : Element) → Wants plan v o x → CountFew o.oper.entries
few plan v o x w = subst CountFew (sym w.work.entries) (few_counted w.known.few plan w.plan_is v o.n w.work.s w.work.spec w.within)

pub few_taken : (plan : PlanText) (v : ℕ) (o : Operating) (x : Element) → Wants plan v o x → o.n ≤ 8 * 131072
few_taken plan v o x w = few_accepted w.known.adds plan w.plan_is v o.n w.work.s w.operator w.within

-- the merger stands behind it

pub merger_count : (old new : MergerState) (i : ℕ) (x : Element) → new ≡ merging.accepted old i x → length new.bounds ≡ length old.bounds
merger_count old new i x e = ap (λ (m : MergerState). length m.bounds) e ∙ length-set old.bounds i (bound_after (get_or old.bounds i 0) x)

pub merger_next : (plan : PlanText) (v : ℕ) (o : Operating) (x : Element) → (w : Wants plan v o x) → (new : MergerState)
    → IfSome (next_input o.merger.bounds) (λ i. new ≡ merging.accepted o.merger i x)
    → IfSome (next_input o.merger.bounds) (λ i. StandsAfterNext o.merger new i x)
    → (length new.bounds ≡ inputs_at plan v) × (new ≡ merger_after (inputs_at plan v) (accepted plan v o.n ++ arriving w.arrives.input x ∷ []))
merger_next plan v o x w new accepts stands =
    let i : ℕ = w.arrives.input in
    let p = accepted plan v o.n in
    let named = chosen plan v o x w in
    let is : new ≡ merging.accepted o.merger i x =
    subst (λ (q : Option ℕ). IfSome q (λ j. new ≡ merging.accepted o.merger j x)) named accepts in
    let law : StandsAfterNext o.merger new i x =
    subst (λ (q : Option ℕ). IfSome q (λ j. StandsAfterNext o.merger new j x)) named stands in
    let old_count : length o.merger.bounds ≡ inputs_at plan v = bounds_count plan v o w.work in
    let count : length new.bounds ≡ inputs_at plan v = merger_count o.merger new i x is ∙ old_count in
    let here : StandsAfter o.merger p = w.work.merger ∙ ap (λ k. merger_after k p) (sym old_count) in
    (count, law p here ∙ ap (λ k. merger_after k (p ++ arriving i x ∷ [])) count)

pub same_input : (plan : PlanText) (v : ℕ) (o : Operating) (x : Element) → (w : Wants plan v o x) → (result : Option ℕ) (i : ℕ)
    → result ≡ next_input o.merger.bounds → result ≡ Some i → i ≡ w.arrives.input
same_input plan v o x w result i named is =
    let both : Some i ≡ Some w.arrives.input = sym is ∙ named ∙ chosen plan v o x w in
    cc

-- what is given, and where the operator stands then

stands_here : (plan : PlanText) (v : ℕ) (o : Operating) → (w : AtWork plan v o) → OperStandsAfter (inputs_at plan v) (accepted plan v o.n) o.oper
stands_here plan v o w = record {
  low = w.low;
  entries = w.entries ∙ ap (λ (t : Spec). entries_after (operator_of t) (inputs_at plan v) (accepted plan v o.n)) (sym w.oper_spec);
}

may_arrive : (plan : PlanText) (v : ℕ) (o : Operating) (x : Element) → (w : Wants plan v o x)
    → MayArrive (operator_of o.oper.spec) (inputs_at plan v) (accepted plan v o.n) (arriving w.arrives.input x)
may_arrive plan v o x w = record {
  takes = subst (λ (t : Spec). Takes (operator_of t) (inputs_at plan v)) (sym w.work.oper_spec) w.operator.takes;
  within = w.arrives.within;
  follows = arrival.arrives_follow w.known.may_follow w.known.whole plan v o.n w.work.s x w.operator w.arrives;
  rises = arrival.arrives_rising w.known.rises w.known.whole plan v o.n w.work.s x w.operator w.arrives;
}

pub count_is : (plan : PlanText) (v : ℕ) (o : Operating) (x : Element) → (w : Wants plan v o x) → (new : MergerState) (i count : ℕ)
    → i ≡ w.arrives.input → length new.bounds ≡ inputs_at plan v
    → new ≡ merger_after (inputs_at plan v) (accepted plan v o.n ++ arriving w.arrives.input x ∷ [])
    → CountsGiven new i x o.oper count → out (vertices_of plan) v (o.n + 1) ≡ out (vertices_of plan) v o.n + count
count_is plan v o x w new i count same width stands counts_law =
    let y = arriving w.arrives.input x in
    let p = accepted plan v o.n in
    let law : CountsGiven new w.arrives.input x o.oper count = subst (λ j. CountsGiven new j x o.oper count) same counts_law in
    let P : ℕ → Type 0 = λ m. OperStandsAfter m p o.oper → MayArrive (operator_of o.oper.spec) m p y → new ≡ merger_after m (p ++ y ∷ []) → count ≡ length (emit (operator_of o.oper.spec) m p y) in
    let at : P (length new.bounds) = law p in
    let is : count ≡ length (emit (operator_of o.oper.spec) (inputs_at plan v) p y) =
    subst P width at (stands_here plan v o w.work) (may_arrive plan v o x w) stands in
    arrival.out_next w.known.grows plan v o.n w.work.s x w.operator w.arrives
    ∙ ap (λ (t : Spec). out (vertices_of plan) v o.n + length (emit (operator_of t) (inputs_at plan v) p y)) (sym w.work.oper_spec)
    ∙ ap (λ m. out (vertices_of plan) v o.n + m) (sym is)

pub record Accepted (plan : PlanText) (v : ℕ) (o new : Operating) (outputs : List Element) : Type 0 where
  pub operates : OperatesAt plan v new
  pub given : outputs ≡ given_at (vertices_of plan) v o.n

pub accepts : (plan : PlanText) (v : ℕ) (o new : Operating) (x : Element) → (w : Wants plan v o x) → (i : ℕ) (given : List Element)
    → i ≡ w.arrives.input → new.n ≡ o.n + 1 → length new.merger.bounds ≡ inputs_at plan v
    → new.merger ≡ merger_after (inputs_at plan v) (accepted plan v o.n ++ arriving w.arrives.input x ∷ [])
    → new.oper.spec ≡ o.oper.spec → Steps new.merger i x o.oper new.oper [] given → Accepted plan v o new given
accepts plan v o new x w i given same n width stands spec steps =
    let y = arriving w.arrives.input x in
    let p = accepted plan v o.n in
    let k = inputs_at plan v in
    let law : Steps new.merger w.arrives.input x o.oper new.oper [] given = subst (λ j. Steps new.merger j x o.oper new.oper [] given) same steps in
    let P : ℕ → Type 0 = λ m. OperStandsAfter m p o.oper → MayArrive (operator_of o.oper.spec) m p y → new.merger ≡ merger_after m (p ++ y ∷ []) → StepsAt m p y o.oper new.oper [] given in
    let at : P (length new.merger.bounds) = law p in
    let step : StepsAt k p y o.oper new.oper [] given = subst P width at (stands_here plan v o w.work) (may_arrive plan v o x w) stands in
    let more : accepted plan v new.n ≡ p ++ y ∷ [] = ap (accepted plan v) n ∙ arrival.arrives_more plan v o.n x w.arrives in
    let spec_is : new.oper.spec ≡ w.work.s = spec ∙ w.work.oper_spec in
    record {
      operates = operates plan v w.work.s new w.work.spec
          (stands ∙ ap (merger_after k) (sym more))
          spec_is
          (step.stands.low ∙ ap (low k) (sym more))
          (step.stands.entries
          ∙ ap (λ (t : Spec). entries_after (operator_of t) k (p ++ y ∷ [])) spec_is
          ∙ ap (entries_after (operator_of w.work.s) k) (sym more));
      given = step.given
          ∙ ap (λ (t : Spec). emit (operator_of t) k p y) w.work.oper_spec
          ∙ sym (arrival.given_is plan v o.n w.work.s x w.operator w.arrives);
    }

-- all that the code learns on the way

pub record Advance (plan : PlanText) (v : ℕ) (o : Operating) (x : Element) (w : Wants plan v o x) (new : MergerState) (i count : ℕ) : Type 0 where
  pub input : i ≡ w.arrives.input
  pub width : length new.bounds ≡ inputs_at plan v
  pub stands : new ≡ merger_after (inputs_at plan v) (accepted plan v o.n ++ arriving w.arrives.input x ∷ [])
  pub total : out (vertices_of plan) v (o.n + 1) ≡ out (vertices_of plan) v o.n + count

pub advance : (plan : PlanText) (v : ℕ) (o : Operating) (x : Element) (w : Wants plan v o x) (named : Option ℕ) (i : ℕ)
    (copied new : MergerState) (count : ℕ) → named ≡ next_input o.merger.bounds → named ≡ Some i → copied ≡ o.merger
    → IfSome (next_input copied.bounds) (λ j. new ≡ merging.accepted copied j x)
    → IfSome (next_input copied.bounds) (λ j. StandsAfterNext copied new j x)
    → CountsGiven new i x o.oper count → Advance plan v o x w new i count
advance plan v o x w named i copied new count by_bounds is same accepts stands counts_law =
    let both = merger_next plan v o x w new
    (subst (λ (m : MergerState). IfSome (next_input m.bounds) (λ j. new ≡ merging.accepted m j x)) same accepts)
    (subst (λ (m : MergerState). IfSome (next_input m.bounds) (λ j. StandsAfterNext m new j x)) same stands) in
    let input = same_input plan v o x w named i by_bounds is in
    record {
      input = input;
      width = both.0;
      stands = both.1;
      total = count_is plan v o x w new i count input both.0 both.1 counts_law;
    }

-- what an operator's instance wants

abbrev pub place_in : List ℕ → ℕ → ℕ × ℕ
place_in ns i = (i, get_or ns i 0)

abbrev place_of : PlanText → ℕ → ℕ → Arrival → ℕ × ℕ
place_of plan v n y = (y.input, pos (vertices_of plan) v n y.input)

abbrev pub some_place : ℕ → ℕ → Option (ℕ × ℕ)
some_place i n = Some (i, n)

pub wanted_is : Known → (plan : PlanText) → IsPlan plan → (v : ℕ) (o : Operating) → OperatesAt plan v o → (named : Option ℕ)
    → named ≡ next_input o.merger.bounds → wanted (vertices_of plan) v o.n ≡ option_map (place_in o.merger.positions) named
wanted_is known plan plan_is v o stands named by_bounds =
    let work = at_work plan v o stands in
    let op = operator known.vertices known.jobs plan plan_is v work.s work.spec in
    let J = vertices_of plan in
    let all = merged J v in
    let first : wanted J v o.n ≡ option_map (place_of plan v o.n) (slice_get all o.n) =
    ap (λ (z : Vertex). wanted_by z J v o.n) op.is in
    let second : named ≡ option_map (λ (y : Arrival). y.input) (slice_get all o.n) =
    by_bounds ∙ ap next_input (bounds_are plan v o work) ∙ arrival.arrives_next known.next known.whole plan v o.n work.s op in
    first ∙ by_next known plan v o work op (slice_get all o.n) refl
    ∙ ap (option_map (place_in o.merger.positions)) (sym second)
  where
    by_next : (known : Known) (plan : PlanText) (v : ℕ) (o : Operating) (work : AtWork plan v o) → Operator plan v work.s → (q : Option Arrival)
        → slice_get (merged (vertices_of plan) v) o.n ≡ q
        → option_map (place_of plan v o.n) q ≡ option_map (place_in o.merger.positions) (option_map (λ (y : Arrival). y.input) q)
    by_next known plan v o work op None at = refl
    by_next known plan v o work op (Some y) at =
        let lists = arrival.lists_read plan v in
        let c = (arrival.came_at known.follow lists (arrival.whole_lists known.whole plan v work.s op) o.n y at).0 in
        let inside : y.input < length lists = arrival.input_within lists y c in
        let count = arrival.lists_count plan v in
        let q : get_or o.merger.positions y.input 0 ≡ pos (vertices_of plan) v o.n y.input =
        ap (λ (ps : List ℕ). get_or ps y.input 0) (positions_are plan v o work) ∙ arrival.count_under (inputs_at plan v) (accepted plan v o.n) y.input (omega arith) in
        ap (λ m. some_place y.input m) (sym q)
