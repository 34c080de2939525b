-- A running job whose memory is lost, vertex by vertex.
use Rattle.std.proofs.Common.{◌≡◌, ◌≢◌, ℕ, zero, suc, ◌+◌, ◌<◌, ◌≤◌, false, Option, Some, None, Ok, List, [], ◌∷◌, length, get_or, set, refl, sym, ap, ◌∙◌, subst, arith, ⊎_elim}
use Rattle.std.proofs.lemmas.Bool.{cases_eq, cases_lt}
use Rattle.std.proofs.lemmas.List.{get_or_past, get_or-set_other, get_or-set_same}
use Rattle.ss_fail.specs.declared.act.Act.TheVariants as act
use Rattle.ss_fail.specs.declared.outcome.Outcome.{Outcome}
use Rattle.ss_frames.specs.Plans.{plan_numbers}
use Rattle.ss_plan.specs.Plan.{PlanText}
use Rattle.ss_state.specs.Acts.{crash_act, lose_act}
use Rattle.ss_state.specs.Numbers.{JobNumbers, IsStream, vertex}
use Rattle.ss_state.specs.State.{InstNumbers, State, TailNumbers, inst_at, insts_at, new_tail, tail_at}
use Rattle.ss_state.specs.Step.{Step}
use Rattle.ss_water.specs.Graph.{is_sink}
use Rattle.ss_water.specs.declared.node.Kind.{Kind}
use Rattle.ss_water.specs.declared.node.Kind.TheVariants.{Source, Inner, Sink}
use Rattle.ss_engine.specs.Applies.{AppliesJointly}
use Rattle.ss_engine.specs.Joint.{Joint}
use Rattle.ss_engine.specs.Told.{PlantTold, state_of}
use Rattle.ss_engine.specs.Wipes.{IsDownAt, IsWiped, IsWipedAt}

-- ---- replicas of which one goes down

abbrev Replicas : Type 0
Replicas = List (Option InstNumbers)

-- replica r of vertex v, of the replicas of all vertices
abbrev replica : List Replicas → ℕ → ℕ → Option InstNumbers
replica all v r = get_or (get_or all v []) r None

-- the same with replica r of vertex v down
abbrev with_down : List Replicas → ℕ → ℕ → List Replicas
with_down all v r = set all v (set (get_or all v []) r None)

is_down : (xs : Replicas) (r : ℕ) → get_or (set xs r None) r None ≡ None
is_down [] r = refl
is_down (x ∷ xs) zero = refl
is_down (x ∷ xs) (suc r) = is_down xs r

down_same : (all : List Replicas) (v r : ℕ) → replica (with_down all v r) v r ≡ None
down_same [] v r = refl
down_same (xs ∷ all) zero r = is_down xs r
down_same (xs ∷ all) (suc v) r = down_same all v r

down_other : (all : List Replicas) (v r q : ℕ) → q ≢ r → replica (with_down all v r) v q ≡ replica all v q
down_other [] v r q other = refl
down_other (xs ∷ all) zero r q other = get_or-set_other xs r q None None other
down_other (xs ∷ all) (suc v) r q other = down_other all v r q other

down_apart : (all : List Replicas) (v r w q : ℕ) → w ≢ v → replica (with_down all v r) w q ≡ replica all w q
down_apart all v r w q other =
    ap (λ (xs : Replicas). get_or xs q None) (get_or-set_other all v w (set (get_or all v []) r None) [] other)

-- ---- one crash

crash_leaves_none : (o : Option InstNumbers) → (crash_act o).inst ≡ None
crash_leaves_none None = refl
crash_leaves_none (Some up) = refl

-- what it leaves of the replicas, the tails and the vault
record Crashes (v r : ℕ) (p q : PlantTold) : Type 0 where
  plan : q.plan ≡ p.plan
  vault : q.vault ≡ p.vault
  tails : (state_of q).tails ≡ (state_of p).tails
  insts : (state_of q).insts ≡ with_down (state_of p).insts v r

crashes : (v r : ℕ) (p q : PlantTold) (o : Outcome) → AppliesJointly p (act.Crash v r) (Ok o) q → Crashes v r p q
crashes v r p q o applies =
    let made = applies.applies in
    let s : State = state_of p in
    record {
      plan = made.plan;
      vault = applies.vault.untouched refl;
      tails = sym (ap (λ (t : Step). t.state.tails) made.step);
      insts = sym (ap (λ (t : Step). t.state.insts) made.step)
          ∙ ap (λ (i : Option InstNumbers). set s.insts v (set (insts_at s v) r i)) (crash_leaves_none (inst_at s v r));
    }

-- ---- the replicas of one vertex, one behind the other

-- the first so many replicas of v are down
pub record IsDownBelow (v count : ℕ) (p q : PlantTold) : Type 0 where
  pub plan : q.plan ≡ p.plan
  pub tails : (w : ℕ) → tail_at (state_of q) w ≡ tail_at (state_of p) w
  pub insts : (r : ℕ) → r < count → inst_at (state_of q) v r ≡ None
  pub vault : q.vault ≡ p.vault
  pub others : (w r : ℕ) → w ≢ v → inst_at (state_of q) w r ≡ inst_at (state_of p) w r

pub none_down : (v : ℕ) (p : PlantTold) → IsDownBelow v 0 p p
none_down v p = record {
  plan = refl;
  tails = λ w. refl;
  insts = λ r few. absurd (omega (arith, few));
  vault = refl;
  others = λ w r other. refl;
}

pub one_more_down : (v r : ℕ) (p q u : PlantTold) (o : Outcome) → IsDownBelow v r p q → AppliesJointly q (act.Crash v r) (Ok o) u
    → IsDownBelow v (r + 1) p u
one_more_down v r p q u o down applies =
    let did = crashes v r q u o applies in
    let all : List Replicas = (state_of q).insts in
    record {
      plan = did.plan ∙ down.plan;
      tails = λ w. ap (λ (ts : List TailNumbers). get_or ts w new_tail) did.tails ∙ down.tails w;
      insts = λ n few. ap (λ (xs : List Replicas). replica xs v n) did.insts
          ∙ ⊎_elim
          (λ (same : n ≡ r). subst (λ (m : ℕ). replica (with_down all v r) v m ≡ None) (sym same) (down_same all v r))
          (λ (other : n ≢ r).
          let below : n < r = omega (arith, few, other) in
          down_other all v r n other ∙ down.insts n below)
          (cases_eq n r);
      vault = did.vault ∙ down.vault;
      others = λ w n other. ap (λ (xs : List Replicas). replica xs w n) did.insts ∙ down_apart all v r w n other ∙ down.others w n other;
    }

-- there is no replica past the last
past_none : (xs : Replicas) (r : ℕ) → length xs ≤ r → get_or xs r None ≡ None
past_none xs r past = get_or_past xs r None past

pub all_down : (v count : ℕ) (p q : PlantTold) → count ≡ (vertex (plan_numbers p.plan) v).replicas → IsDownBelow v count p q → Joint q
    → IsDownAt v p q
all_down v count p q is down joint = record {
  plan = down.plan;
  tails = down.tails;
  insts = λ r. ⊎_elim
      (λ (few : r < count). down.insts r few)
      (λ (past : count ≤ r).
      let same : (vertex (plan_numbers q.plan) v).replicas ≡ (vertex (plan_numbers p.plan) v).replicas =
      ap (λ (plan : PlanText). (vertex (plan_numbers plan) v).replicas) down.plan in
      let have = joint.numbers.replicas v in
      past_none (insts_at (state_of q) v) r (omega (arith, is, past, same, have)))
      (cases_lt r count);
  vault = down.vault;
  others = down.others;
}

-- ---- one vertex

-- one that gives a stream
pub stream_wiped : (v : ℕ) (p q u : PlantTold) (o : Outcome) → Joint p → IsStream (plan_numbers p.plan) v
    → AppliesJointly p (act.Lose v) (Ok o) q → IsDownAt v q u → IsWipedAt v p u
stream_wiped v p q u o joint stream applies down =
    let made = applies.applies in
    let s : State = state_of p in
    let lost : TailNumbers = (lose_act (tail_at s v)).tail in
    let tails : (state_of q).tails ≡ set s.tails v lost = sym (ap (λ (t : Step). t.state.tails) made.step) in
    let insts : (state_of q).insts ≡ s.insts = sym (ap (λ (t : Step). t.state.insts) made.step) in
    let within : v < length s.tails = let few = stream.0 in let all = joint.numbers.tails in omega (arith, few, all) in
    record {
      plan = down.plan ∙ made.plan;
      tail = λ is. down.tails v ∙ ap (λ (ts : List TailNumbers). get_or ts v new_tail) tails ∙ get_or-set_same s.tails v lost new_tail within;
      insts = down.insts;
      vault = down.vault ∙ applies.vault.untouched refl;
      other_tails = λ w other. down.tails w ∙ ap (λ (ts : List TailNumbers). get_or ts w new_tail) tails
          ∙ get_or-set_other s.tails v w lost new_tail other;
      other_insts = λ w r other. down.others w r other ∙ ap (λ (xs : List Replicas). replica xs w r) insts;
    }

sink_kind : (k : Kind) → (is_sink k ≡ false → ⊥) → k ≡ Sink
sink_kind Source none = absurd (none refl)
sink_kind Inner none = absurd (none refl)
sink_kind Sink none = refl

-- and one that doesn't, which has no replicas
pub nothing_wiped : (v : ℕ) (p : PlantTold) → Joint p → v < length (plan_numbers p.plan).vertices → (IsStream (plan_numbers p.plan) v → ⊥)
    → IsWipedAt v p p
nothing_wiped v p joint within none =
    let job : JobNumbers = plan_numbers p.plan in
    let sink : (vertex job v).kind ≡ Sink = sink_kind (vertex job v).kind (λ gives. none (within, gives)) in
    let runs = (joint.numbers.numbers.each v within).runs_none sink in
    let have = joint.numbers.replicas v in
    record {
      plan = refl;
      tail = λ stream. absurd (none stream);
      insts = λ r. past_none (insts_at (state_of p) v) r (omega (arith, runs, have));
      vault = refl;
      other_tails = λ w other. refl;
      other_insts = λ w r other. refl;
    }

-- ---- all vertices

-- the first so many are wiped, and the tails of the others are as they were
pub record IsWipedBelow (count : ℕ) (p q : PlantTold) : Type 0 where
  pub plan : q.plan ≡ p.plan
  pub tails : (v : ℕ) → v < count → IsStream (plan_numbers p.plan) v
      → tail_at (state_of q) v ≡ (lose_act (tail_at (state_of p) v)).tail
  pub insts : (v r : ℕ) → v < count → inst_at (state_of q) v r ≡ None
  pub vault : q.vault ≡ p.vault
  pub later : (v : ℕ) → count ≤ v → tail_at (state_of q) v ≡ tail_at (state_of p) v

pub none_wiped : (p : PlantTold) → IsWipedBelow 0 p p
none_wiped p = record {
  plan = refl;
  tails = λ v few. absurd (omega (arith, few));
  insts = λ v r few. absurd (omega (arith, few));
  vault = refl;
  later = λ v past. refl;
}

pub one_more_wiped : (n : ℕ) (p q u : PlantTold) → IsWipedBelow n p q → IsWipedAt n q u → IsWipedBelow (n + 1) p u
one_more_wiped n p q u wiped one = record {
  plan = one.plan ∙ wiped.plan;
  tails = λ v few stream. ⊎_elim
      (λ (same : v ≡ n).
      let here : IsStream (plan_numbers p.plan) n = subst (λ (m : ℕ). IsStream (plan_numbers p.plan) m) same stream in
      let there : IsStream (plan_numbers q.plan) n = subst (λ (plan : PlanText). IsStream (plan_numbers plan) n) (sym wiped.plan) here in
      subst (λ (m : ℕ). tail_at (state_of u) m ≡ (lose_act (tail_at (state_of p) m)).tail) (sym same)
      (one.tail there ∙ ap (λ (t : TailNumbers). (lose_act t).tail) (wiped.later n (omega arith))))
      (λ (other : v ≢ n).
      let below : v < n = omega (arith, few, other) in
      one.other_tails v other ∙ wiped.tails v below stream)
      (cases_eq v n);
  insts = λ v r few. ⊎_elim
      (λ (same : v ≡ n). subst (λ (m : ℕ). inst_at (state_of u) m r ≡ None) (sym same) (one.insts r))
      (λ (other : v ≢ n).
      let below : v < n = omega (arith, few, other) in
      one.other_insts v r other ∙ wiped.insts v r below)
      (cases_eq v n);
  vault = one.vault ∙ wiped.vault;
  later = λ v past.
      let other : v ≢ n = omega (arith, past) in
      let least : n ≤ v = omega (arith, past) in
      one.other_tails v other ∙ wiped.later v least;
}

no_vertex_there : (all : List Replicas) (v r : ℕ) → length all ≤ v → replica all v r ≡ None
no_vertex_there all v r past = ap (λ (xs : Replicas). get_or xs r None) (get_or_past all v [] past)

pub all_wiped : (count : ℕ) (p q : PlantTold) → count ≡ length (plan_numbers p.plan).vertices → IsWipedBelow count p q → Joint q → IsWiped p q
all_wiped count p q is wiped joint = record {
  plan = wiped.plan;
  tails = λ v stream. let within = stream.0 in wiped.tails v (omega (arith, is, within)) stream;
  insts = λ v r. ⊎_elim
      (λ (few : v < count). wiped.insts v r few)
      (λ (past : count ≤ v).
      let same : length (plan_numbers q.plan).vertices ≡ length (plan_numbers p.plan).vertices =
      ap (λ (plan : PlanText). length (plan_numbers plan).vertices) wiped.plan in
      let have = joint.numbers.insts in
      no_vertex_there (state_of q).insts v r (omega (arith, is, past, same, have)))
      (cases_lt v count);
  vault = wiped.vault;
}
