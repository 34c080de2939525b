-- A running job that goes on from what is stored alone.
use Rattle.std.proofs.Common.{◌≡◌, ◌∙◌, ℕ, ◌+◌, ◌<◌, ◌≤◌, false, Option, Some, None, List, [], ◌∷◌, ◌++◌, length, get_or, map, refl, sym, ap, subst, arith, ⊎_elim}
use Rattle.std.specs.Prelude.{All, IfSome, Vec, slice_get}
use Rattle.std.specs.declared.alloc.Global.{Global}
use Rattle.std.proofs.lemmas.Bool.{cases_lt, false≢true}
use Rattle.std.proofs.lemmas.List.{get_or_append_left, get_or-map, get_or_past, get_or_push, length-map, length_push, map-append}
use Rattle.std.proofs.lemmas.List.Elements.{All-push}
use Rattle.std.proofs.lemmas.Option.{slice_get_cases}
use Rattle.ss_acts.specs.Facts.{ActFacts}
use Rattle.ss_acts.specs.Parts.{IsReplicaOf, IsTailOf}
use Rattle.ss_elem.specs.declared.element.Element.{Element}
use Rattle.ss_frames.specs.Plans.{plan_numbers}
use Rattle.ss_meaning.specs.Meaning.{meaning}
use Rattle.ss_plan.specs.Plan.{PlanText, vertices_of}
use Rattle.ss_state.specs.Joint as of_numbers
use Rattle.ss_state.specs.Numbers.{JobNumbers, IsStream, VertexNumbers, input, no_vertex, vertex}
use Rattle.ss_state.specs.State.{InstNumbers, LedgerRow, TailNumbers, durable_at, empty_row, inst_at, insts_at, new_tail, tail_at}
use Rattle.ss_state.specs.Tails.{restarted}
use Rattle.ss_tail.specs.Held.{Stands, TailHeld, begun_at, empty}
use Rattle.ss_vault.specs.Sound.{Sound}
use Rattle.ss_vault.specs.Told.{VaultTold, durable_of, numbers_of}
use Rattle.ss_vertex.specs.Inst.{InstState, inst_numbers}
use Rattle.ss_water.specs.Graph.{is_sink}
use Rattle.ss_water.specs.declared.node.Kind.{Kind}
use Rattle.ss_water.specs.declared.node.Kind.TheVariants.{Source, Inner, Sink}
use Rattle.ss_engine.specs.Around.{AreDown, AreDownReplicas, BeginBehind, HaveDownReplicas, IsAround, IsDownReplica}
use Rattle.ss_engine.specs.Joint.{Joint, PartsStand}
use Rattle.ss_engine.specs.Told.{PlantTold, inst_of, replicas_of, state_of, tail_of}
use Rattle.ss_engine.proofs.Parts.{replicas_are, tail_is}
use Rattle.ss_engine.proofs.StartParts.{empty_stands}

-- ---- the tails

pub tails_none : (vault : VaultTold) → BeginBehind vault 0 []
tails_none vault = record { all = refl; each = λ v h. absurd (omega (arith, h)) }

pub tails_more : (vault : VaultTold) (n : ℕ) (tails : List TailHeld) (tail : TailHeld) → BeginBehind vault n tails
    → tail ≡ begun_at empty (durable_of vault n).dur → BeginBehind vault (n + 1) (tails ++ tail ∷ [])
tails_more vault n tails tail begin is = record {
  all = length_push tails tail ∙ ap (λ (k : ℕ). k + 1) begin.all;
  each = λ v h. ⊎_elim
      (λ (below : v < n).
      get_or_append_left tails (tail ∷ []) empty v (let e = begin.all in omega (arith, e, below)) ∙ begin.each v below)
      (λ (past : n ≤ v).
      let same : v ≡ n = omega (arith, h, past) in
      get_or_push tails tail empty v (begin.all ∙ sym same)
      ∙ is ∙ ap (λ (k : ℕ). begun_at empty (durable_of vault k).dur) (sym same))
      (cases_lt v n);
}

-- ---- the replicas

pub down_none : (plan : PlanText) (v : ℕ) → AreDown plan v 0 []
down_none plan v = record { all = refl; each = λ k d h. absurd (omega (arith, h)) }

pub down_more : (plan : PlanText) (v count : ℕ) (insts : List InstState) (inst : InstState) → AreDown plan v count insts → IsDownReplica plan v inst
    → AreDown plan v (count + 1) (insts ++ inst ∷ [])
down_more plan v count insts inst down one = record {
  all = length_push insts inst ∙ ap (λ (n : ℕ). n + 1) down.all;
  each = All-push (IsDownReplica plan v) insts inst down.each one;
}

pub replicas_none : (plan : PlanText) → HaveDownReplicas plan 0 []
replicas_none plan = record { all = refl; each = λ v h. absurd (omega (arith, h)) }

replicas_more : (plan : PlanText) (count : ℕ) (all : List (List InstState)) (insts : List InstState) → HaveDownReplicas plan count all
    → AreDownReplicas plan count insts → HaveDownReplicas plan (count + 1) (all ++ insts ∷ [])
replicas_more plan count all insts have down = record {
  all = length_push all insts ∙ ap (λ (n : ℕ). n + 1) have.all;
  each = λ v h. ⊎_elim
      (λ (below : v < count).
      subst (AreDownReplicas plan v)
      (sym (get_or_append_left all (insts ∷ []) [] v (let e = have.all in omega (arith, e, below))))
      (have.each v below))
      (λ (past : count ≤ v).
      let same : v ≡ count = omega (arith, h, past) in
      subst (AreDownReplicas plan v)
      (sym (get_or_push all insts [] v (have.all ∙ sym same)))
      (subst (λ (w : ℕ). AreDownReplicas plan w insts) (sym same) down))
      (cases_lt v count);
}

abbrev items_of : List (Vec InstState Global) → List (List InstState)
items_of all = map (λ (replicas : Vec InstState Global). replicas.items) all

pub insts_more : (plan : PlanText) (v : ℕ) (all after : List (Vec InstState Global)) (replicas : Vec InstState Global) → HaveDownReplicas plan v (items_of all)
    → AreDownReplicas plan v replicas.items → after ≡ all ++ replicas ∷ [] → HaveDownReplicas plan (v + 1) (items_of after)
insts_more plan v all after replicas have down grown =
    subst (HaveDownReplicas plan (v + 1))
    (sym (ap items_of grown ∙ map-append (λ (r : Vec InstState Global). r.items) all (replicas ∷ [])))
    (replicas_more plan v (items_of all) replicas.items have down)

-- ---- the parts of such a job

pub record GoesOn (p : PlantTold) : Type 0 where
  pub tails : BeginBehind p.vault (length (plan_numbers p.plan).vertices) p.tails
  pub insts : HaveDownReplicas p.plan (length (plan_numbers p.plan).vertices) p.insts
  pub sound : Sound p.plan p.vault

abbrev count_of : PlantTold → ℕ
count_of p = length (plan_numbers p.plan).vertices

tail_behind : (p : PlantTold) → GoesOn p → (v : ℕ) → v < count_of p → tail_at (state_of p) v ≡ restarted new_tail (durable_of p.vault v).dur
tail_behind p goes v here = tail_is p v ∙ ap (λ (t : TailHeld). t.numbers) (goes.tails.each v here)

tail_past : (p : PlantTold) → GoesOn p → (v : ℕ) → count_of p ≤ v → tail_of p v ≡ empty
tail_past p goes v past = get_or_past p.tails v empty (let e = goes.tails.all in omega (arith, e, past))

none_past : (p : PlantTold) → GoesOn p → (v : ℕ) → count_of p ≤ v → replicas_of p v ≡ []
none_past p goes v past = get_or_past p.insts v [] (let e = goes.insts.all in omega (arith, e, past))

-- a replica, if it is there, is one of its vertex
stands_at : (plan : PlanText) (v r : ℕ) (insts : List InstState) → All (IsDownReplica plan v) insts
    → IfSome (slice_get insts r) (IsReplicaOf plan v)
stands_at plan v r insts each = ⊎_elim
    (λ (h : (x : InstState) × (r < length insts) × (slice_get insts r ≡ Some x) × (get_or insts r x ≡ x)).
    subst (λ (o : Option InstState). IfSome o (IsReplicaOf plan v)) (sym h.2)
    (subst (IsReplicaOf plan v) h.3 (each r h.0 h.1).replica))
    (λ (h : (length insts ≤ r) × (slice_get insts r ≡ None)).
    subst (λ (o : Option InstState). IfSome o (IsReplicaOf plan v)) (sym h.1) tt)
    ((slice_get_cases insts r).1)

replica_stands : (p : PlantTold) → GoesOn p → (v r : ℕ) → IfSome (inst_of p v r) (IsReplicaOf p.plan v)
replica_stands p goes v r = ⊎_elim
    (λ (here : v < count_of p). stands_at p.plan v r (replicas_of p v) (goes.insts.each v here).each)
    (λ (past : count_of p ≤ v).
    subst (λ (insts : List InstState). IfSome (slice_get insts r) (IsReplicaOf p.plan v)) (sym (none_past p goes v past)) tt)
    (cases_lt v (count_of p))

-- and is down
none_up : (plan : PlanText) (v r : ℕ) (insts : List InstState) → All (IsDownReplica plan v) insts → get_or (map inst_numbers insts) r None ≡ None
none_up plan v r insts each = ⊎_elim
    (λ (h : (x : InstState) × (r < length insts) × (slice_get insts r ≡ Some x) × (get_or insts r x ≡ x)).
    get_or-map inst_numbers insts r h.0 None h.1 ∙ (each r h.0 h.1).down)
    (λ (h : (length insts ≤ r) × (slice_get insts r ≡ None)).
    let past = h.0 in
    get_or_past (map inst_numbers insts) r None (omega (arith, length-map insts inst_numbers, past)))
    ((slice_get_cases insts r).1)

all_down : (p : PlantTold) → GoesOn p → (v r : ℕ) → inst_at (state_of p) v r ≡ None
all_down p goes v r = ⊎_elim
    (λ (here : v < count_of p).
    ap (λ (xs : List (Option InstNumbers)). get_or xs r None) (replicas_are p v)
    ∙ none_up p.plan v r (replicas_of p v) (goes.insts.each v here).each)
    (λ (past : count_of p ≤ v).
    ap (λ (xs : List (Option InstNumbers)). get_or xs r None) (replicas_are p v)
    ∙ ap (λ (xs : List InstState). get_or (map inst_numbers xs) r None) (none_past p goes v past))
    (cases_lt v (count_of p))

pub is_around : (p : PlantTold) → GoesOn p → IsAround p.plan p.vault p
is_around p goes = record {
  of_plan = refl;
  tails = tail_behind p goes;
  insts = all_down p goes;
  same_vault = refl;
}

-- ---- the parts stand

begun_stands : (list : List Element) (most m : ℕ) → m ≤ length list → m ≤ most → Stands list most (begun_at empty m)
begun_stands list most m within limit = record {
  numbered = omega arith;
  items = refl;
  end = within;
  seen = within;
  end_within = limit;
  seen_within = limit;
}

-- no more is stored of a stream than it has and may have; of a sink nothing is
stream_dur : (p : PlantTold) → ActFacts p.plan → GoesOn p → (v : ℕ) → IsStream (plan_numbers p.plan) v
    → ((durable_of p.vault v).dur ≤ length (meaning (vertices_of p.plan) v)) × ((durable_of p.vault v).dur ≤ p.plan.job.max_elements)
stream_dur p facts goes v stream =
    let stored = (goes.sound.numbers.stands.row v).dur in
    let size = facts.of_plan.size v stream in
    let most = facts.of_plan.most in
    (omega (arith, stored, size), omega (arith, stored, most))

dur_within : (p : PlantTold) → ActFacts p.plan → GoesOn p → (v : ℕ) → v < count_of p → (k : Kind) → (vertex (plan_numbers p.plan) v).kind ≡ k
    → ((durable_of p.vault v).dur ≤ length (meaning (vertices_of p.plan) v)) × ((durable_of p.vault v).dur ≤ p.plan.job.max_elements)
dur_within p facts goes v here Source is = stream_dur p facts goes v (here, ap is_sink is)
dur_within p facts goes v here Inner is = stream_dur p facts goes v (here, ap is_sink is)
dur_within p facts goes v here Sink is =
    let row : LedgerRow = durable_of p.vault v in
    let none = (subst (λ (k : Kind). of_numbers.Suits k row) is (goes.sound.numbers.stands.row v).suits).0 in
    (omega (arith, none), omega (arith, none))

parts_stand : (p : PlantTold) → ActFacts p.plan → GoesOn p → PartsStand p
parts_stand p facts goes = record {
  tails = λ v. ⊎_elim
      (λ (here : v < count_of p).
      let within = dur_within p facts goes v here (vertex (plan_numbers p.plan) v).kind refl in
      subst (IsTailOf p.plan v) (sym (goes.tails.each v here))
      (begun_stands (meaning (vertices_of p.plan) v) p.plan.job.max_elements (durable_of p.vault v).dur within.0 within.1))
      (λ (past : count_of p ≤ v).
      subst (IsTailOf p.plan v) (sym (tail_past p goes v past))
      (empty_stands (meaning (vertices_of p.plan) v) p.plan.job.max_elements))
      (cases_lt v (count_of p));
  insts = replica_stands p goes;
  vault = goes.sound;
}

-- ---- and beside each other

restarted_stands : (most : ℕ) (row : LedgerRow) → row.dur ≤ most → of_numbers.TailStands most (restarted new_tail row.dur) row
restarted_stands most row h = record {
  order = omega arith;
  end = h;
  from = omega arith;
  seen = omega arith;
  whole = λ e. absurd (false≢true (sym e));
  count = omega arith;
}

new_stands : (most : ℕ) (row : LedgerRow) → row.dur ≡ 0 → of_numbers.TailStands most new_tail row
new_stands most row none = record {
  order = omega arith;
  end = omega arith;
  from = omega arith;
  seen = omega arith;
  whole = λ e. omega (arith, none);
  count = omega arith;
}

tail_stands : (p : PlantTold) → GoesOn p → (v : ℕ)
    → of_numbers.TailStands (of_numbers.most_of (plan_numbers p.plan) v) (tail_at (state_of p) v) (durable_at (state_of p) v)
tail_stands p goes v =
    let most : ℕ = of_numbers.most_of (plan_numbers p.plan) v in
    let row : LedgerRow = durable_of p.vault v in
    ⊎_elim
    (λ (here : v < count_of p).
    subst (λ (t : TailNumbers). of_numbers.TailStands most t row) (sym (tail_behind p goes v here))
    (restarted_stands most row (goes.sound.numbers.stands.row v).dur))
    (λ (past : count_of p ≤ v).
    let rows = goes.sound.numbers.stands.rows in
    let none : row ≡ empty_row = get_or_past (numbers_of p.vault).ledger.rows v empty_row (omega (arith, rows, past)) in
    subst (λ (t : TailNumbers). of_numbers.TailStands most t row) (sym (tail_is p v ∙ ap (λ (t : TailHeld). t.numbers) (tail_past p goes v past)))
    (new_stands most row (ap (λ (x : LedgerRow). x.dur) none)))
    (cases_lt v (count_of p))

none_or_some : (o : Option InstNumbers) (up : InstNumbers) → o ≡ None → o ≡ Some up → ⊥
none_or_some None up down is = cc
none_or_some (Some x) up down is = cc

-- a tail that a vertex reads was begun anew
read_torn : (p : PlantTold) → ActFacts p.plan → GoesOn p → (w i : ℕ) → i < length (vertex (plan_numbers p.plan) w).inputs
    → (tail_at (state_of p) (input (vertex (plan_numbers p.plan) w) i)).torn ≡ false → ⊥
read_torn p facts goes w i within whole =
    let job : JobNumbers = plan_numbers p.plan in
    ⊎_elim
    (λ (here : w < count_of p).
    let earlier = (facts.of_plan.numbers.each w here).earlier i within in
    let before : input (vertex job w) i < count_of p = omega (arith, earlier, here) in
    false≢true (sym whole ∙ ap (λ (t : TailNumbers). t.torn) (tail_behind p goes (input (vertex job w) i) before)))
    (λ (past : count_of p ≤ w).
    let none : length (vertex job w).inputs ≡ 0 = ap (λ (x : VertexNumbers). length x.inputs) (get_or_past job.vertices w no_vertex past) in
    let few : i < length (vertex job w).inputs = within in
    omega (arith, none, few))
    (cases_lt w (count_of p))

memory_stands : (p : PlantTold) → ActFacts p.plan → GoesOn p → of_numbers.MemoryStands (plan_numbers p.plan) (state_of p)
memory_stands p facts goes =
    let job : JobNumbers = plan_numbers p.plan in
    record {
      tail = tail_stands p goes;
      inst = λ v r. subst (λ (o : Option InstNumbers). IfSome o (of_numbers.InstStands job.max_elements (vertex job v)))
          (sym (all_down p goes v r)) tt;
      read = λ w r i up is within. absurd (none_or_some (inst_at (state_of p) w r) up (all_down p goes w r) is);
      snapped = λ w i n one within whole. absurd (read_torn p facts goes w i within whole);
    }

replica_count : (p : PlantTold) → GoesOn p → (v : ℕ) → length (insts_at (state_of p) v) ≡ (vertex (plan_numbers p.plan) v).replicas
replica_count p goes v = ⊎_elim
    (λ (here : v < count_of p).
    ap (λ (xs : List (Option InstNumbers)). length xs) (replicas_are p v)
    ∙ length-map (replicas_of p v) inst_numbers ∙ (goes.insts.each v here).all)
    (λ (past : count_of p ≤ v).
    ap (λ (xs : List (Option InstNumbers)). length xs) (replicas_are p v)
    ∙ ap (λ (xs : List InstState). length (map inst_numbers xs)) (none_past p goes v past)
    ∙ sym (ap (λ (x : VertexNumbers). x.replicas) (get_or_past (plan_numbers p.plan).vertices v no_vertex past)))
    (cases_lt v (count_of p))

pub goes_on_joint : (p : PlantTold) → ActFacts p.plan → GoesOn p → Joint p
goes_on_joint p facts goes = record {
  parts = parts_stand p facts goes;
  numbers = record {
    numbers = facts.of_plan.numbers;
    tails = length-map p.tails (λ (t : TailHeld). t.numbers) ∙ goes.tails.all;
    insts = length-map p.insts (map inst_numbers) ∙ goes.insts.all;
    replicas = replica_count p goes;
    memory = memory_stands p facts goes;
    vault = goes.sound.numbers;
  };
}

-- the parts that were made for one plan, under the names that it went by
pub goes_on : (plan tails_plan : PlanText) (p : PlantTold) → tails_plan ≡ plan → p.plan ≡ plan
    → BeginBehind p.vault (length (plan_numbers tails_plan).vertices) p.tails
    → HaveDownReplicas tails_plan (length (plan_numbers tails_plan).vertices) p.insts → Sound plan p.vault → GoesOn p
goes_on plan tails_plan p same of_plan tails insts sound =
    let to : tails_plan ≡ p.plan = same ∙ sym of_plan in
    record {
      tails = subst (λ (x : PlanText). BeginBehind p.vault (length (plan_numbers x).vertices) p.tails) to tails;
      insts = subst (λ (x : PlanText). HaveDownReplicas x (length (plan_numbers x).vertices) p.insts) to insts;
      sound = subst (λ (x : PlanText). Sound x p.vault) (sym of_plan) sound;
    }
