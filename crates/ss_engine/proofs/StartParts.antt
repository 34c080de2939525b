-- A running job that was just started.
use Rattle.std.proofs.Common.{◌≡◌, ◌∙◌, ℕ, zero, suc, ◌+◌, ◌<◌, ◌≤◌, Option, Some, IfSome, List, [], ◌∷◌, ◌++◌, length, get_or, map, replicate, refl, sym, ap, ap₂, subst, arith, ⊎_elim}
use Rattle.std.specs.Prelude.{Vec, slice_get}
use Rattle.std.specs.declared.alloc.Global.{Global}
use Rattle.std.proofs.Math.ListN as listn
use Rattle.std.proofs.lemmas.Bool.{cases_lt}
use Rattle.std.proofs.lemmas.List.{ext_get_or, get_or_append_left, get_or-map, get_or_past, get_or_push, length-map, length_push, map-append, replicate_more}
use Rattle.ss_acts.specs.Parts.{IsReplicaOf, IsTailOf, vertex_of}
use Rattle.ss_elem.specs.declared.element.Element.{Element}
use Rattle.ss_frames.specs.Plans.{plan_numbers}
use Rattle.ss_meaning.specs.Meaning.{meaning}
use Rattle.ss_outside.specs.Depot.{DepotTold, no_contents}
use Rattle.ss_outside.specs.Told.{OutputsTold}
use Rattle.ss_plan.specs.Plan.{PlanText, vertices_of}
use Rattle.ss_state.specs.IsNumbers.{IsNumbers}
use Rattle.ss_state.specs.Joint as of_numbers
use Rattle.ss_state.specs.Laws.{FirstStateIsJoint}
use Rattle.ss_state.specs.Numbers.{VertexNumbers, no_vertex}
use Rattle.ss_state.specs.State.{InstNumbers, Ledger, State, TailNumbers, VaultNumbers, first_insts, first_state, new_tail}
use Rattle.ss_state.specs.declared.entry.Entry.{Entry}
use Rattle.ss_tail.specs.Held.{Stands, TailHeld, empty}
use Rattle.ss_vault.specs.Calls as vault
use Rattle.ss_vault.specs.Sound.{Sound}
use Rattle.ss_vault.specs.Told.{numbers_of}
use Rattle.ss_vault.specs.declared.fault.VaultFault.TheVariants as fault
use Rattle.ss_vertex.specs.Calls.{fresh_inst}
use Rattle.ss_vertex.specs.Inst.{InstState, inst_numbers}
use Rattle.ss_vertex.specs.Standing.{InstStands}
use Rattle.ss_engine.specs.Begins.{Begins}
use Rattle.ss_engine.specs.FirstParts.{AreFirstReplicas, AreFresh, HaveFirstReplicas}
use Rattle.ss_engine.specs.Joint.{Joint, PartsStand}
use Rattle.ss_engine.specs.Told.{PlantTold, inst_of, state_of, tail_of}

-- the instances of one vertex

pub fresh_none : (plan : PlanText) (v : ℕ) → AreFresh plan v 0 []
fresh_none plan v = record { are = refl; stand = λ some. absurd (omega (arith, some)) }

pub fresh_more : (plan : PlanText) (v count : ℕ) (insts : List InstState) (inst : InstState) → AreFresh plan v count insts → inst ≡ fresh_inst plan v
    → InstStands plan inst → AreFresh plan v (count + 1) (insts ++ inst ∷ [])
fresh_more plan v count insts inst fresh is stands = record {
  are = ap₂ (λ (xs : List InstState) (x : InstState). xs ++ x ∷ []) fresh.are is ∙ replicate_more count (fresh_inst plan v);
  stand = λ some. subst (InstStands plan) is stands;
}

-- the replicas of all vertices

pub replicas_none : (plan : PlanText) → HaveFirstReplicas plan 0 []
replicas_none plan = record { all = refl; each = λ v h. absurd (omega (arith, h)) }

pub replicas_more : (plan : PlanText) (count : ℕ) (all : List (List InstState)) (insts : List InstState) → HaveFirstReplicas plan count all
    → AreFirstReplicas plan count insts → HaveFirstReplicas plan (count + 1) (all ++ insts ∷ [])
replicas_more plan count all insts have first = record {
  all = length_push all insts ∙ ap (λ (n : ℕ). n + 1) have.all;
  each = λ v h. ⊎_elim
      (λ (below : v < count).
      subst (AreFirstReplicas plan v)
      (sym (get_or_append_left all (insts ∷ []) [] v (let e = have.all in omega (arith, e, below))))
      (have.each v below))
      (λ (past : count ≤ v).
      let same : v ≡ count = omega (arith, h, past) in
      subst (AreFirstReplicas plan v)
      (sym (get_or_push all insts [] v (have.all ∙ sym same)))
      (subst (λ (w : ℕ). AreFirstReplicas plan w insts) (sym same) first))
      (cases_lt v count);
}

abbrev items_of : List (Vec InstState Global) → List (List InstState)
items_of all = map (λ (replicas : Vec InstState Global). replicas.items) all

pub insts_none : (plan : PlanText) (all : List (Vec InstState Global)) → all ≡ [] → HaveFirstReplicas plan 0 (items_of all)
insts_none plan all none = subst (λ (xs : List (Vec InstState Global)). HaveFirstReplicas plan 0 (items_of xs)) (sym none) (replicas_none plan)

pub insts_more : (plan : PlanText) (v : ℕ) (all after : List (Vec InstState Global)) (replicas : Vec InstState Global) → HaveFirstReplicas plan v (items_of all)
    → AreFirstReplicas plan v replicas.items → after ≡ all ++ replicas ∷ [] → HaveFirstReplicas plan (v + 1) (items_of after)
insts_more plan v all after replicas have first grown =
    subst (HaveFirstReplicas plan (v + 1))
    (sym (ap items_of grown ∙ map-append (λ (r : Vec InstState Global). r.items) all (replicas ∷ [])))
    (replicas_more plan v (items_of all) replicas.items have first)

-- the numbers of the parts

same_tails : (xs : List VertexNumbers) → map (λ (tail : TailHeld). tail.numbers) (replicate (length xs) empty) ≡ map (λ (x : VertexNumbers). new_tail) xs
same_tails [] = refl
same_tails (x ∷ xs) = ap (λ (tails : List TailNumbers). new_tail ∷ tails) (same_tails xs)

map_replicate : (plan : PlanText) (v n : ℕ) → map inst_numbers (replicate n (fresh_inst plan v)) ≡ replicate n (Some (record { n = 0; left = 0 }))
map_replicate plan v zero = refl
map_replicate plan v (suc n) = ap (λ (insts : List (Option InstNumbers)). Some (record { n = 0; left = 0 }) ∷ insts) (map_replicate plan v n)

same_insts : (plan : PlanText) (insts : List (List InstState)) → HaveFirstReplicas plan (length (plan_numbers plan).vertices) insts
    → map (map inst_numbers) insts ≡ map first_insts (plan_numbers plan).vertices
same_insts plan insts have =
    let xs : List VertexNumbers = (plan_numbers plan).vertices in
    ext_get_or [] (map (map inst_numbers) insts) (map first_insts xs)
    (length-map insts (map inst_numbers) ∙ have.all ∙ sym (length-map xs first_insts))
    (λ v h.
    let within : v < length insts = omega (arith, h, length-map insts (map inst_numbers)) in
    let here : v < length xs = let e = have.all in omega (arith, within, e) in
    listn.get_or-map (map inst_numbers) insts v []
    ∙ ap (map inst_numbers) (have.each v here).are
    ∙ map_replicate plan v (vertex_of plan v).replicas
    ∙ sym (get_or-map first_insts xs v no_vertex [] here))

abbrev numbers_so : Ledger → List Entry → VaultNumbers
numbers_so ledger journal = record { ledger = ledger; journal = journal }

abbrev state_so : List TailNumbers → List (List (Option InstNumbers)) → VaultNumbers → State
state_so tails insts vault = record { tails = tails; insts = insts; vault = vault }

-- the parts of a job that has just been started
pub record Starts (plan : PlanText) (outputs : OutputsTold) (depot : DepotTold) (p : PlantTold) : Type 0 where
  pub of_plan : p.plan ≡ plan
  pub tails : p.tails ≡ replicate (length (plan_numbers plan).vertices) empty
  pub insts : HaveFirstReplicas plan (length (plan_numbers plan).vertices) p.insts
  pub vault : vault.Begins plan outputs depot p.vault
  pub sound : Sound plan p.vault

pub first_state_is : (plan : PlanText) (outputs : OutputsTold) (depot : DepotTold) (p : PlantTold) → Starts plan outputs depot p
    → state_of p ≡ first_state (plan_numbers plan)
first_state_is plan outputs depot p starts =
    let tails = ap (map (λ (tail : TailHeld). tail.numbers)) starts.tails ∙ same_tails (plan_numbers plan).vertices in
    let insts = same_insts plan p.insts starts.insts in
    let numbers = ap₂ numbers_so starts.vault.ledger starts.vault.journal in
    ap (λ (xs : List TailNumbers). state_so xs (map (map inst_numbers) p.insts) (numbers_of p.vault)) tails
    ∙ ap₂ (state_so (map (λ (x : VertexNumbers). new_tail) (plan_numbers plan).vertices)) insts numbers

pub begins : (plan : PlanText) (outputs : OutputsTold) (depot : DepotTold) (p : PlantTold) → Starts plan outputs depot p → Begins plan outputs depot p
begins plan outputs depot p starts = record {
  of_plan = starts.of_plan;
  state = first_state_is plan outputs depot p starts;
  halted = starts.vault.halted;
  started = starts.vault.started;
  same_outputs = starts.vault.outputs;
}

-- the parts stand

pub empty_stands : (list : List Element) (most : ℕ) → Stands list most empty
empty_stands list most = record {
  numbered = refl;
  items = refl;
  end = omega arith;
  seen = omega arith;
  end_within = omega arith;
  seen_within = omega arith;
}

is_empty : (n v : ℕ) → get_or (replicate n empty) v empty ≡ empty
is_empty zero v = refl
is_empty (suc n) zero = refl
is_empty (suc n) (suc v) = is_empty n v

replicas_stand : (plan : PlanText) (v n r : ℕ) → (0 < n → InstStands plan (fresh_inst plan v))
    → IfSome (slice_get (replicate n (fresh_inst plan v)) r) (IsReplicaOf plan v)
replicas_stand plan v zero r stand = tt
replicas_stand plan v (suc n) zero stand = record { vertex = refl; stands = stand (omega arith) }
replicas_stand plan v (suc n) (suc r) stand = replicas_stand plan v n r (λ some. stand (omega arith))

insts_stand : (plan : PlanText) (p : PlantTold) → HaveFirstReplicas plan (length (plan_numbers plan).vertices) p.insts → (v r : ℕ)
    → IfSome (inst_of p v r) (IsReplicaOf plan v)
insts_stand plan p have v r = ⊎_elim
    (λ (here : v < length (plan_numbers plan).vertices).
    let first : AreFirstReplicas plan v (get_or p.insts v []) = have.each v here in
    subst (λ (insts : List InstState). IfSome (slice_get insts r) (IsReplicaOf plan v)) (sym first.are)
    (replicas_stand plan v (vertex_of plan v).replicas r first.stand))
    (λ (past : length (plan_numbers plan).vertices ≤ v).
    subst (λ (insts : List InstState). IfSome (slice_get insts r) (IsReplicaOf plan v))
    (sym (get_or_past p.insts v [] (let e = have.all in omega (arith, e, past)))) tt)
    (cases_lt v (length (plan_numbers plan).vertices))

parts_stand : (plan : PlanText) (outputs : OutputsTold) (depot : DepotTold) (p : PlantTold) → Starts plan outputs depot p → PartsStand p
parts_stand plan outputs depot p starts = record {
  tails = λ v. subst (λ (x : PlanText). IsTailOf x v (tail_of p v)) (sym starts.of_plan)
      (subst (IsTailOf plan v) (sym (ap (λ (tails : List TailHeld). get_or tails v empty) starts.tails ∙ is_empty (length (plan_numbers plan).vertices) v))
      (empty_stands (meaning (vertices_of plan) v) plan.job.max_elements));
  insts = λ v r. subst (λ (x : PlanText). IfSome (inst_of p v r) (IsReplicaOf x v)) (sym starts.of_plan)
      (insts_stand plan p starts.insts v r);
  vault = subst (λ (x : PlanText). Sound x p.vault) (sym starts.of_plan) starts.sound;
}

pub starts_joint : FirstStateIsJoint → (plan : PlanText) → IsNumbers (plan_numbers plan) → (outputs : OutputsTold) (depot : DepotTold) (p : PlantTold)
    → Starts plan outputs depot p → Joint p
starts_joint law plan numbers outputs depot p starts = record {
  parts = parts_stand plan outputs depot p starts;
  numbers = subst (λ (x : PlanText). of_numbers.Joint (plan_numbers x) (state_of p)) (sym starts.of_plan)
      (subst (of_numbers.Joint (plan_numbers plan)) (sym (first_state_is plan outputs depot p starts)) (law (plan_numbers plan) numbers));
}

-- memory was wanting before anything was stored
pub refuses_before : (plan : PlanText) (depot : DepotTold) → depot.contents ≡ no_contents → vault.RefusesStart plan fault.Memory depot depot
refuses_before plan depot none = record {
  cause = tt;
  holds = subst (vault.HoldsFirstFrames plan) (sym none)
      (record { first = λ v. refl; records = λ v. refl; frames = λ v n. tt });
  faults = omega arith;
  shorts = omega arith;
}

-- the parts that were made for one plan, under the names that it went by
pub started : (plan tails_plan vault_plan : PlanText) (outputs : OutputsTold) (depot : DepotTold) (p : PlantTold) → tails_plan ≡ plan → vault_plan ≡ plan
    → p.plan ≡ plan → p.tails ≡ replicate (length (plan_numbers tails_plan).vertices) empty
    → HaveFirstReplicas tails_plan (length (plan_numbers tails_plan).vertices) p.insts → vault.Begins vault_plan outputs depot p.vault
    → Sound vault_plan p.vault → Starts plan outputs depot p
started plan tails_plan vault_plan outputs depot p same_tails same_vault of_plan tails insts begun sound = record {
  of_plan = of_plan;
  tails = subst (λ (x : PlanText). p.tails ≡ replicate (length (plan_numbers x).vertices) empty) same_tails tails;
  insts = subst (λ (x : PlanText). HaveFirstReplicas x (length (plan_numbers x).vertices) p.insts) same_tails insts;
  vault = subst (λ (x : PlanText). vault.Begins x outputs depot p.vault) same_vault begun;
  sound = subst (λ (x : PlanText). Sound x p.vault) same_vault sound;
}
