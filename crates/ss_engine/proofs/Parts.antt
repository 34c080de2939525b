-- A running job one of whose parts changed: its numbers then, and that its parts still stand.
use Rattle.std.proofs.Common.{◌≡◌, ◌≢◌, ℕ, ◌<◌, ◌≤◌, Option, Some, None, List, [], length, get_or, set, map, ap, sym, subst, ◌∙◌, ⊎_elim, arith, length-set}
use Rattle.std.specs.Prelude.{slice_get, option_map, IfSome}
use Rattle.std.proofs.Math.ListN.{get_or-map}
use Rattle.std.proofs.lemmas.Bool.{cases_eq}
use Rattle.std.proofs.lemmas.List.{map-set, length-map, get_or-set_same, get_or-set_other, set-get_or}
use Rattle.std.proofs.lemmas.Option.{get_or_from_slice_get, slice_get-get_or, slice_get-map, slice_get_cases, slice_get_past}
use Rattle.ss_acts.specs.Parts.{IsTailOf, IsReplicaOf}
use Rattle.ss_frames.specs.Plans.{plan_numbers}
use Rattle.ss_state.specs.State.{TailNumbers, InstNumbers, VaultNumbers, State, new_tail, tail_at, insts_at, inst_at, put_tail, put_inst}
use Rattle.ss_state.specs.Step.{IsReplica}
use Rattle.ss_tail.specs.Held.{TailHeld, empty}
use Rattle.ss_vault.specs.Sound.{Sound}
use Rattle.ss_vault.specs.Told.{VaultTold, numbers_of}
use Rattle.ss_vertex.specs.Inst.{InstState, inst_numbers}
use Rattle.ss_engine.specs.Joint.{PartsStand, Joint}
use Rattle.ss_engine.specs.Told.{PlantTold, tail_of, replicas_of, inst_of, state_of}

-- ---- the changes

abbrev pub replace_tail : PlantTold → ℕ → TailHeld → PlantTold
replace_tail p v tail = record p { tails = set p.tails v tail }

abbrev pub replace_inst : PlantTold → ℕ → ℕ → InstState → PlantTold
replace_inst p v r inst = record p { insts = set p.insts v (set (replicas_of p v) r inst) }

abbrev pub replace_vault : PlantTold → VaultTold → PlantTold
replace_vault p vault = record p { vault = vault }

-- ---- what the numbers say of a part

pub tail_is : (p : PlantTold) (v : ℕ) → tail_at (state_of p) v ≡ (tail_of p v).numbers
tail_is p v = get_or-map (λ (tail : TailHeld). tail.numbers) p.tails v empty

pub replicas_are : (p : PlantTold) (v : ℕ) → insts_at (state_of p) v ≡ map inst_numbers (replicas_of p v)
replicas_are p v = get_or-map (map inst_numbers) p.insts v []

found : {A B : Type 0} (f : A → B) (xs : List A) (r : ℕ) (x : A) (d : B) → slice_get xs r ≡ Some x → get_or (map f xs) r d ≡ f x
found f xs r x d e = get_or_from_slice_get (map f xs) r (f x) d (slice_get-map f xs r ∙ ap (option_map f) e)

pub inst_is : (p : PlantTold) (v r : ℕ) (inst : InstState) → inst_of p v r ≡ Some inst → inst_at (state_of p) v r ≡ inst_numbers inst
inst_is p v r inst e =
    ap (λ (xs : List (Option InstNumbers)). get_or xs r None) (replicas_are p v)
    ∙ found inst_numbers (replicas_of p v) r inst None e

-- ---- the numbers after a change

pub tail_changes : (p : PlantTold) (v : ℕ) (tail : TailHeld) → state_of (replace_tail p v tail) ≡ put_tail (state_of p) v tail.numbers
tail_changes p v tail =
    let P : List TailNumbers → State = λ tails. record (state_of p) { tails = tails } in
    ap P (map-set (λ (t : TailHeld). t.numbers) p.tails v tail)

pub inst_changes : (p : PlantTold) (v r : ℕ) (inst : InstState)
    → state_of (replace_inst p v r inst) ≡ put_inst (state_of p) v r (inst_numbers inst)
inst_changes p v r inst =
    let P : List (List (Option InstNumbers)) → State = λ insts. record (state_of p) { insts = insts } in
    let Q : List (Option InstNumbers) → State = λ xs. P (set (state_of p).insts v xs) in
    let R : List (Option InstNumbers) → State = λ xs. Q (set xs r (inst_numbers inst)) in
    ap P (map-set (map inst_numbers) p.insts v (set (replicas_of p v) r inst))
    ∙ ap Q (map-set inst_numbers (replicas_of p v) r inst)
    ∙ ap R (sym (replicas_are p v))

pub both_change : (p : PlantTold) (v r : ℕ) (inst : InstState) (tail : TailHeld)
    → state_of (replace_inst (replace_tail p v tail) v r inst) ≡ put_inst (put_tail (state_of p) v tail.numbers) v r (inst_numbers inst)
both_change p v r inst tail =
    inst_changes (replace_tail p v tail) v r inst
    ∙ ap (λ (s : State). put_inst s v r (inst_numbers inst)) (tail_changes p v tail)

-- a replica, or a tail, with the numbers that it had leaves all numbers as they were
pub inst_stays : (p : PlantTold) (v r : ℕ) (old inst : InstState) → inst_of p v r ≡ Some old → inst_numbers inst ≡ inst_numbers old
    → state_of (replace_inst p v r inst) ≡ state_of p
inst_stays p v r old inst is same =
    let s : State = state_of p in
    let P : List (List (Option InstNumbers)) → State = λ insts. record s { insts = insts } in
    let e : inst_numbers inst ≡ get_or (insts_at s v) r None = same ∙ sym (inst_is p v r old is) in
    inst_changes p v r inst
    ∙ ap (λ (i : Option InstNumbers). put_inst s v r i) e
    ∙ ap (λ (xs : List (Option InstNumbers)). P (set s.insts v xs)) (set-get_or (insts_at s v) r None)
    ∙ ap P (set-get_or s.insts v [])

pub tail_stays : (p : PlantTold) (v : ℕ) (tail : TailHeld) → tail.numbers ≡ (tail_of p v).numbers
    → state_of (replace_tail p v tail) ≡ state_of p
tail_stays p v tail same =
    let s : State = state_of p in
    let P : List TailNumbers → State = λ tails. record s { tails = tails } in
    tail_changes p v tail
    ∙ ap (λ (t : TailNumbers). put_tail s v t) (same ∙ sym (tail_is p v))
    ∙ ap P (set-get_or s.tails v new_tail)

pub vault_stays : (p : PlantTold) (vault : VaultTold) → numbers_of vault ≡ numbers_of p.vault
    → state_of (replace_vault p vault) ≡ state_of p
vault_stays p vault same =
    let P : VaultNumbers → State = λ n. record (state_of p) { vault = n } in
    ap P same

-- ---- that the parts still stand

pub stands_at : (p : PlantTold) (v r : ℕ) (inst : InstState) → PartsStand p → inst_of p v r ≡ Some inst → IsReplicaOf p.plan v inst
stands_at p v r inst parts e =
    let P : Option InstState → Type 0 = λ o. IfSome o (IsReplicaOf p.plan v) in
    subst P e (parts.insts v r)

pub parts_with_tail : (p : PlantTold) (v : ℕ) (tail : TailHeld) → PartsStand p → v < length p.tails → IsTailOf p.plan v tail
    → PartsStand (replace_tail p v tail)
parts_with_tail p v tail parts within stands = record {
  tails = λ w. ⊎_elim
      (λ (same : w ≡ v). subst (λ (u : ℕ). IsTailOf p.plan u (get_or (set p.tails v tail) u empty)) (sym same)
      (subst (λ (t : TailHeld). IsTailOf p.plan v t) (sym (get_or-set_same p.tails v tail empty within)) stands))
      (λ (other : w ≢ v). subst (λ (t : TailHeld). IsTailOf p.plan w t) (sym (get_or-set_other p.tails v w tail empty other)) (parts.tails w))
      (cases_eq w v);
  insts = parts.insts;
  vault = parts.vault;
}

-- one element of a list changed
get_set_same : (xs : List InstState) (r : ℕ) (x : InstState) → r < length xs → slice_get (set xs r x) r ≡ Some x
get_set_same xs r x within =
    let n : r < length (set xs r x) = omega (arith, length-set {A = InstState}) in
    slice_get-get_or (set xs r x) r x n ∙ ap Some (get_or-set_same xs r x x within)

get_set_other : (xs : List InstState) (r q : ℕ) (x : InstState) → q ≢ r → slice_get (set xs r x) q ≡ slice_get xs q
get_set_other xs r q x other = ⊎_elim
    (λ (h : (y : InstState) × (q < length xs) × (slice_get xs q ≡ Some y) × (get_or xs q y ≡ y)).
    let n : q < length (set xs r x) = let k = h.1 in omega (arith, length-set {A = InstState}) in
    slice_get-get_or (set xs r x) q h.0 n ∙ ap Some (get_or-set_other xs r q x h.0 other ∙ h.3) ∙ sym h.2)
    (λ (h : (length xs ≤ q) × (slice_get xs q ≡ None)).
    let n : length (set xs r x) ≤ q = let k = h.0 in omega (arith, length-set {A = InstState}) in
    slice_get_past (set xs r x) q n ∙ sym h.1)
    ((slice_get_cases xs q).1)

all_but_one : (xs : List InstState) (r : ℕ) (x : InstState) (P : InstState → Type 0) → r < length xs → P x
    → ((q : ℕ) → IfSome (slice_get xs q) P) → (q : ℕ) → IfSome (slice_get (set xs r x) q) P
all_but_one xs r x P within new old q =
    let Q : Option InstState → Type 0 = λ o. IfSome o P in
    ⊎_elim
    (λ (same : q ≡ r). subst (λ (i : ℕ). IfSome (slice_get (set xs r x) i) P) (sym same) (subst Q (sym (get_set_same xs r x within)) new))
    (λ (other : q ≢ r). subst Q (sym (get_set_other xs r q x other)) (old q))
    (cases_eq q r)

pub parts_with_inst : (p : PlantTold) (v r : ℕ) (inst : InstState) → PartsStand p → v < length p.insts → r < length (replicas_of p v)
    → IsReplicaOf p.plan v inst → PartsStand (replace_inst p v r inst)
parts_with_inst p v r inst parts within among stands =
    let ys : List InstState = set (replicas_of p v) r inst in
    let P : ℕ → List InstState → ℕ → Type 0 = λ w xs q. IfSome (slice_get xs q) (IsReplicaOf p.plan w) in
    record {
      tails = parts.tails;
      insts = λ w q. ⊎_elim
          (λ (same : w ≡ v). subst (λ (u : ℕ). P u (get_or (set p.insts v ys) u []) q) (sym same)
          (subst (λ (xs : List InstState). P v xs q) (sym (get_or-set_same p.insts v ys [] within))
          (all_but_one (replicas_of p v) r inst (IsReplicaOf p.plan v) among stands (parts.insts v) q)))
          (λ (other : w ≢ v). subst (λ (xs : List InstState). P w xs q) (sym (get_or-set_other p.insts v w ys [] other)) (parts.insts w q))
          (cases_eq w v);
      vault = parts.vault;
    }

pub parts_with_vault : (p : PlantTold) (vault : VaultTold) → PartsStand p → Sound p.plan vault → PartsStand (replace_vault p vault)
parts_with_vault p vault parts sound = record { tails = parts.tails; insts = parts.insts; vault = sound }

-- ---- where parts are

pub has_tail : (p : PlantTold) (v : ℕ) → Joint p → v < length (plan_numbers p.plan).vertices → v < length p.tails
has_tail p v joint within =
    let e : length (state_of p).tails ≡ length (plan_numbers p.plan).vertices = joint.numbers.tails in
    let same : length (state_of p).tails ≡ length p.tails = length-map p.tails (λ (t : TailHeld). t.numbers) in
    omega (arith, e, same, within)

pub has_replicas : (p : PlantTold) (v : ℕ) → Joint p → v < length (plan_numbers p.plan).vertices → v < length p.insts
has_replicas p v joint within =
    let e : length (state_of p).insts ≡ length (plan_numbers p.plan).vertices = joint.numbers.insts in
    let same : length (state_of p).insts ≡ length p.insts = length-map p.insts (map inst_numbers) in
    omega (arith, e, same, within)

pub has_replica : (p : PlantTold) (v r : ℕ) → Joint p → IsReplica (plan_numbers p.plan) v r → r < length (replicas_of p v)
has_replica p v r joint replica =
    let e = joint.numbers.replicas v in
    let few = replica.1 in
    let same : length (insts_at (state_of p) v) ≡ length (replicas_of p v) =
    ap (λ (xs : List (Option InstNumbers)). length xs) (replicas_are p v) ∙ length-map (replicas_of p v) inst_numbers in
    omega (arith, e, same, few)
