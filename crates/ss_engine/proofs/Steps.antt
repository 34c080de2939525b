-- An act by the parts that it touches: what it left of them is what it leaves of the job.
use Rattle.std.proofs.Common.{◌≡◌, ℕ, true, false, Some, Ok, Err, ap, ◌∙◌, sym, subst, refl}
use Rattle.ss_acts.specs.Leaves.{AsksVault, Goes, Keeps, PutsToNoOther, PutsToTakers, sink_failed}
use Rattle.ss_acts.specs.Parts.{IsTailOf, IsReplicaOf}
use Rattle.ss_acts.specs.declared.fault.EngineFault.{EngineFault}
use Rattle.ss_fail.specs.declared.act.Act.{Act}
use Rattle.ss_fail.specs.declared.outcome.Outcome.{Outcome}
use Rattle.ss_frames.specs.Plans.{plan_numbers}
use Rattle.ss_state.specs.Acts.{InstStep, InstAndTailStep, TailStep, TailAndVaultStep, VaultStep}
use Rattle.ss_state.specs.Numbers.{IsStream}
use Rattle.ss_state.specs.State.{State}
use Rattle.ss_state.specs.Step.{Step, step, is_full, Left, MayAct, IsReplica, with_inst, with_inst_and_tail, with_tail, with_tail_and_vault, with_vault}
use Rattle.ss_tail.specs.Held.{TailHeld}
use Rattle.ss_vault.specs.Sound.{Sound}
use Rattle.ss_vault.specs.Told.{VaultTold, numbers_of}
use Rattle.ss_vertex.specs.Inst.{InstState, inst_numbers}
use Rattle.ss_engine.specs.Applies.{AppliesJointly, IsCause, calls_vault, kind_of, sink_of}
use Rattle.ss_engine.specs.Laws.{ActLaws}
use Rattle.ss_engine.specs.Joint.{PartsStand, Joint}
use Rattle.ss_engine.specs.Told.{PlantTold, inst_of, state_of, tail_of}
use Rattle.ss_engine.proofs.Made.{made, met, goes_on, puts_nothing}
use Rattle.ss_engine.proofs.Parts.{replace_tail, replace_inst, replace_vault, inst_changes, both_change, tail_changes, inst_stays, tail_stays, vault_stays, parts_with_tail, parts_with_inst, parts_with_vault, has_tail, has_replicas, has_replica}

abbrev leads_to : Outcome → State → Step
leads_to o s = record { state = s; outcome = o }

-- ---- a replica, beside a vault with the numbers that it had

pub inst_made : ActLaws → (p : PlantTold) (v r : ℕ) (a : Act) (new : InstState) (u : VaultTold) (o : Outcome) (did : InstStep)
    → Joint p → IsReplica (plan_numbers p.plan) v r → MayAct (plan_numbers p.plan) a → is_full (plan_numbers p.plan) (state_of p) a ≡ false
    → step (plan_numbers p.plan) (state_of p) a ≡ with_inst (state_of p) v r did
    → did ≡ record { inst = inst_numbers new; outcome = o }
    → IsReplicaOf p.plan v new → Sound p.plan u → Keeps p.vault u → AsksVault (calls_vault p a) p.vault true u
    → PutsToTakers p.plan p.vault u
    → AppliesJointly p a (Ok o) (replace_vault (replace_inst p v r new) u)
inst_made laws p v r a new u o did joint replica may within is left stands sound keeps asks outputs =
    let q : PlantTold = replace_vault (replace_inst p v r new) u in
    let parts : PartsStand (replace_inst p v r new) =
    parts_with_inst p v r new joint.parts (has_replicas p v joint replica.0.0) (has_replica p v r joint replica) stands in
    let to : state_of q ≡ state_of (replace_inst p v r new) = vault_stays (replace_inst p v r new) u keeps.numbers in
    made laws p q a o joint may within (parts_with_vault (replace_inst p v r new) u parts sound) refl
    (is ∙ ap (with_inst (state_of p) v r) left ∙ ap (leads_to o) (sym (inst_changes p v r new)) ∙ ap (leads_to o) (sym to))
    keeps.goes asks outputs

pub inst_met : ActLaws → (p : PlantTold) (v r : ℕ) (a : Act) (old new : InstState) (u : VaultTold) (f : EngineFault)
    → Joint p → IsReplica (plan_numbers p.plan) v r → MayAct (plan_numbers p.plan) a
    → ((end : State) → end ≡ state_of p → Left (plan_numbers p.plan) (state_of p) a (kind_of f) end)
    → inst_of p v r ≡ Some old → inst_numbers new ≡ inst_numbers old
    → IsReplicaOf p.plan v new → Sound p.plan u → numbers_of u ≡ numbers_of p.vault
    → IsCause p a (replace_vault (replace_inst p v r new) u) f → AsksVault (calls_vault p a) p.vault false u
    → PutsToNoOther p.plan (sink_failed (sink_of a) f) p.vault u
    → AppliesJointly p a (Err f) (replace_vault (replace_inst p v r new) u)
inst_met laws p v r a old new u f joint replica may left is same stands sound kept cause asks outputs =
    let q : PlantTold = replace_vault (replace_inst p v r new) u in
    let parts : PartsStand (replace_inst p v r new) =
    parts_with_inst p v r new joint.parts (has_replicas p v joint replica.0.0) (has_replica p v r joint replica) stands in
    met laws p q a f joint may (parts_with_vault (replace_inst p v r new) u parts sound) refl
    (left (state_of q) (vault_stays (replace_inst p v r new) u kept ∙ inst_stays p v r old new is same)) cause asks outputs

-- ---- a replica and the tail of its vertex

abbrev pub replace_both : PlantTold → ℕ → ℕ → InstState → TailHeld → VaultTold → PlantTold
replace_both p v r new rest u = replace_vault (replace_inst (replace_tail p v rest) v r new) u

parts_with_both : (p : PlantTold) (v r : ℕ) (new : InstState) (rest : TailHeld) (u : VaultTold) → Joint p
    → IsReplica (plan_numbers p.plan) v r → IsReplicaOf p.plan v new → IsTailOf p.plan v rest → Sound p.plan u
    → PartsStand (replace_both p v r new rest u)
parts_with_both p v r new rest u joint replica stands tail sound =
    let one : PartsStand (replace_tail p v rest) = parts_with_tail p v rest joint.parts (has_tail p v joint replica.0.0) tail in
    let two : PartsStand (replace_inst (replace_tail p v rest) v r new) =
    parts_with_inst (replace_tail p v rest) v r new one (has_replicas p v joint replica.0.0) (has_replica p v r joint replica) stands in
    parts_with_vault (replace_inst (replace_tail p v rest) v r new) u two sound

pub both_made : ActLaws → (p : PlantTold) (v r : ℕ) (a : Act) (new : InstState) (rest : TailHeld) (u : VaultTold) (o : Outcome) (did : InstAndTailStep)
    → Joint p → IsReplica (plan_numbers p.plan) v r → MayAct (plan_numbers p.plan) a → is_full (plan_numbers p.plan) (state_of p) a ≡ false
    → step (plan_numbers p.plan) (state_of p) a ≡ with_inst_and_tail (state_of p) v r did
    → did ≡ record { inst = inst_numbers new; tail = rest.numbers; outcome = o }
    → IsReplicaOf p.plan v new → IsTailOf p.plan v rest → Sound p.plan u → Keeps p.vault u → AsksVault (calls_vault p a) p.vault true u
    → PutsToTakers p.plan p.vault u
    → AppliesJointly p a (Ok o) (replace_both p v r new rest u)
both_made laws p v r a new rest u o did joint replica may within is left stands tail sound keeps asks outputs =
    let q : PlantTold = replace_both p v r new rest u in
    let to : state_of q ≡ state_of (replace_inst (replace_tail p v rest) v r new) =
    vault_stays (replace_inst (replace_tail p v rest) v r new) u keeps.numbers in
    made laws p q a o joint may within (parts_with_both p v r new rest u joint replica stands tail sound) refl
    (is ∙ ap (with_inst_and_tail (state_of p) v r) left ∙ ap (leads_to o) (sym (both_change p v r new rest)) ∙ ap (leads_to o) (sym to))
    keeps.goes asks outputs

pub both_met : ActLaws → (p : PlantTold) (v r : ℕ) (a : Act) (old new : InstState) (rest : TailHeld) (u : VaultTold) (f : EngineFault)
    → Joint p → IsReplica (plan_numbers p.plan) v r → MayAct (plan_numbers p.plan) a
    → ((end : State) → end ≡ state_of p → Left (plan_numbers p.plan) (state_of p) a (kind_of f) end)
    → inst_of p v r ≡ Some old → inst_numbers new ≡ inst_numbers old → rest.numbers ≡ (tail_of p v).numbers
    → IsReplicaOf p.plan v new → IsTailOf p.plan v rest → Sound p.plan u → numbers_of u ≡ numbers_of p.vault
    → IsCause p a (replace_both p v r new rest u) f → AsksVault (calls_vault p a) p.vault false u
    → PutsToNoOther p.plan (sink_failed (sink_of a) f) p.vault u
    → AppliesJointly p a (Err f) (replace_both p v r new rest u)
both_met laws p v r a old new rest u f joint replica may left is same same_tail stands tail sound kept cause asks outputs =
    let q : PlantTold = replace_both p v r new rest u in
    let to : state_of q ≡ state_of p =
    vault_stays (replace_inst (replace_tail p v rest) v r new) u kept
    ∙ inst_stays (replace_tail p v rest) v r old new is same ∙ tail_stays p v rest same_tail in
    met laws p q a f joint may (parts_with_both p v r new rest u joint replica stands tail sound) refl (left (state_of q) to) cause asks outputs

-- ---- a tail, and perhaps the vault

pub tail_made : ActLaws → (p : PlantTold) (v : ℕ) (a : Act) (rest : TailHeld) (o : Outcome) (did : TailStep)
    → Joint p → IsStream (plan_numbers p.plan) v → MayAct (plan_numbers p.plan) a → is_full (plan_numbers p.plan) (state_of p) a ≡ false
    → step (plan_numbers p.plan) (state_of p) a ≡ with_tail (state_of p) v did
    → did ≡ record { tail = rest.numbers; outcome = o } → IsTailOf p.plan v rest
    → AsksVault (calls_vault p a) p.vault true p.vault
    → AppliesJointly p a (Ok o) (replace_tail p v rest)
tail_made laws p v a rest o did joint stream may within is left tail asks =
    made laws p (replace_tail p v rest) a o joint may within (parts_with_tail p v rest joint.parts (has_tail p v joint stream.0) tail) refl
    (is ∙ ap (with_tail (state_of p) v) left ∙ ap (leads_to o) (sym (tail_changes p v rest)))
    (goes_on p.vault) asks (puts_nothing p.plan p.vault p.vault refl)

abbrev pub replace_tail_and_vault : PlantTold → ℕ → TailHeld → VaultTold → PlantTold
replace_tail_and_vault p v rest u = replace_vault (replace_tail p v rest) u

pub tail_and_vault_made : ActLaws → (p : PlantTold) (v : ℕ) (a : Act) (rest : TailHeld) (u : VaultTold) (o : Outcome) (did : TailAndVaultStep)
    → Joint p → IsStream (plan_numbers p.plan) v → MayAct (plan_numbers p.plan) a → is_full (plan_numbers p.plan) (state_of p) a ≡ false
    → step (plan_numbers p.plan) (state_of p) a ≡ with_tail_and_vault (state_of p) v did
    → did ≡ record { tail = rest.numbers; vault = numbers_of u; outcome = o }
    → IsTailOf p.plan v rest → Sound p.plan u → Goes p.vault u → AsksVault (calls_vault p a) p.vault true u
    → PutsToTakers p.plan p.vault u
    → AppliesJointly p a (Ok o) (replace_tail_and_vault p v rest u)
tail_and_vault_made laws p v a rest u o did joint stream may within is left tail sound goes asks outputs =
    let parts : PartsStand (replace_tail p v rest) = parts_with_tail p v rest joint.parts (has_tail p v joint stream.0) tail in
    let beside : State → Step = λ s. record { state = record s { vault = numbers_of u }; outcome = o } in
    made laws p (replace_tail_and_vault p v rest u) a o joint may within (parts_with_vault (replace_tail p v rest) u parts sound) refl
    (is ∙ ap (with_tail_and_vault (state_of p) v) left ∙ ap beside (sym (tail_changes p v rest)))
    goes asks outputs

pub tail_and_vault_met : ActLaws → (p : PlantTold) (v : ℕ) (a : Act) (rest : TailHeld) (u : VaultTold) (f : EngineFault)
    → Joint p → IsStream (plan_numbers p.plan) v → MayAct (plan_numbers p.plan) a
    → Left (plan_numbers p.plan) (state_of p) a (kind_of f) (record (state_of p) { vault = numbers_of u })
    → rest.numbers ≡ (tail_of p v).numbers → IsTailOf p.plan v rest → Sound p.plan u
    → IsCause p a (replace_tail_and_vault p v rest u) f → AsksVault (calls_vault p a) p.vault false u
    → PutsToNoOther p.plan (sink_failed (sink_of a) f) p.vault u
    → AppliesJointly p a (Err f) (replace_tail_and_vault p v rest u)
tail_and_vault_met laws p v a rest u f joint stream may left same tail sound cause asks outputs =
    let parts : PartsStand (replace_tail p v rest) = parts_with_tail p v rest joint.parts (has_tail p v joint stream.0) tail in
    let beside : State → State = λ s. record s { vault = numbers_of u } in
    let to : state_of (replace_tail_and_vault p v rest u) ≡ beside (state_of p) = ap beside (tail_stays p v rest same) in
    met laws p (replace_tail_and_vault p v rest u) a f joint may (parts_with_vault (replace_tail p v rest) u parts sound) refl
    (subst (λ (s : State). Left (plan_numbers p.plan) (state_of p) a (kind_of f) s) (sym to) left) cause asks outputs

-- ---- the vault alone

pub vault_made : ActLaws → (p : PlantTold) (a : Act) (u : VaultTold) (o : Outcome) (did : VaultStep)
    → Joint p → MayAct (plan_numbers p.plan) a → is_full (plan_numbers p.plan) (state_of p) a ≡ false
    → step (plan_numbers p.plan) (state_of p) a ≡ with_vault (state_of p) did
    → did ≡ record { vault = numbers_of u; outcome = o } → Sound p.plan u → Goes p.vault u → AsksVault (calls_vault p a) p.vault true u
    → PutsToTakers p.plan p.vault u
    → AppliesJointly p a (Ok o) (replace_vault p u)
vault_made laws p a u o did joint may within is left sound goes asks outputs =
    made laws p (replace_vault p u) a o joint may within (parts_with_vault p u joint.parts sound) refl
    (is ∙ ap (with_vault (state_of p)) left) goes asks outputs

pub vault_met : ActLaws → (p : PlantTold) (a : Act) (u : VaultTold) (f : EngineFault)
    → Joint p → MayAct (plan_numbers p.plan) a
    → ((end : State) → end ≡ state_of p → Left (plan_numbers p.plan) (state_of p) a (kind_of f) end)
    → Sound p.plan u → numbers_of u ≡ numbers_of p.vault → IsCause p a (replace_vault p u) f → AsksVault (calls_vault p a) p.vault false u
    → PutsToNoOther p.plan (sink_failed (sink_of a) f) p.vault u
    → AppliesJointly p a (Err f) (replace_vault p u)
vault_met laws p a u f joint may left sound kept cause asks outputs =
    met laws p (replace_vault p u) a f joint may (parts_with_vault p u joint.parts sound) refl
    (left (state_of (replace_vault p u)) (vault_stays p u kept)) cause asks outputs
