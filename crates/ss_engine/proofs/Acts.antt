-- Each act of a replica, a tail or a sink, but reads and flushes: what its function says of the parts, said of the job.
use Rattle.std.proofs.Common.{◌≡◌, ℕ, max, Bool, true, false, List, Option, Some, None, Result, Ok, Err, ap, ◌∙◌, sym, subst, refl}
use Rattle.std.specs.Prelude.{is_ok}
use Rattle.ss_acts.specs.Calls.{Writes, Loads, Snaps, TakesLine, snapshot_loaded}
use Rattle.ss_acts.specs.Faults.{Fails}
use Rattle.ss_acts.specs.Leaves.{AsksVault, LeavesInst, LeavesTail, PutsBy}
use Rattle.ss_acts.specs.Parts.{IsTailOf, IsReplicaOf, vertex_of}
use Rattle.ss_acts.specs.Readings.{has_snapshot, must_fetch, must_keep, needs_snapshot}
use Rattle.ss_acts.specs.declared.fault.EngineFault.{EngineFault}
use Rattle.ss_acts.specs.declared.fault.EngineFault.TheVariants as fault
use Rattle.ss_elem.specs.declared.element.Element.{Element}
use Rattle.ss_fail.specs.declared.act.Act.TheVariants as act
use Rattle.ss_fail.specs.declared.outcome.Outcome.{Outcome}
use Rattle.ss_frames.specs.Plans.{plan_numbers}
use Rattle.ss_meaning.specs.Meaning.{meaning}
use Rattle.ss_plan.specs.Plan.{PlanText, vertices_of}
use Rattle.ss_state.specs.Acts.{crash_act, lose_act, write_act, load_act, snap_act, take_act}
use Rattle.ss_state.specs.Numbers.{JobNumbers, IsSink, IsStream, vertex, input}
use Rattle.ss_state.specs.State.{State, TailNumbers, InstNumbers, tail_at, inst_at, durable_at}
use Rattle.ss_state.specs.Step.{IsReplica}
use Rattle.ss_tail.specs.Held.{TailHeld, Stands}
use Rattle.ss_vault.specs.Answers.{fetched}
use Rattle.ss_vault.specs.Calls.{IsOfStore, IsOfLook, IsOfPut}
use Rattle.ss_vault.specs.Sound.{Sound}
use Rattle.ss_vault.specs.Told.{VaultTold, durable_of, numbers_of}
use Rattle.ss_vault.specs.declared.fault.VaultFault.{VaultFault}
use Rattle.ss_vertex.specs.Inst.{InstState, inst_numbers}
use Rattle.ss_vertex.specs.Standing.{InstStands}
use Rattle.ss_engine.specs.Applies.{AppliesJointly}
use Rattle.ss_engine.specs.Laws.{ActLaws}
use Rattle.ss_engine.specs.Joint.{Joint}
use Rattle.ss_engine.specs.Told.{PlantTold, inst_of, state_of, tail_of}
use Rattle.ss_engine.proofs.Causes.{fails_keeps, fails_is_cause}
use Rattle.ss_engine.proofs.Made.{goes_on, keeps_all, not_called, puts_nothing, puts_to_none}
use Rattle.ss_engine.proofs.Parts.{replace_tail, replace_inst, replace_vault, stands_at, inst_is, tail_is}
use Rattle.ss_engine.proofs.Steps.{inst_made, both_made, both_met, replace_both, tail_made, vault_made, vault_met}

pub crash_applies : ActLaws → (p : PlantTold) (v r : ℕ) (old new : InstState) (o : Outcome)
    → Joint p → IsReplica (plan_numbers p.plan) v r → inst_of p v r ≡ Some old
    → new.v ≡ old.v → ((plan : PlanText) → InstStands plan old → InstStands plan new)
    → LeavesInst (crash_act (inst_numbers old)) new o
    → AppliesJointly p (act.Crash v r) (Ok o) (replace_inst p v r new)
crash_applies laws p v r old new o joint replica is same keeps left =
    let stood : IsReplicaOf p.plan v old = stands_at p v r old joint.parts is in
    let stands : IsReplicaOf p.plan v new = record { vertex = same ∙ stood.vertex; stands = keeps p.plan stood.stands } in
    inst_made laws p v r (act.Crash v r) new p.vault o (crash_act (inst_at (state_of p) v r)) joint replica replica refl refl
    (ap crash_act (inst_is p v r old is) ∙ left) stands joint.parts.vault (keeps_all p.vault) (not_called true p.vault) (puts_nothing p.plan p.vault p.vault refl)

-- ---- write

written_is : (p : PlantTold) (v r : ℕ) (old : InstState) → inst_of p v r ≡ Some old → old.v ≡ v
    → write_act (vertex (plan_numbers p.plan) v) (inst_at (state_of p) v r) (tail_at (state_of p) v)
    ≡ write_act (vertex (plan_numbers p.plan) old.v) (inst_numbers old) (tail_of p v).numbers
written_is p v r old is of_v =
    let job : JobNumbers = plan_numbers p.plan in
    ap (λ (i : Option InstNumbers). write_act (vertex job v) i (tail_at (state_of p) v)) (inst_is p v r old is)
    ∙ ap (λ (t : TailNumbers). write_act (vertex job v) (inst_numbers old) t) (tail_is p v)
    ∙ ap (λ (w : ℕ). write_act (vertex job w) (inst_numbers old) (tail_of p v).numbers) (sym of_v)

pub write_applies : ActLaws → (p : PlantTold) (v r : ℕ) (old new : InstState) (rest : TailHeld)
    (result : Result Outcome EngineFault)
    → Joint p → IsReplica (plan_numbers p.plan) v r → inst_of p v r ≡ Some old
    → IsReplicaOf p.plan old.v new → IsTailOf p.plan old.v rest → Writes p.plan old (tail_of p v) result new rest
    → AppliesJointly p (act.Write v r) result (replace_both p v r new rest p.vault)
write_applies laws p v r old new rest (Ok o) joint replica is stands tail left =
    let of_v : old.v ≡ v = (stands_at p v r old joint.parts is).vertex in
    both_made laws p v r (act.Write v r) new rest p.vault o
    (write_act (vertex (plan_numbers p.plan) v) (inst_at (state_of p) v r) (tail_at (state_of p) v))
    joint replica replica refl refl (written_is p v r old is of_v ∙ left)
    (subst (λ (w : ℕ). IsReplicaOf p.plan w new) of_v stands) (subst (λ (w : ℕ). IsTailOf p.plan w rest) of_v tail)
    joint.parts.vault (keeps_all p.vault) (not_called true p.vault) (puts_nothing p.plan p.vault p.vault refl)
write_applies laws p v r old new rest (Err f) joint replica is stands tail left =
    let of_v : old.v ≡ v = (stands_at p v r old joint.parts is).vertex in
    let q : PlantTold = replace_both p v r new rest p.vault in
    subst (λ (e : EngineFault). AppliesJointly p (act.Write v r) (Err e) q) (sym left.0)
    (both_met laws p v r (act.Write v r) old new rest p.vault fault.Memory joint replica replica (λ end e. e) is
    (ap inst_numbers left.1) (ap (λ (t : TailHeld). t.numbers) left.2)
    (subst (λ (w : ℕ). IsReplicaOf p.plan w new) of_v stands) (subst (λ (w : ℕ). IsTailOf p.plan w rest) of_v tail)
    joint.parts.vault refl (refl, λ quiet. refl, goes_on p.vault) (not_called false p.vault) (puts_to_none p.plan _ p.vault p.vault refl))

-- ---- load

loaded_is : (p : PlantTold) (v r : ℕ) (old : InstState) → inst_of p v r ≡ Some old → old.v ≡ v
    → load_act (vertex (plan_numbers p.plan) v) (inst_at (state_of p) v r) (tail_at (state_of p) v) (durable_at (state_of p) v)
    ≡ load_act (vertex (plan_numbers p.plan) old.v) (inst_numbers old) (tail_of p v).numbers (durable_of p.vault old.v)
loaded_is p v r old is of_v =
    let job : JobNumbers = plan_numbers p.plan in
    ap (λ (i : Option InstNumbers). load_act (vertex job v) i (tail_at (state_of p) v) (durable_of p.vault v)) (inst_is p v r old is)
    ∙ ap (λ (t : TailNumbers). load_act (vertex job v) (inst_numbers old) t (durable_of p.vault v)) (tail_is p v)
    ∙ ap (λ (w : ℕ). load_act (vertex job w) (inst_numbers old) (tail_of p v).numbers (durable_of p.vault w)) (sym of_v)

-- which snapshot it asks for, and whether it asks
load_fails : (p : PlantTold) (v : ℕ) (old : InstState) (f : EngineFault) (u : VaultTold) → old.v ≡ v
    → Fails (IsOfLook old.v (snapshot_loaded p.plan old (tail_of p v) p.vault)) p.plan p.vault None f u
    → Fails (IsOfLook v (fetched (plan_numbers p.plan) (numbers_of p.vault).ledger v (max (tail_at (state_of p) v).end (durable_of p.vault v).dur)))
    p.plan p.vault None f u
load_fails p v old f u of_v h =
    let job : JobNumbers = plan_numbers p.plan in
    let P : ℕ → ℕ → Type 0 = λ w end. Fails (IsOfLook w (fetched job (numbers_of p.vault).ledger w (max end (durable_of p.vault w).dur))) p.plan p.vault None f u in
    subst (P v) (ap (λ (t : TailNumbers). t.end) (sym (tail_is p v))) (subst (λ (w : ℕ). P w (tail_of p v).numbers.end) of_v h)

load_asks : (p : PlantTold) (v r : ℕ) (old : InstState) (made : Bool) (u : VaultTold) → inst_of p v r ≡ Some old → old.v ≡ v
    → AsksVault (must_fetch p.plan old) p.vault made u → AsksVault (needs_snapshot (vertex_of p.plan v) (inst_at (state_of p) v r)) p.vault made u
load_asks p v r old made u is of_v h =
    subst (λ (i : Option InstNumbers). AsksVault (needs_snapshot (vertex_of p.plan v) i) p.vault made u) (sym (inst_is p v r old is))
    (subst (λ (w : ℕ). AsksVault (needs_snapshot (vertex_of p.plan w) (inst_numbers old)) p.vault made u) of_v h)

pub load_applies : ActLaws → (p : PlantTold) (v r : ℕ) (old new : InstState) (rest : TailHeld) (u : VaultTold)
    (result : Result Outcome EngineFault)
    → Joint p → IsReplica (plan_numbers p.plan) v r → inst_of p v r ≡ Some old
    → IsReplicaOf p.plan old.v new → IsTailOf p.plan old.v rest → Sound p.plan u
    → Loads p.plan old (tail_of p v) p.vault result new rest u → AsksVault (must_fetch p.plan old) p.vault (is_ok result) u
    → u.outputs ≡ p.vault.outputs
    → AppliesJointly p (act.Load v r) result (replace_both p v r new rest u)
load_applies laws p v r old new rest u (Ok o) joint replica is stands tail sound left asks outputs =
    let of_v : old.v ≡ v = (stands_at p v r old joint.parts is).vertex in
    both_made laws p v r (act.Load v r) new rest u o
    (load_act (vertex (plan_numbers p.plan) v) (inst_at (state_of p) v r) (tail_at (state_of p) v) (durable_at (state_of p) v))
    joint replica replica refl refl (loaded_is p v r old is of_v ∙ left.0)
    (subst (λ (w : ℕ). IsReplicaOf p.plan w new) of_v stands) (subst (λ (w : ℕ). IsTailOf p.plan w rest) of_v tail)
    sound left.1 (load_asks p v r old true u is of_v asks) (puts_nothing p.plan p.vault u outputs)
load_applies laws p v r old new rest u (Err f) joint replica is stands tail sound left asks outputs =
    let of_v : old.v ≡ v = (stands_at p v r old joint.parts is).vertex in
    both_met laws p v r (act.Load v r) old new rest u f joint replica replica (λ end e. e) is
    (ap inst_numbers left.1) (ap (λ (t : TailHeld). t.numbers) left.2)
    (subst (λ (w : ℕ). IsReplicaOf p.plan w new) of_v stands) (subst (λ (w : ℕ). IsTailOf p.plan w rest) of_v tail)
    sound (fails_keeps (IsOfLook old.v (snapshot_loaded p.plan old (tail_of p v) p.vault)) p.plan p.vault u f left.0)
    (fails_is_cause p (replace_both p v r new rest u) (act.Load v r) None f refl (λ quiet. refl) (load_fails p v old f u of_v left.0))
    (load_asks p v r old false u is of_v asks) (puts_to_none p.plan _ p.vault u outputs)

-- ---- lose

pub lose_applies : ActLaws → (p : PlantTold) (v : ℕ) (rest : TailHeld) (o : Outcome)
    → Joint p → IsStream (plan_numbers p.plan) v
    → ((list : List Element) (most : ℕ) → Stands list most (tail_of p v) → Stands list most rest)
    → LeavesTail (lose_act (tail_of p v).numbers) rest o
    → AppliesJointly p (act.Lose v) (Ok o) (replace_tail p v rest)
lose_applies laws p v rest o joint stream keeps left =
    let tail : IsTailOf p.plan v rest = keeps (meaning (vertices_of p.plan) v) p.plan.job.max_elements (joint.parts.tails v) in
    tail_made laws p v (act.Lose v) rest o (lose_act (tail_at (state_of p) v)) joint stream stream refl refl
    (ap lose_act (tail_is p v) ∙ left) tail (not_called true p.vault)

-- ---- snap, take

snap_asks : (p : PlantTold) (v r : ℕ) (old : InstState) (made : Bool) (u : VaultTold) → inst_of p v r ≡ Some old → old.v ≡ v
    → AsksVault (must_keep p.plan old) p.vault made u → AsksVault (has_snapshot (vertex_of p.plan v) (inst_at (state_of p) v r)) p.vault made u
snap_asks p v r old made u is of_v h =
    subst (λ (i : Option InstNumbers). AsksVault (has_snapshot (vertex_of p.plan v) i) p.vault made u) (sym (inst_is p v r old is))
    (subst (λ (w : ℕ). AsksVault (has_snapshot (vertex_of p.plan w) (inst_numbers old)) p.vault made u) of_v h)

pub snap_applies : ActLaws → (p : PlantTold) (v r : ℕ) (old : InstState) (u : VaultTold)
    (result : Result Outcome EngineFault)
    → Joint p → IsReplica (plan_numbers p.plan) v r → inst_of p v r ≡ Some old
    → Sound p.plan u → Snaps p.plan old p.vault result u → AsksVault (must_keep p.plan old) p.vault (is_ok result) u
    → u.outputs ≡ p.vault.outputs
    → AppliesJointly p (act.Snap v r) result (replace_vault p u)
snap_applies laws p v r old u (Ok o) joint replica is sound left asks outputs =
    let job : JobNumbers = plan_numbers p.plan in
    let s : State = state_of p in
    let of_v : old.v ≡ v = (stands_at p v r old joint.parts is).vertex in
    let same : snap_act job v (inst_at s v r) s.vault ≡ snap_act job old.v (inst_numbers old) s.vault =
    ap (λ (i : Option InstNumbers). snap_act job v i s.vault) (inst_is p v r old is)
    ∙ ap (λ (w : ℕ). snap_act job w (inst_numbers old) s.vault) (sym of_v) in
    vault_made laws p (act.Snap v r) u o (snap_act job v (inst_at s v r) s.vault) joint replica refl refl
    (same ∙ left.0) sound left.1 (snap_asks p v r old true u is of_v asks) (puts_nothing p.plan p.vault u outputs)
snap_applies laws p v r old u (Err f) joint replica is sound left asks outputs =
    let of_v : old.v ≡ v = (stands_at p v r old joint.parts is).vertex in
    vault_met laws p (act.Snap v r) u f joint replica (λ end e. e) sound (fails_keeps IsOfStore p.plan p.vault u f left)
    (fails_is_cause p (replace_vault p u) (act.Snap v r) None f refl (λ quiet. refl) left) (snap_asks p v r old false u is of_v asks)
    (puts_to_none p.plan _ p.vault u outputs)

pub take_applies : ActLaws → (p : PlantTold) (k : ℕ) (u : VaultTold) (result : Result Outcome EngineFault)
    → Joint p → IsSink (plan_numbers p.plan) k
    → Sound p.plan u → TakesLine p.plan k p.vault result u → AsksVault true p.vault (is_ok result) u → PutsBy p.plan (Some k) p.vault result u
    → AppliesJointly p (act.Take k) result (replace_vault p u)
take_applies laws p k u (Ok o) joint sink sound left asks outputs =
    vault_made laws p (act.Take k) u o (take_act (plan_numbers p.plan) k (state_of p).vault) joint sink refl refl left.0 sound left.1 asks outputs
take_applies laws p k u (Err f) joint sink sound left asks outputs =
    let Can : VaultFault → Type 0 = IsOfPut (input (vertex (plan_numbers p.plan) k) 0) (durable_of p.vault k).taken in
    vault_met laws p (act.Take k) u f joint sink (λ end e. e) sound (fails_keeps Can p.plan p.vault u f left)
    (fails_is_cause p (replace_vault p u) (act.Take k) None f refl (λ quiet. refl) left) asks outputs
