-- Reads: what their functions say of the parts, said of the job.
use Rattle.std.proofs.Common.{◌≡◌, ℕ, ◌&&◌, Bool, true, false, Option, Some, None, Result, Ok, Err, ap, ◌∙◌, sym, subst, refl, le-ltb, if◌then◌else◌}
use Rattle.std.proofs.lemmas.Bool.{false≢true}
use Rattle.std.specs.Prelude.{option_map, IfSome, is_ok}
use Rattle.ss_acts.specs.Calls.{ReadsTail, ReadsVault, ReadsList}
use Rattle.ss_acts.specs.Facts.{ActFacts}
use Rattle.ss_acts.specs.Faults.{Fails, IsFull, RefusesRead, FailsToRead, made_by}
use Rattle.ss_acts.specs.Leaves.{AsksVault, LeavesInst, Keeps, PutsToTakers}
use Rattle.ss_acts.specs.Parts.{IsReplicaOf, vertex_of}
use Rattle.ss_acts.specs.Readings.{IsReady, wanted_from, number_wanted, tail_reading, must_ask, vault_reading, list_reading}
use Rattle.ss_acts.specs.declared.fault.EngineFault.{EngineFault}
use Rattle.ss_acts.specs.declared.fault.EngineFault.TheVariants as fault
use Rattle.ss_acts.specs.declared.fault.ReadPart.TheVariants as read_part
use Rattle.ss_fail.specs.declared.act.Act.TheVariants as act
use Rattle.ss_fail.specs.declared.outcome.Outcome.{Outcome}
use Rattle.ss_frames.specs.Plans.{plan_numbers}
use Rattle.ss_plan.specs.Plan.{PlanText}
use Rattle.ss_state.specs.Acts.{InstStep, needs_vault, read_list}
use Rattle.ss_state.specs.Numbers.{JobNumbers, VertexNumbers, IsStream, is_inner, vertex, out}
use Rattle.ss_state.specs.State.{State, TailNumbers, InstNumbers, tail_at, inst_at, durable_at}
use Rattle.ss_state.specs.Step.{IsReplica, has_passed, is_full, read_at, read_inner, wanted_vertex}
use Rattle.ss_vault.specs.Calls.{IsOfLook}
use Rattle.ss_vault.specs.Sound.{Sound}
use Rattle.ss_vault.specs.Told.{VaultTold, durable_of}
use Rattle.ss_vault.specs.declared.fault.VaultFault.{VaultFault}
use Rattle.ss_vertex.specs.Inst.{InstState, Running, inst_numbers, running_numbers}
use Rattle.ss_vertex.specs.Standing.{Stands}
use Rattle.ss_water.specs.declared.node.Kind.{Kind}
use Rattle.ss_water.specs.declared.node.Kind.TheVariants.{Source}
use Rattle.ss_engine.specs.Applies.{AppliesJointly, CanMeet, IsFullAt, calls_vault}
use Rattle.ss_engine.specs.Laws.{ActLaws}
use Rattle.ss_engine.specs.Joint.{Joint}
use Rattle.ss_engine.specs.Told.{PlantTold, inst_of, state_of, tail_of}
use Rattle.ss_engine.proofs.Causes.{fails_keeps}
use Rattle.ss_engine.proofs.Made.{goes_on, keeps_all, not_called, puts_nothing, puts_to_none}
use Rattle.ss_engine.proofs.Parts.{replace_inst, replace_vault, stands_at, inst_is, tail_is}
use Rattle.ss_engine.proofs.Picking.{chosen, asks_alike, tail_answers, vault_answers}
use Rattle.ss_engine.proofs.Steps.{inst_made, inst_met}

-- ---- what a read does, told of the parts that it touches

read_list_is : (job : JobNumbers) (s : State) (v r : ℕ) → (vertex job v).kind ≡ Source
    → read_at job s v r ≡ read_list (vertex job v) (inst_at s v r) (durable_at s v).mark
unfolding read_at
read_list_is job s v r e =
    ap (λ (k : Kind). if is_inner k then read_inner job s v r else read_list (vertex job v) (inst_at s v r) (durable_at s v).mark) e

read_inner_is : (job : JobNumbers) (s : State) (v r : ℕ) → is_inner (vertex job v).kind ≡ true → read_at job s v r ≡ read_inner job s v r
unfolding read_at
read_inner_is job s v r e =
    ap (λ (b : Bool). if b then read_inner job s v r else read_list (vertex job v) (inst_at s v r) (durable_at s v).mark) e

pub reads_list : (p : PlantTold) (v r : ℕ) (old : InstState) → inst_of p v r ≡ Some old → old.v ≡ v
    → (vertex (plan_numbers p.plan) v).kind ≡ Source
    → read_at (plan_numbers p.plan) (state_of p) v r ≡ list_reading p.plan old p.vault
reads_list p v r old is of_v source =
    let job : JobNumbers = plan_numbers p.plan in
    read_list_is job (state_of p) v r source
    ∙ ap (λ (i : Option InstNumbers). read_list (vertex job v) i (durable_of p.vault v).mark) (inst_is p v r old is)
    ∙ ap (λ (w : ℕ). read_list (vertex job w) (inst_numbers old) (durable_of p.vault w).mark) (sym of_v)

-- of an operator, beside the tail of the input that it wants
abbrev chosen_of : PlantTold → InstState → InstStep
chosen_of p old = chosen (vertex (plan_numbers p.plan) old.v) (inst_numbers old) (tail_of p (wanted_from p.plan old)).numbers
    (durable_of p.vault (wanted_from p.plan old))

reads_chosen : (p : PlantTold) (v r : ℕ) (old : InstState) → inst_of p v r ≡ Some old → old.v ≡ v
    → is_inner (vertex (plan_numbers p.plan) v).kind ≡ true
    → read_at (plan_numbers p.plan) (state_of p) v r ≡ chosen_of p old
reads_chosen p v r old is of_v operator =
    let job : JobNumbers = plan_numbers p.plan in
    let s : State = state_of p in
    let P : VertexNumbers → Option InstNumbers → InstStep = λ x i. chosen x i (tail_at s (wanted_vertex x i)) (durable_at s (wanted_vertex x i)) in
    let x : VertexNumbers = vertex job old.v in
    let i : Option InstNumbers = inst_numbers old in
    read_inner_is job s v r operator
    ∙ ap (P (vertex job v)) (inst_is p v r old is)
    ∙ ap (λ (w : ℕ). P (vertex job w) i) (sym of_v)
    ∙ ap (λ (t : TailNumbers). chosen x i t (durable_at s (wanted_vertex x i))) (tail_is p (wanted_vertex x i))

-- the tail of vertex u was asked
pub reads_tail : (p : PlantTold) (v r u : ℕ) (old : InstState) → inst_of p v r ≡ Some old → old.v ≡ v
    → is_inner (vertex (plan_numbers p.plan) v).kind ≡ true
    → (IsReady p.plan old → u ≡ wanted_from p.plan old) → must_ask p.plan old (tail_of p u) ≡ false
    → read_at (plan_numbers p.plan) (state_of p) v r ≡ tail_reading p.plan old (tail_of p u)
reads_tail p v r u old is of_v operator wanted quiet =
    let w : ℕ = wanted_from p.plan old in
    reads_chosen p v r old is of_v operator
    ∙ tail_answers (vertex (plan_numbers p.plan) old.v) (inst_numbers old) (tail_of p u).numbers (tail_of p w).numbers (durable_of p.vault w)
    (λ ready. ap (λ (i : ℕ). (tail_of p i).numbers) (wanted ready)) quiet

pub reads_vault : (p : PlantTold) (v r u : ℕ) (old : InstState) → inst_of p v r ≡ Some old → old.v ≡ v
    → is_inner (vertex (plan_numbers p.plan) v).kind ≡ true
    → (IsReady p.plan old → u ≡ wanted_from p.plan old) → must_ask p.plan old (tail_of p u) ≡ true
    → read_at (plan_numbers p.plan) (state_of p) v r ≡ vault_reading p.plan old p.vault
reads_vault p v r u old is of_v operator wanted asked =
    let w : ℕ = wanted_from p.plan old in
    reads_chosen p v r old is of_v operator
    ∙ vault_answers (vertex (plan_numbers p.plan) old.v) (inst_numbers old) (tail_of p u).numbers (tail_of p w).numbers (durable_of p.vault w)
    (λ ready. ap (λ (i : ℕ). (tail_of p i).numbers) (wanted ready)) asked

-- ---- whether the vault is asked

pub list_asks : (p : PlantTold) (v r : ℕ) → (vertex (plan_numbers p.plan) v).kind ≡ Source → calls_vault p (act.Read v r) ≡ false
list_asks p v r source =
    let x : VertexNumbers = vertex (plan_numbers p.plan) v in
    let i : Option InstNumbers = inst_at (state_of p) v r in
    ap (λ (k : Kind). is_inner k && needs_vault x i (tail_at (state_of p) (wanted_vertex x i))) source

pub input_asks : (p : PlantTold) (v r u : ℕ) (old : InstState) → inst_of p v r ≡ Some old → old.v ≡ v
    → is_inner (vertex (plan_numbers p.plan) v).kind ≡ true → (IsReady p.plan old → u ≡ wanted_from p.plan old)
    → calls_vault p (act.Read v r) ≡ must_ask p.plan old (tail_of p u)
input_asks p v r u old is of_v operator wanted =
    let job : JobNumbers = plan_numbers p.plan in
    let s : State = state_of p in
    let P : VertexNumbers → Option InstNumbers → Bool = λ x i. needs_vault x i (tail_at s (wanted_vertex x i)) in
    let x : VertexNumbers = vertex job old.v in
    let i : Option InstNumbers = inst_numbers old in
    ap (λ (b : Bool). b && P (vertex job v) (inst_at s v r)) operator
    ∙ ap (P (vertex job v)) (inst_is p v r old is)
    ∙ ap (λ (w : ℕ). P (vertex job w) i) (sym of_v)
    ∙ ap (needs_vault x i) (tail_is p (wanted_vertex x i))
    ∙ asks_alike x i (tail_of p u).numbers (tail_of p (wanted_from p.plan old)).numbers (λ ready. ap (λ (w : ℕ). (tail_of p w).numbers) (wanted ready))

-- ---- a read that was made isn't full

running_within : (plan : PlanText) (v : ℕ) (running : Option Running) → ActFacts plan → IsStream (plan_numbers plan) v
    → IfSome running (Stands plan v)
    → has_passed (plan_numbers plan).max_elements (vertex_of plan v) (option_map running_numbers running) ≡ false
running_within plan v None facts stream stands = refl
running_within plan v (Some up) facts stream stands =
    let may = (facts.within v up.n stream).0 stands.within in
    le-ltb (plan_numbers plan).max_elements (out (vertex_of plan v) up.n) may.out

new_within : (plan : PlanText) (v : ℕ) (new : InstState) → ActFacts plan → IsStream (plan_numbers plan) v → IsReplicaOf plan v new
    → has_passed (plan_numbers plan).max_elements (vertex_of plan v) (inst_numbers new) ≡ false
new_within plan v new facts stream stands =
    running_within plan v new.running facts stream (subst (λ (w : ℕ). IfSome new.running (Stands plan w)) stands.vertex stands.stands.running)

-- ---- a read that was made, as its reading says

pub read_made : ActLaws → (p : PlantTold) (v r : ℕ) (old new : InstState) (u : VaultTold) (o : Outcome) (did : InstStep)
    → ActFacts p.plan → Joint p → IsReplica (plan_numbers p.plan) v r → old.v ≡ v
    → read_at (plan_numbers p.plan) (state_of p) v r ≡ did → LeavesInst did new o
    → IsReplicaOf p.plan old.v new → Sound p.plan u → Keeps p.vault u → AsksVault (calls_vault p (act.Read v r)) p.vault true u
    → PutsToTakers p.plan p.vault u
    → AppliesJointly p (act.Read v r) (Ok o) (replace_vault (replace_inst p v r new) u)
read_made laws p v r old new u o did facts joint replica of_v is left stands sound keeps asks outputs =
    let job : JobNumbers = plan_numbers p.plan in
    let here : IsReplicaOf p.plan v new = subst (λ (w : ℕ). IsReplicaOf p.plan w new) of_v stands in
    let within : is_full job (state_of p) (act.Read v r) ≡ false =
    ap (λ (d : InstStep). has_passed job.max_elements (vertex job v) d.inst) (is ∙ left) ∙ new_within p.plan v new facts replica.0 here in
    inst_made laws p v r (act.Read v r) new u o (read_at job (state_of p) v r) joint replica replica within refl (is ∙ left) here sound keeps asks outputs

-- ---- a read that was refused

full_at : (p : PlantTold) (v r : ℕ) (old : InstState) (did : InstStep) (w reached : ℕ) → ActFacts p.plan → old.v ≡ v
    → read_at (plan_numbers p.plan) (state_of p) v r ≡ did → IsFull p.plan old did w reached → IsFullAt p (act.Read v r) w reached
full_at p v r old did w reached facts of_v is full =
    let job : JobNumbers = plan_numbers p.plan in
    let here : InstStep = read_at job (state_of p) v r in (
      full.vertex ∙ of_v,
      full.is_reached ∙ ap (λ (i : ℕ). made_by (vertex job i) did.inst) of_v ∙ ap (λ (d : InstStep). made_by (vertex job v) d.inst) (sym is),
      ap (λ (d : InstStep). has_passed job.max_elements (vertex job v) d.inst) is
          ∙ ap (λ (i : ℕ). has_passed job.max_elements (vertex job i) did.inst) (sym of_v)
          ∙ ap (λ (most : ℕ). has_passed most (vertex job old.v) did.inst) facts.of_plan.most ∙ full.passed,
    )

-- a vertex that stays within the limit
not_full_at : (p : PlantTold) (v r : ℕ) (old : InstState) (did : InstStep) → old.v ≡ v
    → read_at (plan_numbers p.plan) (state_of p) v r ≡ did → ActFacts p.plan
    → has_passed p.plan.job.max_elements (vertex_of p.plan old.v) did.inst ≡ false
    → is_full (plan_numbers p.plan) (state_of p) (act.Read v r) ≡ false
not_full_at p v r old did of_v is facts within =
    let job : JobNumbers = plan_numbers p.plan in
    ap (λ (d : InstStep). has_passed job.max_elements (vertex job v) d.inst) is
    ∙ ap (λ (i : ℕ). has_passed job.max_elements (vertex job i) did.inst) (sym of_v)
    ∙ ap (λ (most : ℕ). has_passed most (vertex job old.v) did.inst) facts.of_plan.most ∙ within

pub read_refused : ActLaws → (p : PlantTold) (v r : ℕ) (old new : InstState) (did : InstStep) (f : EngineFault)
    → ActFacts p.plan → Joint p → IsReplica (plan_numbers p.plan) v r → inst_of p v r ≡ Some old → old.v ≡ v
    → read_at (plan_numbers p.plan) (state_of p) v r ≡ did → RefusesRead p.plan old did f → new ≡ old → IsReplicaOf p.plan old.v new
    → calls_vault p (act.Read v r) ≡ false
    → AppliesJointly p (act.Read v r) (Err f) (replace_inst p v r new)
read_refused laws p v r old new did (fault.Vault f) facts joint replica is of_v reads refused same stands calls = absurd refused
read_refused laws p v r old new did (fault.Full w reached) facts joint replica is of_v reads refused same stands calls =
    inst_met laws p v r (act.Read v r) old new p.vault (fault.Full w reached) joint replica replica (λ end e. e) is (ap inst_numbers same)
    (subst (λ (i : ℕ). IsReplicaOf p.plan i new) of_v stands) joint.parts.vault refl
    (full_at p v r old did w reached facts of_v reads refused, keeps_all p.vault)
    (subst (λ (b : Bool). AsksVault b p.vault false p.vault) (sym calls) (not_called false p.vault)) (puts_to_none p.plan _ p.vault p.vault refl)
read_refused laws p v r old new did fault.Memory facts joint replica is of_v reads refused same stands calls =
    inst_met laws p v r (act.Read v r) old new p.vault fault.Memory joint replica replica (λ end e. e) is (ap inst_numbers same)
    (subst (λ (i : ℕ). IsReplicaOf p.plan i new) of_v stands) joint.parts.vault refl
    (refl, λ quiet. not_full_at p v r old did of_v reads facts refused, goes_on p.vault)
    (subst (λ (b : Bool). AsksVault b p.vault false p.vault) (sym calls) (not_called false p.vault))
    (puts_to_none p.plan _ p.vault p.vault refl)

-- what is stored was asked in vain
look_fails : (p : PlantTold) (v r : ℕ) (old : InstState) (f : EngineFault) (u : VaultTold) → inst_of p v r ≡ Some old → old.v ≡ v
    → Fails (IsOfLook (wanted_from p.plan old) (number_wanted (vertex_of p.plan old.v) (inst_numbers old))) p.plan p.vault None f u
    → Fails (CanMeet p (act.Read v r)) p.plan p.vault None f u
look_fails p v r old f u is of_v h =
    let P : ℕ → Option InstNumbers → Type 0 = λ w i.
    Fails (IsOfLook (wanted_vertex (vertex_of p.plan w) i) (number_wanted (vertex_of p.plan w) i)) p.plan p.vault None f u in
    subst (P v) (sym (inst_is p v r old is)) (subst (λ (w : ℕ). P w (inst_numbers old)) of_v h)

pub read_failed : ActLaws → (p : PlantTold) (v r : ℕ) (old new : InstState) (u : VaultTold) (f : EngineFault)
    → ActFacts p.plan → Joint p → IsReplica (plan_numbers p.plan) v r → inst_of p v r ≡ Some old → old.v ≡ v
    → read_at (plan_numbers p.plan) (state_of p) v r ≡ vault_reading p.plan old p.vault
    → FailsToRead p.plan old p.vault f u → new ≡ old → IsReplicaOf p.plan old.v new → Sound p.plan u
    → calls_vault p (act.Read v r) ≡ true
    → AsksVault (calls_vault p (act.Read v r)) p.vault false u → u.outputs ≡ p.vault.outputs
    → AppliesJointly p (act.Read v r) (Err f) (replace_vault (replace_inst p v r new) u)
read_failed laws p v r old new u (fault.Vault f) facts joint replica is of_v reads failed same stands sound calls asks outputs =
    let Can : VaultFault → Type 0 = IsOfLook (wanted_from p.plan old) (number_wanted (vertex_of p.plan old.v) (inst_numbers old)) in
    inst_met laws p v r (act.Read v r) old new u (fault.Vault f) joint replica replica (λ end e. e) is (ap inst_numbers same)
    (subst (λ (i : ℕ). IsReplicaOf p.plan i new) of_v stands) sound (fails_keeps Can p.plan p.vault u (fault.Vault f) failed)
    (None, look_fails p v r old (fault.Vault f) u is of_v failed) asks (puts_to_none p.plan _ p.vault u outputs)
read_failed laws p v r old new u (fault.Full w reached) facts joint replica is of_v reads failed same stands sound calls asks outputs =
    inst_met laws p v r (act.Read v r) old new u (fault.Full w reached) joint replica replica (λ end e. e) is (ap inst_numbers same)
    (subst (λ (i : ℕ). IsReplicaOf p.plan i new) of_v stands) sound failed.1.numbers
    (full_at p v r old (vault_reading p.plan old p.vault) w reached facts of_v reads failed.0, failed.1)
    asks (puts_to_none p.plan _ p.vault u outputs)
read_failed laws p v r old new u fault.Memory facts joint replica is of_v reads failed same stands sound calls asks outputs =
    inst_met laws p v r (act.Read v r) old new u fault.Memory joint replica replica (λ end e. e) is (ap inst_numbers same)
    (subst (λ (i : ℕ). IsReplicaOf p.plan i new) of_v stands) sound failed.numbers
    (refl, λ quiet. absurd (false≢true (sym quiet ∙ calls)), failed.goes) asks (puts_to_none p.plan _ p.vault u outputs)

-- ---- what each function says

pub list_applies : ActLaws → (p : PlantTold) (v r : ℕ) (old new : InstState) (result : Result Outcome EngineFault)
    → ActFacts p.plan → Joint p → IsReplica (plan_numbers p.plan) v r → inst_of p v r ≡ Some old
    → (vertex (plan_numbers p.plan) v).kind ≡ Source → IsReplicaOf p.plan old.v new → ReadsList p.plan old p.vault result new
    → AppliesJointly p (act.Read v r) result (replace_inst p v r new)
list_applies laws p v r old new (Ok o) facts joint replica is source stands left =
    let of_v : old.v ≡ v = (stands_at p v r old joint.parts is).vertex in
    read_made laws p v r old new p.vault o (list_reading p.plan old p.vault) facts joint replica of_v (reads_list p v r old is of_v source) left stands
    joint.parts.vault (keeps_all p.vault)
    (subst (λ (b : Bool). AsksVault b p.vault true p.vault) (sym (list_asks p v r source)) (not_called true p.vault))
    (puts_nothing p.plan p.vault p.vault refl)
list_applies laws p v r old new (Err f) facts joint replica is source stands left =
    let of_v : old.v ≡ v = (stands_at p v r old joint.parts is).vertex in
    read_refused laws p v r old new (list_reading p.plan old p.vault) f facts joint replica is of_v (reads_list p v r old is of_v source)
    left.0 left.1 stands (list_asks p v r source)

-- the tail of vertex u answered
pub tail_applies : ActLaws → (p : PlantTold) (v r u : ℕ) (old new : InstState) (o : Outcome)
    → ActFacts p.plan → Joint p → IsReplica (plan_numbers p.plan) v r → inst_of p v r ≡ Some old
    → is_inner (vertex (plan_numbers p.plan) v).kind ≡ true → (IsReady p.plan old → u ≡ wanted_from p.plan old)
    → IsReplicaOf p.plan old.v new → ReadsTail p.plan old (tail_of p u) (Ok (read_part.Did o)) new
    → AppliesJointly p (act.Read v r) (Ok o) (replace_inst p v r new)
tail_applies laws p v r u old new o facts joint replica is operator wanted stands left =
    let of_v : old.v ≡ v = (stands_at p v r old joint.parts is).vertex in
    read_made laws p v r old new p.vault o (tail_reading p.plan old (tail_of p u)) facts joint replica of_v
    (reads_tail p v r u old is of_v operator wanted left.0) left.1 stands joint.parts.vault (keeps_all p.vault)
    (subst (λ (b : Bool). AsksVault b p.vault true p.vault) (sym (input_asks p v r u old is of_v operator wanted ∙ left.0)) (not_called true p.vault))
    (puts_nothing p.plan p.vault p.vault refl)

-- or it refused
pub refused_applies : ActLaws → (p : PlantTold) (v r u : ℕ) (old new : InstState) (f : EngineFault)
    → ActFacts p.plan → Joint p → IsReplica (plan_numbers p.plan) v r → inst_of p v r ≡ Some old
    → is_inner (vertex (plan_numbers p.plan) v).kind ≡ true → (IsReady p.plan old → u ≡ wanted_from p.plan old)
    → IsReplicaOf p.plan old.v new → ReadsTail p.plan old (tail_of p u) (Err f) new
    → AppliesJointly p (act.Read v r) (Err f) (replace_inst p v r new)
refused_applies laws p v r u old new f facts joint replica is operator wanted stands left =
    let of_v : old.v ≡ v = (stands_at p v r old joint.parts is).vertex in
    read_refused laws p v r old new (tail_reading p.plan old (tail_of p u)) f facts joint replica is of_v
    (reads_tail p v r u old is of_v operator wanted left.0) left.1 left.2 stands (input_asks p v r u old is of_v operator wanted ∙ left.0)

-- what is stored was asked
pub kept_applies : ActLaws → (p : PlantTold) (v r u : ℕ) (old new : InstState) (after : VaultTold) (result : Result Outcome EngineFault)
    → ActFacts p.plan → Joint p → IsReplica (plan_numbers p.plan) v r → inst_of p v r ≡ Some old
    → is_inner (vertex (plan_numbers p.plan) v).kind ≡ true → (IsReady p.plan old → u ≡ wanted_from p.plan old)
    → must_ask p.plan old (tail_of p u) ≡ true → IsReplicaOf p.plan old.v new → Sound p.plan after
    → ReadsVault p.plan old p.vault result new after → AsksVault true p.vault (is_ok result) after → after.outputs ≡ p.vault.outputs
    → AppliesJointly p (act.Read v r) result (replace_vault (replace_inst p v r new) after)
kept_applies laws p v r u old new after (Ok o) facts joint replica is operator wanted asked stands sound left asks outputs =
    let of_v : old.v ≡ v = (stands_at p v r old joint.parts is).vertex in
    read_made laws p v r old new after o (vault_reading p.plan old p.vault) facts joint replica of_v
    (reads_vault p v r u old is of_v operator wanted asked) left.0 stands sound left.1
    (subst (λ (b : Bool). AsksVault b p.vault true after) (sym (input_asks p v r u old is of_v operator wanted ∙ asked)) asks)
    (puts_nothing p.plan p.vault after outputs)
kept_applies laws p v r u old new after (Err f) facts joint replica is operator wanted asked stands sound left asks outputs =
    let of_v : old.v ≡ v = (stands_at p v r old joint.parts is).vertex in
    read_failed laws p v r old new after f facts joint replica is of_v (reads_vault p v r u old is of_v operator wanted asked)
    left.0 left.1 stands sound (input_asks p v r u old is of_v operator wanted ∙ asked)
    (subst (λ (b : Bool). AsksVault b p.vault false after) (sym (input_asks p v r u old is of_v operator wanted ∙ asked)) asks) outputs
