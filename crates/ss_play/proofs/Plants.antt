-- What a running job that is joint tells, as its numbers have it.
use Rattle.std.proofs.Common.{◌≡◌, ℕ, ◌<◌, List, [], length, get_or, map, Option, Some, None, IfSome}
use Rattle.std.proofs.Common.{sym, ap, ◌∙◌, subst, arith}
use Rattle.std.specs.Prelude.{All}
use Rattle.std.proofs.lemmas.List.{get_or-map, length-map}
use Rattle.std.proofs.lemmas.Option.{slice_get_within, get_or_from_slice_get}
use Rattle.ss_acts.specs.Parts.{IsReplicaOf}
use Rattle.ss_engine.specs.Applies.{MayApply}
use Rattle.ss_engine.specs.Joint.{Joint}
use Rattle.ss_engine.specs.Plays.{acts_of, made_of}
use Rattle.ss_engine.specs.Told.{PlantTold, inst_of, replicas_of, state_of}
use Rattle.ss_fail.specs.declared.act.Act.{Act}
use Rattle.ss_fail.specs.declared.act.Act.TheVariants as act
use Rattle.ss_fail.specs.declared.outcome.Outcome.{Outcome}
use Rattle.ss_fail.specs.declared.outcome.Outcome.TheVariants as outcome
use Rattle.ss_frames.specs.Plans.{plan_numbers}
use Rattle.ss_plan.specs.Plan.{PlanText}
use Rattle.ss_report.specs.TraceText.{IsActOf}
use Rattle.ss_state.specs.Numbers.{vertex}
use Rattle.ss_state.specs.State.{InstNumbers, insts_at}
use Rattle.ss_state.specs.Step.{Made, MayAct}
use Rattle.ss_vertex.specs.Inst.{InstState, inst_numbers}

-- ---- acts that can be made name vertices with roles

in_roles : (plan : PlanText) (v : ℕ) → length (plan_numbers plan).vertices ≡ length plan.job.roles → v < length (plan_numbers plan).vertices
    → v < length plan.job.roles
in_roles plan v count h = omega (arith, count, h)

may_be_told : (plan : PlanText) → length (plan_numbers plan).vertices ≡ length plan.job.roles → (a : Act) → MayAct (plan_numbers plan) a
    → IsActOf plan.job.roles a
may_be_told plan count (act.Read v r) may = in_roles plan v count may.0.0
may_be_told plan count (act.Write v r) may = in_roles plan v count may.0.0
may_be_told plan count (act.Snap v r) may = in_roles plan v count may.0.0
may_be_told plan count (act.Crash v r) may = in_roles plan v count may.0.0
may_be_told plan count (act.Load v r) may = in_roles plan v count may.0.0
may_be_told plan count (act.Lose v) may = in_roles plan v count may.0
may_be_told plan count (act.Flush v most) may = in_roles plan v count may.0.0
may_be_told plan count (act.Take k) may = in_roles plan k count may.0
may_be_told plan count (act.Collect v) may = in_roles plan v count may.0
may_be_told plan count (act.Trim v) may = in_roles plan v count may.0
may_be_told plan count act.Pass may = tt

no_made : Made
no_made = record { act = act.Pass; outcome = outcome.Idle }

pub pairs_told : (plan : PlanText) → length (plan_numbers plan).vertices ≡ length plan.job.roles → (pairs : List (Act × Outcome)) → All (MayAct (plan_numbers plan)) (acts_of (made_of pairs))
    → All (λ pair. IsActOf plan.job.roles pair.0) pairs
pairs_told plan count pairs may k d lt =
    let many : length (made_of pairs) ≡ length pairs = length-map pairs _ in
    let lt2 : k < length (made_of pairs) = omega (arith, lt, many) in
    let one : get_or (made_of pairs) k no_made ≡ record { act = (get_or pairs k d).0; outcome = (get_or pairs k d).1 } =
    get_or-map (λ pair. record { act = pair.0; outcome = pair.1 }) pairs k d no_made lt in
    let two : get_or (acts_of (made_of pairs)) k act.Pass ≡ (get_or (made_of pairs) k no_made).act =
    get_or-map (λ m. m.act) (made_of pairs) k no_made act.Pass lt2 in
    let same : get_or (acts_of (made_of pairs)) k act.Pass ≡ (get_or pairs k d).0 = two ∙ ap (λ (m : Made). m.act) one in
    let more : length (acts_of (made_of pairs)) ≡ length (made_of pairs) = length-map (made_of pairs) _ in
    may_be_told plan count (get_or pairs k d).0
    (subst (MayAct (plan_numbers plan)) same (may k act.Pass (omega (arith, lt2, more))))

-- ---- the parts of a job that is joint

has_insts : (p : PlantTold) → Joint p → (v : ℕ) → v < length (plan_numbers p.plan).vertices → v < length p.insts
has_insts p joint v h =
    let insts = joint.numbers.insts in
    let many : length (state_of p).insts ≡ length p.insts = length-map p.insts (map inst_numbers) in
    omega (arith, insts, many, h)

insts_are : (p : PlantTold) → Joint p → (v : ℕ) → v < length (plan_numbers p.plan).vertices
    → insts_at (state_of p) v ≡ map inst_numbers (replicas_of p v)
insts_are p joint v h = get_or-map (map inst_numbers) p.insts v [] [] (has_insts p joint v h)

-- a vertex has as many replicas as its numbers say
many_insts : (p : PlantTold) → Joint p → (v : ℕ) → v < length (plan_numbers p.plan).vertices
    → length (replicas_of p v) ≡ (vertex (plan_numbers p.plan) v).replicas
many_insts p joint v h =
    sym (length-map (replicas_of p v) inst_numbers) ∙ sym (ap length (insts_are p joint v h)) ∙ joint.numbers.replicas v

-- replica r has the numbers of the instance that is found there
pub inst_is : (p : PlantTold) → Joint p → (v r : ℕ) (inst : InstState) → v < length (plan_numbers p.plan).vertices
    → inst_of p v r ≡ Some inst → get_or (insts_at (state_of p) v) r None ≡ inst_numbers inst
inst_is p joint v r inst h e =
    ap (λ (insts : List (Option InstNumbers)). get_or insts r None) (insts_are p joint v h)
    ∙ get_or-map inst_numbers (replicas_of p v) r inst None (slice_get_within (replicas_of p v) r inst e)
    ∙ ap inst_numbers (get_or_from_slice_get (replicas_of p v) r inst inst e)

pub inst_stands : (p : PlantTold) → Joint p → (v r : ℕ) (inst : InstState) → inst_of p v r ≡ Some inst → IsReplicaOf p.plan v inst
inst_stands p joint v r inst e =
    subst (λ (o : Option InstState). IfSome o (IsReplicaOf p.plan v)) e (joint.parts.insts v r)

-- there is such a replica
pub inst_within : (p : PlantTold) → Joint p → (v r : ℕ) (inst : InstState) → v < length (plan_numbers p.plan).vertices
    → inst_of p v r ≡ Some inst → r < length (insts_at (state_of p) v)
inst_within p joint v r inst h e =
    let lt = slice_get_within (replicas_of p v) r inst e in
    let many = many_insts p joint v h in
    let all = joint.numbers.replicas v in
    omega (arith, lt, many, all)

-- acts that can be made on a job are acts of its numbers
pub may_act : (plan : PlanText) (acts : List Act) → All (MayApply plan) acts → All (MayAct (plan_numbers plan)) acts
may_act plan acts may = may
