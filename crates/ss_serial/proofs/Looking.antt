-- What is told of a running job's parts, as its numbers have it.
use Rattle.std.proofs.Common.{◌≡◌, ◌∙◌, ℕ, ◌<◌, Option, Some, None, List, [], length, get_or, map, sym, ap, subst, arith}
use Rattle.std.specs.Prelude.{IfSome, option_map}
use Rattle.std.proofs.Math.ListN.{get_or-map}
use Rattle.std.proofs.lemmas.List.{length-map}
use Rattle.std.proofs.lemmas.Option.{get_or_from_slice_get, slice_get-map}
use Rattle.ss_acts.specs.Parts.{IsReplicaOf}
use Rattle.ss_engine.specs.Joint.{Joint, PartsStand}
use Rattle.ss_engine.specs.Told.{PlantTold, inst_of, replicas_of, state_of, tail_of}
use Rattle.ss_frames.specs.Plans.{plan_numbers}
use Rattle.ss_plan.specs.Plan.{PlanText}
use Rattle.ss_state.specs.Numbers.{IsStream, vertex}
use Rattle.ss_state.specs.State.{InstNumbers, inst_at, insts_at, tail_at}
use Rattle.ss_tail.specs.Held.{TailHeld, empty}
use Rattle.ss_vertex.specs.Inst.{InstState, inst_numbers}

-- ---- the parts

pub tail_is : (p : PlantTold) (v : ℕ) → tail_at (state_of p) v ≡ (tail_of p v).numbers
tail_is p v = get_or-map (λ (tail : TailHeld). tail.numbers) p.tails v empty

replicas_are : (p : PlantTold) (v : ℕ) → insts_at (state_of p) v ≡ map inst_numbers (replicas_of p v)
replicas_are p v = get_or-map (map inst_numbers) p.insts v []

pub inst_is : (p : PlantTold) (v r : ℕ) (inst : InstState) → inst_of p v r ≡ Some inst → inst_at (state_of p) v r ≡ inst_numbers inst
inst_is p v r inst e =
    ap (λ (xs : List (Option InstNumbers)). get_or xs r None) (replicas_are p v)
    ∙ get_or_from_slice_get (map inst_numbers (replicas_of p v)) r (inst_numbers inst) None
    (slice_get-map inst_numbers (replicas_of p v) r ∙ ap (option_map inst_numbers) e)

pub stands : (p : PlantTold) (v r : ℕ) (inst : InstState) → PartsStand p → inst_of p v r ≡ Some inst → IsReplicaOf p.plan v inst
stands p v r inst parts e = subst (λ (o : Option InstState). IfSome o (IsReplicaOf p.plan v)) e (parts.insts v r)

-- ---- how many there are

pub tails_many : (p : PlantTold) → Joint p → length p.tails ≡ length (plan_numbers p.plan).vertices
tails_many p joint = sym (length-map p.tails (λ (tail : TailHeld). tail.numbers)) ∙ joint.numbers.tails

pub insts_many : (p : PlantTold) → Joint p → length p.insts ≡ length (plan_numbers p.plan).vertices
insts_many p joint = sym (length-map p.insts (map inst_numbers)) ∙ joint.numbers.insts

pub replicas_many : (p : PlantTold) (v : ℕ) → Joint p → length (replicas_of p v) ≡ (vertex (plan_numbers p.plan) v).replicas
replicas_many p v joint =
    sym (ap length (replicas_are p v) ∙ length-map (replicas_of p v) inst_numbers) ∙ joint.numbers.replicas v

pub has_first : (p : PlantTold) (v : ℕ) → Joint p → IsStream (plan_numbers p.plan) v → 0 < length (replicas_of p v)
has_first p v joint stream =
    let some = (joint.numbers.numbers.each v stream.0).replicas stream.1 in
    let many = replicas_many p v joint in
    omega (arith, some, many)

-- the vertex of a replica, as its plan has it
pub own_vertex : (p : PlantTold) (plan : PlanText) (v w : ℕ) → plan ≡ p.plan → w ≡ v
    → vertex (plan_numbers plan) w ≡ vertex (plan_numbers p.plan) v
own_vertex p plan v w same is =
    ap (λ (t : PlanText). vertex (plan_numbers t) w) same ∙ ap (vertex (plan_numbers p.plan)) is
