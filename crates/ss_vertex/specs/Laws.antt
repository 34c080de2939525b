-- What holds of instances that stand.
use Rattle.std.specs.Prelude.{◌≡◌, ℕ, ◌+◌, ◌<◌, ◌≤◌, nat_lt, if◌then◌else◌, true, List, Option, Some, None}
use Rattle.std.specs.Prelude.{option_map, IfSome}
use Rattle.std.specs.Prelude.{get_or, take, All}
use Rattle.ss_codec.specs.declared.frame.Frame.{Frame}
use Rattle.ss_elem.specs.Validity.{top}
use Rattle.ss_frames.specs.Snapshot.{IsSnapshot}
use Rattle.ss_meaning.specs.Meaning.{Vertex, meaning}
use Rattle.ss_plan.specs.Limit.{IsPlan}
use Rattle.ss_plan.specs.Plan.{PlanText, vertices_of}
use Rattle.ss_state.specs.Acts as act
use Rattle.ss_state.specs.Numbers.{VertexNumbers, is_inner, vertex, input, mlen, out, wanted_input, wanted_number}
use Rattle.ss_state.specs.NumbersOfMeaning.{Policy, Limits, job_numbers}
use Rattle.ss_state.specs.State.{next}
use Rattle.ss_vertex.specs.Arriving.{wanted, taken}
use Rattle.ss_vertex.specs.Calls.{FitsVertex, given_after, with_one_more}
use Rattle.ss_vertex.specs.Inst.{InstState, inst_numbers, running_numbers, is_up, n_of, held_of, with_one_done}
use Rattle.ss_vertex.specs.Standing.{InstStands}
use Rattle.ss_water.specs.declared.node.Kind.TheVariants.{Source}

-- two instances of one vertex with the same numbers are the same in everything: what is left of their outputs, what
-- their operators remember, and so the bytes of their snapshots
abbrev pub ReplicasAreEqual : Type 0
ReplicasAreEqual =
    (plan : PlanText) (a b : InstState) → InstStands plan a → InstStands plan b
    → a.v ≡ b.v → inst_numbers a ≡ inst_numbers b → a ≡ b

-- what arrives next, as the numbers of its vertex tell it
abbrev pub wanted_in : VertexNumbers → ℕ → Option (ℕ × ℕ)
wanted_in x n = if nat_lt n (mlen x) then Some (wanted_input x n, wanted_number x n) else None

-- the inputs of vertex v are the streams that its numbers name
abbrev pub TakesItsInputs : List Vertex → ℕ → VertexNumbers → Type 0
TakesItsInputs job v x = (i : ℕ) → taken job v i ≡ meaning job (input x i)

-- an instance is to the acts what its numbers are
pub record IsNumbered (plan : PlanText) (x : VertexNumbers) (inst : InstState) : Type 0 where
  -- an operator has no list, and a source one of as many elements as it accepts
  pub operator : is_inner x.kind ≡ true → inst.list ≡ None
  pub source : x.kind ≡ Source → inst.list ≡ Some (mlen x)
  -- what it wants, and in which stream; a source wants of its own
  pub wanted : (n : ℕ) → n ≤ mlen x → wanted (vertices_of plan) inst.v n ≡ wanted_in x n
  pub read : is_inner x.kind ≡ true → TakesItsInputs (vertices_of plan) inst.v x
  pub listed : x.kind ≡ Source → (i : ℕ) → taken (vertices_of plan) inst.v i ≡ meaning (vertices_of plan) inst.v
  pub reached : n_of inst ≤ mlen x
  -- the number of its next output, and what becomes of it
  pub next : IfSome inst.running (λ up. up.next ≡ next x (running_numbers up))
  pub accepts : inst_numbers (with_one_more plan inst) ≡ option_map (λ up. act.accepted x up.n) inst.running
  pub given : n_of inst < mlen x → given_after plan inst ≡ out x (n_of inst + 1)
  pub done : inst_numbers (with_one_done inst) ≡ option_map act.with_one_written (inst_numbers inst)
  -- how many entries its operator holds
  pub held : is_up inst ≡ true → is_inner x.kind ≡ true → held_of inst ≡ get_or x.held (n_of inst) 0

abbrev pub InstancesAreNumbered : Type 0
InstancesAreNumbered =
    (plan : PlanText) (policies : List Policy) (limits : Limits) (inst : InstState) → IsPlan plan
    → InstStands plan inst → IsNumbered plan (vertex (job_numbers (vertices_of plan) policies limits) inst.v) inst

-- a snapshot is one of its vertex, from which an instance may go on
abbrev pub SnapshotsFit : Type 0
SnapshotsFit =
    (plan : PlanText) (f : Frame) → IsPlan plan → IsSnapshot plan f
    → FitsVertex plan f.v f × All (λ b. b ≤ top) (take f.width f.bounds)
