-- What the laws of plans and of runs say of one plan, gathered for the calls of its vault.
use Rattle.std.specs.Prelude.{◌≡◌, ℕ, ◌^◌, ◌<◌, ◌≤◌, IsSome, Some, length, slice_get, slice_index, List}
use Rattle.ss_elem.specs.Validity.{Whole}
use Rattle.ss_expr.specs.declared.stream_operator.Spec.{Spec}
use Rattle.ss_codec.specs.Frame.{IsFrame, frame_bytes}
use Rattle.ss_codec.specs.declared.frame.Frame.{Frame}
use Rattle.ss_frames.specs.First.{first_frame}
use Rattle.ss_frames.specs.Frames.{frame_of}
use Rattle.ss_frames.specs.Plans.{plan_numbers}
use Rattle.ss_frames.specs.Snapshot.{IsSnapshot}
use Rattle.ss_frames.specs.Within.{AreKept}
use Rattle.ss_job.specs.JobText.{spec_of}
use Rattle.ss_job.specs.Sound.{IsFrom}
use Rattle.ss_meaning.specs.Meaning.{meaning}
use Rattle.ss_plan.specs.Limit.{IsPlan}
use Rattle.ss_plan.specs.Plan.{PlanText, inputs_read, vertices_of}
use Rattle.ss_state.specs.IsNumbers.{IsNumbers}
use Rattle.ss_state.specs.Joint.{MayAccept}
use Rattle.ss_state.specs.Laws.{EntriesKeepSound, FirstStateIsJoint, LeastWantedIsOne, MarkIsBelowStart, NeedIsLeast}
use Rattle.ss_state.specs.Laws.{NeededIsThere, PassCollectsExactly, SnapshotsAreThere}
use Rattle.ss_state.specs.Numbers.{IsOperator, IsSink, IsStream, vertex, input, out, pos, size}
use Rattle.ss_water.specs.declared.node.Node.{Node}
use Rattle.ss_vault.specs.Sound.{sink_file}

-- a frame is that of vertex v after n elements, and can be stored
pub record IsCoded (plan : PlanText) (v n : ℕ) (f : Frame) : Type 0 where
  pub is_frame : IsFrame f
  pub few : length (frame_bytes f) < 2 ^ 32
  pub of_vertex : f.v ≡ v
  pub number : f.n ≡ n
  pub given : f.out ≡ out (vertex (plan_numbers plan) v) n
  pub read : (i : ℕ) → i < length (vertex (plan_numbers plan) v).inputs
      → slice_index f.pos i ≡ pos (vertex (plan_numbers plan) v) n i

-- of runs with any numbers
pub record RunFacts : Type 0 where
  pub entries : EntriesKeepSound
  pub first : FirstStateIsJoint

-- of collection, with any numbers
pub record CollectionFacts : Type 0 where
  pub one : LeastWantedIsOne
  pub need : NeedIsLeast
  pub elements : NeededIsThere
  pub snapshots : SnapshotsAreThere
  pub mark : MarkIsBelowStart
  pub passed : PassCollectsExactly

-- of the numbers of a plan
pub record PlanFacts (plan : PlanText) : Type 0 where
  pub is : IsPlan plan
  pub numbers : IsNumbers (plan_numbers plan)
  pub few : length (plan_numbers plan).vertices ≤ 32
  pub count : length (plan_numbers plan).vertices ≡ length plan.job.graph
  pub most : (plan_numbers plan).max_elements ≡ plan.job.max_elements
  pub limit : plan.job.max_elements ≤ 131072
  -- between two passes at least a whole batch may be stored
  pub collect_every : (plan_numbers plan).collect_every ≡ plan.job.collect_every
  pub collects : IsFrom 64 131072 plan.job.collect_every
  pub size : (v : ℕ) → IsStream (plan_numbers plan) v
      → size (vertex (plan_numbers plan) v) ≡ length (meaning (vertices_of plan) v)
  pub whole : (v : ℕ) → IsStream (plan_numbers plan) v → Whole (meaning (vertices_of plan) v)
  pub kinds : (v : ℕ) (node : Node) → slice_get plan.job.graph v ≡ Some node
      → (vertex (plan_numbers plan) v).kind ≡ node.kind
  -- a vertex reads what its node says
  pub inputs : (v : ℕ) (node : Node) → slice_get plan.job.graph v ≡ Some node
      → (vertex (plan_numbers plan) v).inputs ≡ inputs_read node
  -- an operator has what it computes, and nothing else has
  pub operator : (v : ℕ) → IsOperator (plan_numbers plan) v → IsSome (spec_of plan.job v)
  pub computes : (v : ℕ) (operator : Spec) → spec_of plan.job v ≡ Some operator → IsOperator (plan_numbers plan) v
  -- a sink has a file of its own, and reads what its node says
  pub file : (k : ℕ) → IsSink (plan_numbers plan) k → IsSome (sink_file plan k)
  pub files : (j k : ℕ) (file : List ℕ) → sink_file plan j ≡ Some file → sink_file plan k ≡ Some file → j ≡ k
  pub reads : (k : ℕ) (node : Node) → IsSink (plan_numbers plan) k → slice_get plan.job.graph k ≡ Some node
      → slice_index node.inputs 0 ≡ input (vertex (plan_numbers plan) k) 0

-- of the snapshots of a plan's operators
pub record SnapshotFacts (plan : PlanText) : Type 0 where
  -- one that an operator may have come to has a code, and says where it stands
  pub coded : (v n : ℕ) → IsOperator (plan_numbers plan) v
      → MayAccept (plan_numbers plan).max_elements (vertex (plan_numbers plan) v) n
      → IsCoded plan v n (frame_of plan v n)
  -- a snapshot is of an operator, and one that it may have come to, and the other way round
  pub operator : (f : Frame) → IsSnapshot plan f → IsOperator (plan_numbers plan) f.v
  pub accepted : (f : Frame) → IsSnapshot plan f
      → MayAccept (plan_numbers plan).max_elements (vertex (plan_numbers plan) f.v) f.n
  pub snapshot : (v n : ℕ) → IsOperator (plan_numbers plan) v
      → MayAccept (plan_numbers plan).max_elements (vertex (plan_numbers plan) v) n → AreKept plan v n
      → IsSnapshot plan (frame_of plan v n)
  -- before anything was read
  pub first : (v : ℕ) (operator : Spec) (node : Node) → spec_of plan.job v ≡ Some operator
      → slice_get plan.job.graph v ≡ Some node → frame_of plan v 0 ≡ first_frame v operator node.width
