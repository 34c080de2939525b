-- What is true of the numbers and the snapshots of every plan.
use Rattle.std.specs.Prelude.{◌≡◌, ℕ, ◌^◌, ◌<◌, ◌≤◌, ◌↔◌, IsSome, Some, length, slice_get, All}
use Rattle.ss_codec.specs.Frame.{IsFrame, frame_bytes}
use Rattle.ss_codec.specs.Record.{HasRecord}
use Rattle.ss_expr.specs.declared.stream_operator.Spec.{Spec}
use Rattle.ss_job.specs.JobText.{spec_of}
use Rattle.ss_meaning.specs.Meaning.{meaning}
use Rattle.ss_meaning.specs.Positions.{mlen}
use Rattle.ss_plan.specs.Limit.{IsPlan}
use Rattle.ss_plan.specs.Plan.{PlanText, vertices_of}
use Rattle.ss_state.specs.IsNumbers.{IsNumbers}
use Rattle.ss_state.specs.Joint.{MayAccept}
use Rattle.ss_state.specs.Numbers.{IsStream, vertex}
use Rattle.ss_state.specs.NumbersOfMeaning.{IsRunnable}
use Rattle.ss_water.specs.declared.node.Node.{Node}
use Rattle.ss_frames.specs.First.{first_frame}
use Rattle.ss_frames.specs.Frames.{frame_of, inputs_at}
use Rattle.ss_frames.specs.Plans.{plan_numbers, policies_of, limits_of, AreOfPlan}
use Rattle.ss_frames.specs.Ranges.{IsOfProgram}
use Rattle.ss_frames.specs.Within.{IsWithin, IsOfMeaning, AreFew, entries_at}

-- what a plan means can be run, as its job says
abbrev pub PlansAreRunnable : Type 0
PlansAreRunnable =
    (plan : PlanText) → IsPlan plan → IsRunnable (vertices_of plan) (policies_of plan.job) (limits_of plan.job)

-- the numbers of a plan are such as the laws of runs ask
abbrev pub PlansHaveNumbers : Type 0
PlansHaveNumbers = (plan : PlanText) → IsPlan plan → IsNumbers (plan_numbers plan)

-- and they are those of its meaning and its job
abbrev pub PlanNumbersAreMeant : Type 0
PlanNumbersAreMeant = (plan : PlanText) → IsPlan plan → AreOfPlan plan (plan_numbers plan)

-- a vertex has as many inputs as its node is wide
abbrev pub InputsAreOfNodes : Type 0
InputsAreOfNodes =
    (plan : PlanText) → IsPlan plan → (v : ℕ) (node : Node) → slice_get plan.job.graph v ≡ Some node
    → inputs_at plan v ≡ node.width

-- the snapshot of an operator that has read nothing
abbrev pub FirstFrames : Type 0
FirstFrames =
    (plan : PlanText) → IsPlan plan → (v : ℕ) (operator : Spec) → spec_of plan.job v ≡ Some operator
    → frame_of plan v 0 ≡ first_frame v operator (inputs_at plan v)

-- the numbers of a snapshot are those of the meaning
abbrev pub FramesAreMeant : Type 0
FramesAreMeant =
    (plan : PlanText) → IsPlan plan → (v n : ℕ) (operator : Spec) → spec_of plan.job v ≡ Some operator
    → n ≤ mlen (vertices_of plan) v → IsOfMeaning plan v n operator (frame_of plan v n)

-- a vertex that gives a stream stands within the job's limit where the plan's numbers let it accept so many
abbrev pub WithinIsMayAccept : Type 0
WithinIsMayAccept =
    (plan : PlanText) → IsPlan plan → (v n : ℕ) → IsStream (plan_numbers plan) v
    → IsWithin plan v n ↔ MayAccept (plan_numbers plan).max_elements (vertex (plan_numbers plan) v) n

-- within the job's limit an operator remembers few entries
abbrev pub EntriesAreFew : Type 0
EntriesAreFew =
    (plan : PlanText) → IsPlan plan → (v n : ℕ) (operator : Spec) → spec_of plan.job v ≡ Some operator
    → IsWithin plan v n → AreFew (entries_at plan v n operator)

-- within the job's limit a snapshot has a code, of fewer than 2^32 bytes
abbrev pub FramesHaveCodes : Type 0
FramesHaveCodes =
    (plan : PlanText) → IsPlan plan → (v n : ℕ) → IsSome (spec_of plan.job v) → IsWithin plan v n
    → IsFrame (frame_of plan v n) × (length (frame_bytes (frame_of plan v n)) < 2 ^ 32)

-- each element of each stream has a record, where no vertex takes 2^63 elements: else a window may count as many rows
abbrev pub ElementsHaveRecords : Type 0
ElementsHaveRecords =
    (plan : PlanText) → IsPlan plan → IsOfProgram plan → ((v : ℕ) → mlen (vertices_of plan) v < 2 ^ 63)
    → (v : ℕ) → v < length (vertices_of plan) → All HasRecord (meaning (vertices_of plan) v)
