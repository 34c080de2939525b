-- Which stream is too long.
use Rattle.std.specs.Prelude.{◌≡◌, ℕ, ◌+◌, ◌<◌, Bool, true, Some, length}
use Rattle.ss_job.specs.JobText.{op_of}
use Rattle.ss_job.specs.Sound.{IsJob}
use Rattle.ss_job.specs.declared.op.Op.TheVariants as op
use Rattle.ss_meaning.specs.Meaning.{meaning}
use Rattle.ss_plan.specs.Plan.{PlanText, AreSourceLists, vertices_of, source_list}
use Rattle.ss_plan.specs.declared.fault.PlanFault.{PlanFault}
use Rattle.ss_plan.specs.declared.fault.PlanFault.TheVariants.{Full, Memory}

-- v is the first number of which this holds
pub record IsFirst (P : ℕ → Type 0) (v : ℕ) : Type 0 where
  pub here : P v
  pub before : (u : ℕ) → u < v → P u → ⊥

-- vertex v is a source, and its list is longer than a stream may be
abbrev pub IsLongSource : PlanText → ℕ → Type 0
IsLongSource plan v =
    (op_of plan.job v ≡ Some op.Source) × (plan.job.max_elements < length (source_list plan v))

-- no source's list is
abbrev pub AreWithin : PlanText → Type 0
AreWithin plan = (v : ℕ) → IsLongSource plan v → ⊥

-- what every plan keeps: a job as a job may be, the lists of its sources, and none of these longer than it allows
pub record IsPlan (plan : PlanText) : Type 0 where
  pub job : IsJob plan.job
  pub lists : AreSourceLists plan.job plan.lists
  pub within : AreWithin plan

-- the stream of vertex v, which is one of these, is longer than it may be
abbrev pub IsLongAmong : (ℕ → Bool) → PlanText → ℕ → Type 0
IsLongAmong among plan v =
    (among v ≡ true) × (plan.job.max_elements < length (meaning (vertices_of plan) v))

-- the first source with too long a list, and its length
abbrev pub IsSourcesFault : PlanText → PlanFault → Type 0
IsSourcesFault plan (Full v reached) = IsFirst (IsLongSource plan) v × (reached ≡ length (source_list plan v))
IsSourcesFault plan Memory = Unit {0}

-- the first of these vertices whose stream is too long, and the first length that is
abbrev pub IsStreamsFault : (ℕ → Bool) → PlanText → PlanFault → Type 0
IsStreamsFault among plan (Full v reached) =
    IsFirst (IsLongAmong among plan) v × (reached ≡ plan.job.max_elements + 1)
IsStreamsFault among plan Memory = Unit {0}
