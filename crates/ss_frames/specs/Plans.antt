-- What every plan keeps, and its numbers.
use Rattle.std.specs.Prelude.{◌≡◌, ℕ, ◌<◌, ◌↔◌, false, List, [], ◌∷◌, true, length, Some, slice_get, IsSome}
use Rattle.ss_fail.specs.declared.role.Role.{Role}
use Rattle.ss_job.specs.JobText.{VertexText, source, inner, sink, JobText, op_of, spec_of}
use Rattle.ss_job.specs.declared.op.Op.TheVariants as op
use Rattle.ss_meaning.specs.Meaning.{meaning}
use Rattle.ss_plan.specs.Plan.{PlanText, vertices_of, source_list}
use Rattle.ss_state.specs.Numbers.{VertexNumbers, JobNumbers, is_inner, vertex}
use Rattle.ss_state.specs.NumbersOfMeaning.{Policy, Limits, job_numbers, IsMeant}
use Rattle.ss_water.specs.Graph.{is_sink}
use Rattle.ss_water.specs.declared.node.Kind.TheVariants as kind

-- after how many elements a snapshot would be due of a source or a sink, of which there are none
abbrev pub every_of_none : ℕ
every_of_none = 64

-- how a vertex is recovered: as its policy says, and a source or a sink with the replicas of its role
abbrev pub policy_with : Role → VertexText → Policy
policy_with role (source file late) = record { every = every_of_none; replay = false; replicas = role.replicas }
policy_with role (inner spec policy) =
    record { every = policy.every; replay = policy.replay; replicas = policy.replicas }
policy_with role (sink file) = record { every = every_of_none; replay = false; replicas = role.replicas }

-- the same of each vertex
abbrev pub policies_with : List Role → List VertexText → List Policy
policies_with [] texts = []
policies_with (role ∷ roles) [] = []
policies_with (role ∷ roles) (text ∷ texts) = policy_with role text ∷ policies_with roles texts

-- how the vertices of a job are recovered
abbrev pub policies_of : JobText → List Policy
policies_of job = policies_with job.roles job.vertices

-- what a job allows
abbrev pub limits_of : JobText → Limits
limits_of job = record { max_elements = job.max_elements; collect_every = job.collect_every }

-- the numbers of a plan
unfoldable pub plan_numbers : PlanText → JobNumbers
plan_numbers plan = job_numbers (vertices_of plan) (policies_of plan.job) (limits_of plan.job)

-- the numbers of a vertex say how it is recovered; a sink has no replicas of its own
pub record HasPolicy (policy : Policy) (x : VertexNumbers) : Type 0 where
  pub every : x.every ≡ policy.every
  pub replay : x.replay ≡ policy.replay
  pub replicas : is_sink x.kind ≡ false → x.replicas ≡ policy.replicas

-- the numbers are those of a plan's meaning and of its job
pub record AreOfPlan (plan : PlanText) (job : JobNumbers) : Type 0 where
  pub max_elements : job.max_elements ≡ plan.job.max_elements
  pub collect_every : job.collect_every ≡ plan.job.collect_every
  pub count : length job.vertices ≡ length plan.job.graph
  pub meant : (v : ℕ) → v < length plan.job.graph → IsMeant (vertices_of plan) v (vertex job v)
  pub policies : (v : ℕ) (role : Role) (text : VertexText)
      → slice_get plan.job.roles v ≡ Some role → slice_get plan.job.vertices v ≡ Some text
      → HasPolicy (policy_with role text) (vertex job v)
  pub operators : (v : ℕ) → (is_inner (vertex job v).kind ≡ true) ↔ IsSome (spec_of plan.job v)
  pub sources : (v : ℕ) → (vertex job v).kind ≡ kind.Source
      → (op_of plan.job v ≡ Some op.Source) × (meaning (vertices_of plan) v ≡ source_list plan v)
