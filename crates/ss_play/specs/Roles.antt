-- The roles of a job, as the numbers of its plan have them.
use Rattle.std.specs.Prelude.{◌≡◌, ℕ, ◌<◌, false, length, slice_get, Some}
use Rattle.ss_fail.specs.declared.role.Role.{Role}
use Rattle.ss_frames.specs.Plans.{plan_numbers}
use Rattle.ss_plan.specs.Limit.{IsPlan}
use Rattle.ss_plan.specs.Plan.{PlanText}
use Rattle.ss_state.specs.Numbers.{vertex}
use Rattle.ss_water.specs.Graph.{is_sink}

-- vertex v is of the kind of this role, and has its replicas where it gives a stream
pub record IsRoleOf (plan : PlanText) (v : ℕ) (role : Role) : Type 0 where
  pub kind : (vertex (plan_numbers plan) v).kind ≡ role.kind
  pub replicas : is_sink role.kind ≡ false → (vertex (plan_numbers plan) v).replicas ≡ role.replicas

-- each vertex of a plan has a role
pub record HasRoles (plan : PlanText) : Type 0 where
  pub count : length (plan_numbers plan).vertices ≡ length plan.job.roles
  pub each : (v : ℕ) (role : Role) → slice_get plan.job.roles v ≡ Some role → IsRoleOf plan v role

abbrev pub PlansHaveRoles : Type 0
PlansHaveRoles = (plan : PlanText) → IsPlan plan → HasRoles plan

-- v is a vertex of the plan: it has a role, and numbers
pub record IsVertexOf (plan : PlanText) (v : ℕ) : Type 0 where
  pub named : v < length plan.job.roles
  pub numbered : v < length (plan_numbers plan).vertices
