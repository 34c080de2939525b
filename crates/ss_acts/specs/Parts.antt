-- The parts of a running job that an act may touch, each for itself.
use Rattle.std.specs.Prelude.{◌≡◌, ℕ}
use Rattle.ss_frames.specs.Plans.{plan_numbers}
use Rattle.ss_meaning.specs.Meaning.{meaning}
use Rattle.ss_plan.specs.Plan.{PlanText, vertices_of}
use Rattle.ss_state.specs.Numbers.{VertexNumbers, vertex}
use Rattle.ss_tail.specs.Held.{TailHeld, Stands}
use Rattle.ss_vertex.specs.Inst.{InstState}
use Rattle.ss_vertex.specs.Standing.{InstStands}

-- vertex v of a plan, as numbers
abbrev pub vertex_of : PlanText → ℕ → VertexNumbers
vertex_of plan v = vertex (plan_numbers plan) v

-- the tail is one of vertex v's stream
abbrev pub IsTailOf : PlanText → ℕ → TailHeld → Type 0
IsTailOf plan v tail = Stands (meaning (vertices_of plan) v) plan.job.max_elements tail

-- the instance is one of vertex v, and stands
pub record IsReplicaOf (plan : PlanText) (v : ℕ) (inst : InstState) : Type 0 where
  pub vertex : inst.v ≡ v
  pub stands : InstStands plan inst
