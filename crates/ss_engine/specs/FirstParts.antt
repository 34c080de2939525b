-- The replicas of a running job at its start.
use Rattle.std.specs.Prelude.{◌≡◌, ℕ, ◌<◌, List, [], length, get_or, replicate}
use Rattle.ss_acts.specs.Parts.{vertex_of}
use Rattle.ss_plan.specs.Plan.{PlanText}
use Rattle.ss_vertex.specs.Calls.{fresh_inst}
use Rattle.ss_vertex.specs.Inst.{InstState}
use Rattle.ss_vertex.specs.Standing.{InstStands}

-- so many instances of vertex v that have accepted nothing, and each stands
pub record AreFresh (plan : PlanText) (v count : ℕ) (insts : List InstState) : Type 0 where
  pub are : insts ≡ replicate count (fresh_inst plan v)
  pub stand : 0 < count → InstStands plan (fresh_inst plan v)

-- all replicas of vertex v
abbrev pub AreFirstReplicas : PlanText → ℕ → List InstState → Type 0
AreFirstReplicas plan v insts = AreFresh plan v (vertex_of plan v).replicas insts

-- of the first so many vertices
pub record HaveFirstReplicas (plan : PlanText) (count : ℕ) (insts : List (List InstState)) : Type 0 where
  pub all : length insts ≡ count
  pub each : (v : ℕ) → v < count → AreFirstReplicas plan v (get_or insts v [])
