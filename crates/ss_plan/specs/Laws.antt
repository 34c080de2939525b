-- What is true of every plan.
use Rattle.std.specs.Prelude.{◌≡◌, ℕ, Some, length, slice_get}
use Rattle.ss_job.specs.JobText.{VertexText}
use Rattle.ss_job.specs.Sound.{IsJob}
use Rattle.ss_meaning.specs.Jobs as meaning
use Rattle.ss_meaning.specs.Meaning.{vertex}
use Rattle.ss_plan.specs.Plan.{PlanText, AreSourceLists, vertex_at, vertices_of, source_list}
use Rattle.ss_water.specs.declared.node.Node.{Node}

-- the vertices of an accepted job with lists of its sources are a job that the laws of meaning speak of
abbrev pub PlansMeanJobs : Type 0
PlansMeanJobs =
    (plan : PlanText) → IsJob plan.job → AreSourceLists plan.job plan.lists → meaning.IsJob (vertices_of plan)

-- a plan has as many vertices as its job has nodes, and each is made of the node and the text under its number
pub record AreVertices (plan : PlanText) : Type 0 where
  pub count : length (vertices_of plan) ≡ length plan.job.graph
  pub each : (v : ℕ) (node : Node) (text : VertexText)
      → slice_get plan.job.graph v ≡ Some node → slice_get plan.job.vertices v ≡ Some text
      → vertex (vertices_of plan) v ≡ vertex_at node text (source_list plan v)

-- the vertices of an accepted job are found by their numbers
abbrev pub VerticesByNumber : Type 0
VerticesByNumber = (plan : PlanText) → IsJob plan.job → AreVertices plan
