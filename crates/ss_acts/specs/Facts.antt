-- What is true of a plan and of the parts of a job that runs it, gathered for the acts.
use Rattle.std.specs.Prelude.{ℕ, ◌≤◌, ◌↔◌, take, All}
use Rattle.ss_acts.specs.Parts.{vertex_of}
use Rattle.ss_codec.specs.declared.frame.Frame.{Frame}
use Rattle.ss_elem.specs.Validity.{top}
use Rattle.ss_frames.specs.Plans.{plan_numbers, AreOfPlan}
use Rattle.ss_frames.specs.Snapshot.{IsSnapshot}
use Rattle.ss_frames.specs.Within.{IsWithin}
use Rattle.ss_plan.specs.Plan.{PlanText, vertices_of}
use Rattle.ss_state.specs.Joint.{MayAccept}
use Rattle.ss_state.specs.Numbers.{IsStream}
use Rattle.ss_state.specs.NumbersOfMeaning.{GivesStream}
use Rattle.ss_vault.specs.Facts.{PlanFacts}
use Rattle.ss_vertex.specs.Calls.{FitsVertex}
use Rattle.ss_vertex.specs.Inst.{InstState}
use Rattle.ss_vertex.specs.Laws.{IsNumbered}
use Rattle.ss_vertex.specs.Standing.{InstStands}

pub record ActFacts (plan : PlanText) : Type 0 where
  pub of_plan : PlanFacts plan
  pub meant : AreOfPlan plan (plan_numbers plan)
  -- a vertex gives a stream by its meaning where it does by its numbers
  pub streams : (v : ℕ) → GivesStream (vertices_of plan) v ↔ IsStream (plan_numbers plan) v
  -- an instance that stands is to the acts what its numbers are, and its vertex may have come so far
  pub numbered : (inst : InstState) → InstStands plan inst → IsNumbered plan (vertex_of plan inst.v) inst
  pub within : (v n : ℕ) → IsStream (plan_numbers plan) v
      → IsWithin plan v n ↔ MayAccept (plan_numbers plan).max_elements (vertex_of plan v) n
  -- a snapshot is one from which an instance of its vertex may go on
  pub snapshots : (f : Frame) → IsSnapshot plan f
      → FitsVertex plan f.v f × All (λ b. b ≤ top) (take f.width f.bounds)
