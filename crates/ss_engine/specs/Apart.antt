-- A running job that was taken apart.
use Rattle.std.specs.Prelude.{◌≡◌, ℕ, List, [], length, get_or, slice_get, IfSome}
use Rattle.ss_acts.specs.Parts.{IsTailOf, IsReplicaOf, vertex_of}
use Rattle.ss_frames.specs.Plans.{plan_numbers}
use Rattle.ss_plan.specs.Plan.{PlanText}
use Rattle.ss_tail.specs.Held.{TailHeld, empty}
use Rattle.ss_vault.specs.Sound.{Sound}
use Rattle.ss_vault.specs.Told.{VaultTold}
use Rattle.ss_vertex.specs.Inst.{InstState}

-- a tail and the replicas of each vertex of the plan, in the order of declaration, and a vault: each stands for itself
pub record AreParts (plan : PlanText) (ts : List TailHeld) (rs : List (List InstState)) (vault : VaultTold) : Type 0 where
  pub all_tails : length ts ≡ length (plan_numbers plan).vertices
  pub all_insts : length rs ≡ length (plan_numbers plan).vertices
  pub replicas : (v : ℕ) → length (get_or rs v []) ≡ (vertex_of plan v).replicas
  pub tails : (v : ℕ) → IsTailOf plan v (get_or ts v empty)
  pub insts : (v r : ℕ) → IfSome (slice_get (get_or rs v []) r) (IsReplicaOf plan v)
  pub sound : Sound plan vault
