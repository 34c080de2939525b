-- A running job that goes on from what is stored alone.
use Rattle.std.specs.Prelude.{◌≡◌, ℕ, ◌<◌, None, List, [], length, get_or, All}
use Rattle.ss_acts.specs.Parts.{IsReplicaOf, vertex_of}
use Rattle.ss_frames.specs.Plans.{plan_numbers}
use Rattle.ss_plan.specs.Plan.{PlanText}
use Rattle.ss_state.specs.State.{inst_at, new_tail, tail_at}
use Rattle.ss_state.specs.Tails.{restarted}
use Rattle.ss_tail.specs.Held.{TailHeld, begun_at, empty}
use Rattle.ss_vault.specs.Told.{VaultTold, durable_of}
use Rattle.ss_vertex.specs.Inst.{InstState, inst_numbers}
use Rattle.ss_engine.specs.Told.{PlantTold, state_of}

-- it has this vault, each tail begins anew behind what is stored of its vertex, and every replica is down
pub record IsAround (plan : PlanText) (vault : VaultTold) (p : PlantTold) : Type 0 where
  pub of_plan : p.plan ≡ plan
  pub tails : (v : ℕ) → v < length (plan_numbers plan).vertices
      → tail_at (state_of p) v ≡ restarted new_tail (durable_of vault v).dur
  pub insts : (v r : ℕ) → inst_at (state_of p) v r ≡ None
  pub same_vault : p.vault ≡ vault

-- the tails of the first so many vertices begin so
pub record BeginBehind (vault : VaultTold) (count : ℕ) (tails : List TailHeld) : Type 0 where
  pub all : length tails ≡ count
  pub each : (v : ℕ) → v < count → get_or tails v empty ≡ begun_at empty (durable_of vault v).dur

-- an instance of vertex v that stands, and is down
pub record IsDownReplica (plan : PlanText) (v : ℕ) (inst : InstState) : Type 0 where
  pub replica : IsReplicaOf plan v inst
  pub down : inst_numbers inst ≡ None

-- so many of them
pub record AreDown (plan : PlanText) (v count : ℕ) (insts : List InstState) : Type 0 where
  pub all : length insts ≡ count
  pub each : All (IsDownReplica plan v) insts

-- all replicas of vertex v
abbrev pub AreDownReplicas : PlanText → ℕ → List InstState → Type 0
AreDownReplicas plan v insts = AreDown plan v (vertex_of plan v).replicas insts

-- of the first so many vertices
pub record HaveDownReplicas (plan : PlanText) (count : ℕ) (insts : List (List InstState)) : Type 0 where
  pub all : length insts ≡ count
  pub each : (v : ℕ) → v < count → AreDownReplicas plan v (get_or insts v [])
