-- What a part is, and where it may stand.
use Rattle.std.specs.Prelude.{◌≡◌, ℕ, ◌<◌, List, length}
use Rattle.ss_acts.specs.Parts.{IsTailOf, vertex_of}
use Rattle.ss_crew.specs.Places.{inst_place, vault_place}
use Rattle.ss_crew.specs.Rows.{inst_row, tail_row, vault_row}
use Rattle.ss_crew.specs.declared.part.Body.{Body}
use Rattle.ss_crew.specs.declared.part.Body.TheVariants as body
use Rattle.ss_crew.specs.declared.crew_plan.CrewPlan.{CrewPlan}
use Rattle.ss_frames.specs.Plans.{plan_numbers}
use Rattle.ss_outside.specs.Depot.{DepotTold}
use Rattle.ss_outside.specs.Told.{OutputsTold}
use Rattle.ss_plan.specs.Plan.{PlanText}
use Rattle.ss_tail.specs.Held.{TailHeld}
use Rattle.ss_vault.specs.Sound.{Sound}
use Rattle.ss_vault.specs.Told.{VaultTold, vault_told}
use Rattle.ss_vault.specs.declared.counts.Counts.{Counts}
use Rattle.ss_vertex.specs.Inst.{InstState, inst_numbers}
use Rattle.ss_vertex.specs.Standing.{InstStands}

-- what contracts see of a part: the plan that it belongs to, its slot, and its numbers
pub record PartTold : Type 0 where
  pub plan : CrewPlan
  pub place : ℕ
  pub numbers : List ℕ

-- the tail of the vertex whose slot this is
pub record IsTailAt (plan : PlanText) (place : ℕ) (tail : TailHeld) : Type 0 where
  pub vertex : place < length (plan_numbers plan).vertices
  pub stands : IsTailOf plan place tail

-- the replica whose slot this is
pub record IsInstAt (plan : PlanText) (place : ℕ) (inst : InstState) : Type 0 where
  pub stands : InstStands plan inst
  pub vertex : inst.v < length (plan_numbers plan).vertices
  pub r : ℕ
  pub replica : r < (vertex_of plan inst.v).replicas
  pub is_place : place ≡ inst_place (plan_numbers plan) inst.v r

-- the vault, which is sound for the plan
pub record IsVaultAt (plan : CrewPlan) (place : ℕ) (vault : VaultTold) : Type 0 where
  pub is_place : place ≡ vault_place (plan_numbers plan.plan)
  pub sound : Sound plan.plan vault
  pub started : vault.started ≡ plan.started

abbrev pub part_plan : PlanText → Counts → CrewPlan
part_plan plan started = record { plan = plan; started = started }

module _ {O D : Type 0} (outputs_told : O → OutputsTold) (depot_told : D → DepotTold) where
  -- a part of each kind stands where it may
  abbrev pub StandsAt : CrewPlan → ℕ → Body O D → Type 0
  StandsAt plan place (body.Tail tail) = IsTailAt plan.plan place tail
  StandsAt plan place (body.Replica replica) = IsInstAt plan.plan place replica.inst
  StandsAt plan place (body.Vault vault) = IsVaultAt plan place (vault_told outputs_told depot_told vault)

  abbrev pub row_of : PlanText → Body O D → List ℕ
  row_of plan (body.Tail tail) = tail_row tail.numbers
  row_of plan (body.Replica replica) = inst_row (inst_numbers replica.inst) replica.last
  row_of plan (body.Vault vault) = vault_row (plan_numbers plan) (vault_told outputs_told depot_told vault)
