-- What a running job tells at one moment.
use Rattle.std.specs.Prelude.{ℕ, List, [], get_or, map, slice_get, Option}
use Rattle.std.specs.Arc.{arc_value}
use Rattle.ss_outside.specs.Depot.{DepotTold}
use Rattle.ss_outside.specs.Told.{OutputsTold}
use Rattle.ss_plan.specs.Plan.{PlanText}
use Rattle.ss_state.specs.State.{State}
use Rattle.ss_tail.specs.Held.{TailHeld, empty}
use Rattle.ss_vault.specs.Told.{VaultTold, vault_told, numbers_of}
use Rattle.ss_vertex.specs.Inst.{InstState, inst_numbers}
use Rattle.ss_engine.specs.declared.plant.Plant.{Plant}

-- its plan, a tail for each vertex (that of a sink is never used), the replicas of each vertex, and the vault
pub record PlantTold : Type 0 where
  pub plan : PlanText
  pub tails : List TailHeld
  pub insts : List (List InstState)
  pub vault : VaultTold

abbrev pub plant_told : {O D : Type 0} → (O → OutputsTold) → (D → DepotTold) → Plant O D → PlantTold
plant_told outputs_told depot_told plant = record {
  plan = arc_value plant.plan;
  tails = plant.tails.items;
  insts = map (λ replicas. replicas.items) plant.insts.items;
  vault = vault_told outputs_told depot_told plant.vault;
}

-- the tail of vertex v
abbrev pub tail_of : PlantTold → ℕ → TailHeld
tail_of plant v = get_or plant.tails v empty

-- the replicas of vertex v
abbrev pub replicas_of : PlantTold → ℕ → List InstState
replicas_of plant v = get_or plant.insts v []

-- replica r of vertex v, where there is one
abbrev pub inst_of : PlantTold → ℕ → ℕ → Option InstState
inst_of plant v r = slice_get (replicas_of plant v) r

-- the numbers of a running job
abbrev pub state_of : PlantTold → State
state_of plant = record {
  tails = map (λ tail. tail.numbers) plant.tails;
  insts = map (map inst_numbers) plant.insts;
  vault = numbers_of plant.vault;
}
