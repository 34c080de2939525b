-- What is true of a running job between any two acts.
use Rattle.std.specs.Prelude.{ℕ, IfSome}
use Rattle.ss_acts.specs.Parts.{IsTailOf, IsReplicaOf}
use Rattle.ss_frames.specs.Plans.{plan_numbers}
use Rattle.ss_state.specs.Joint as of_numbers
use Rattle.ss_vault.specs.Sound.{Sound}
use Rattle.ss_engine.specs.Told.{PlantTold, tail_of, inst_of, state_of}

-- each part stands for itself
pub record PartsStand (plant : PlantTold) : Type 0 where
  pub tails : (v : ℕ) → IsTailOf plant.plan v (tail_of plant v)
  pub insts : (v r : ℕ) → IfSome (inst_of plant v r) (IsReplicaOf plant.plan v)
  pub vault : Sound plant.plan plant.vault

-- and they stand beside each other, which their numbers tell
pub record Joint (plant : PlantTold) : Type 0 where
  pub parts : PartsStand plant
  pub numbers : of_numbers.Joint (plan_numbers plant.plan) (state_of plant)
