-- A running job that was just started.
use Rattle.std.specs.Prelude.{◌≡◌, None}
use Rattle.ss_frames.specs.Plans.{plan_numbers}
use Rattle.ss_outside.specs.Depot.{DepotTold}
use Rattle.ss_outside.specs.Told.{OutputsTold}
use Rattle.ss_plan.specs.Plan.{PlanText}
use Rattle.ss_state.specs.State.{first_state}
use Rattle.ss_vault.specs.Counts.{counts_told}
use Rattle.ss_engine.specs.Told.{PlantTold, state_of}

-- it is in the first state of its plan, and its devices are those that it was given
pub record Begins (plan : PlanText) (outputs : OutputsTold) (depot : DepotTold) (p : PlantTold) : Type 0 where
  pub of_plan : p.plan ≡ plan
  pub state : state_of p ≡ first_state (plan_numbers plan)
  pub halted : p.vault.halted ≡ None
  pub started : p.vault.started ≡ counts_told outputs depot
  pub same_outputs : p.vault.outputs ≡ outputs
