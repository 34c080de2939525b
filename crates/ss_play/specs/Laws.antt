-- What is said of acts that were made on a job from its start on, whoever chose them.
use Rattle.std.specs.Prelude.{◌≡◌, List, All}
use Rattle.ss_engine.specs.Begins.{Begins}
use Rattle.ss_engine.specs.Joint.{Joint}
use Rattle.ss_engine.specs.Plays.{Runs, acts_of}
use Rattle.ss_engine.specs.Told.{PlantTold, state_of}
use Rattle.ss_fail.specs.declared.act.Act.{Act}
use Rattle.ss_frames.specs.Plans.{plan_numbers}
use Rattle.ss_plan.specs.Plan.{PlanText}
use Rattle.ss_state.specs.Step.{Made, MayAct}
use Rattle.ss_vault.specs.Calls.{RefusesStart}
use Rattle.ss_vault.specs.Facts.{PlanFacts}
use Rattle.ss_vault.specs.declared.fault.VaultFault.{VaultFault}
use Rattle.ss_play.specs.Ending.{devices_of}
use Rattle.ss_play.specs.Faults.{of_vault}
use Rattle.ss_play.specs.Playing.{Devices, Played, StopsAfter, StopsPlaying}
use Rattle.ss_play.specs.declared.fault.PlayFault.{PlayFault}

-- a job that was started over these devices, and a later moment of it
pub record SinceStart (plan : PlanText) (before : Devices) (p q : PlantTold) : Type 0 where
  pub begins : Begins plan before.outputs before.depot p
  pub joint : Joint p
  pub left : Joint q

-- where all acts were made on it, they were played
abbrev pub AllAreTold : Type 0
AllAreTold =
    (plan : PlanText) (before : Devices) (p q : PlantTold) (acts : List Act) (made : List Made)
    → SinceStart plan before p q → acts_of made ≡ acts → Runs p made q
    → Played plan acts before made (state_of q) (devices_of q.vault)

-- where they stopped, and each may be made on such a job, it is told why, and what is left
abbrev pub StopsAreTold : Type 0
StopsAreTold =
    (plan : PlanText) (before : Devices) (p q : PlantTold) (acts : List Act) (f : PlayFault)
    → PlanFacts plan → SinceStart plan before p q → All (MayAct (plan_numbers plan)) acts → StopsAfter p acts f q
    → StopsPlaying plan acts before f (devices_of q.vault)

-- so it is where the job couldn't be started
abbrev pub RefusalsAreTold : Type 0
RefusalsAreTold =
    (plan : PlanText) (before after : Devices) (acts : List Act) (f : VaultFault)
    → after.outputs ≡ before.outputs → RefusesStart plan f before.depot after.depot
    → StopsPlaying plan acts before (of_vault f) after
