-- How it ends that acts are made on a job that goes on.
use Rattle.std.specs.Prelude.{◌≡◌, List, Result, Ok, Err}
use Rattle.ss_engine.specs.Plays.{Runs, acts_of}
use Rattle.ss_engine.specs.Told.{PlantTold, state_of}
use Rattle.ss_fail.specs.declared.act.Act.{Act}
use Rattle.ss_state.specs.Step.{Made}
use Rattle.ss_vault.specs.Told.{VaultTold}
use Rattle.ss_play.specs.Playing.{Devices, IsCauseOf, NoCountFell, PutsToSinks, StopsAfter, Tells}
use Rattle.ss_play.specs.declared.fault.PlayFault.{PlayFault}
use Rattle.ss_play.specs.declared.playing.Report.{Report}

-- what the devices of a vault tell
abbrev pub devices_of : VaultTold → Devices
devices_of vault = record { outputs = vault.outputs; depot = vault.depot }

-- all acts were made, and told
pub record EndsAll (p : PlantTold) (acts : List Act) (report : Report) (q : PlantTold) : Type 0 where
  pub made : List Made
  pub are : acts_of made ≡ acts
  pub runs : Runs p made q
  pub tells : Tells q.plan made (state_of q) report

-- they were not, or not told, for this cause
pub record EndsEarly (p : PlantTold) (acts : List Act) (f : PlayFault) (q : PlantTold) : Type 0 where
  pub plan : q.plan ≡ p.plan
  pub stops : StopsAfter p acts f q
  pub cause : IsCauseOf p.plan (devices_of p.vault) f (devices_of q.vault)
  pub counts : NoCountFell (devices_of p.vault) (devices_of q.vault)
  pub outputs : PutsToSinks p.plan p.vault.outputs q.vault.outputs

abbrev pub Ends : PlantTold → List Act → Result Report PlayFault → PlantTold → Type 0
Ends p acts (Ok report) q = EndsAll p acts report q
Ends p acts (Err f) q = EndsEarly p acts f q
