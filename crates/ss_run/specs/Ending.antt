-- How it ends that a job that goes on is brought to its end.
use Rattle.std.specs.Prelude.{Bool, List, Result, Ok, Err}
use Rattle.ss_engine.specs.Plays.{Runs, acts_of}
use Rattle.ss_engine.specs.Told.{PlantTold, state_of}
use Rattle.ss_fail.specs.declared.act.Act.{Act}
use Rattle.ss_fail.specs.declared.trigger.Trigger.{Trigger}
use Rattle.ss_frames.specs.Plans.{plan_numbers}
use Rattle.ss_play.specs.Playing.{StopsAfter}
use Rattle.ss_play.specs.declared.fault.PlayFault.{PlayFault}
use Rattle.ss_serial.specs.Ends.{AllPut}
use Rattle.ss_state.specs.Rule.{Obeys}
use Rattle.ss_state.specs.Step.{Made}
use Rattle.ss_run.specs.Running.{TellsRun}
use Rattle.ss_run.specs.declared.running.Told.{Told}

-- it was, and told
pub record EndsWhole (p : PlantTold) (ts : List Trigger) (wants : Bool) (told : Told) (q : PlantTold) : Type 0 where
  pub made : List Made
  pub obey : Obeys (plan_numbers p.plan) ts (state_of p) (acts_of made)
  pub runs : Runs p made q
  pub put : AllPut q
  pub tells : TellsRun q.plan wants made (state_of q) told

-- it was not, or not told
pub record EndsEarly (p : PlantTold) (ts : List Trigger) (f : PlayFault) (q : PlantTold) : Type 0 where
  pub acts : List Act
  pub obey : Obeys (plan_numbers p.plan) ts (state_of p) acts
  pub stops : StopsAfter p acts f q

abbrev pub Ends : PlantTold → List Trigger → Bool → Result Told PlayFault → PlantTold → Type 0
Ends p ts wants (Ok told) q = EndsWhole p ts wants told q
Ends p ts wants (Err f) q = EndsEarly p ts f q
