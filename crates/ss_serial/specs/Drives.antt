-- What a driver makes of a running job. `p` is what the job tells before it and `q` after it; `before` and `after` are
-- the acts of its trace.
use Rattle.std.specs.Prelude.{List, Result}
use Rattle.std.specs.List.{AllByRecursion}
use Rattle.ss_acts.specs.declared.fault.EngineFault.{EngineFault}
use Rattle.ss_fail.specs.declared.act.Act.{Act}
use Rattle.ss_fail.specs.declared.trigger.Trigger.{Trigger}
use Rattle.ss_frames.specs.Plans.{plan_numbers}
use Rattle.ss_state.specs.Rule.{IsTrigger, Obeys}
use Rattle.ss_engine.specs.Plays.{Plays, TraceTold}
use Rattle.ss_engine.specs.Told.{PlantTold, state_of}

-- each trigger names a failure that the job can have, behind a write that can be counted
abbrev pub CanFire : PlantTold → List Trigger → Type 0
CanFire p ts = AllByRecursion (IsTrigger (plan_numbers p.plan)) ts

-- it plays some acts that obey the rule and the triggers, one behind the other up to the first fault
pub record Drives (ts : List Trigger) (p : PlantTold) (before : TraceTold) (result : Result (Unit {0}) EngineFault)
    (q : PlantTold) (after : TraceTold) : Type 0 where
  pub acts : List Act
  pub obey : Obeys (plan_numbers p.plan) ts (state_of p) acts
  pub plays : Plays p acts before result q after
