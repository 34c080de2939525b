-- What a step of a driver makes of a running job, and whether it brought the job forward.
use Rattle.std.specs.Prelude.{◌≡◌, ◌<◌, Bool, true, false, List, Result, Ok, Err}
use Rattle.ss_acts.specs.declared.fault.EngineFault.{EngineFault}
use Rattle.ss_fail.specs.declared.trigger.Trigger.{Trigger}
use Rattle.ss_frames.specs.Plans.{plan_numbers}
use Rattle.ss_rounds.specs.Measure.{total_left}
use Rattle.ss_engine.specs.Plays.{TraceTold}
use Rattle.ss_engine.specs.Told.{PlantTold, state_of}
use Rattle.ss_serial.specs.Drives.{Drives}

-- less is left where the job went forward, and else it is as it was
pub record Headway (ts : List Trigger) (p : PlantTold) (before : TraceTold) (moved : Bool) (q : PlantTold)
    (after : TraceTold) : Type 0 where
  pub drives : Drives ts p before (Ok tt) q after
  pub lower : moved ≡ true
      → total_left (plan_numbers p.plan) ts (state_of q) < total_left (plan_numbers p.plan) ts (state_of p)
  pub same : moved ≡ false → state_of q ≡ state_of p

-- a step that tells whether the job went forward
abbrev pub Advances : List Trigger → PlantTold → TraceTold → Result Bool EngineFault → PlantTold → TraceTold → Type 0
Advances ts p before (Ok moved) q after = Headway ts p before moved q after
Advances ts p before (Err f) q after = Drives ts p before (Err f) q after

-- a step that brings it forward
abbrev pub Lowers :
    List Trigger → PlantTold → TraceTold → Result (Unit {0}) EngineFault → PlantTold → TraceTold → Type 0
Lowers ts p before (Ok _) q after = Headway ts p before true q after
Lowers ts p before (Err f) q after = Drives ts p before (Err f) q after
