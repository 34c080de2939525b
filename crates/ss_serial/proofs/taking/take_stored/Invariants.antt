use Rattle.std.proofs.Common.{List, []}
use Rattle.ss_engine.specs.Joint.{Joint}
use Rattle.ss_engine.specs.Told.{plant_told, state_of}
use Rattle.ss_fail.specs.declared.trigger.Trigger.{Trigger}
use Rattle.ss_rounds.specs.Measure.{total_left}
use Rattle.ss_serial.specs.Headway.{Headway}
use Rattle.ss_serial.specs.Stored.{job_of}
use Rattle.ss_serial.proofs.taking.take_stored.Given as goal

abbrev pub invariant-loop-plant : goal.invariant-loop-plant
invariant-loop-plant g l = record {
  joint : Joint (plant_told g.O.Outputs.told g.D.Depot.told l.plant);
  headway : (ts : List Trigger) → Headway ts (plant_told g.O.Outputs.told g.D.Depot.told l.fn.plant) l.fn.trace l.moved
      (plant_told g.O.Outputs.told g.D.Depot.told l.plant) l.trace;
}

abbrev pub decreases-loop-plant : goal.decreases-loop-plant
decreases-loop-plant g l =
    total_left (job_of (plant_told g.O.Outputs.told g.D.Depot.told l.fn.plant)) [] (state_of (plant_told g.O.Outputs.told g.D.Depot.told l.plant))
