use Rattle.std.proofs.Common.{◌≤◌, ◌-◌, length}
use Rattle.ss_engine.specs.Joint.{Joint}
use Rattle.ss_engine.specs.Plays.{PlaysAll}
use Rattle.ss_engine.specs.Told.{plant_told}
use Rattle.ss_serial.proofs.Firing.{acts_up_to}
use Rattle.ss_serial.proofs.acting.fire.Given as goal

abbrev pub invariant-loop-place : goal.invariant-loop-place
invariant-loop-place g l = record {
  joint : Joint (plant_told g.O.Outputs.told g.D.Depot.told l.plant);
  plays : PlaysAll (plant_told g.O.Outputs.told g.D.Depot.told l.fn.plant) (acts_up_to l.triggers l.start l.v l.stored) l.fn.trace
      (plant_told g.O.Outputs.told g.D.Depot.told l.plant) l.trace;
  within : l.start ≤ length l.triggers;
}

abbrev pub decreases-loop-place : goal.decreases-loop-place
decreases-loop-place g l = length l.triggers - l.start
