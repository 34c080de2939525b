use Rattle.std.proofs.Common.{Ok}
use Rattle.ss_engine.specs.Joint.{Joint}
use Rattle.ss_engine.specs.Told.{plant_told, state_of}
use Rattle.ss_rounds.specs.Measure.{total_left}
use Rattle.ss_serial.specs.Drives.{Drives}
use Rattle.ss_serial.specs.Stored.{job_of}
use Rattle.ss_serial.proofs.finishing.finish.Given as goal

abbrev pub invariant-rounds : goal.invariant-rounds
invariant-rounds g l = record {
  joint : Joint (plant_told g.O.Outputs.told g.D.Depot.told l.plant);
  drives : Drives l.triggers (plant_told g.O.Outputs.told g.D.Depot.told l.fn.plant) l.fn.trace (Ok tt)
      (plant_told g.O.Outputs.told g.D.Depot.told l.plant) l.trace;
}

abbrev pub decreases-rounds : goal.decreases-rounds
decreases-rounds g l =
    total_left (job_of (plant_told g.O.Outputs.told g.D.Depot.told l.fn.plant)) l.triggers (state_of (plant_told g.O.Outputs.told g.D.Depot.told l.plant))
