use Rattle.std.proofs.Common.{◌≡◌, ◌<◌, true}
use Rattle.ss_engine.specs.Joint.{Joint}
use Rattle.ss_engine.specs.Told.{plant_told}
use Rattle.ss_serial.specs.Headway.{Headway}
use Rattle.ss_serial.proofs.turns.work.Given as goal

abbrev pub invariant-loop : goal.invariant-loop
invariant-loop g l = record {
  joint : Joint (plant_told g.O.Outputs.told g.D.Depot.told l.plant);
  headway : Headway l.triggers (plant_told g.O.Outputs.told g.D.Depot.told l.fn.plant) l.fn.trace l.moved
      (plant_told g.O.Outputs.told g.D.Depot.told l.plant) l.trace;
  later : 0 < l.counter → l.moved ≡ true;
}
