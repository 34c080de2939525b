use Rattle.std.proofs.Common.{◌≡◌, false}
use Rattle.ss_engine.specs.Joint.{Joint}
use Rattle.ss_engine.specs.Told.{plant_told}
use Rattle.ss_serial.specs.Headway.{Headway}
use Rattle.ss_serial.specs.Stored.{StoredBelow}
use Rattle.ss_serial.proofs.turns.turns.Given as goal

abbrev pub invariant-loop-v : goal.invariant-loop-v
invariant-loop-v g l = record {
  joint : Joint (plant_told g.O.Outputs.told g.D.Depot.told l.plant);
  headway : Headway l.triggers (plant_told g.O.Outputs.told g.D.Depot.told l.fn.plant) l.fn.trace l.moved
      (plant_told g.O.Outputs.told g.D.Depot.told l.plant) l.trace;
  stored : l.moved ≡ false → StoredBelow (plant_told g.O.Outputs.told g.D.Depot.told l.plant) l.v;
}
