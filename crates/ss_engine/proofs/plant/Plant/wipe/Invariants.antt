use Rattle.ss_engine.specs.Joint.{Joint}
use Rattle.ss_engine.specs.Told.{plant_told}
use Rattle.ss_engine.proofs.Wiped.{IsWipedBelow}
use Rattle.ss_engine.proofs.plant.Plant.wipe.Given as goal

abbrev pub invariant-loop-v : goal.invariant-loop-v
invariant-loop-v g l = record {
  joint : Joint (plant_told g.O.Outputs.told g.D.Depot.told l.self);
  wiped : IsWipedBelow l.v (plant_told g.O.Outputs.told g.D.Depot.told l.fn.self) (plant_told g.O.Outputs.told g.D.Depot.told l.self);
}
