use Rattle.ss_engine.specs.Joint.{Joint}
use Rattle.ss_engine.specs.Told.{plant_told}
use Rattle.ss_engine.proofs.Wiped.{IsDownBelow}
use Rattle.ss_engine.proofs.plant.Plant.crash_all.Given as goal

abbrev pub invariant-loop-r : goal.invariant-loop-r
invariant-loop-r g l = record {
  joint : Joint (plant_told g.O.Outputs.told g.D.Depot.told l.self);
  down : IsDownBelow l.v l.r (plant_told g.O.Outputs.told g.D.Depot.told l.fn.self) (plant_told g.O.Outputs.told g.D.Depot.told l.self);
}
