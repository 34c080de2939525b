use Rattle.std.proofs.Common.{◌≡◌, false, List}
use Rattle.ss_engine.specs.Joint.{Joint}
use Rattle.ss_engine.specs.Told.{plant_told}
use Rattle.ss_fail.specs.declared.trigger.Trigger.{Trigger}
use Rattle.ss_serial.specs.Headway.{Headway}
use Rattle.ss_serial.specs.Stored.{PutBelow, StoredBelow, vertex_count}
use Rattle.ss_serial.proofs.taking.takes.Given as goal

abbrev pub invariant-loop-k : goal.invariant-loop-k
invariant-loop-k g l = record {
  joint : Joint (plant_told g.O.Outputs.told g.D.Depot.told l.plant);
  headway : (ts : List Trigger) → Headway ts (plant_told g.O.Outputs.told g.D.Depot.told l.fn.plant) l.fn.trace l.moved
      (plant_told g.O.Outputs.told g.D.Depot.told l.plant) l.trace;
  put : l.moved ≡ false → StoredBelow (plant_told g.O.Outputs.told g.D.Depot.told l.fn.plant) (vertex_count (plant_told g.O.Outputs.told g.D.Depot.told l.fn.plant))
      → PutBelow (plant_told g.O.Outputs.told g.D.Depot.told l.plant) l.k;
}
