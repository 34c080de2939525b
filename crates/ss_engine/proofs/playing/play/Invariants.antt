use Rattle.std.proofs.Common.{take}
use Rattle.ss_engine.specs.Joint.{Joint}
use Rattle.ss_engine.specs.Plays.{PlaysAll}
use Rattle.ss_engine.specs.Told.{plant_told}
use Rattle.ss_engine.proofs.playing.play.Given as goal

abbrev pub invariant-loop-act : goal.invariant-loop-act
invariant-loop-act g l = record {
  joint : Joint (plant_told g.O.Outputs.told g.D.Depot.told l.plant);
  plays : PlaysAll (plant_told g.O.Outputs.told g.D.Depot.told l.fn.plant) (take l.act-index l.acts) l.fn.trace
      (plant_told g.O.Outputs.told g.D.Depot.told l.plant) l.trace;
}
