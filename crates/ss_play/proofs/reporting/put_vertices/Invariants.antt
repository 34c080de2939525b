use Rattle.std.proofs.Common.{◌≡◌, ◌++◌}
use Rattle.ss_engine.specs.Told.{plant_told, state_of}
use Rattle.ss_play.specs.Report.{lines_below}
use Rattle.ss_play.proofs.reporting.put_vertices.Given as goal

-- the lines of the vertices passed are appended
abbrev pub invariant-loop-v : goal.invariant-loop-v
invariant-loop-v g l =
    l.out.items
    ≡ l.fn.out.items ++ lines_below (plant_told g.O.Outputs.told g.D.Depot.told l.plant).plan
    (state_of (plant_told g.O.Outputs.told g.D.Depot.told l.plant)) l.v
