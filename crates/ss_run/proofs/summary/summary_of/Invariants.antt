use Rattle.std.proofs.Common.{◌≡◌}
use Rattle.ss_engine.specs.Told.{plant_told}
use Rattle.ss_run.specs.Summary.{summary_lines}
use Rattle.ss_run.proofs.summary.summary_of.Given as goal

-- the lines of the vertices passed
abbrev pub invariant-loop-k : goal.invariant-loop-k
invariant-loop-k g l =
    l.text.items ≡ summary_lines (plant_told g.O.Outputs.told g.D.Depot.told l.plant).plan l.k
