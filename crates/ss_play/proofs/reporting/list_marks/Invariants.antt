use Rattle.std.proofs.Common.{◌≡◌, map, take}
use Rattle.ss_engine.specs.Told.{plant_told, state_of}
use Rattle.ss_play.proofs.reporting.list_marks.Given as goal

-- the marks of the vertices passed
abbrev pub invariant-loop-v : goal.invariant-loop-v
invariant-loop-v g l =
    l.marks.items
    ≡ map (λ row. row.mark)
    (take l.v (state_of (plant_told g.O.Outputs.told g.D.Depot.told l.plant)).vault.ledger.rows)
