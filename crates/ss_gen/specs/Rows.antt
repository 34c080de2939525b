-- Rows as the code draws them.
use Rattle.ss_gen.specs.Events.{Drawn}
use Rattle.ss_gen.specs.declared.row.Row.{Row}

abbrev pub row_told : Row → Drawn
row_told row =
    record { start = row.start; end = row.end; key = row.key; first = row.first; second = row.second }
