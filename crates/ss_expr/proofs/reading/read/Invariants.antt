use Rattle.std.proofs.Common.{◌≡◌, length, drop}
use Rattle.ss_expr.specs.Reading.{read_from, start}
use Rattle.ss_expr.specs.Tokens.{scan}
use Rattle.ss_expr.proofs.reading.read.Given as goal

abbrev pub invariant-loop-at : goal.invariant-loop-at
invariant-loop-at l = read_from (length l.text) (scan (drop l.at l.text) l.at l.taken) l.parser ≡ read_from (length l.text) (scan l.text 0 0) start
