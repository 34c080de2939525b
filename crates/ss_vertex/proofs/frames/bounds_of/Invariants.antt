use Rattle.std.proofs.Common.{◌≡◌}
use Rattle.ss_vertex.proofs.Padding.{written}
use Rattle.ss_vertex.proofs.frames.bounds_of.Given as goal

-- those of the inputs passed are written, and zeros stand behind them
abbrev pub invariant-loop-i : goal.invariant-loop-i
invariant-loop-i l = l.bounds ≡ written l.merger.bounds l.i
