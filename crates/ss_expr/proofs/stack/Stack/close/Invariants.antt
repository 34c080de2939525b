use Rattle.std.proofs.Common.{◌≡◌, length}
use Rattle.ss_expr.specs.Reading.{close}
use Rattle.ss_expr.proofs.stack.Stack.close.Given as goal

abbrev pub invariant-loop-frame : goal.invariant-loop-frame
invariant-loop-frame l = close l.self l.least l.tree ≡ close l.initial.self l.least l.initial.tree

abbrev pub decreases-loop-frame : goal.decreases-loop-frame
decreases-loop-frame l = length l.self
