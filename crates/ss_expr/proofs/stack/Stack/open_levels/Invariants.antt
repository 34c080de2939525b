use Rattle.std.proofs.Common.{◌≡◌, ◌≤◌, take, reverse}
use Rattle.ss_expr.specs.Reading.{open_levels}
use Rattle.ss_expr.proofs.stack.Stack.open_levels.Given as goal

abbrev pub invariant-loop-frame : goal.invariant-loop-frame
invariant-loop-frame l = (l.levels ≤ l.frame-index) × (l.levels ≡ open_levels (reverse (take l.frame-index l.frame-items)))
