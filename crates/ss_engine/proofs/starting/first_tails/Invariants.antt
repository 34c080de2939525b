use Rattle.std.proofs.Common.{◌≡◌, replicate}
use Rattle.ss_tail.specs.Held.{empty}
use Rattle.ss_engine.proofs.starting.first_tails.Given as goal

abbrev pub invariant-loop-v : goal.invariant-loop-v
invariant-loop-v l = l.tails.items ≡ replicate l._v empty
