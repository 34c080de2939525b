-- Nothing that is held changes.
use Rattle.std.proofs.Common.{◌≡◌}
use Rattle.ss_outside.specs.MemDepot.{contents_held}
use Rattle.ss_bench.proofs.depot.fetch_all.Given as goal

abbrev pub invariant-loop-n : goal.invariant-loop-n
invariant-loop-n l = contents_held l.depot ≡ contents_held l.initial.depot
