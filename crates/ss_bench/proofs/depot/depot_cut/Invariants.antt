-- The records before this number are appended, and all but the last thousand are cut.
use Rattle.std.proofs.Common.{◌≡◌, ◌-◌}
use Rattle.ss_outside.specs.Depot.{next_number}
use Rattle.ss_outside.specs.MemDepot.{contents_held}
use Rattle.ss_bench.proofs.depot.depot_cut.Given as goal

abbrev pub invariant-loop-n : goal.invariant-loop-n
invariant-loop-n l = record {
  first : (contents_held l.depot).first 0 ≡ l.n - 1000;
  next : next_number (contents_held l.depot) 0 ≡ l.n;
}
