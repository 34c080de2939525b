-- All records are held.
use Rattle.std.proofs.Common.{◌≡◌}
use Rattle.ss_outside.specs.Depot.{next_number}
use Rattle.ss_outside.specs.MemDepot.{contents_held}
use Rattle.ss_bench.proofs.depot.depot_fetch.Given as goal

abbrev pub invariant-loop : goal.invariant-loop
invariant-loop l = record {
  first : (contents_held l.depot).first 0 ≡ 0;
  next : next_number (contents_held l.depot) 0 ≡ l.count;
}
