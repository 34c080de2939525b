use Rattle.std.proofs.Common.{ap}
use Rattle.ss_outside.specs.Depot.{Contents, next_number}
use Rattle.ss_bench.proofs.depot.depot_cut.Goals as goal

pub loop-n-init : goal.loop-n-init
loop-n-init c = record {
  first = ap (λ (h : Contents). h.first 0) c.new-depot.ensures.empty;
  next = ap (λ (h : Contents). next_number h 0) c.new-depot.ensures.empty;
}
