use Rattle.std.proofs.Common.{ap, ◌∙◌}
use Rattle.ss_outside.specs.Depot.{Contents, next_number}
use Rattle.ss_bench.proofs.depot.depot_fetch.Goals as goal

pub loop-preserved : goal.loop-preserved
loop-preserved c = record {
  first = ap (λ (h : Contents). h.first 0) c.in_ok-made.ensures.kept ∙ c.loop.invariant.first;
  next = ap (λ (h : Contents). next_number h 0) c.in_ok-made.ensures.kept ∙ c.loop.invariant.next;
}
