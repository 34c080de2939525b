use Rattle.std.proofs.Common.{ap, ◌∙◌}
use Rattle.ss_outside.specs.Depot.{Contents, next_number}
use Rattle.ss_outside.specs.MemDepot.{contents_held}
use Rattle.ss_bench.proofs.Held.{next-cut}
use Rattle.ss_bench.proofs.depot.cut_to.Goals as goal

pub returns-in-Ok-clause-first : goal.returns-in-Ok-clause-first
returns-in-Ok-clause-first c = ap (λ (h : Contents). h.first 0) c.in-Ok.ensures.cuts.contents

pub returns-in-Ok-clause-next : goal.returns-in-Ok-clause-next
returns-in-Ok-clause-next c =
    ap (λ (h : Contents). next_number h 0) c.in-Ok.ensures.cuts.contents
    ∙ next-cut (contents_held c.args.depot.now) c.args.m c.requires.forward c.requires.within
