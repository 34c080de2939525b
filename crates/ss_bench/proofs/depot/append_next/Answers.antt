use Rattle.std.proofs.Common.{ℕ, ◌+◌, sym, ap, ◌∙◌}
use Rattle.ss_outside.specs.Depot.{Contents, next_number}
use Rattle.ss_outside.specs.MemDepot.{contents_held}
use Rattle.ss_bench.proofs.Held.{next-append}
use Rattle.ss_bench.proofs.depot.append_next.Goals as goal

pub returns-in-Ok-clause-first : goal.returns-in-Ok-clause-first
returns-in-Ok-clause-first c = ap (λ (h : Contents). h.first 0) c.in-Ok.ensures.appends.contents

pub returns-in-Ok-clause-next : goal.returns-in-Ok-clause-next
returns-in-Ok-clause-next c =
    ap (λ (h : Contents). next_number h 0) c.in-Ok.ensures.appends.contents
    ∙ next-append (contents_held c.args.depot.now) c.as_slice.result.now ∙ ap (λ (n : ℕ). n + 1) (sym c.requires)
