use Rattle.std.proofs.Common.{◌≡◌, ap, ◌∙◌, arith}
use Rattle.ss_outside.specs.Depot.{Contents, next_number}
use Rattle.ss_outside.specs.MemDepot.{contents_held}
use Rattle.ss_bench.proofs.depot.fetch_all.Goals as goal

pub fetch_at-requires-clause-first : goal.fetch_at-requires-clause-first
fetch_at-requires-clause-first c =
    let first : (contents_held c.loop-n.depot).first 0 ≡ 0 =
    ap (λ (h : Contents). h.first 0) c.loop-n.invariant ∙ c.requires.first in
    omega (arith, first)

pub fetch_at-requires-clause-held : goal.fetch_at-requires-clause-held
fetch_at-requires-clause-held c =
    let next : next_number (contents_held c.loop-n.depot) 0 ≡ c.args.count =
    ap (λ (h : Contents). next_number h 0) c.loop-n.invariant ∙ c.requires.held in
    omega (arith, next)
