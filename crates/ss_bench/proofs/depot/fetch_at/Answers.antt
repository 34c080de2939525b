use Rattle.ss_outside.specs.MemDepot.{contents_held}
use Rattle.ss_bench.proofs.Held.{is_held}
use Rattle.ss_bench.proofs.depot.fetch_at.Goals as goal

pub fetch-requires-clause-held : goal.fetch-requires-clause-held
fetch-requires-clause-held c = is_held (contents_held c.args.depot.now) 0 c.args.n c.requires.first c.requires.held
