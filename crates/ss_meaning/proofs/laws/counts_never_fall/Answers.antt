use Rattle.ss_meaning.proofs.Prefixes.{positions_never_fall, out_never_falls}
use Rattle.ss_meaning.proofs.Arriving.{out_at_the_end}
use Rattle.ss_meaning.proofs.laws.counts_never_fall.Goals as goal

pub returns : goal.returns
returns c = record { pos = positions_never_fall; out = out_never_falls; end = out_at_the_end }
