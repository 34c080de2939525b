use Rattle.ss_meaning.proofs.Lows.{low-le, low_never_falls}
use Rattle.ss_meaning.proofs.Arriving.{low_is_top_at_the_end}
use Rattle.ss_meaning.proofs.laws.low_never_falls.Goals as goal

pub returns : goal.returns
returns c = record { least = low-le; rises = low_never_falls; end = low_is_top_at_the_end }
