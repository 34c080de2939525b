use Rattle.ss_meaning.proofs.Streams.{meaning_is_early}
use Rattle.ss_meaning.proofs.laws.meaning_is_early.Goals as goal

pub returns : goal.returns
returns c = meaning_is_early
