use Rattle.ss_meaning.proofs.Streams.{meaning_is_whole}
use Rattle.ss_meaning.proofs.laws.meaning_is_whole.Goals as goal

pub returns : goal.returns
returns c = meaning_is_whole
