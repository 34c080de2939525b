use Rattle.ss_meaning.proofs.Streams.{meaning_by_inputs}
use Rattle.ss_meaning.proofs.laws.meaning_is_made_of_the_inputs.Goals as goal

pub returns : goal.returns
returns c = meaning_by_inputs
