use Rattle.ss_state.proofs.Meant.{numbers_are_meant}
use Rattle.ss_state.proofs.meaning.numbers_are_meant.Goals as goal

pub returns : goal.returns
returns c = numbers_are_meant c.meaning_is_made_of_the_inputs.ensures
