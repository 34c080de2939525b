use Rattle.ss_state.proofs.Runnable.{runnable_has_numbers}
use Rattle.ss_state.proofs.meaning.runnable_has_numbers.Goals as goal

pub returns : goal.returns
returns c =
    runnable_has_numbers c.merge_keeps_each_input.ensures.all c.meaning_is_made_of_the_inputs.ensures c.meaning_is_whole.ensures
