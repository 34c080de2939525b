use Rattle.ss_oper.proofs.ReadAgain.{images_again}
use Rattle.ss_oper.proofs.laws.images_are_read_again.Goals as goal

pub returns : goal.returns
returns c =
    images_again c.merge_keeps_each_input.ensures.follows c.images_are_read_again.ensures.states c.images_are_read_again-2.ensures.states
    c.images_are_read_again-2.ensures.absence c.images_are_read_again-3.ensures
