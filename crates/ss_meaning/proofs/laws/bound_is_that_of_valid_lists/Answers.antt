use Rattle.ss_meaning.proofs.Lows.{bound_of_valid}
use Rattle.ss_meaning.proofs.laws.bound_is_that_of_valid_lists.Goals as goal

pub returns : goal.returns
returns c = bound_of_valid
