use Rattle.std.proofs.Common.{refl}
use Rattle.ss_state.specs.NumbersOfMeaning.{job_numbers}
use Rattle.ss_state.proofs.meaning.job_of_three_is_meant.Goals as goal

pub returns : goal.returns
unfolding job_numbers
returns c = refl
