use Rattle.ss_rounds.proofs.Whole.{over_is_whole}
use Rattle.ss_rounds.proofs.laws.what_is_over_is_whole.Goals as goal

pub returns : goal.returns
returns c = over_is_whole
