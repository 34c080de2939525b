use Rattle.ss_rounds.proofs.Takes.{takes_lower_the_total, other_takes_change_nothing, other_takes_have_all}
use Rattle.ss_rounds.proofs.laws.takes_lower_the_total.Goals as goal

pub returns : goal.returns
returns c = record { lower = takes_lower_the_total; still = other_takes_change_nothing; all = other_takes_have_all }
