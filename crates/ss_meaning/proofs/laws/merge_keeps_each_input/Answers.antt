use Rattle.ss_meaning.proofs.Merging.{merge_keeps_each_input}
use Rattle.ss_meaning.proofs.Arriving.{arrivals_follow, arrivals_may_follow}
use Rattle.ss_meaning.proofs.laws.merge_keeps_each_input.Goals as goal

pub returns : goal.returns
returns c = record { all = merge_keeps_each_input; next = arrivals_follow; follows = arrivals_may_follow }
