use Rattle.ss_meaning.proofs.Sorting.{sorted_is_in_order}
use Rattle.ss_meaning.proofs.laws.sorted_is_in_order.Goals as goal

pub returns : goal.returns
returns c = sorted_is_in_order
