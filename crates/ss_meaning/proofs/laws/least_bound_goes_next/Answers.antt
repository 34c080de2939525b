use Rattle.ss_meaning.proofs.LeastBound.{least_bound_goes_next}
use Rattle.ss_meaning.proofs.laws.least_bound_goes_next.Goals as goal

pub returns : goal.returns
returns c = least_bound_goes_next
