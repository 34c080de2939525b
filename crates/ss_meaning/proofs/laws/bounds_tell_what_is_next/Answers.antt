use Rattle.ss_meaning.proofs.InputBounds.{bounds_after_arrival, counts_after_arrival, low_is_the_least_bound, next_input_arrives}
use Rattle.ss_meaning.proofs.laws.bounds_tell_what_is_next.Goals as goal

pub returns : goal.returns
returns c =
    record { bounds = bounds_after_arrival; counts = counts_after_arrival; low = low_is_the_least_bound; next = next_input_arrives }
