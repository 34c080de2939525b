use Rattle.ss_state.proofs.Required.{low_is_below_start, need_is_below_required}
use Rattle.ss_state.proofs.laws.need_is_below_required.Goals as goal

pub returns : goal.returns
returns c = record { low = low_is_below_start; need = need_is_below_required }
