use Rattle.ss_state.proofs.Growing.{flush_is_never_apart}
use Rattle.ss_state.proofs.laws.flush_is_never_apart.Goals as goal

pub returns : goal.returns
returns c = flush_is_never_apart
