use Rattle.ss_state.proofs.Growing.{nothing_durable_falls}
use Rattle.ss_state.proofs.laws.nothing_durable_falls.Goals as goal

pub returns : goal.returns
returns c = nothing_durable_falls
