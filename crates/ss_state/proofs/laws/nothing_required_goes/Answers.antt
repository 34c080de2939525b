use Rattle.ss_state.proofs.Required.{nothing_required_goes}
use Rattle.ss_state.proofs.laws.nothing_required_goes.Goals as goal

pub returns : goal.returns
returns c = nothing_required_goes
