use Rattle.ss_state.proofs.Starting.{first_state_is_joint}
use Rattle.ss_state.proofs.laws.first_state_is_joint.Goals as goal

pub returns : goal.returns
returns c = first_state_is_joint
