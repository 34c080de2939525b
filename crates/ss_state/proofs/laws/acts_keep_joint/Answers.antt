use Rattle.ss_state.proofs.Kept.{acts_keep_joint, faults_keep_joint}
use Rattle.ss_state.proofs.laws.acts_keep_joint.Goals as goal

pub returns : goal.returns
returns c = record { made = acts_keep_joint; fault = faults_keep_joint }
