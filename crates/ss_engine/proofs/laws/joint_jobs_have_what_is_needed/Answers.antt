use Rattle.ss_engine.proofs.Made.{has_needed}
use Rattle.ss_engine.proofs.laws.joint_jobs_have_what_is_needed.Goals as goal

pub returns : goal.returns
returns c = λ p joint. has_needed c.act_laws.ensures p joint.numbers
