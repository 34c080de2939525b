use Rattle.ss_play.proofs.Failures.{failures_fire}
use Rattle.ss_play.proofs.schedules.failures_can_fire.Goals as goal

pub returns : goal.returns
returns c = failures_fire c.plans_have_roles.ensures
