use Rattle.ss_play.proofs.ActsOfSchedules.{may_apply_all}
use Rattle.ss_play.proofs.schedules.schedules_may_apply.Goals as goal

pub returns : goal.returns
returns c = may_apply_all c.plans_have_roles.ensures
