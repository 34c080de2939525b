use Rattle.ss_play.proofs.RolesOfPlans.{have_roles}
use Rattle.ss_play.proofs.schedules.plans_have_roles.Goals as goal

pub returns : goal.returns
returns c = have_roles c.vertices_by_number.ensures c.plans_have_numbers.ensures.meant
