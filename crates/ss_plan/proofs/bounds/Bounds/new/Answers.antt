use Rattle.ss_plan.proofs.Beginnings.{no_bounds}
use Rattle.ss_plan.proofs.bounds.Bounds.new.Goals as goal

pub returns : goal.returns
returns c = no_bounds c.args.width c.requires
