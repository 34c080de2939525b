-- The instance is as before.
use Rattle.std.proofs.Common.{sym, subst}
use Rattle.ss_vertex.specs.Standing.{InstStands}
use Rattle.tests_vertex.proofs.images.fault_of.Goals as goal

pub check_fits-requires-clause-other : goal.check_fits-requires-clause-other
check_fits-requires-clause-other g c = (c.args.image.items, c.with_image-other.ensures)

pub returns : goal.returns
returns g c = subst (InstStands c.args.plan.now) (sym c.in-Err.ensures.err) c.requires.stands
