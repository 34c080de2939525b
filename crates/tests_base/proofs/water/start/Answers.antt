use Rattle.std.proofs.Common.{arith}
use Rattle.tests_base.proofs.water.start.Goals as goal

pub start_of-requires : goal.start_of-requires
start_of-requires c = (0, omega arith, omega arith)
