use Rattle.ss_expr.proofs.Printed.{printed_is_read}
use Rattle.ss_expr.proofs.laws.printed_is_read.Goals as goal

pub returns : goal.returns
returns c = printed_is_read
