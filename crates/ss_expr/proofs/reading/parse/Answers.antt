use Rattle.std.proofs.Common.{Ok, Err}
use Rattle.ss_expr.proofs.Exact.{only_is}
use Rattle.ss_expr.proofs.reading.parse.Goals as goal

pub returns-in-Ok-clause-only : goal.returns-in-Ok-clause-only
returns-in-Ok-clause-only c = only_is c.args.text.now c.as_bytes.result.now (Ok c.in-Ok.e) c.as_bytes.ensures.value c.in-Ok.ensures

pub returns-in-Err-clause-only : goal.returns-in-Err-clause-only
returns-in-Err-clause-only c = only_is c.args.text.now c.as_bytes.result.now (Err c.in-Err.fault) c.as_bytes.ensures.value c.in-Err.ensures
