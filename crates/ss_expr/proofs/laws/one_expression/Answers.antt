use Rattle.ss_expr.proofs.LawFacts.{one_expression_only}
use Rattle.ss_expr.proofs.laws.one_expression.Goals as goal

pub returns : goal.returns
returns c = one_expression_only
