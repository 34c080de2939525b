use Rattle.ss_expr.proofs.LawFacts.{brackets_keep}
use Rattle.ss_expr.proofs.laws.brackets_keep_the_tree.Goals as goal

pub returns : goal.returns
returns c = brackets_keep
