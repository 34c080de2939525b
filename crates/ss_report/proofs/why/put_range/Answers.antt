use Rattle.std.proofs.Common.{rules, append_assoc}
use Rattle.ss_report.proofs.why.put_range.Goals as goal

pub returns-clause-text : goal.returns-clause-text
returns-clause-text c = search (rules, append_assoc)
