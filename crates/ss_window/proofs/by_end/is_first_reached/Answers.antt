use Rattle.ss_window.proofs.PaneLists.{first_end}
use Rattle.ss_window.proofs.by_end.is_first_reached.Goals as goal

pub returns-in-Some : goal.returns-in-Some
returns-in-Some c = first_end c.args.low c.args.by_end.now.entries _ c.requires c.in-Some.ensures.first
