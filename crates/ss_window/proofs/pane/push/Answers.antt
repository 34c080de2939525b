use Rattle.std.proofs.Common.{ap, ◌∙◌}
use Rattle.ss_window.specs.Held.{entries_at}
use Rattle.ss_window.proofs.PaneTotals.{insert_last}
use Rattle.ss_window.proofs.pane.push.Goals as goal

pub returns-clause-ok : goal.returns-clause-ok
returns-clause-ok c =
    λ end behind.
    ap (entries_at end) c.in_ok-insert.ensures.entries ∙ insert_last c.args.pane.now.entries end c.args.key.now c.args.total behind
