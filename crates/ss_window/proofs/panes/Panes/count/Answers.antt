use Rattle.std.proofs.Common.{List, ap, ◌∙◌}
use Rattle.ss_meaning.specs.Entries.{WindowEntry}
use Rattle.ss_window.specs.States.{pane_count}
use Rattle.ss_window.proofs.PaneLists.{panes_counted}
use Rattle.ss_window.proofs.panes.Panes.count.Goals as goal

pub returns : goal.returns
returns c =
    c.len.ensures.len
    ∙ (panes_counted c.self.inside.by_end.entries c.len.ensures.ordered c.self.invariant.full ∙ ap (λ (es : List WindowEntry). pane_count es) c.self.view_is)
