use Rattle.std.proofs.Common.{◌≡◌, true, List, subst}
use Rattle.std.specs.Prelude.{All, ◌↔◌}
use Rattle.ss_meaning.specs.Entries.{WindowEntry}
use Rattle.ss_window.specs.States.{CountsFew}
use Rattle.ss_window.proofs.PaneLists.{few_counted}
use Rattle.ss_window.proofs.panes.Panes.counts_few.Goals as goal

pub returns : goal.returns
returns c =
    let P : List WindowEntry → Type 0 = λ es. (c.counts_few.result ≡ true) ↔ All CountsFew es in
    subst P c.self.view_is (few_counted c.counts_few.result c.self.inside.by_end.entries c.counts_few.ensures)
