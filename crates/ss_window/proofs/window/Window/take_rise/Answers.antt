use Rattle.std.proofs.Common.{◌++◌, List, filter, nat_le, ap, ◌∙◌}
use Rattle.ss_elem.specs.declared.element.Element.{Element}
use Rattle.ss_meaning.specs.Entries.{WindowEntry}
use Rattle.ss_window.specs.States.{State, left, given_at, rows_of_entries}
use Rattle.ss_window.proofs.window.Window.take_rise.Goals as goal

pub returns-clause-entries : goal.returns-clause-entries
returns-clause-entries c = c.give_reached.ensures.left ∙ ap (λ (s : State). left c.args.low s.entries) c.self.view_is

pub returns-clause-given : goal.returns-clause-given
returns-clause-given c =
    let rows : List WindowEntry → List Element = rows_of_entries c.self.inside.hop in
    c.give_reached.ensures.given
    ∙ (ap (λ (before : List Element). before ++ rows (filter (λ (e : WindowEntry). nat_le e.end c.args.low) c.self.inside.panes)) c.in_ok-reserve.ensures.elements
    ∙ ap (λ (s : State). c.args.out.now.elements ++ given_at c.args.low s) c.self.view_is)
