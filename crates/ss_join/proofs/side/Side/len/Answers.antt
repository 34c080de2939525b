use Rattle.std.proofs.Common.{List, length, sym, ap, ◌∙◌}
use Rattle.ss_elem.specs.declared.element.Event.{Event}
use Rattle.ss_join.proofs.Listings.{rows_counted}
use Rattle.ss_join.proofs.side.Side.len.Goals as goal

pub returns-clause-len : goal.returns-clause-len
returns-clause-len c =
    let now = c.self.inside in
    c.len.ensures.len ∙ (sym (rows_counted now.rows now.ends now.next c.self.invariant) ∙ ap (λ (rows : List Event). length rows) c.self.view_is)
