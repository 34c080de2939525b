use Rattle.std.proofs.Common.{List, ◌==◌, filter, ap, ◌∙◌}
use Rattle.ss_elem.specs.declared.element.Event.{Event}
use Rattle.ss_join.proofs.Listings.{key_rows}
use Rattle.ss_join.proofs.side.Side.of_key.Goals as goal

pub returns-clause-rows : goal.returns-clause-rows
returns-clause-rows c =
    let now = c.self.inside in
    key_rows now.rows now.ends now.next c.args.key.now c.range.result c.self.invariant (c.range.ensures.between tt)
    ∙ ap (λ (rows : List Event). filter (λ (row : Event). c.args.key.now == row.key) rows) c.self.view_is
