use Rattle.std.proofs.Common.{List, ap, ◌∙◌}
use Rattle.std.specs.Prelude.{nat_eq}
use Rattle.std.specs.Set.{distinct_count}
use Rattle.ss_elem.specs.declared.element.Event.{Event}
use Rattle.ss_join.specs.Held.{keys_apart}
use Rattle.ss_join.specs.States.{row_keys}
use Rattle.ss_join.proofs.Keys.{none_apart}
use Rattle.ss_join.proofs.side.Side.keys.Goals as goal

pub returns-clause-count : goal.returns-clause-count
returns-clause-count c =
    let keys = row_keys c.args.self.now in
    c.keys_beside.ensures.count
    ∙ (ap (λ (rows : List Event). distinct_count nat_eq (keys_apart (row_keys rows) keys)) c.new-none.ensures ∙ ap (distinct_count nat_eq) (none_apart keys))
