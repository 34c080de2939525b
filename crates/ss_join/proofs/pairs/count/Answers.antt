use Rattle.std.proofs.Common.{◌≡◌, List, length, count_by, ap, ◌∙◌, arith}
use Rattle.std.specs.Map.{values_of}
use Rattle.ss_elem.specs.declared.element.Element.{Element}
use Rattle.ss_elem.specs.declared.element.Event.{Event}
use Rattle.ss_meaning.specs.Join.{matches}
use Rattle.ss_join.proofs.Joining.{joined_same, joined_count}
use Rattle.ss_join.proofs.pairs.count.Goals as goal

pub returns-clause-given : goal.returns-clause-given
returns-clause-given c input =
    let row = c.args.row.now in
    let range : List Event = values_of c.of_key-other-items.result in
    let none : count_by (matches row) (values_of c.loop-other.other-iterator) ≡ 0 = ap (λ es. count_by (matches row) (values_of es)) c.in-None.ensures.steps.0 in
    let count : c.loop-other.count ≡ count_by (matches row) range =
    omega (arith, none, c.loop-other.invariant.count, ap (λ es. count_by (matches row) (values_of es)) c.into_iter-other-iterator.ensures.into_iter_gives) in
    count ∙ (joined_count input row range
    ∙ ap (λ (xs : List Element). length xs) (joined_same input row range c.args.others.now c.of_key-other-items.ensures.rows))
