use Rattle.std.proofs.Common.{◌≡◌, ℕ, List, ◌==◌, ◌++◌, length, filter, refl, sym, ap, ◌∙◌, arith}
use Rattle.std.specs.Map.{values_of}
use Rattle.std.proofs.lemmas.List.{append-nil}
use Rattle.ss_elem.specs.declared.element.Element.{Element}
use Rattle.ss_elem.specs.declared.element.Event.{Event}
use Rattle.ss_join.specs.States.{joined_elements}
use Rattle.ss_join.proofs.Joining.{joined_same, joined_few}
use Rattle.ss_join.proofs.pairs.give.Goals as goal

-- what is gone through gives what all rows give
all_of_key : (input : ℕ) (row : Event) (through range : List ((ℕ × ℕ) × Event)) (rows : List Event) → through ≡ range
    → values_of range ≡ filter (λ (other : Event). row.key == other.key) rows → joined_elements input row (values_of through) ≡ joined_elements input row rows
all_of_key input row through range rows same h =
    ap (λ es. joined_elements input row (values_of es)) same ∙ joined_same input row (values_of range) rows h

pub loop-other-init : goal.loop-other-init
loop-other-init c =
    let same =
    all_of_key c.args.input c.args.row.now c.into_iter-other-iterator.result c.of_key-other-items.result c.args.others.now
    c.into_iter-other-iterator.ensures.into_iter_gives c.of_key-other-items.ensures.rows in
    record { given = refl; room = omega (arith, ap (λ (xs : List Element). length xs) same, joined_few c.args.input c.args.row.now c.args.others.now, c.requires) }

pub returns-clause-elements : goal.returns-clause-elements
returns-clause-elements c =
    let out : List Element = c.loop-other.out.elements in
    let same =
    all_of_key c.args.input c.args.row.now c.into_iter-other-iterator.result c.of_key-other-items.result c.args.others.now
    c.into_iter-other-iterator.ensures.into_iter_gives c.of_key-other-items.ensures.rows in
    sym (append-nil out)
    ∙ (ap (λ es. out ++ joined_elements c.args.input c.args.row.now (values_of es)) (sym c.in-None.ensures.steps.0)
    ∙ (c.loop-other.invariant.given ∙ ap (λ (xs : List Element). c.args.out.now.elements ++ xs) same))
