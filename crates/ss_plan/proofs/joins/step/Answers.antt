-- The join's own step, and how far both inputs have come.
use Rattle.std.proofs.Common.{◌≡◌, ◌<◌, ◌++◌, List, sym, ap, subst, ◌∙◌}
use Rattle.std.specs.Option.{option_to_list}
use Rattle.ss_elem.specs.declared.element.Element.{Element}
use Rattle.ss_meaning.specs.Emit.{Join}
use Rattle.ss_meaning.specs.Inputs.{least_bound}
use Rattle.ss_meaning.specs.Low.{advance}
use Rattle.ss_meaning.specs.Merge.{Arrival}
use Rattle.ss_plan.specs.Steps.{SideSteps}
use Rattle.ss_plan.proofs.SideSteps.{side_steps}
use Rattle.ss_plan.proofs.joins.step.Goals as goal

pub returns-clause-given : goal.returns-clause-given
returns-clause-given c =
    let y : Arrival = record { input = c.x.inside.input; element = c.x.inside.element } in
    let old = c.args.join.now in
    let stood = c.args.bounds.now in
    let before = c.args.out.now.elements in
    let middle = c.step.new.out.elements in
    let after = c.push_mark.new.out.elements in
    let told : after ≡ middle ++ advance (least_bound stood) (least_bound c.advance-mark.new.self) =
    c.push_mark.ensures
    ∙ ap (λ (front : List Element). front ++ option_to_list c.advance-mark.result) c.in_ok-reserve.ensures.elements
    ∙ ap (λ (back : List Element). middle ++ back) c.advance-mark.ensures.given in
    subst (SideSteps Join old c.step.new.self stood before after) c.x.view_is
    (side_steps c.bounds_tell_what_is_next.ensures.bounds c.bounds_tell_what_is_next.ensures.low Join old c.step.new.self stood c.advance-mark.new.self
    c.to_array.result before middle after y (subst (λ (a : Arrival). a.input < 2) (sym c.x.view_is) c.requires.input) c.advance-mark.ensures.bounds
    c.to_array.ensures c.in_ok-step.ensures.ok told)
