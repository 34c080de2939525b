use Rattle.std.proofs.Common.{◌≡◌, List, All, sym, ap, subst, ◌∙◌, arith}
use Rattle.ss_elem.specs.declared.element.Event.{Event}
use Rattle.ss_image.specs.Images.{join_image}
use Rattle.ss_join.specs.ImageLaws.{HasEarlyTimes}
use Rattle.ss_join.specs.States.{Sides}
use Rattle.ss_session.proofs.except.Except.of_image.Goals as goal

pub invariant_of-result : goal.invariant_of-result
invariant_of-result c =
    let left : List Event = c.in_ok-left.left.items in
    let sides : Sides = record { left = left; right = c.in_ok-left.right.items } in
    let kept : left ≡ c.in_ok-of_rows.field-0 = sym (c.in_ok-of_rows.ensures ∙ c.deref.ensures.value) in
    subst (All HasEarlyTimes) kept (c.images_have_early_rows.ensures c.args.bounds c.args.bytes.now sides c.in_ok-left.ensures.ok)

pub returns-clause-spelling : goal.returns-clause-spelling
returns-clause-spelling c =
    let left : List Event = c.in_ok-left.left.items in
    let right : List Event = c.in_ok-left.right.items in
    let sides : Sides = record { left = left; right = right } in
    let kept_left : left ≡ c.in_ok-of_rows.field-0 = sym (c.in_ok-of_rows.ensures ∙ c.deref.ensures.value) in
    let kept_right : right ≡ c.in_ok-of_rows-2.field-0 = sym (c.in_ok-of_rows-2.ensures ∙ c.deref-2.ensures.value) in
    c.images_have_one_spelling.ensures c.args.bounds c.args.bytes.now sides (λ i. omega (arith, c.type_inv.bytes i)) c.in_ok-left.ensures.ok
    ∙ (ap (λ (rows : List Event). join_image rows right) kept_left ∙ ap (join_image c.in_ok-of_rows.field-0) kept_right)
