-- The rows of what is kept, and then what tells that Low rose.
use Rattle.std.proofs.Common.{◌≡◌, ◌++◌, List, ap, subst, ◌∙◌}
use Rattle.ss_elem.specs.declared.element.Element.{Element}
use Rattle.ss_meaning.specs.Low.{advance}
use Rattle.ss_oper.specs.Kept.{state_of}
use Rattle.ss_oper.specs.Standing.{OperState, Steps}
use Rattle.ss_oper.proofs.Stepping.{steps}
use Rattle.ss_oper.proofs.oper.Oper.step.Goals as goal

pub returns-clause-ok : goal.returns-clause-ok
returns-clause-ok c =
    let old = c.self.inside.kept in
    let new = c.give_rows.new.kept in
    let least = c.low-low.result in
    let before = c.args.out.now.elements in
    let middle = c.give_rows.new.out.elements in
    let after = c.push_mark.new.out.elements in
    let told : after ≡ middle ++ advance c.self.inside.low least =
    c.push_mark.ensures ∙ ap (λ (back : List Element). middle ++ back) c.told_rise.ensures in
    subst (λ (state : OperState). Steps c.args.merger.now c.args.input c.args.x.now state (state_of new least) before after) c.self.view_is
    (steps c.args.merger.now c.args.input c.args.x.now old new c.self.inside.low least c.bounds.result before middle after
    c.low-low.ensures.low c.bounds.ensures c.give_rows.ensures.spec c.in_ok-give_rows.ensures.rows told)
