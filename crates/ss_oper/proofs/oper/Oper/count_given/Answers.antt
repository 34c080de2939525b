-- As many rows, and what tells that Low rose.
use Rattle.std.proofs.Common.{◌≡◌, ◌+◌, List, length, sym, ap, subst, ◌∙◌, arith}
use Rattle.std.specs.Option.{option_to_list}
use Rattle.ss_elem.specs.declared.element.Element.{Element}
use Rattle.ss_meaning.specs.Low.{advance}
use Rattle.ss_oper.specs.Standing.{OperState, CountsGiven}
use Rattle.ss_oper.proofs.Stepping.{counts}
use Rattle.ss_oper.proofs.oper.Oper.count_given.Goals as goal

pub returns-in-Some-clause-given : goal.returns-in-Some-clause-given
returns-in-Some-clause-given c =
    let told : length (advance c.self.inside.low c.low-after.result) ≡ 1 =
    ap (λ (xs : List Element). length xs) (sym c.told_rise.ensures ∙ ap option_to_list c.in-Some.is) in
    subst (λ (state : OperState). CountsGiven c.args.merger.now c.args.input c.args.x.now state (c.count_rows-rows.result + 1)) c.self.view_is
    (counts c.args.merger.now c.args.input c.args.x.now c.self.inside.kept c.self.inside.low c.low-after.result c.bounds.result c.count_rows-rows.result (c.count_rows-rows.result + 1)
    c.low-after.ensures.low c.bounds.ensures c.count_rows-rows.ensures.rows (ap (λ n. c.count_rows-rows.result + n) (sym told)))

pub returns-in-None-clause-given : goal.returns-in-None-clause-given
returns-in-None-clause-given c =
    let told : length (advance c.self.inside.low c.low-after.result) ≡ 0 =
    ap (λ (xs : List Element). length xs) (sym c.told_rise.ensures ∙ ap option_to_list c.in-None.is) in
    subst (λ (state : OperState). CountsGiven c.args.merger.now c.args.input c.args.x.now state c.count_rows-rows.result) c.self.view_is
    (counts c.args.merger.now c.args.input c.args.x.now c.self.inside.kept c.self.inside.low c.low-after.result c.bounds.result c.count_rows-rows.result c.count_rows-rows.result
    c.low-after.ensures.low c.bounds.ensures c.count_rows-rows.ensures.rows (omega (arith, told)))
