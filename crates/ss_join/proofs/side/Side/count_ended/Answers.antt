use Rattle.std.proofs.Common.{◌≡◌, List, nat_le, length, filter, count_by, refl, sym, ap, subst, ◌∙◌, arith}
use Rattle.ss_elem.specs.declared.element.Event.{Event}
use Rattle.ss_meaning.specs.Entries.{rows_ending_above}
use Rattle.ss_join.proofs.Ended.{counted, none_reached}
use Rattle.ss_join.proofs.Holding.{forgot_all, forgot}
use Rattle.ss_join.proofs.side.Side.count_ended.Goals as goal

pub returns-clause-count : goal.returns-clause-count
returns-clause-count c =
    let now = c.self.inside in
    let up_to = λ (row : Event). nat_le row.end c.args.bound in
    let stop : count_by up_to c.loop-row.row-iterator ≡ 0 = ap (λ (rows : List Event). count_by up_to rows) c.in-None.ensures.steps.0 in
    let count : c.loop-row.count ≡ count_by up_to c.values-row-items.result =
    omega (arith, stop, c.loop-row.invariant.count, ap (λ (rows : List Event). count_by up_to rows) c.into_iter-row-iterator.ensures.into_iter_gives) in
    count
    ∙ (ap (λ (rows : List Event). count_by up_to rows) c.values-row-items.ensures.rest
    ∙ (counted up_to now.rows now.ends now.next c.self.invariant
    ∙ ap (λ (rows : List Event). length (filter up_to rows)) c.self.view_is))

pub returns-then-not-is_first_reached-clause-count : goal.returns-then-not-is_first_reached-clause-count
returns-then-not-is_first_reached-clause-count c =
    let now = c.self.inside in
    let up_to = λ (row : Event). nat_le row.end c.args.bound in
    let all = forgot_all now.rows now.ends now.next c.args.bound c.self.invariant (sym c.is_first_reached.ensures ∙ c.if-not-is_first_reached.true) in
    let same = forgot now.rows now.rows now.next c.args.bound refl all in
    sym (none_reached c.args.bound c.args.self.now (subst (λ (rows : List Event). rows_ending_above c.args.bound rows ≡ rows) c.self.view_is (sym same)))
