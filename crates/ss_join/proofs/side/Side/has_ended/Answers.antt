use Rattle.std.proofs.Common.{◌≡◌, refl, sym, subst, ◌∙◌, List}
use Rattle.ss_elem.specs.declared.element.Event.{Event}
use Rattle.ss_meaning.specs.Entries.{rows_ending_above}
use Rattle.ss_join.proofs.Holding.{forgot_all, forgot}
use Rattle.ss_join.proofs.side.Side.has_ended.Goals as goal

pub returns : goal.returns
returns c none =
    let now = c.self.inside in
    let all = forgot_all now.rows now.ends now.next c.args.bound c.self.invariant (sym c.is_first_reached.ensures ∙ none) in
    let same = forgot now.rows now.rows now.next c.args.bound refl all in
    subst (λ (rows : List Event). rows_ending_above c.args.bound rows ≡ rows) c.self.view_is (sym same)
