use Rattle.std.proofs.Common.{rules, refl, ◌≡◌, ◌≤◌, ◌++◌, Some, None, true, false, sym, ap, ◌∙◌}
use Rattle.std.proofs.lemmas.Bool.{leb-true}
use Rattle.std.specs.BTreeMap.{get}
use Rattle.std.specs.Option.{option_to_list}
use Rattle.ss_elem.specs.declared.element.Event.{Event}
use Rattle.ss_meaning.specs.Entries.{rows_ending_above}
use Rattle.ss_meaning.specs.ExceptLaws.{ending_up_to}
use Rattle.ss_join.specs.Held.{place_cmp, rows_held, first_reached}
use Rattle.ss_join.proofs.Holding.{found_row, forgot_one, forgot_all, forgot}
use Rattle.ss_join.proofs.Popped.{placed_at, popped, same_open}
use Rattle.ss_join.proofs.side.Side.pop_ended.Goals as goal

some_none : (row : Event) → Some row ≡ None → ⊥
some_none row h = cc

pub returns-then-not-is_first_reached-clause-none : goal.returns-then-not-is_first_reached-clause-none
returns-then-not-is_first_reached-clause-none c none =
    let now = c.self.inside in
    let not_reached : c.is_first_reached.result ≡ false = search rules in
    let all = forgot_all now.rows now.ends now.next c.args.bound c.self.invariant (sym c.is_first_reached.ensures ∙ not_reached) in
    ap (rows_ending_above c.args.bound) (sym c.self.view_is)
    ∙ (sym (forgot now.rows now.rows now.next c.args.bound refl all) ∙ c.self.view_is)

pub invariant_of-self : goal.invariant_of-self
invariant_of-self c =
    let now = c.self.inside in
    let first = c.in-Some.first in
    let is_reached : c.is_first_reached.result ≡ true = search rules in
    let reached : first.0 ≤ c.args.bound =
    leb-true first.0 c.args.bound (sym (ap (first_reached c.args.bound) c.in-Some.ensures.removal) ∙ (sym c.is_first_reached.ensures ∙ is_reached)) in
    (forgot_one now.rows c.remove.new.self now.ends c.pop_first.new.self now.next c.args.bound first c.self.invariant c.in-Some.ensures.member reached
    c.remove.ensures.entries c.in-Some.ensures.updates.0 c.remove.ensures.updates.0 c.remove.ensures.ordered c.pop_first.ensures.ordered).0

pub returns-in-Some-clause-first : goal.returns-in-Some-clause-first
returns-in-Some-clause-first c =
    let now = c.self.inside in
    let first = c.in-Some.first in
    let is_reached : c.is_first_reached.result ≡ true = search rules in
    let reached : first.0 ≤ c.args.bound =
    leb-true first.0 c.args.bound (sym (ap (first_reached c.args.bound) c.in-Some.ensures.removal) ∙ (sym c.is_first_reached.ensures ∙ is_reached)) in
    let found = found_row (get place_cmp now.rows (first.2, first.1)) first.0 (sym (c.self.invariant.indexed first.0 first.1 first.2) ∙ c.in-Some.ensures.member) in
    ap (ending_up_to c.args.bound) (sym c.self.view_is)
    ∙ (popped now.rows c.remove.new.self now.ends now.next c.args.bound first c.pop_first.new.self.keys found.0 c.self.invariant c.in-Some.ensures.removal found.1 found.2
    (placed_at (first.2, first.1) found.0 now.next now.rows.entries found.1 c.self.invariant.placed) reached c.remove.ensures.entries
    ∙ ap (λ o. option_to_list o ++ ending_up_to c.args.bound (rows_held now.next c.remove.new.self)) (sym (c.remove.ensures.value ∙ found.1)))

pub returns-in-Some-clause-open : goal.returns-in-Some-clause-open
returns-in-Some-clause-open c =
    let now = c.self.inside in
    let first = c.in-Some.first in
    let is_reached : c.is_first_reached.result ≡ true = search rules in
    let reached : first.0 ≤ c.args.bound =
    leb-true first.0 c.args.bound (sym (ap (first_reached c.args.bound) c.in-Some.ensures.removal) ∙ (sym c.is_first_reached.ensures ∙ is_reached)) in
    let step =
    forgot_one now.rows c.remove.new.self now.ends c.pop_first.new.self now.next c.args.bound first c.self.invariant c.in-Some.ensures.member reached
    c.remove.ensures.entries c.in-Some.ensures.updates.0 c.remove.ensures.updates.0 c.remove.ensures.ordered c.pop_first.ensures.ordered in
    same_open now.rows c.remove.new.self now.next c.args.bound step.1 ∙ ap (rows_ending_above c.args.bound) c.self.view_is

pub returns-in-Some-clause-none : goal.returns-in-Some-clause-none
returns-in-Some-clause-none c none =
    let now = c.self.inside in
    let first = c.in-Some.first in
    let found = found_row (get place_cmp now.rows (first.2, first.1)) first.0 (sym (c.self.invariant.indexed first.0 first.1 first.2) ∙ c.in-Some.ensures.member) in
    absurd (some_none found.0 (sym (c.remove.ensures.value ∙ found.1) ∙ none))
