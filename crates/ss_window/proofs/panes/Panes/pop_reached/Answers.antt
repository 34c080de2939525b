use Rattle.std.proofs.Common.{◌≡◌, ℕ, ◌∷◌, length, sym, ap, subst, ◌∙◌, arith, refl, leb-true}
use Rattle.std.specs.List.{AllByRecursion}
use Rattle.std.specs.BTreeMap.{BTreeMap}
use Rattle.ss_meaning.specs.EntryLists.{AreInOrder}
use Rattle.ss_window.specs.Held.{EntryTotal, HasTotal, entries_at, entries_in}
use Rattle.ss_window.specs.States.{begins_reached}
use Rattle.ss_window.proofs.EndChanges.{ThePanes}
use Rattle.ss_window.proofs.PaneLists.{first_end, pane_length}
use Rattle.ss_window.proofs.Rises.{order_behind}
use Rattle.ss_window.proofs.panes.Panes.pop_reached.Goals as goal

pub invariant_of-self : goal.invariant_of-self
invariant_of-self c =
    let first : ℕ × BTreeMap ℕ EntryTotal = (c.in-Some.end, c.in-Some.pane) in
    let rest = c.pop_first.new.self.entries in
    let removal : c.self.inside.by_end.entries ≡ first ∷ rest = c.in-Some.ensures.removal in
    let whole = ap (λ (ps : ThePanes). length (entries_in ps)) removal ∙ pane_length first (entries_in rest) in
    let len = c.len.ensures.len in
    let counted = c.self.invariant.counted in
    let few = c.self.invariant.few in
    record {
      full = (subst (AllByRecursion HasTotal) removal c.self.invariant.full).1;
      order = order_behind (entries_at first.0 first.1.entries) (entries_in rest) (subst (λ (ps : ThePanes). AreInOrder (entries_in ps)) removal c.self.invariant.order);
      counted = omega (arith, whole, len, counted);
      few = omega (arith, few);
    }

pub returns-in-Some-clause-reached : goal.returns-in-Some-clause-reached
returns-in-Some-clause-reached c =
    let first : ℕ × BTreeMap ℕ EntryTotal = (c.in-Some.end, c.in-Some.pane) in
    let rest = c.pop_first.new.self.entries in
    let removal : c.self.inside.by_end.entries ≡ first ∷ rest = c.in-Some.ensures.removal in
    leb-true c.in-Some.end c.args.low
    (first_end c.args.low (first ∷ rest) first (subst (AllByRecursion HasTotal) removal c.self.invariant.full) refl
    ∙ (ap (λ (ps : ThePanes). begins_reached c.args.low (entries_in ps)) (sym removal) ∙ sym c.if-not-is_first_reached.ensures))
