use Rattle.std.proofs.Common.{◌≡◌, ℕ, ◌+◌, ◌≤◌, List, ◌∷◌, length, sym, ap, subst, ◌∙◌, arith}
use Rattle.std.specs.List.{AllByRecursion}
use Rattle.std.specs.BTreeMap.{BTreeMap}
use Rattle.ss_meaning.specs.Entries.{WindowEntry}
use Rattle.ss_meaning.specs.EntryLists.{AreInOrder}
use Rattle.ss_window.specs.Held.{EntryTotal, HasTotal, entries_at, entries_in}
use Rattle.ss_window.specs.States.{reached}
use Rattle.ss_window.proofs.EndChanges.{ThePanes}
use Rattle.ss_window.proofs.PaneLists.{front_goes_on, front_stops, pane_length}
use Rattle.ss_window.proofs.Rises.{order_behind}
use Rattle.ss_window.proofs.panes.Panes.due.Goals as goal

zero-add : (n : ℕ) → 0 + n ≡ n
zero-add n = omega arith

pub loop-end-init : goal.loop-end-init
loop-end-init c =
    let start : c.into_iter-end-iterator.result ≡ c.self.inside.by_end.entries = c.into_iter-end-iterator.ensures.into_iter_gives.0 in
    let items : entries_in c.into_iter-end-iterator.result ≡ c.args.self.now = ap entries_in start ∙ c.self.view_is in
    record {
      due = ap (λ (es : List WindowEntry). 0 + length (reached c.args.low es)) items ∙ zero-add (length (reached c.args.low c.args.self.now));
      all = ap (λ (es : List WindowEntry). 0 + length es) items ∙ zero-add (length c.args.self.now);
      order = subst (λ (ps : ThePanes). AreInOrder (entries_in ps)) (sym start) c.self.invariant.order;
      full = subst (AllByRecursion HasTotal) (sym start) c.self.invariant.full;
    }

pub returns-then-end-low-clause-due : goal.returns-then-end-low-clause-due
returns-then-end-low-clause-due c =
    let first : ℕ × BTreeMap ℕ EntryTotal = (c.in-Some.end.now, c.in-Some.pane.now) in
    let steps : c.loop-end.end-iterator ≡ first ∷ c.next.new.self = c.in-Some.ensures.steps in
    let none = front_stops c.args.low first c.next.new.self (subst (AllByRecursion HasTotal) steps c.loop-end.invariant.full)
    (subst (λ (ps : ThePanes). AreInOrder (entries_in ps)) steps c.loop-end.invariant.order) c.if-end-low.true in
    let stop : length (reached c.args.low (entries_in c.loop-end.end-iterator)) ≡ 0 =
    ap (λ (ps : ThePanes). length (reached c.args.low (entries_in ps))) steps ∙ ap (λ (es : List WindowEntry). length es) none in
    let due = c.loop-end.invariant.due in
    omega (arith, stop, due)

pub loop-end-preserved : goal.loop-end-preserved
loop-end-preserved c =
    let first : ℕ × BTreeMap ℕ EntryTotal = (c.in-Some.end.now, c.in-Some.pane.now) in
    let rest = c.next.new.self in
    let steps : c.loop-end.end-iterator ≡ first ∷ rest = c.in-Some.ensures.steps in
    let low : first.0 ≤ c.args.low = omega (arith, c.if-end-low.false) in
    let reach = ap (λ (ps : ThePanes). length (reached c.args.low (entries_in ps))) steps ∙ front_goes_on c.args.low first rest low in
    let whole = ap (λ (ps : ThePanes). length (entries_in ps)) steps ∙ pane_length first (entries_in rest) in
    let more = c.len.ensures.len in
    let due = c.loop-end.invariant.due in
    let all = c.loop-end.invariant.all in
    record {
      due = omega (arith, reach, more, due);
      all = omega (arith, whole, more, all);
      order = order_behind (entries_at first.0 first.1.entries) (entries_in rest) (subst (λ (ps : ThePanes). AreInOrder (entries_in ps)) steps c.loop-end.invariant.order);
      full = (subst (AllByRecursion HasTotal) steps c.loop-end.invariant.full).1;
    }

pub returns-clause-due : goal.returns-clause-due
returns-clause-due c =
    let stop : length (reached c.args.low (entries_in c.loop-end.end-iterator)) ≡ 0 =
    ap (λ (ps : ThePanes). length (reached c.args.low (entries_in ps))) c.in-None.ensures.steps.0 in
    let due = c.loop-end.invariant.due in
    omega (arith, stop, due)
