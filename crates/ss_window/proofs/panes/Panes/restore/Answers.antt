use Rattle.std.proofs.Common.{List, length, sym, ap, subst, ◌∙◌, arith}
use Rattle.std.specs.Prelude.{IsSome}
use Rattle.ss_meaning.specs.Entries.{WindowEntry}
use Rattle.ss_meaning.specs.EntryLists.{AreInOrder}
use Rattle.ss_window.specs.Held.{entries_in}
use Rattle.ss_window.specs.Puts.{found}
use Rattle.ss_window.proofs.Restores.{fewer_length, kept_length, restored_order}
use Rattle.ss_window.proofs.panes.Panes.restore.Goals as goal

pub invariant_of-self : goal.invariant_of-self
invariant_of-self c =
    let es : List WindowEntry = entries_in c.self.inside.by_end.entries in
    let some = subst (λ (xs : List WindowEntry). IsSome (found c.args.end c.args.key.now xs)) (sym c.self.view_is) c.requires in
    let same = ap (λ (xs : List WindowEntry). length xs) c.restore_at.ensures.entries in
    let fewer = fewer_length c.args.end c.args.key.now c.args.had.now es c.if-is_none.ensures some in
    let counted = c.self.invariant.counted in
    let few = c.self.invariant.few in
    record {
      full = c.restore_at.ensures.full;
      order = subst AreInOrder (sym c.restore_at.ensures.entries) (restored_order c.args.end c.args.key.now c.args.had.now es c.self.invariant.order);
      counted = omega (arith, same, fewer, counted);
      few = omega (arith, few);
    }

pub invariant_of-self-else-is_none : goal.invariant_of-self-else-is_none
invariant_of-self-else-is_none c =
    let es : List WindowEntry = entries_in c.self.inside.by_end.entries in
    let same = ap (λ (xs : List WindowEntry). length xs) c.restore_at.ensures.entries in
    let kept = kept_length c.args.end c.args.key.now c.args.had.now es c.if-is_none.ensures in
    record {
      full = c.restore_at.ensures.full;
      order = subst AreInOrder (sym c.restore_at.ensures.entries) (restored_order c.args.end c.args.key.now c.args.had.now es c.self.invariant.order);
      counted = c.self.invariant.counted ∙ sym (same ∙ kept);
      few = c.self.invariant.few;
    }
