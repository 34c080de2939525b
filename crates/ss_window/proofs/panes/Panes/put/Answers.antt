use Rattle.std.proofs.Common.{Option, List, length, sym, ap, subst, ◌∙◌, arith, refl, w64, ℤ, to_z, of_z}
use Rattle.std.specs.Prelude.{IsSome}
use Rattle.ss_meaning.specs.Entries.{WindowEntry}
use Rattle.ss_meaning.specs.EntryLists.{AreInOrder}
use Rattle.ss_window.specs.Held.{EntryTotal, join_of, entries_in}
use Rattle.ss_window.proofs.Restores.{put_new_length, put_old_length}
use Rattle.ss_window.proofs.panes.Panes.put.Goals as goal

pub invariant_of-self-in-Some : goal.invariant_of-self-in-Some
invariant_of-self-in-Some c =
    let value : ℤ = to_z w64 (of_z w64 c.args.value) in
    let join = join_of c.args.agg in
    let key = c.args.key.now in
    let es : List WindowEntry = entries_in c.self.inside.by_end.entries in
    let some = subst (λ (o : Option EntryTotal). IsSome o) (sym c.in-Some.is ∙ c.in_ok-had.ensures.told) refl in
    record {
      full = c.put_at.ensures.full;
      order = subst AreInOrder (sym c.in_ok-had.ensures.ok) (c.entries_are_in_order.ensures.put join key value c.args.end es c.self.invariant.order);
      counted =
          c.self.invariant.counted
          ∙ sym (ap (λ (xs : List WindowEntry). length xs) c.in_ok-had.ensures.ok ∙ put_old_length join c.args.end key value es c.self.invariant.order some);
      few = c.self.invariant.few;
    }

pub invariant_of-self-in-None : goal.invariant_of-self-in-None
invariant_of-self-in-None c =
    let value : ℤ = to_z w64 (of_z w64 c.args.value) in
    let join = join_of c.args.agg in
    let key = c.args.key.now in
    let es : List WindowEntry = entries_in c.self.inside.by_end.entries in
    let more =
    ap (λ (xs : List WindowEntry). length xs) c.in_ok-had.ensures.ok
    ∙ put_new_length join c.args.end key value es (sym c.in_ok-had.ensures.told ∙ c.in-None.is) in
    let counted = c.self.invariant.counted in
    let few = c.if-self-ge-TOO_MANY.false in
    record {
      full = c.put_at.ensures.full;
      order = subst AreInOrder (sym c.in_ok-had.ensures.ok) (c.entries_are_in_order.ensures.put join key value c.args.end es c.self.invariant.order);
      counted = omega (arith, counted, more);
      few = omega (arith, few);
    }
