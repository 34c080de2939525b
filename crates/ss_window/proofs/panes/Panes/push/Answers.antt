use Rattle.std.proofs.Common.{◌≡◌, true, List, length, sym, ap, subst, ◌∙◌, arith}
use Rattle.std.specs.List.{AllByRecursion}
use Rattle.std.proofs.lemmas.List.{length_push}
use Rattle.ss_meaning.specs.Entries.{WindowEntry}
use Rattle.ss_meaning.specs.EntryLists.{AreInOrder, is_before}
use Rattle.ss_window.specs.Held.{entries_in}
use Rattle.ss_window.proofs.Pushes.{pushed_order}
use Rattle.ss_window.proofs.panes.Panes.push.Goals as goal

pub invariant_of-self-2 : goal.invariant_of-self-2
invariant_of-self-2 c =
    let e : WindowEntry = c.args.entry.now in
    let es : List WindowEntry = entries_in c.self.inside.by_end.entries in
    let last = subst (AllByRecursion (λ (f : WindowEntry). is_before e.end e.key f ≡ true)) (sym c.self.view_is) c.requires in
    let more = ap (λ (xs : List WindowEntry). length xs) c.in_ok-push_at.ensures.ok ∙ length_push es e in
    let counted = c.self.invariant.counted in
    let few = c.if-self-ge-TOO_MANY.false in
    record {
      full = c.push_at.ensures.full;
      order = subst AreInOrder (sym c.in_ok-push_at.ensures.ok) (pushed_order es e c.self.invariant.order last);
      counted = omega (arith, counted, more);
      few = omega (arith, few);
    }
