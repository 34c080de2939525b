use Rattle.std.proofs.Common.{ℕ, Option, sym, ap, ◌∙◌}
use Rattle.std.specs.BTreeMap.{BTreeMap}
use Rattle.ss_window.specs.Held.{EntryTotal, entries_at}
use Rattle.ss_window.specs.Puts.{restored}
use Rattle.ss_window.proofs.PaneTotals.{set_is_restored, remove_is_restored, absent_is_restored}
use Rattle.ss_window.proofs.pane.restore.Goals as goal

pub returns-in-Some-get_mut : goal.returns-in-Some-get_mut
returns-in-Some-get_mut c =
    λ end.
    ap (entries_at end) (c.get_mut.follows.holds c.in-Some.total).0
    ∙ (set_is_restored end c.args.key.now c.args.pane.now.entries c.in-Some.total
    ∙ ap (λ (o : Option EntryTotal). restored end c.args.key.now o (entries_at end c.args.pane.now.entries)) (sym c.in-Some.is))

pub returns-in-None-get_mut : goal.returns-in-None-get_mut
returns-in-None-get_mut c =
    λ end.
    ap (λ (pane : BTreeMap ℕ EntryTotal). entries_at end pane.entries) c.get_mut.follows.holds-at-none
    ∙ absent_is_restored end c.args.key.now c.args.had.now c.args.pane.now.entries (sym c.in-None-get_mut.ensures.value)

pub returns-in-None : goal.returns-in-None
returns-in-None c =
    λ end.
    ap (entries_at end) c.remove.ensures.entries
    ∙ (remove_is_restored end c.args.key.now c.args.pane.now.entries
    ∙ ap (λ (o : Option EntryTotal). restored end c.args.key.now o (entries_at end c.args.pane.now.entries)) (sym c.in-None.is))
