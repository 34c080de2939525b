use Rattle.std.proofs.Common.{◌≡◌, ℕ, length, sym, ap, subst, ◌∙◌, arith, refl, eqb-true}
use Rattle.std.proofs.lemmas.Bool.{eqb-false}
use Rattle.std.specs.List.{AllByRecursion}
use Rattle.std.specs.Ordering.{nat_cmp}
use Rattle.std.specs.BTreeMap.{BTreeMap, is_at}
use Rattle.std.specs.Map.{remove_entry}
use Rattle.ss_window.specs.Held.{EntryTotal, HasTotal, entries_in}
use Rattle.ss_window.specs.Puts.{restored}
use Rattle.ss_window.proofs.EndChanges.{ThePanes, changed_pane, no_pane, restore_at_end}
use Rattle.ss_window.proofs.PaneLists.{empty_goes, others_full, remove_full, set_full}
use Rattle.ss_window.proofs.by_end.is_emptied.Goals as goal

pub returns-in-Some-clause-entries : goal.returns-in-Some-clause-entries
returns-in-Some-clause-entries c =
    ap entries_in (c.get_mut.follows.holds c.restore.new.pane).0
    ∙ changed_pane c.args.end _ (restore_at_end c.args.end c.args.key.now c.args.had.now) c.args.by_end.now.entries c.in-Some.pane.now c.restore.new.pane
    c.get_mut.ensures.ordered (sym c.in-Some.ensures.value) (c.restore.ensures c.args.end)

pub returns-in-Some-clause-full : goal.returns-in-Some-clause-full
returns-in-Some-clause-full c some =
    let left : length c.restore.new.pane.entries ≡ 0 → ⊥ = (λ none. eqb-false c.len.result 0 some (c.len.ensures.len ∙ none)) in
    subst (AllByRecursion HasTotal) (sym (c.get_mut.follows.holds c.restore.new.pane).0)
    (set_full (is_at (nat_cmp c.args.end)) c.args.by_end.now.entries c.restore.new.pane c.requires (grind (arith, left)))

pub returns-in-Some-clause-rest : goal.returns-in-Some-clause-rest
returns-in-Some-clause-rest c =
    subst (λ (ps : ThePanes). AllByRecursion HasTotal (remove_entry (is_at (nat_cmp c.args.end)) ps)) (sym (c.get_mut.follows.holds c.restore.new.pane).0)
    (others_full (is_at (nat_cmp c.args.end)) c.args.by_end.now.entries c.restore.new.pane c.requires)

pub returns-in-Some-clause-empty : goal.returns-in-Some-clause-empty
returns-in-Some-clause-empty c none =
    subst (λ (ps : ThePanes). entries_in (remove_entry (is_at (nat_cmp c.args.end)) ps) ≡ entries_in ps) (sym (c.get_mut.follows.holds c.restore.new.pane).0)
    (empty_goes (is_at (nat_cmp c.args.end)) c.args.by_end.now.entries c.in-Some.pane.now c.restore.new.pane (sym c.in-Some.ensures.value)
    (sym c.len.ensures.len ∙ eqb-true c.len.result 0 none))

pub returns-in-None-clause-entries : goal.returns-in-None-clause-entries
returns-in-None-clause-entries c =
    ap (λ (m : BTreeMap ℕ (BTreeMap ℕ EntryTotal)). entries_in m.entries) c.get_mut.follows.holds-at-none
    ∙ no_pane c.args.end (restored c.args.end c.args.key.now c.args.had.now) (restore_at_end c.args.end c.args.key.now c.args.had.now) c.args.by_end.now.entries
    c.get_mut.ensures.ordered (sym c.in-None.ensures.value) refl

pub returns-in-None-clause-rest : goal.returns-in-None-clause-rest
returns-in-None-clause-rest c =
    subst (λ (m : BTreeMap ℕ (BTreeMap ℕ EntryTotal)). AllByRecursion HasTotal (remove_entry (is_at (nat_cmp c.args.end)) m.entries)) (sym c.get_mut.follows.holds-at-none)
    (remove_full (is_at (nat_cmp c.args.end)) c.args.by_end.now.entries c.requires)
