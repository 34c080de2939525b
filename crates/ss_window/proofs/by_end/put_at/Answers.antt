use Rattle.std.proofs.Common.{◌≡◌, ℕ, ◌+◌, ◌^◌, ◌<◌, List, [], ◌∷◌, length, sym, ap, subst, ◌∙◌, arith, w64, ℤ, to_z, of_z}
use Rattle.std.proofs.lemmas.Int.{to_z-of_z}
use Rattle.std.proofs.lemmas.List.Elements.{All-from_recursion, recursion_from_All}
use Rattle.std.specs.List.{AllByRecursion}
use Rattle.std.specs.Ordering.{nat_cmp}
use Rattle.std.specs.BTreeMap.{BTreeMap, insert_entry, is_at}
use Rattle.ss_meaning.specs.EntryLists.{put_value, single_entry}
use Rattle.ss_window.specs.Held.{EntryTotal, HasTotal, join_of, entry_of, entries_at, entries_in}
use Rattle.ss_window.proofs.EndChanges.{changed_pane, new_pane, none_at_end, put_at_end}
use Rattle.ss_window.proofs.PaneLists.{all_there, found_nowhere, found_there, grown_full, insert_full, totals_few}
use Rattle.ss_window.proofs.by_end.put_at.Goals as goal

pub put-requires : goal.put-requires
put-requires c =
    let panes = c.args.by_end.now.entries in
    All-from_recursion _ _
    (totals_few (λ (t : EntryTotal). t.rows + 1 < 2 ^ 63) c.args.end _
    (all_there _ c.args.end panes c.in-Some.pane.now (sym c.in-Some.ensures.value) (recursion_from_All _ (entries_in panes) c.requires.few)))

pub returns-in-Ok-clause-ok : goal.returns-in-Ok-clause-ok
returns-in-Ok-clause-ok c =
    let value : ℤ = to_z w64 (of_z w64 c.args.value) in
    let panes = c.args.by_end.now.entries in
    ap entries_in (c.get_mut.follows.holds c.put.new.pane).0
    ∙ (changed_pane c.args.end _ (put_at_end (join_of c.args.agg) c.args.key.now value c.args.end) panes c.in-Some.pane.now c.put.new.pane
    c.get_mut.ensures.ordered (sym c.in-Some.ensures.value) (c.in-Ok.ensures.ok c.args.end)
    ∙ ap (λ (v : ℤ). put_value (join_of c.args.agg) c.args.key.now v c.args.end (entries_in panes)) (to_z-of_z w64 c.args.value c.ranges.value))

pub returns-in-Ok-clause-told : goal.returns-in-Ok-clause-told
returns-in-Ok-clause-told c =
    c.in-Ok.ensures.told
    ∙ sym (found_there c.args.end c.args.key.now c.args.by_end.now.entries c.in-Some.pane.now c.get_mut.ensures.ordered (sym c.in-Some.ensures.value))

pub returns-in-Ok-clause-full : goal.returns-in-Ok-clause-full
returns-in-Ok-clause-full c =
    subst (AllByRecursion HasTotal) (sym (c.get_mut.follows.holds c.put.new.pane).0)
    (grown_full (is_at (nat_cmp c.args.end)) c.args.by_end.now.entries c.in-Some.pane.now c.put.new.pane c.requires.full (sym c.in-Some.ensures.value) c.put.ensures.len)

pub returns-in-Err-clause-err : goal.returns-in-Err-clause-err
returns-in-Err-clause-err c =
    ap entries_in (c.get_mut.follows.holds c.put.new.pane).0
    ∙ changed_pane c.args.end (λ es. es) (none_at_end c.args.end) c.args.by_end.now.entries c.in-Some.pane.now c.put.new.pane
    c.get_mut.ensures.ordered (sym c.in-Some.ensures.value) (ap (entries_at c.args.end) c.in-Err.ensures.err)

pub returns-in-Err-clause-full : goal.returns-in-Err-clause-full
returns-in-Err-clause-full c =
    subst (AllByRecursion HasTotal) (sym (c.get_mut.follows.holds c.put.new.pane).0)
    (grown_full (is_at (nat_cmp c.args.end)) c.args.by_end.now.entries c.in-Some.pane.now c.put.new.pane c.requires.full (sym c.in-Some.ensures.value) c.put.ensures.len)

pub returns-in_ok-insert-in-None-clause-ok : goal.returns-in_ok-insert-in-None-clause-ok
returns-in_ok-insert-in-None-clause-ok c =
    let join = join_of c.args.agg in
    let key = c.args.key.now in
    let panes = c.args.by_end.now.entries in
    let value = to_z-of_z w64 c.args.value c.ranges.value in
    let pane : BTreeMap ℕ EntryTotal = c.in_ok-pane-in-None.pane in
    let single : entries_at c.args.end pane.entries ≡ put_value join key c.args.value c.args.end [] =
    ap (entries_at c.args.end) c.in_ok-pane-in-None.ensures
    ∙ (ap (λ (t : EntryTotal). entry_of c.args.end key t ∷ []) c.single.ensures ∙ ap (λ (v : ℤ). single_entry c.args.end key v ∷ []) value) in
    ap entries_in (c.in_ok-insert-in-None.ensures.entries ∙ ap (λ (m : BTreeMap ℕ (BTreeMap ℕ EntryTotal)). insert_entry nat_cmp m.entries c.args.end pane) c.get_mut.follows.holds-at-none)
    ∙ new_pane c.args.end (put_value join key c.args.value c.args.end) (put_at_end join key c.args.value c.args.end) panes pane
    c.get_mut.ensures.ordered (sym c.in-None.ensures.value) single

pub returns-in_ok-insert-in-None-clause-told : goal.returns-in_ok-insert-in-None-clause-told
returns-in_ok-insert-in-None-clause-told c =
    sym (found_nowhere c.args.end c.args.key.now c.args.by_end.now.entries (sym c.in-None.ensures.value))

pub returns-in_ok-insert-in-None-clause-full : goal.returns-in_ok-insert-in-None-clause-full
returns-in_ok-insert-in-None-clause-full c =
    let pane : BTreeMap ℕ EntryTotal = c.in_ok-pane-in-None.pane in
    let one : 0 < length pane.entries = (let same = ap (λ (es : List (ℕ × EntryTotal)). length es) c.in_ok-pane-in-None.ensures in omega (arith, same)) in
    subst (AllByRecursion HasTotal)
    (sym (c.in_ok-insert-in-None.ensures.entries ∙ ap (λ (m : BTreeMap ℕ (BTreeMap ℕ EntryTotal)). insert_entry nat_cmp m.entries c.args.end pane) c.get_mut.follows.holds-at-none))
    (insert_full c.args.end c.args.by_end.now.entries pane c.requires.full one)
