use Rattle.std.proofs.Common.{◌≡◌, ℕ, ◌<◌, true, List, [], ◌∷◌, ◌++◌, length, sym, ap, subst, ◌∙◌, arith}
use Rattle.std.specs.List.{AllByRecursion}
use Rattle.std.specs.Ordering.{nat_cmp}
use Rattle.std.specs.BTreeMap.{BTreeMap, insert_entry, is_at}
use Rattle.ss_meaning.specs.Entries.{WindowEntry}
use Rattle.ss_meaning.specs.EntryLists.{is_before}
use Rattle.ss_window.specs.Held.{EntryTotal, HasTotal, entry_of, entries_at, entries_in}
use Rattle.ss_window.proofs.EndChanges.{changed_pane, entry_at_end, entry_behind_all, new_pane, none_at_end, with_entry}
use Rattle.ss_window.proofs.PaneLists.{all_there, grown_full, insert_full}
use Rattle.ss_window.proofs.by_end.push_at.Goals as goal

-- the entry that is made of the parts that were read
same_entry : (e : WindowEntry) (end key : ℕ) (t : EntryTotal) → end ≡ e.end → key ≡ e.key → t ≡ record { value = e.value; rows = e.rows } → entry_of end key t ≡ e
same_entry e end key t h k l =
    ap (λ n. entry_of n key t) h ∙ (ap (λ n. entry_of e.end n t) k ∙ ap (entry_of e.end e.key) l)

behind_all : (e x : WindowEntry) (es : List WindowEntry) → x ≡ e → AllByRecursion (λ (f : WindowEntry). is_before e.end e.key f ≡ true) es
    → AllByRecursion (λ (f : WindowEntry). is_before x.end x.key f ≡ true) es
behind_all e x es made h = subst (λ (y : WindowEntry). AllByRecursion (λ (f : WindowEntry). is_before y.end y.key f ≡ true) es) (sym made) h

pub returns-in-Ok-clause-ok : goal.returns-in-Ok-clause-ok
returns-in-Ok-clause-ok c =
    let panes = c.args.by_end.now.entries in
    let w = c.end-place.result in
    let made = same_entry c.args.entry.now w c.key-key.result c.total-total.result c.end-place.ensures c.key-key.ensures c.total-total.ensures in
    let x : WindowEntry = entry_of w c.key-key.result c.total-total.result in
    let last = behind_all c.args.entry.now x (entries_in panes) made c.requires.last in
    let here = all_there (λ (f : WindowEntry). is_before w c.key-key.result f ≡ true) w panes c.in-Some.pane.now (sym c.in-Some.ensures.value) last in
    ap entries_in (c.get_mut.follows.holds c.push.new.pane).0
    ∙ (changed_pane w (with_entry x) (entry_at_end x) panes c.in-Some.pane.now c.push.new.pane c.get_mut.ensures.ordered (sym c.in-Some.ensures.value)
    (c.in-Ok.ensures.ok w here ∙ sym (entry_behind_all x (entries_at w c.in-Some.pane.now.entries) here))
    ∙ (entry_behind_all x (entries_in panes) last ∙ ap (λ (y : WindowEntry). entries_in panes ++ y ∷ []) made))

pub returns-in-Ok-clause-full : goal.returns-in-Ok-clause-full
returns-in-Ok-clause-full c =
    subst (AllByRecursion HasTotal) (sym (c.get_mut.follows.holds c.push.new.pane).0)
    (grown_full (is_at (nat_cmp c.end-place.result)) c.args.by_end.now.entries c.in-Some.pane.now c.push.new.pane c.requires.full (sym c.in-Some.ensures.value) c.push.ensures.len)

pub returns-in-Err-clause-err : goal.returns-in-Err-clause-err
returns-in-Err-clause-err c =
    let w = c.end-place.result in
    ap entries_in (c.get_mut.follows.holds c.push.new.pane).0
    ∙ changed_pane w (λ es. es) (none_at_end w) c.args.by_end.now.entries c.in-Some.pane.now c.push.new.pane
    c.get_mut.ensures.ordered (sym c.in-Some.ensures.value) (ap (entries_at w) c.in-Err.ensures.err)

pub returns-in-Err-clause-full : goal.returns-in-Err-clause-full
returns-in-Err-clause-full c =
    subst (AllByRecursion HasTotal) (sym (c.get_mut.follows.holds c.push.new.pane).0)
    (grown_full (is_at (nat_cmp c.end-place.result)) c.args.by_end.now.entries c.in-Some.pane.now c.push.new.pane c.requires.full (sym c.in-Some.ensures.value) c.push.ensures.len)

pub returns-in_ok-insert-in-None-clause-ok : goal.returns-in_ok-insert-in-None-clause-ok
returns-in_ok-insert-in-None-clause-ok c =
    let panes = c.args.by_end.now.entries in
    let w = c.end-place.result in
    let made = same_entry c.args.entry.now w c.key-key.result c.total-total.result c.end-place.ensures c.key-key.ensures c.total-total.ensures in
    let x : WindowEntry = entry_of w c.key-key.result c.total-total.result in
    let last = behind_all c.args.entry.now x (entries_in panes) made c.requires.last in
    let pane : BTreeMap ℕ EntryTotal = c.in_ok-pane-in-None.pane in
    ap entries_in (c.in_ok-insert-in-None.ensures.entries ∙ ap (λ (m : BTreeMap ℕ (BTreeMap ℕ EntryTotal)). insert_entry nat_cmp m.entries w pane) c.get_mut.follows.holds-at-none)
    ∙ (new_pane w (with_entry x) (entry_at_end x) panes pane c.get_mut.ensures.ordered (sym c.in-None.ensures.value) (ap (entries_at w) c.in_ok-pane-in-None.ensures)
    ∙ (entry_behind_all x (entries_in panes) last ∙ ap (λ (y : WindowEntry). entries_in panes ++ y ∷ []) made))

pub returns-in_ok-insert-in-None-clause-full : goal.returns-in_ok-insert-in-None-clause-full
returns-in_ok-insert-in-None-clause-full c =
    let pane : BTreeMap ℕ EntryTotal = c.in_ok-pane-in-None.pane in
    let one : 0 < length pane.entries = (let same = ap (λ (es : List (ℕ × EntryTotal)). length es) c.in_ok-pane-in-None.ensures in omega (arith, same)) in
    subst (AllByRecursion HasTotal)
    (sym (c.in_ok-insert-in-None.ensures.entries ∙ ap (λ (m : BTreeMap ℕ (BTreeMap ℕ EntryTotal)). insert_entry nat_cmp m.entries c.end-place.result pane) c.get_mut.follows.holds-at-none))
    (insert_full c.end-place.result c.args.by_end.now.entries pane c.requires.full one)
