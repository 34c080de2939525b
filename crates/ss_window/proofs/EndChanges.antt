-- What changes in the pane of one end changes in the same way among the entries of all panes.
use Rattle.std.proofs.Common.{◌≡◌, ℕ, ◌<◌, ◌≤◌, Bool, true, false, cond, ℤ, List, [], ◌∷◌, ◌++◌, Option, Some, None, refl, sym, ap, subst, ◌∙◌, arith}
use Rattle.std.specs.List.{AllByRecursion}
use Rattle.std.specs.List.Sorted.{IsStrictlySortedBy}
use Rattle.std.specs.declared.cmp.Ordering.{Ordering}
use Rattle.std.specs.declared.cmp.Ordering.TheVariants.{Less, Equal, Greater}
use Rattle.std.specs.Ordering.{nat_cmp, is_eq, match_ordering, MatchOrdering}
use Rattle.std.specs.Cmp.{nat_cmp_total}
use Rattle.std.specs.Map.{lookup, keys_of, set_value}
use Rattle.std.specs.BTreeMap.{BTreeMap, is_at, insert_entry}
use Rattle.std.proofs.lemmas.Cmp.{ranked}
use Rattle.std.proofs.lemmas.List.{append-nil}
use Rattle.std.proofs.lemmas.Map.{lookup-none}
use Rattle.std.proofs.lemmas.Map.Entries.{none_below_head}
use Rattle.std.proofs.lemmas.Option.{same_Some}
use Rattle.ss_meaning.specs.Entries.{WindowEntry}
use Rattle.ss_meaning.specs.EntryLists.{is_before, is_of, single_entry, grown_entry, put_value}
use Rattle.ss_window.specs.Held.{EntryTotal, entry_of, entries_at, entries_in}
use Rattle.ss_window.specs.Puts.{with_former, restored}
use Rattle.ss_window.proofs.Places.{before_earlier, before_later, none_some, of_earlier, of_later, some_none}

abbrev pub ThePanes : Type 0
ThePanes = List (ℕ × BTreeMap ℕ EntryTotal)

-- the entries end later than this
abbrev pub AreLater : ℕ → List WindowEntry → Type 0
AreLater w es = AllByRecursion (λ (e : WindowEntry). w < e.end) es

-- a change at one end: entries of earlier ends stay in front, and those of later ends behind
pub record IsAtEnd (w : ℕ) (change : List WindowEntry → List WindowEntry) : Type 0 where
  pub earlier : (e : WindowEntry) (es : List WindowEntry) → e.end < w → change (e ∷ es) ≡ e ∷ change es
  pub later : (es fs : List WindowEntry) → AreLater w fs → change (es ++ fs) ≡ change es ++ fs

-- the changes that are made

pub put_at_end : (join : ℤ → ℤ → ℤ) (key : ℕ) (value : ℤ) (w : ℕ) → IsAtEnd w (put_value join key value w)
put_at_end join key value w = record { earlier = earlier; later = later }
  where
    earlier : (e : WindowEntry) (es : List WindowEntry) → e.end < w → put_value join key value w (e ∷ es) ≡ e ∷ put_value join key value w es
    earlier e es h =
        ap (λ b. cond b (e ∷ put_value join key value w es) (cond (is_of w key e) (grown_entry join value e ∷ es) (single_entry w key value ∷ e ∷ es)))
        (before_earlier w key e h)

    later : (es fs : List WindowEntry) → AreLater w fs → put_value join key value w (es ++ fs) ≡ put_value join key value w es ++ fs
    later [] [] h = refl
    later [] (f ∷ fs) h =
        ap (λ b. cond b (f ∷ put_value join key value w fs) (cond (is_of w key f) (grown_entry join value f ∷ fs) (single_entry w key value ∷ f ∷ fs)))
        (before_later w key f h.0)
        ∙ ap (λ b. cond b (grown_entry join value f ∷ fs) (single_entry w key value ∷ f ∷ fs)) (of_later w key f h.0)
    later (e ∷ es) fs h = by_tests (is_before w key e) (is_of w key e) (later es fs h)
      where
        by_tests : (p q : Bool) → put_value join key value w (es ++ fs) ≡ put_value join key value w es ++ fs
            → cond p (e ∷ put_value join key value w (es ++ fs)) (cond q (grown_entry join value e ∷ (es ++ fs)) (single_entry w key value ∷ e ∷ (es ++ fs)))
            ≡ cond p (e ∷ put_value join key value w es) (cond q (grown_entry join value e ∷ es) (single_entry w key value ∷ e ∷ es)) ++ fs
        by_tests true q rest = ap (λ (xs : List WindowEntry). e ∷ xs) rest
        by_tests false true rest = refl
        by_tests false false rest = refl

none_restored : (w key : ℕ) (had : Option EntryTotal) (es : List WindowEntry) → AreLater w es → restored w key had es ≡ es
none_restored w key had [] h = refl
none_restored w key had (e ∷ es) h =
    ap (λ b. cond b (with_former w key had es) (e ∷ restored w key had es)) (of_later w key e h.0)
    ∙ ap (λ (xs : List WindowEntry). e ∷ xs) (none_restored w key had es h.1)

pub restore_at_end : (w key : ℕ) (had : Option EntryTotal) → IsAtEnd w (restored w key had)
restore_at_end w key had = record { earlier = earlier; later = later }
  where
    earlier : (e : WindowEntry) (es : List WindowEntry) → e.end < w → restored w key had (e ∷ es) ≡ e ∷ restored w key had es
    earlier e es h = ap (λ b. cond b (with_former w key had es) (e ∷ restored w key had es)) (of_earlier w key e h)

    former : (o : Option EntryTotal) (es fs : List WindowEntry) → with_former w key o (es ++ fs) ≡ with_former w key o es ++ fs
    former None es fs = refl
    former (Some t) es fs = refl

    later : (es fs : List WindowEntry) → AreLater w fs → restored w key had (es ++ fs) ≡ restored w key had es ++ fs
    later [] fs h = none_restored w key had fs h
    later (e ∷ es) fs h = by_test (is_of w key e) (later es fs h)
      where
        by_test : (b : Bool) → restored w key had (es ++ fs) ≡ restored w key had es ++ fs
            → cond b (with_former w key had (es ++ fs)) (e ∷ restored w key had (es ++ fs)) ≡ cond b (with_former w key had es) (e ∷ restored w key had es) ++ fs
        by_test true rest = former had es fs
        by_test false rest = ap (λ (xs : List WindowEntry). e ∷ xs) rest

pub none_at_end : (w : ℕ) → IsAtEnd w (λ es. es)
none_at_end w = record { earlier = λ e es h. refl; later = λ es fs h. refl }

-- entries with one more in its place
abbrev pub with_entry : WindowEntry → List WindowEntry → List WindowEntry
with_entry x [] = x ∷ []
with_entry x (e ∷ es) = cond (is_before x.end x.key e) (e ∷ with_entry x es) (x ∷ e ∷ es)

pub entry_at_end : (x : WindowEntry) → IsAtEnd x.end (with_entry x)
entry_at_end x = record { earlier = earlier; later = later }
  where
    earlier : (e : WindowEntry) (es : List WindowEntry) → e.end < x.end → with_entry x (e ∷ es) ≡ e ∷ with_entry x es
    earlier e es h = ap (λ b. cond b (e ∷ with_entry x es) (x ∷ e ∷ es)) (before_earlier x.end x.key e h)

    later : (es fs : List WindowEntry) → AreLater x.end fs → with_entry x (es ++ fs) ≡ with_entry x es ++ fs
    later [] [] h = refl
    later [] (f ∷ fs) h = ap (λ b. cond b (f ∷ with_entry x fs) (x ∷ f ∷ fs)) (before_later x.end x.key f h.0)
    later (e ∷ es) fs h = by_test (is_before x.end x.key e) (later es fs h)
      where
        by_test : (b : Bool) → with_entry x (es ++ fs) ≡ with_entry x es ++ fs → cond b (e ∷ with_entry x (es ++ fs)) (x ∷ e ∷ (es ++ fs)) ≡ cond b (e ∷ with_entry x es) (x ∷ e ∷ es) ++ fs
        by_test true rest = ap (λ (xs : List WindowEntry). e ∷ xs) rest
        by_test false rest = refl

pub entry_behind_all : (x : WindowEntry) (es : List WindowEntry) → AllByRecursion (λ (e : WindowEntry). is_before x.end x.key e ≡ true) es → with_entry x es ≡ es ++ x ∷ []
entry_behind_all x [] h = refl
entry_behind_all x (e ∷ es) h =
    ap (λ b. cond b (e ∷ with_entry x es) (x ∷ e ∷ es)) h.0 ∙ ap (λ (xs : List WindowEntry). e ∷ xs) (entry_behind_all x es h.1)

-- the entries of one pane, and those of later panes

pub pane_later : (w end : ℕ) (ts : List (ℕ × EntryTotal)) (rest : List WindowEntry) → w < end → AreLater w rest → AreLater w (entries_at end ts ++ rest)
pane_later w end [] rest h k = k
pane_later w end (t ∷ ts) rest h k = (h, pane_later w end ts rest h k)

less : (w k : ℕ) → nat_cmp w k ≡ Less → w < k
less w k h = ranked w k Less (sym h)

pub panes_later : (w : ℕ) (ps : ThePanes) → AllByRecursion (λ k. nat_cmp w k ≡ Less) (keys_of ps) → AreLater w (entries_in ps)
panes_later w [] h = tt
panes_later w (p ∷ ps) h = pane_later w p.0 p.1.entries (entries_in ps) (less w p.0 h.0) (panes_later w ps h.1)

later_still : (v w : ℕ) (es : List WindowEntry) → v ≤ w → AreLater w es → AreLater v es
later_still v w [] h k = tt
later_still v w (e ∷ es) h k = (omega (arith, h, k.0), later_still v w es h k.1)

pub past_pane : (w : ℕ) (change : List WindowEntry → List WindowEntry) → IsAtEnd w change → (end : ℕ) (ts : List (ℕ × EntryTotal)) (rest : List WindowEntry) → end < w
    → change (entries_at end ts ++ rest) ≡ entries_at end ts ++ change rest
past_pane w change local end [] rest h = refl
past_pane w change local end (t ∷ ts) rest h =
    local.earlier (entry_of end t.0 t.1) (entries_at end ts ++ rest) h
    ∙ ap (λ (xs : List WindowEntry). entry_of end t.0 t.1 ∷ xs) (past_pane w change local end ts rest h)

-- in the pane at hand
at_hand : (w : ℕ) (change : List WindowEntry → List WindowEntry) → IsAtEnd w change → (r : ℕ × BTreeMap ℕ EntryTotal) (ps : ThePanes) (p : BTreeMap ℕ EntryTotal) (es : List WindowEntry)
    → AllByRecursion (λ k. nat_cmp r.0 k ≡ Less) (keys_of ps) → w ≡ r.0 → r.1 ≡ p → es ≡ change (entries_at w p.entries)
    → es ++ entries_in ps ≡ change (entries_at r.0 r.1.entries ++ entries_in ps)
at_hand w change local r ps p es s same is h =
    let rest = entries_in ps in
    let behind : AreLater w rest = subst (λ n. AreLater n rest) (sym same) (panes_later r.0 ps s) in
    ap (λ (xs : List WindowEntry). xs ++ rest) h
    ∙ (sym (local.later (entries_at w p.entries) rest behind)
    ∙ (ap (λ (q : BTreeMap ℕ EntryTotal). change (entries_at w q.entries ++ rest)) (sym is) ∙ ap (λ n. change (entries_at n r.1.entries ++ rest)) same))

-- in front of all panes
in_front : (w : ℕ) (change : List WindowEntry → List WindowEntry) → IsAtEnd w change → (r : ℕ × BTreeMap ℕ EntryTotal) (ps : ThePanes) (es : List WindowEntry)
    → AllByRecursion (λ k. nat_cmp r.0 k ≡ Less) (keys_of ps) → w < r.0 → es ≡ change []
    → es ++ (entries_at r.0 r.1.entries ++ entries_in ps) ≡ change (entries_at r.0 r.1.entries ++ entries_in ps)
in_front w change local r ps es s before h =
    let all = entries_at r.0 r.1.entries ++ entries_in ps in
    let behind : AreLater w all = pane_later w r.0 r.1.entries (entries_in ps) before (later_still w r.0 (entries_in ps) (omega (arith, before)) (panes_later r.0 ps s)) in
    ap (λ (xs : List WindowEntry). xs ++ all) h ∙ sym (local.later [] all behind)

-- past a pane of an earlier end
ahead : (w : ℕ) (change : List WindowEntry → List WindowEntry) → IsAtEnd w change → (r : ℕ × BTreeMap ℕ EntryTotal) (new : List WindowEntry) (ps : ThePanes)
    → r.0 < w → new ≡ change (entries_in ps) → entries_at r.0 r.1.entries ++ new ≡ change (entries_at r.0 r.1.entries ++ entries_in ps)
ahead w change local r new ps h rest =
    ap (λ (xs : List WindowEntry). entries_at r.0 r.1.entries ++ xs) rest ∙ sym (past_pane w change local r.0 r.1.entries (entries_in ps) h)

-- a pane that is there takes others' totals

pub changed_pane : (w : ℕ) (change : List WindowEntry → List WindowEntry) → IsAtEnd w change → (ps : ThePanes) (p q : BTreeMap ℕ EntryTotal)
    → IsStrictlySortedBy nat_cmp (keys_of ps) → lookup (is_at (nat_cmp w)) ps ≡ Some p → entries_at w q.entries ≡ change (entries_at w p.entries)
    → entries_in (set_value (is_at (nat_cmp w)) ps q) ≡ change (entries_in ps)
unfolding IsStrictlySortedBy
changed_pane w change local [] p q s h k = absurd (none_some p h)
changed_pane w change local (r ∷ ps) p q s h k =
    by_order (nat_cmp w r.0) refl (ranked w r.0 (nat_cmp w r.0) refl) h (λ g. changed_pane w change local ps p q s.1 g k)
  where
    by_order : (c : Ordering) → nat_cmp w r.0 ≡ c → MatchOrdering c (w < r.0) (w ≡ r.0) (r.0 < w)
        → cond (is_eq c) (Some r.1) (lookup (is_at (nat_cmp w)) ps) ≡ Some p
        → (lookup (is_at (nat_cmp w)) ps ≡ Some p → entries_in (set_value (is_at (nat_cmp w)) ps q) ≡ change (entries_in ps))
        → entries_in (cond (is_eq c) ((r.0, q) ∷ ps) (r ∷ set_value (is_at (nat_cmp w)) ps q)) ≡ change (entries_at r.0 r.1.entries ++ entries_in ps)
    by_order Less less rank g rest =
        absurd (none_some p (sym (lookup-none (is_at (nat_cmp w)) ps (none_below_head nat_cmp_total w r ps s less).1) ∙ g))
    by_order Equal eq rank g rest =
        ap (λ n. entries_at n q.entries ++ entries_in ps) (sym rank) ∙ at_hand w change local r ps p (entries_at w q.entries) s.0 rank (same_Some r.1 p g) k
    by_order Greater more rank g rest = ahead w change local r (entries_in (set_value (is_at (nat_cmp w)) ps q)) ps rank (rest g)

-- at an end that has no pane

pub new_pane : (w : ℕ) (change : List WindowEntry → List WindowEntry) → IsAtEnd w change → (ps : ThePanes) (q : BTreeMap ℕ EntryTotal)
    → IsStrictlySortedBy nat_cmp (keys_of ps) → lookup (is_at (nat_cmp w)) ps ≡ None → entries_at w q.entries ≡ change []
    → entries_in (insert_entry nat_cmp ps w q) ≡ change (entries_in ps)
unfolding IsStrictlySortedBy
new_pane w change local [] q s h k = append-nil (entries_at w q.entries) ∙ k
new_pane w change local (r ∷ ps) q s h k =
    by_order (nat_cmp w r.0) (ranked w r.0 (nat_cmp w r.0) refl) h (λ g. new_pane w change local ps q s.1 g k)
  where
    by_order : (c : Ordering) → MatchOrdering c (w < r.0) (w ≡ r.0) (r.0 < w)
        → cond (is_eq c) (Some r.1) (lookup (is_at (nat_cmp w)) ps) ≡ None
        → (lookup (is_at (nat_cmp w)) ps ≡ None → entries_in (insert_entry nat_cmp ps w q) ≡ change (entries_in ps))
        → entries_in (match_ordering c ((w, q) ∷ r ∷ ps) ((r.0, q) ∷ ps) (r ∷ insert_entry nat_cmp ps w q)) ≡ change (entries_at r.0 r.1.entries ++ entries_in ps)
    by_order Less rank g rest = in_front w change local r ps (entries_at w q.entries) s.0 rank k
    by_order Equal rank g rest = absurd (some_none r.1 g)
    by_order Greater rank g rest = ahead w change local r (entries_in (insert_entry nat_cmp ps w q)) ps rank (rest g)

pub no_pane : (w : ℕ) (change : List WindowEntry → List WindowEntry) → IsAtEnd w change → (ps : ThePanes)
    → IsStrictlySortedBy nat_cmp (keys_of ps) → lookup (is_at (nat_cmp w)) ps ≡ None → [] ≡ change []
    → entries_in ps ≡ change (entries_in ps)
unfolding IsStrictlySortedBy
no_pane w change local [] s h k = k
no_pane w change local (r ∷ ps) s h k =
    by_order (nat_cmp w r.0) (ranked w r.0 (nat_cmp w r.0) refl) h (λ g. no_pane w change local ps s.1 g k)
  where
    by_order : (c : Ordering) → MatchOrdering c (w < r.0) (w ≡ r.0) (r.0 < w)
        → cond (is_eq c) (Some r.1) (lookup (is_at (nat_cmp w)) ps) ≡ None
        → (lookup (is_at (nat_cmp w)) ps ≡ None → entries_in ps ≡ change (entries_in ps))
        → entries_at r.0 r.1.entries ++ entries_in ps ≡ change (entries_at r.0 r.1.entries ++ entries_in ps)
    by_order Less rank g rest = in_front w change local r ps [] s.0 rank k
    by_order Equal rank g rest = absurd (some_none r.1 g)
    by_order Greater rank g rest = ahead w change local r (entries_in ps) ps rank (rest g)
