-- What panes tell of their entries.
use Rattle.std.proofs.Common.{◌≡◌, ℕ, suc, ◌+◌, ◌<◌, ◌≤◌, Bool, true, false, cond, nat_lt, List, [], ◌∷◌, ◌++◌, length, map, Option, Some, None, refl, sym, ap, subst, ◌∙◌, arith, ltb-true, lt-ltb, eq-eqb, ◌^◌}
use Rattle.std.specs.Prelude.{All, nat_eq, nat_le, slice_get, ◌||◌}
use Rattle.std.specs.Set.{is_member, distinct_count, unique_keys}
use Rattle.std.specs.List.{AllByRecursion, list_all}
use Rattle.std.specs.List.Sorted.{IsStrictlySortedBy}
use Rattle.std.specs.declared.cmp.Ordering.{Ordering}
use Rattle.std.specs.declared.cmp.Ordering.TheVariants.{Less, Equal, Greater}
use Rattle.std.specs.Ordering.{nat_cmp, is_eq, match_ordering, MatchOrdering}
use Rattle.std.specs.Map.{lookup, keys_of, values_of, set_value, remove_entry}
use Rattle.std.specs.BTreeMap.{BTreeMap, is_at, insert_entry}
use Rattle.std.proofs.lemmas.Cmp.{ranked}
use Rattle.std.proofs.lemmas.Bool.{and_parts, and_from, lt-leb, ne_eqb}
use Rattle.std.proofs.lemmas.List.{length-append, length-map}
use Rattle.std.proofs.lemmas.Option.{same_Some}
use Rattle.std.proofs.lemmas.List.Elements.{All-from_recursion, recursion_from_All}
use Rattle.ss_meaning.specs.Entries.{WindowEntry}
use Rattle.ss_meaning.specs.EntryLists.{AreInOrder, is_of}
use Rattle.ss_window.specs.Held.{EntryTotal, HasTotal, entry_of, entries_at, entries_in}
use Rattle.ss_window.specs.Puts.{found}
use Rattle.ss_window.specs.States.{CountsFew, begins_reached, pane_count, reached}
use Rattle.ss_window.proofs.Places.{none_some, of_false, of_later, some_none}
use Rattle.ss_window.proofs.EndChanges.{ThePanes, AreLater, panes_later}
use Rattle.ss_window.proofs.PaneTotals.{same_test}
use Rattle.ss_window.proofs.Rises.{none_reached, pane_reached}

-- no pane is empty afterwards

pub set_full : (test : ℕ → Bool) (ps : ThePanes) (q : BTreeMap ℕ EntryTotal) → AllByRecursion HasTotal ps → 0 < length q.entries → AllByRecursion HasTotal (set_value test ps q)
set_full test [] q h k = tt
set_full test (p ∷ ps) q h k = by_test (test p.0) (set_full test ps q h.1 k)
  where
    by_test : (b : Bool) → AllByRecursion HasTotal (set_value test ps q) → AllByRecursion HasTotal (cond b ((p.0, q) ∷ ps) (p ∷ set_value test ps q))
    by_test true rest = (k, h.1)
    by_test false rest = (h.0, rest)

pub remove_full : (test : ℕ → Bool) (ps : ThePanes) → AllByRecursion HasTotal ps → AllByRecursion HasTotal (remove_entry test ps)
remove_full test [] h = tt
remove_full test (p ∷ ps) h = by_test (test p.0) (remove_full test ps h.1)
  where
    by_test : (b : Bool) → AllByRecursion HasTotal (remove_entry test ps) → AllByRecursion HasTotal (cond b ps (p ∷ remove_entry test ps))
    by_test true rest = h.1
    by_test false rest = (h.0, rest)

pub insert_full : (w : ℕ) (ps : ThePanes) (q : BTreeMap ℕ EntryTotal) → AllByRecursion HasTotal ps → 0 < length q.entries → AllByRecursion HasTotal (insert_entry nat_cmp ps w q)
insert_full w [] q h k = (k, tt)
insert_full w (p ∷ ps) q h k = by_order (nat_cmp w p.0) (insert_full w ps q h.1 k)
  where
    by_order : (c : Ordering) → AllByRecursion HasTotal (insert_entry nat_cmp ps w q)
        → AllByRecursion HasTotal (match_ordering c ((w, q) ∷ p ∷ ps) ((p.0, q) ∷ ps) (p ∷ insert_entry nat_cmp ps w q))
    by_order Less rest = (k, h)
    by_order Equal rest = (k, h.1)
    by_order Greater rest = (h.0, rest)

full_there : (test : ℕ → Bool) (ps : ThePanes) (p : BTreeMap ℕ EntryTotal) → AllByRecursion HasTotal ps → lookup test ps ≡ Some p → 0 < length p.entries
full_there test [] p h k = absurd (none_some p k)
full_there test (r ∷ ps) p h k = by_test (test r.0) k (full_there test ps p h.1)
  where
    by_test : (b : Bool) → cond b (Some r.1) (lookup test ps) ≡ Some p → (lookup test ps ≡ Some p → 0 < length p.entries) → 0 < length p.entries
    by_test true g rest = subst (λ (q : BTreeMap ℕ EntryTotal). 0 < length q.entries) (same_Some r.1 p g) h.0
    by_test false g rest = rest g

pub grown_full : (test : ℕ → Bool) (ps : ThePanes) (p q : BTreeMap ℕ EntryTotal) → AllByRecursion HasTotal ps → lookup test ps ≡ Some p → length p.entries ≤ length q.entries
    → AllByRecursion HasTotal (set_value test ps q)
grown_full test ps p q h look more =
    let before = full_there test ps p h look in set_full test ps q h (omega (arith, before, more))

-- what is true of all entries is true of those of one pane

all_front : (P : WindowEntry → Type 0) (es fs : List WindowEntry) → AllByRecursion P (es ++ fs) → AllByRecursion P es × AllByRecursion P fs
all_front P [] fs h = (tt, h)
all_front P (e ∷ es) fs h = let rest = all_front P es fs h.1 in ((h.0, rest.0), rest.1)

pub all_there : (P : WindowEntry → Type 0) (w : ℕ) (ps : ThePanes) (p : BTreeMap ℕ EntryTotal) → lookup (is_at (nat_cmp w)) ps ≡ Some p → AllByRecursion P (entries_in ps)
    → AllByRecursion P (entries_at w p.entries)
all_there P w [] p h k = absurd (none_some p h)
all_there P w (r ∷ ps) p h k =
    let parts = all_front P (entries_at r.0 r.1.entries) (entries_in ps) k in
    by_order (nat_cmp w r.0) (ranked w r.0 (nat_cmp w r.0) refl) h parts.0 (λ g. all_there P w ps p g parts.1)
  where
    by_order : (c : Ordering) → MatchOrdering c (w < r.0) (w ≡ r.0) (r.0 < w) → cond (is_eq c) (Some r.1) (lookup (is_at (nat_cmp w)) ps) ≡ Some p
        → AllByRecursion P (entries_at r.0 r.1.entries) → (lookup (is_at (nat_cmp w)) ps ≡ Some p → AllByRecursion P (entries_at w p.entries))
        → AllByRecursion P (entries_at w p.entries)
    by_order Less rank g here rest = rest g
    by_order Equal rank g here rest =
        subst (λ (q : BTreeMap ℕ EntryTotal). AllByRecursion P (entries_at w q.entries)) (same_Some r.1 p g)
        (subst (λ n. AllByRecursion P (entries_at n r.1.entries)) (sym rank) here)
    by_order Greater rank g here rest = rest g

pub totals_few : (P : EntryTotal → Type 0) (w : ℕ) (ts : List (ℕ × EntryTotal)) → AllByRecursion (λ (e : WindowEntry). P (record { value = e.value; rows = e.rows })) (entries_at w ts)
    → AllByRecursion P (values_of ts)
totals_few P w [] h = tt
totals_few P w (t ∷ ts) h = (h.0, totals_few P w ts h.1)

-- what is found of an end and a key

found_later : (w key : ℕ) (es : List WindowEntry) → AreLater w es → found w key es ≡ None
found_later w key [] h = refl
found_later w key (e ∷ es) h = ap (λ b. cond b (Some (record { value = e.value; rows = e.rows })) (found w key es)) (of_later w key e h.0) ∙ found_later w key es h.1

found_apart : (w key end : ℕ) (ts : List (ℕ × EntryTotal)) (rest : List WindowEntry) → (end ≡ w → ⊥) → found w key (entries_at end ts ++ rest) ≡ found w key rest
found_apart w key end [] rest h = refl
found_apart w key end (t ∷ ts) rest h =
    ap (λ b. cond b (Some t.1) (found w key (entries_at end ts ++ rest))) (of_false w key (entry_of end t.0 t.1) (λ s k. h s)) ∙ found_apart w key end ts rest h

found_at : (w key : ℕ) (ts : List (ℕ × EntryTotal)) (rest : List WindowEntry) → found w key rest ≡ None → found w key (entries_at w ts ++ rest) ≡ lookup (is_at (nat_cmp key)) ts
found_at w key [] rest h = h
found_at w key (t ∷ ts) rest h =
    by_test (is_eq (nat_cmp key t.0)) (found_at w key ts rest h)
  where
    by_test : (b : Bool) → found w key (entries_at w ts ++ rest) ≡ lookup (is_at (nat_cmp key)) ts
        → cond (is_of w key (entry_of w t.0 t.1)) (Some t.1) (found w key (entries_at w ts ++ rest)) ≡ cond (is_eq (nat_cmp key t.0)) (Some t.1) (lookup (is_at (nat_cmp key)) ts)
    by_test b rest' =
        ap (λ (o : Option EntryTotal). cond (is_of w key (entry_of w t.0 t.1)) (Some t.1) o) rest'
        ∙ ap (λ x. cond x (Some t.1) (lookup (is_at (nat_cmp key)) ts)) (same_test w key t.0 t.1)

pub found_there : (w key : ℕ) (ps : ThePanes) (p : BTreeMap ℕ EntryTotal) → IsStrictlySortedBy nat_cmp (keys_of ps) → lookup (is_at (nat_cmp w)) ps ≡ Some p
    → found w key (entries_in ps) ≡ lookup (is_at (nat_cmp key)) p.entries
unfolding IsStrictlySortedBy
found_there w key [] p s h = absurd (none_some p h)
found_there w key (r ∷ ps) p s h =
    by_order (nat_cmp w r.0) (ranked w r.0 (nat_cmp w r.0) refl) h (λ g. found_there w key ps p s.1 g)
  where
    by_order : (c : Ordering) → MatchOrdering c (w < r.0) (w ≡ r.0) (r.0 < w) → cond (is_eq c) (Some r.1) (lookup (is_at (nat_cmp w)) ps) ≡ Some p
        → (lookup (is_at (nat_cmp w)) ps ≡ Some p → found w key (entries_in ps) ≡ lookup (is_at (nat_cmp key)) p.entries)
        → found w key (entries_at r.0 r.1.entries ++ entries_in ps) ≡ lookup (is_at (nat_cmp key)) p.entries
    by_order Less rank g rest = found_apart w key r.0 r.1.entries (entries_in ps) (λ s. omega (arith, rank, s)) ∙ rest g
    by_order Equal rank g rest =
        let behind : AreLater w (entries_in ps) = subst (λ n. AreLater n (entries_in ps)) (sym rank) (panes_later r.0 ps s.0) in
        ap (λ n. found w key (entries_at n r.1.entries ++ entries_in ps)) (sym rank)
        ∙ (found_at w key r.1.entries (entries_in ps) (found_later w key (entries_in ps) behind)
        ∙ ap (λ (q : BTreeMap ℕ EntryTotal). lookup (is_at (nat_cmp key)) q.entries) (same_Some r.1 p g))
    by_order Greater rank g rest = found_apart w key r.0 r.1.entries (entries_in ps) (λ s. omega (arith, rank, s)) ∙ rest g

pub found_nowhere : (w key : ℕ) (ps : ThePanes) → lookup (is_at (nat_cmp w)) ps ≡ None → found w key (entries_in ps) ≡ None
found_nowhere w key [] h = refl
found_nowhere w key (r ∷ ps) h =
    by_order (nat_cmp w r.0) (ranked w r.0 (nat_cmp w r.0) refl) h (found_nowhere w key ps)
  where
    by_order : (c : Ordering) → MatchOrdering c (w < r.0) (w ≡ r.0) (r.0 < w) → cond (is_eq c) (Some r.1) (lookup (is_at (nat_cmp w)) ps) ≡ None
        → (lookup (is_at (nat_cmp w)) ps ≡ None → found w key (entries_in ps) ≡ None) → found w key (entries_at r.0 r.1.entries ++ entries_in ps) ≡ None
    by_order Less rank g rest = found_apart w key r.0 r.1.entries (entries_in ps) (λ s. omega (arith, rank, s)) ∙ rest g
    by_order Equal rank g rest = absurd (some_none r.1 g)
    by_order Greater rank g rest = found_apart w key r.0 r.1.entries (entries_in ps) (λ s. omega (arith, rank, s)) ∙ rest g

-- a pane in which nothing is left

pub others_full : (test : ℕ → Bool) (ps : ThePanes) (q : BTreeMap ℕ EntryTotal) → AllByRecursion HasTotal ps → AllByRecursion HasTotal (remove_entry test (set_value test ps q))
others_full test [] q h = tt
others_full test (p ∷ ps) q h = by_test (test p.0) refl (others_full test ps q h.1)
  where
    by_test : (b : Bool) → test p.0 ≡ b → AllByRecursion HasTotal (remove_entry test (set_value test ps q)) → AllByRecursion HasTotal (remove_entry test (cond b ((p.0, q) ∷ ps) (p ∷ set_value test ps q)))
    by_test true s rest = subst (λ b. AllByRecursion HasTotal (cond b ps ((p.0, q) ∷ remove_entry test ps))) (sym s) h.1
    by_test false s rest =
        subst (λ b. AllByRecursion HasTotal (cond b (set_value test ps q) (p ∷ remove_entry test (set_value test ps q)))) (sym s) (h.0, rest)

nothing : (end : ℕ) (ts : List (ℕ × EntryTotal)) (rest : List WindowEntry) → length ts ≡ 0 → rest ≡ entries_at end ts ++ rest
nothing end [] rest h = refl
nothing end (t ∷ ts) rest h = absurd (omega (arith, h))

pub empty_goes : (test : ℕ → Bool) (ps : ThePanes) (p q : BTreeMap ℕ EntryTotal) → lookup test ps ≡ Some p → length q.entries ≡ 0
    → entries_in (remove_entry test (set_value test ps q)) ≡ entries_in (set_value test ps q)
empty_goes test [] p q h k = refl
empty_goes test (r ∷ ps) p q h k = by_test (test r.0) refl h (empty_goes test ps p q)
  where
    by_test : (b : Bool) → test r.0 ≡ b → cond b (Some r.1) (lookup test ps) ≡ Some p
        → (lookup test ps ≡ Some p → length q.entries ≡ 0 → entries_in (remove_entry test (set_value test ps q)) ≡ entries_in (set_value test ps q))
        → entries_in (remove_entry test (cond b ((r.0, q) ∷ ps) (r ∷ set_value test ps q))) ≡ entries_in (cond b ((r.0, q) ∷ ps) (r ∷ set_value test ps q))
    by_test true s g rest = ap (λ b. entries_in (cond b ps ((r.0, q) ∷ remove_entry test ps))) s ∙ nothing r.0 q.entries (entries_in ps) k
    by_test false s g rest =
        ap (λ b. entries_in (cond b (set_value test ps q) (r ∷ remove_entry test (set_value test ps q)))) s
        ∙ ap (λ (xs : List WindowEntry). entries_at r.0 r.1.entries ++ xs) (rest g k)

-- the first end

pub first_end : (low : ℕ) (ps : ThePanes) (p : ℕ × BTreeMap ℕ EntryTotal) → AllByRecursion HasTotal ps → slice_get ps 0 ≡ Some p → nat_le p.0 low ≡ begins_reached low (entries_in ps)
first_end low [] p f h = cc
first_end low (r ∷ ps) p f h =
    let same = same_Some r p h in
    ap (λ (q : ℕ × BTreeMap ℕ EntryTotal). nat_le q.0 low) (sym same) ∙ begins r.1.entries f.0
  where
    begins : (ts : List (ℕ × EntryTotal)) → 0 < length ts → nat_le r.0 low ≡ begins_reached low (entries_at r.0 ts ++ entries_in ps)
    begins [] k = absurd (omega (arith, k))
    begins (t ∷ ts) k = refl

-- how many panes there are

abbrev ends_listed : List WindowEntry → List ℕ
ends_listed es = map (λ (e : WindowEntry). e.end) es

-- no entry of later panes has an end that comes before them
is_no_end : (end : ℕ) (ps : ThePanes) → AllByRecursion (λ k. nat_cmp end k ≡ Less) (keys_of ps) → is_member nat_eq (ends_listed (entries_in ps)) end ≡ false
is_no_end end [] h = refl
is_no_end end (r ∷ ps) h = in_pane (is_no_end end ps h.1) r.1.entries
  where
    other : nat_eq end r.0 ≡ false
    other = let less = ranked end r.0 Less (sym h.0) in ne_eqb end r.0 (λ e. omega (arith, less, e))

    in_pane : is_member nat_eq (ends_listed (entries_in ps)) end ≡ false → (ts : List (ℕ × EntryTotal))
        → is_member nat_eq (ends_listed (entries_at r.0 ts ++ entries_in ps)) end ≡ false
    in_pane later [] = later
    in_pane later (t ∷ ts) = ap (λ b. b || is_member nat_eq (ends_listed (entries_at r.0 ts ++ entries_in ps)) end) other ∙ in_pane later ts

-- the totals of a pane have one end
one_end : (end : ℕ) (t : ℕ × EntryTotal) (ts : List (ℕ × EntryTotal)) (rest : List WindowEntry) → is_member nat_eq (ends_listed rest) end ≡ false
    → distinct_count nat_eq (ends_listed (entries_at end (t ∷ ts) ++ rest)) ≡ suc (distinct_count nat_eq (ends_listed rest))
one_end end t [] rest h =
    ap (λ b. length (cond b (unique_keys nat_eq (ends_listed rest)) (end ∷ unique_keys nat_eq (ends_listed rest)))) h
one_end end t (u ∷ ts) rest h =
    let more = ends_listed (entries_at end (u ∷ ts) ++ rest) in
    let again : is_member nat_eq more end ≡ true =
    ap (λ b. b || is_member nat_eq (ends_listed (entries_at end ts ++ rest)) end) (eq-eqb end end refl) in
    ap (λ b. length (cond b (unique_keys nat_eq more) (end ∷ unique_keys nat_eq more))) again ∙ one_end end u ts rest h

pub panes_counted : (ps : ThePanes) → IsStrictlySortedBy nat_cmp (keys_of ps) → AllByRecursion HasTotal ps → length ps ≡ pane_count (entries_in ps)
unfolding IsStrictlySortedBy
panes_counted [] s f = refl
panes_counted (r ∷ ps) s f = begins (panes_counted ps s.1 f.1) r.1.entries f.0
  where
    begins : length ps ≡ pane_count (entries_in ps) → (ts : List (ℕ × EntryTotal)) → 0 < length ts → suc (length ps) ≡ distinct_count nat_eq (ends_listed (entries_at r.0 ts ++ entries_in ps))
    begins rest [] k = absurd (omega (arith, k))
    begins rest (t ∷ ts) k = ap suc rest ∙ sym (one_end r.0 t ts (entries_in ps) (is_no_end r.0 ps s.0))

-- whether each counts few

abbrev pub is_few : EntryTotal → Bool
is_few t = nat_lt t.rows (2 ^ 62)

few_in_pane : (w : ℕ) (ts : List (ℕ × EntryTotal)) → list_all is_few (values_of ts) ≡ true → AllByRecursion CountsFew (entries_at w ts)
few_in_pane w [] h = tt
few_in_pane w (t ∷ ts) h =
    let parts = and_parts (is_few t.1) (list_all is_few (values_of ts)) h in
    (ltb-true t.1.rows (2 ^ 62) parts.0, few_in_pane w ts parts.1)

pane_in_few : (w : ℕ) (ts : List (ℕ × EntryTotal)) → AllByRecursion CountsFew (entries_at w ts) → list_all is_few (values_of ts) ≡ true
pane_in_few w [] h = refl
pane_in_few w (t ∷ ts) h = and_from (is_few t.1) (list_all is_few (values_of ts)) (lt-ltb t.1.rows (2 ^ 62) h.0) (pane_in_few w ts h.1)

both : (P : WindowEntry → Type 0) (es fs : List WindowEntry) → AllByRecursion P es → AllByRecursion P fs → AllByRecursion P (es ++ fs)
both P [] fs h k = k
both P (e ∷ es) fs h k = (h.0, both P es fs h.1 k)

abbrev pub pane_is_few : BTreeMap ℕ EntryTotal → Bool
pane_is_few p = list_all is_few (values_of p.entries)

few_in_panes : (ps : ThePanes) → list_all pane_is_few (values_of ps) ≡ true → AllByRecursion CountsFew (entries_in ps)
few_in_panes [] h = tt
few_in_panes (p ∷ ps) h =
    let parts = and_parts (pane_is_few p.1) (list_all pane_is_few (values_of ps)) h in
    both CountsFew (entries_at p.0 p.1.entries) (entries_in ps) (few_in_pane p.0 p.1.entries parts.0) (few_in_panes ps parts.1)

panes_in_few : (ps : ThePanes) → AllByRecursion CountsFew (entries_in ps) → list_all pane_is_few (values_of ps) ≡ true
panes_in_few [] h = refl
panes_in_few (p ∷ ps) h =
    let parts = all_front CountsFew (entries_at p.0 p.1.entries) (entries_in ps) h in
    and_from (pane_is_few p.1) (list_all pane_is_few (values_of ps)) (pane_in_few p.0 p.1.entries parts.0) (panes_in_few ps parts.1)

pub few_counted : (b : Bool) (ps : ThePanes) → b ≡ list_all pane_is_few (values_of ps)
    → (b ≡ true → All CountsFew (entries_in ps)) × (All CountsFew (entries_in ps) → b ≡ true)
few_counted b ps h = (
  λ t. All-from_recursion CountsFew (entries_in ps) (few_in_panes ps (sym h ∙ t)),
  λ k. h ∙ panes_in_few ps (recursion_from_All CountsFew (entries_in ps) k),
)

-- panes one after another, up to a bound

pub pane_length : (p : ℕ × BTreeMap ℕ EntryTotal) (es : List WindowEntry) → length (entries_at p.0 p.1.entries ++ es) ≡ length p.1.entries + length es
pane_length p es =
    length-append (entries_at p.0 p.1.entries) es ∙ ap (λ n. n + length es) (length-map p.1.entries _)

pub front_stops : (low : ℕ) (p : ℕ × BTreeMap ℕ EntryTotal) (ps : ThePanes) → AllByRecursion HasTotal (p ∷ ps) → AreInOrder (entries_in (p ∷ ps)) → low < p.0
    → reached low (entries_in (p ∷ ps)) ≡ []
front_stops low p ps full order h =
    (none_reached low (entries_in (p ∷ ps)) order (sym (first_end low (p ∷ ps) p full refl) ∙ lt-leb p.0 low h)).0

pub front_goes_on : (low : ℕ) (p : ℕ × BTreeMap ℕ EntryTotal) (ps : ThePanes) → p.0 ≤ low
    → length (reached low (entries_in (p ∷ ps))) ≡ length p.1.entries + length (reached low (entries_in ps))
front_goes_on low p ps h =
    ap (λ (es : List WindowEntry). length es) (pane_reached low p.0 p.1.entries (entries_in ps) h).0 ∙ pane_length p (reached low (entries_in ps))
