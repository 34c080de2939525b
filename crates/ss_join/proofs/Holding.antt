-- Rows stay held as they should, where one is put, and where those go that have ended.
use Rattle.std.proofs.Common.{◌≡◌, ℕ, suc, ◌+◌, ◌<◌, ◌≤◌, ◌==◌, nat_lt, Bool, true, false, cond, List, [], ◌∷◌, ◌++◌, length, filter, Option, Some, None, refl, sym, ap, subst, ◌∙◌, arith, le-ltb, lt-ltb, eq-eqb}
use Rattle.std.specs.List.{AllByRecursion, list_any}
use Rattle.std.specs.List.Sorted.{IsStrictlySortedBy}
use Rattle.std.specs.declared.cmp.Ordering.{Ordering}
use Rattle.std.specs.declared.cmp.Ordering.TheVariants.{Less, Equal, Greater}
use Rattle.std.specs.Ordering.{nat_cmp, ordering_then, is_gt, MatchOrdering}
use Rattle.std.specs.Map.{keys_of, lookup, remove_entry}
use Rattle.std.specs.BTreeMap.{BTreeMap, get, is_at, insert_entry, IsOrdered}
use Rattle.std.specs.BTreeSet.{BTreeSet, contains}
use Rattle.std.specs.BTreeSet as set
use Rattle.std.proofs.lemmas.Bool.{ne_eqb, eqb-true, leb-false}
use Rattle.std.proofs.lemmas.Cmp.{ranked}
use Rattle.std.proofs.lemmas.List.Elements.{recursion_from_All}
use Rattle.std.proofs.lemmas.Map.Views.{All-found, btree_set_IsLowerBound-head}
use Rattle.ss_elem.specs.declared.element.Event.{Event}
use Rattle.ss_meaning.specs.Entries.{rows_ending_above}
use Rattle.ss_join.specs.Held.{place_cmp, end_cmp, numbered, with_number, in_order, rows_held, IsPlaced, ends_at, AreHeld, first_reached}
use Rattle.ss_join.proofs.Numbers.{in_order-more, in_order-same, filter-in_order}
use Rattle.ss_join.proofs.Places.{place_total, place_exact, end_total, IsFresh, with-inserted, all-inserted, fresh_lookup, placed_fresh, placed_more, all-removed, length-removed, filter-removed}
use Rattle.ss_join.proofs.Ends.{EndIs, RowIs, ends_put, ends_removed, ends_undone}

-- one row more

put_once : (rows : List ((ℕ × ℕ) × Event)) (row : Event) (number : ℕ) → IsFresh (λ (p : ℕ × ℕ). p.1) number rows
    → ((n : ℕ) → length (with_number n (numbered rows)) ≤ 1) → (n : ℕ) → length (with_number n (numbered (insert_entry place_cmp rows (row.key, number) row))) ≤ 1
put_once rows row number fresh once n =
    by_test (number == n) (with-inserted place_cmp place_exact (λ (p : ℕ × ℕ). p.1) n (row.key, number) row rows fresh)
  where
    by_test : (b : Bool) → with_number n (numbered (insert_entry place_cmp rows (row.key, number) row)) ≡ cond b (row ∷ []) (with_number n (numbered rows))
        → length (with_number n (numbered (insert_entry place_cmp rows (row.key, number) row))) ≤ 1
    by_test true h = omega (arith, ap (λ (xs : List Event). length xs) h)
    by_test false h = omega (arith, ap (λ (xs : List Event). length xs) h, once n)

pub put_held : (rows rows' : BTreeMap (ℕ × ℕ) Event) (ends ends' : BTreeSet (ℕ × ℕ × ℕ)) (row : Event) (number : ℕ) → AreHeld rows ends number
    → rows'.entries ≡ insert_entry place_cmp rows.entries (row.key, number) row → EndIs ends ends' (row.end, number, row.key) true
    → RowIs rows rows' (row.key, number) (Some row) → IsOrdered place_cmp rows' → set.IsOrdered end_cmp ends' → AreHeld rows' ends' (number + 1)
put_held rows rows' ends ends' row number held entries end_is row_is ordered ends_ordered =
    let fresh = placed_fresh number rows.entries held.placed in
    let placed : IsPlaced (number + 1) ((row.key, number), row) = record { key = refl; below = omega arith } in
    record {
      placed = subst (AllByRecursion (IsPlaced (number + 1))) (sym entries)
          (all-inserted place_cmp place_exact (λ (p : ℕ × ℕ). p.1) (IsPlaced (number + 1)) (row.key, number) row rows.entries fresh placed (placed_more number rows.entries held.placed));
      once = λ n. subst (λ (es : List ((ℕ × ℕ) × Event)). length (with_number n (numbered es)) ≤ 1) (sym entries) (put_once rows.entries row number fresh held.once n);
      indexed = ends_put rows rows' ends ends' row number (fresh_lookup row.key number rows.entries fresh) held.indexed end_is row_is;
      ordered = ordered;
      ends_ordered = ends_ordered;
    }

pub put_rows : (rows rows' : BTreeMap (ℕ × ℕ) Event) (ends : BTreeSet (ℕ × ℕ × ℕ)) (row : Event) (number : ℕ) → AreHeld rows ends number
    → rows'.entries ≡ insert_entry place_cmp rows.entries (row.key, number) row
    → rows_held (number + 1) rows' ≡ rows_held number rows ++ row ∷ []
put_rows rows rows' ends row number held entries =
    let fresh = placed_fresh number rows.entries held.placed in
    let one : number + 1 ≡ suc number = omega arith in
    let none : 0 + number ≡ number = omega arith in
    let new = numbered (insert_entry place_cmp rows.entries (row.key, number) row) in
    let at = λ (n : ℕ). with-inserted place_cmp place_exact (λ (p : ℕ × ℕ). p.1) n (row.key, number) row rows.entries fresh in
    ap (λ es. in_order 0 (number + 1) (numbered es)) entries
    ∙ (ap (λ n. in_order 0 n new) one
    ∙ (in_order-more 0 number new
    ∙ (ap (λ (xs : List Event). xs ++ with_number (0 + number) new)
    (in_order-same 0 number number new (numbered rows.entries) none (λ n l. at n ∙ ap (λ b. cond b (row ∷ []) (with_number n (numbered rows.entries))) (ne_eqb number n (λ e. omega (arith, e, l)))))
    ∙ ap (λ (xs : List Event). in_order 0 number (numbered rows.entries) ++ xs)
    (ap (λ n. with_number n new) none ∙ (at number ∙ ap (λ b. cond b (row ∷ []) (with_number number (numbered rows.entries))) (eq-eqb number number refl))))))

pub put_undone : (rows rows' : BTreeMap (ℕ × ℕ) Event) (ends mid new : BTreeSet (ℕ × ℕ × ℕ)) (row : Event) (number : ℕ) → AreHeld rows ends number
    → rows'.entries ≡ rows.entries → EndIs ends mid (row.end, number, row.key) true → EndIs mid new (row.end, number, row.key) false
    → set.IsOrdered end_cmp new → AreHeld rows' new number
put_undone rows rows' ends mid new row number held same put taken ends_ordered =
    let fresh = placed_fresh number rows.entries held.placed in
    record {
      placed = subst (AllByRecursion (IsPlaced number)) (sym same) held.placed;
      once = λ n. subst (λ (es : List ((ℕ × ℕ) × Event)). length (with_number n (numbered es)) ≤ 1) (sym same) (held.once n);
      indexed = ends_undone rows rows' ends mid new row number (fresh_lookup row.key number rows.entries fresh) held.indexed put taken same;
      ordered = subst (λ (es : List ((ℕ × ℕ) × Event)). IsStrictlySortedBy place_cmp (keys_of es)) (sym same) held.ordered;
      ends_ordered = ends_ordered;
    }

-- rows that have ended

abbrev pub above : ℕ → List ((ℕ × ℕ) × Event) → List ((ℕ × ℕ) × Event)
above bound rows = filter (λ r. nat_lt bound r.1.end) rows

pub numbered-above : (bound : ℕ) (rows : List ((ℕ × ℕ) × Event)) → numbered (above bound rows) ≡ filter (λ (x : ℕ × Event). nat_lt bound x.1.end) (numbered rows)
numbered-above bound [] = refl
numbered-above bound (r ∷ rs) = by_test (nat_lt bound r.1.end) (numbered-above bound rs)
  where
    by_test : (b : Bool) → numbered (above bound rs) ≡ filter (λ (x : ℕ × Event). nat_lt bound x.1.end) (numbered rs)
        → numbered (cond b (r ∷ above bound rs) (above bound rs))
        ≡ cond b ((r.0.1, r.1) ∷ filter (λ (x : ℕ × Event). nat_lt bound x.1.end) (numbered rs)) (filter (λ (x : ℕ × Event). nat_lt bound x.1.end) (numbered rs))
    by_test true rest = ap (λ (xs : List (ℕ × Event)). (r.0.1, r.1) ∷ xs) rest
    by_test false rest = rest

pub found_row : (o : Option Event) (end : ℕ) → ends_at end o ≡ true → (row : Event) × (o ≡ Some row) × (row.end ≡ end)
found_row None end h = let no : ⊥ = cc in absurd no
found_row (Some row) end h = (row, refl, eqb-true row.end end h)

pub forgot_one : (rows rows' : BTreeMap (ℕ × ℕ) Event) (ends ends' : BTreeSet (ℕ × ℕ × ℕ)) (next bound : ℕ) (t : ℕ × ℕ × ℕ) → AreHeld rows ends next
    → contains end_cmp ends t ≡ true → t.0 ≤ bound → rows'.entries ≡ remove_entry (is_at (place_cmp (t.2, t.1))) rows.entries
    → EndIs ends ends' t false → RowIs rows rows' (t.2, t.1) None → IsOrdered place_cmp rows' → set.IsOrdered end_cmp ends'
    → AreHeld rows' ends' next × (above bound rows'.entries ≡ above bound rows.entries)
forgot_one rows rows' ends ends' next bound t held member reached entries end_is row_is ordered ends_ordered =
    let test = is_at (place_cmp (t.2, t.1)) in
    let found = found_row (get place_cmp rows (t.2, t.1)) t.0 (sym (held.indexed t.0 t.1 t.2) ∙ member) in
    let ended = found.2 in (
      record {
        placed = subst (AllByRecursion (IsPlaced next)) (sym entries) (all-removed (IsPlaced next) test rows.entries held.placed);
        once = λ n. subst (λ (es : List ((ℕ × ℕ) × Event)). length (with_number n (numbered es)) ≤ 1) (sym entries)
            (let once = held.once n in omega (arith, once, length-removed n test rows.entries));
        indexed = ends_removed rows rows' ends ends' t member held.indexed end_is row_is;
        ordered = ordered;
        ends_ordered = ends_ordered;
      },
      ap (above bound) entries
          ∙ filter-removed (λ (row : Event). nat_lt bound row.end) test found.0 rows.entries found.1 (le-ltb bound found.0.end (omega (arith, ended, reached))),
    )

pub not_greater : (a b : ℕ) (c d : Ordering) → is_gt (ordering_then (ordering_then (nat_cmp a b) c) d) ≡ false → a ≤ b
not_greater a b c d h = by_order (nat_cmp a b) (ranked a b (nat_cmp a b) refl) h
  where
    by_order : (o : Ordering) → MatchOrdering o (a < b) (a ≡ b) (b < a) → is_gt (ordering_then (ordering_then o c) d) ≡ false → a ≤ b
    by_order Less less k = omega (arith, less)
    by_order Equal same k = omega (arith, same)
    by_order Greater more k = let no : ⊥ = cc in absurd no

pub forgot_all : (rows : BTreeMap (ℕ × ℕ) Event) (ends : BTreeSet (ℕ × ℕ × ℕ)) (next bound : ℕ) → AreHeld rows ends next
    → first_reached bound ends.keys ≡ false → above bound rows.entries ≡ rows.entries
forgot_all rows ends next bound held none =
    all_stay rows.entries (recursion_from_All (λ (e : (ℕ × ℕ) × Event). get place_cmp rows e.0 ≡ Some e.1) rows.entries (All-found place_total rows held.ordered))
  where
    later : (ks : List (ℕ × ℕ × ℕ)) (q : ℕ × ℕ × ℕ) → ends.keys ≡ ks → first_reached bound ks ≡ false → contains end_cmp ends q ≡ true → bound < q.0
    later [] q e f member = let no : ⊥ = cc in absurd no
    later (k ∷ ks) q e f member =
        let least = btree_set_IsLowerBound-head end_total ends held.ends_ordered k ks e q member in
        let le = not_greater k.0 q.0 (nat_cmp k.1 q.1) (nat_cmp k.2 q.2) least in
        let more = leb-false k.0 bound f in
        omega (arith, le, more)

    stays : (e : (ℕ × ℕ) × Event) → get place_cmp rows e.0 ≡ Some e.1 → nat_lt bound e.1.end ≡ true
    stays e found =
        let member : contains end_cmp ends (e.1.end, e.0.1, e.0.0) ≡ true =
        held.indexed e.1.end e.0.1 e.0.0 ∙ (ap (ends_at e.1.end) found ∙ eq-eqb e.1.end e.1.end refl) in
        lt-ltb bound e.1.end (later ends.keys (e.1.end, e.0.1, e.0.0) refl none member)

    all_stay : (es : List ((ℕ × ℕ) × Event)) → AllByRecursion (λ (e : (ℕ × ℕ) × Event). get place_cmp rows e.0 ≡ Some e.1) es → above bound es ≡ es
    all_stay [] h = refl
    all_stay (e ∷ es) h = ap (λ b. cond b (e ∷ above bound es) (above bound es)) (stays e h.0) ∙ ap (λ (xs : List ((ℕ × ℕ) × Event)). e ∷ xs) (all_stay es h.1)

pub forgot : (rows rows' : BTreeMap (ℕ × ℕ) Event) (next bound : ℕ) → above bound rows'.entries ≡ above bound rows.entries → above bound rows'.entries ≡ rows'.entries
    → rows_held next rows' ≡ rows_ending_above bound (rows_held next rows)
forgot rows rows' next bound same all =
    ap (λ es. in_order 0 next (numbered es)) (sym all ∙ same)
    ∙ (ap (in_order 0 next) (numbered-above bound rows.entries) ∙ sym (filter-in_order (λ (row : Event). nat_lt bound row.end) 0 next (numbered rows.entries)))

-- no rows

pub none_held : (rows : BTreeMap (ℕ × ℕ) Event) (ends : BTreeSet (ℕ × ℕ × ℕ)) → rows.entries ≡ [] → ends.keys ≡ [] → IsOrdered place_cmp rows → set.IsOrdered end_cmp ends
    → AreHeld rows ends 0
none_held rows ends no_rows no_ends ordered ends_ordered = record {
  placed = subst (AllByRecursion (IsPlaced 0)) (sym no_rows) tt;
  once = λ n. subst (λ (es : List ((ℕ × ℕ) × Event)). length (with_number n (numbered es)) ≤ 1) (sym no_rows) (omega arith);
  indexed = λ e n k. ap (list_any (is_at (end_cmp (e, n, k)))) no_ends ∙ sym (ap (λ es. ends_at e (lookup (is_at (place_cmp (k, n))) es)) no_rows);
  ordered = ordered;
  ends_ordered = ends_ordered;
}

pub none_listed : (rows : BTreeMap (ℕ × ℕ) Event) → rows_held 0 rows ≡ []
unfolding in_order
none_listed rows = refl
