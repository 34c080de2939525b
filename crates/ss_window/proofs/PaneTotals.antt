-- What changes among the totals of a pane changes in the same way among the entries that they are.
use Rattle.std.proofs.Common.{◌≡◌, ℕ, ◌+◌, ◌^◌, ◌<◌, Bool, true, false, cond, ℤ, List, [], ◌∷◌, ◌++◌, Option, Some, None, refl, sym, ap, subst, ◌∙◌, arith}
use Rattle.std.specs.Option.{ForSome}
use Rattle.std.specs.List.{AllByRecursion}
use Rattle.std.specs.List.Sorted.{IsStrictlySortedBy}
use Rattle.std.specs.declared.cmp.Ordering.{Ordering}
use Rattle.std.specs.declared.cmp.Ordering.TheVariants.{Less, Equal, Greater}
use Rattle.std.specs.Ordering.{nat_cmp, is_eq, match_ordering, MatchOrdering}
use Rattle.std.specs.Cmp.{nat_cmp_total}
use Rattle.std.specs.Map.{lookup, keys_of, values_of, set_value, remove_entry}
use Rattle.std.specs.BTreeMap.{is_at, insert_entry}
use Rattle.std.proofs.lemmas.Cmp.{ranked}
use Rattle.std.proofs.lemmas.Map.{lookup-none}
use Rattle.std.proofs.lemmas.Map.Entries.{none_below_head}
use Rattle.std.proofs.lemmas.Option.{same_Some}
use Rattle.ss_meaning.specs.Entries.{WindowEntry}
use Rattle.ss_meaning.specs.EntryLists.{is_before, is_of, single_entry, grown_entry, put_value}
use Rattle.ss_window.specs.Held.{EntryTotal, grown_total, entry_of, entries_at}
use Rattle.ss_window.specs.Puts.{with_former, restored}
use Rattle.ss_window.proofs.Places.{Stands, none_some, of_false, some_none, stands, true_false}

-- a total grown from what was at its key is a value that is put

pub put_is_insert : (join : ℤ → ℤ → ℤ) (w key : ℕ) (v : ℤ) (es : List (ℕ × EntryTotal)) (t : EntryTotal) → IsStrictlySortedBy nat_cmp (keys_of es)
    → t ≡ grown_total join v (lookup (is_at (nat_cmp key)) es)
    → entries_at w (insert_entry nat_cmp es key t) ≡ put_value join key v w (entries_at w es)
unfolding IsStrictlySortedBy
put_is_insert join w key v [] t s h = ap (λ (x : EntryTotal). entry_of w key x ∷ []) h
put_is_insert join w key v (e ∷ es) t s h =
    by_order (nat_cmp key e.0) refl (stands w key e.0 e.1) (ranked key e.0 (nat_cmp key e.0) refl) h (put_is_insert join w key v es t s.1)
  where
    by_order : (c : Ordering) → nat_cmp key e.0 ≡ c → Stands w key (entry_of w e.0 e.1) c → MatchOrdering c (key < e.0) (key ≡ e.0) (e.0 < key)
        → t ≡ grown_total join v (cond (is_eq c) (Some e.1) (lookup (is_at (nat_cmp key)) es))
        → (t ≡ grown_total join v (lookup (is_at (nat_cmp key)) es) → entries_at w (insert_entry nat_cmp es key t) ≡ put_value join key v w (entries_at w es))
        → entries_at w (match_ordering c ((key, t) ∷ e ∷ es) ((e.0, t) ∷ es) (e ∷ insert_entry nat_cmp es key t))
        ≡ put_value join key v w (entry_of w e.0 e.1 ∷ entries_at w es)
    by_order Less less stand rank grown rest =
        let none = lookup-none (is_at (nat_cmp key)) es (none_below_head nat_cmp_total key e es s less).1 in
        let single : t ≡ grown_total join v None = grown ∙ ap (grown_total join v) none in
        let e' = entry_of w e.0 e.1 in
        let es' = entries_at w es in
        ap (λ (x : EntryTotal). entry_of w key x ∷ e' ∷ es') single
        ∙ (ap (λ b. cond b (grown_entry join v e' ∷ es') (single_entry w key v ∷ e' ∷ es')) (sym stand.1)
        ∙ ap (λ b. cond b (e' ∷ put_value join key v w es') (cond (is_of w key e') (grown_entry join v e' ∷ es') (single_entry w key v ∷ e' ∷ es'))) (sym stand.0))
    by_order Equal same stand rank grown rest =
        let e' = entry_of w e.0 e.1 in
        let es' = entries_at w es in
        ap (λ (x : EntryTotal). entry_of w e.0 x ∷ es') grown
        ∙ (ap (λ b. cond b (grown_entry join v e' ∷ es') (single_entry w key v ∷ e' ∷ es')) (sym stand.1)
        ∙ ap (λ b. cond b (e' ∷ put_value join key v w es') (cond (is_of w key e') (grown_entry join v e' ∷ es') (single_entry w key v ∷ e' ∷ es'))) (sym stand.0))
    by_order Greater more stand rank grown rest =
        let e' = entry_of w e.0 e.1 in
        let es' = entries_at w es in
        ap (λ (xs : List WindowEntry). e' ∷ xs) (rest grown)
        ∙ ap (λ b. cond b (e' ∷ put_value join key v w es') (cond (is_of w key e') (grown_entry join v e' ∷ es') (single_entry w key v ∷ e' ∷ es'))) (sym stand)

-- a total behind all others is inserted at the end

pub insert_last : (es : List (ℕ × EntryTotal)) (w key : ℕ) (t : EntryTotal)
    → AllByRecursion (λ (f : WindowEntry). is_before w key f ≡ true) (entries_at w es)
    → entries_at w (insert_entry nat_cmp es key t) ≡ entries_at w es ++ entry_of w key t ∷ []
insert_last [] w key t h = refl
insert_last (e ∷ es) w key t h = by_order (nat_cmp key e.0) (stands w key e.0 e.1) (insert_last es w key t h.1)
  where
    no : is_before w key (entry_of w e.0 e.1) ≡ false → ⊥
    no k = true_false (sym h.0 ∙ k)

    by_order : (c : Ordering) → Stands w key (entry_of w e.0 e.1) c
        → entries_at w (insert_entry nat_cmp es key t) ≡ entries_at w es ++ entry_of w key t ∷ []
        → entries_at w (match_ordering c ((key, t) ∷ e ∷ es) ((e.0, t) ∷ es) (e ∷ insert_entry nat_cmp es key t))
        ≡ entry_of w e.0 e.1 ∷ (entries_at w es ++ entry_of w key t ∷ [])
    by_order Less stand rest = absurd (no stand.0)
    by_order Equal stand rest = absurd (no stand.0)
    by_order Greater stand rest = ap (λ (xs : List WindowEntry). entry_of w e.0 e.1 ∷ xs) rest

-- a total is brought back, or taken out

pub same_test : (w key k : ℕ) (t : EntryTotal) → is_of w key (entry_of w k t) ≡ is_eq (nat_cmp key k)
same_test w key k t = by_order (nat_cmp key k) (stands w key k t) (ranked key k (nat_cmp key k) refl)
  where
    by_order : (c : Ordering) → Stands w key (entry_of w k t) c → MatchOrdering c (key < k) (key ≡ k) (k < key) → is_of w key (entry_of w k t) ≡ is_eq c
    by_order Less stand rank = stand.1
    by_order Equal stand rank = stand.1
    by_order Greater stand rank = of_false w key (entry_of w k t) (λ s u. omega (arith, u, rank))

pub set_is_restored : (w key : ℕ) (es : List (ℕ × EntryTotal)) (t : EntryTotal)
    → entries_at w (set_value (is_at (nat_cmp key)) es t) ≡ restored w key (Some t) (entries_at w es)
set_is_restored w key [] t = refl
set_is_restored w key (e ∷ es) t =
    by_order (nat_cmp key e.0) (ranked key e.0 (nat_cmp key e.0) refl) (set_is_restored w key es t)
    ∙ ap (λ b. cond b (with_former w key (Some t) (entries_at w es)) (entry_of w e.0 e.1 ∷ restored w key (Some t) (entries_at w es))) (sym (same_test w key e.0 e.1))
  where
    by_order : (c : Ordering) → MatchOrdering c (key < e.0) (key ≡ e.0) (e.0 < key)
        → entries_at w (set_value (is_at (nat_cmp key)) es t) ≡ restored w key (Some t) (entries_at w es)
        → entries_at w (cond (is_eq c) ((e.0, t) ∷ es) (e ∷ set_value (is_at (nat_cmp key)) es t))
        ≡ cond (is_eq c) (with_former w key (Some t) (entries_at w es)) (entry_of w e.0 e.1 ∷ restored w key (Some t) (entries_at w es))
    by_order Less rank rest = ap (λ (xs : List WindowEntry). entry_of w e.0 e.1 ∷ xs) rest
    by_order Equal rank rest = ap (λ n. entry_of w n t ∷ entries_at w es) (sym rank)
    by_order Greater rank rest = ap (λ (xs : List WindowEntry). entry_of w e.0 e.1 ∷ xs) rest

pub remove_is_restored : (w key : ℕ) (es : List (ℕ × EntryTotal))
    → entries_at w (remove_entry (is_at (nat_cmp key)) es) ≡ restored w key None (entries_at w es)
remove_is_restored w key [] = refl
remove_is_restored w key (e ∷ es) =
    by_test (is_eq (nat_cmp key e.0)) (remove_is_restored w key es)
    ∙ ap (λ b. cond b (with_former w key None (entries_at w es)) (entry_of w e.0 e.1 ∷ restored w key None (entries_at w es))) (sym (same_test w key e.0 e.1))
  where
    by_test : (b : Bool) → entries_at w (remove_entry (is_at (nat_cmp key)) es) ≡ restored w key None (entries_at w es)
        → entries_at w (cond b es (e ∷ remove_entry (is_at (nat_cmp key)) es))
        ≡ cond b (with_former w key None (entries_at w es)) (entry_of w e.0 e.1 ∷ restored w key None (entries_at w es))
    by_test true rest = refl
    by_test false rest = ap (λ (xs : List WindowEntry). entry_of w e.0 e.1 ∷ xs) rest

-- what is true of the count of each total is true of the one that is found

pub few_found : (test : ℕ → Bool) (es : List (ℕ × EntryTotal)) → AllByRecursion (λ (t : EntryTotal). t.rows + 1 < 2 ^ 63) (values_of es)
    → ForSome (lookup test es) (λ t. t.rows + 1 < 2 ^ 63)
few_found test [] h x s = absurd (none_some x s)
few_found test (e ∷ es) h x s = at_test (test e.0) s (few_found test es h.1)
  where
    at_test : (b : Bool) → cond b (Some e.1) (lookup test es) ≡ Some x → ForSome (lookup test es) (λ t. t.rows + 1 < 2 ^ 63) → x.rows + 1 < 2 ^ 63
    at_test true k rest = let same = same_Some e.1 x k in subst (λ (t : EntryTotal). t.rows + 1 < 2 ^ 63) same h.0
    at_test false k rest = rest x k

-- where there is nothing of a key, nothing is brought back

pub absent_is_restored : (w key : ℕ) (had : Option EntryTotal) (es : List (ℕ × EntryTotal)) → lookup (is_at (nat_cmp key)) es ≡ None
    → entries_at w es ≡ restored w key had (entries_at w es)
absent_is_restored w key had [] h = refl
absent_is_restored w key had (e ∷ es) h =
    by_test (is_eq (nat_cmp key e.0)) h (absent_is_restored w key had es)
    ∙ ap (λ b. cond b (with_former w key had (entries_at w es)) (entry_of w e.0 e.1 ∷ restored w key had (entries_at w es))) (sym (same_test w key e.0 e.1))
  where
    by_test : (b : Bool) → cond b (Some e.1) (lookup (is_at (nat_cmp key)) es) ≡ None
        → (lookup (is_at (nat_cmp key)) es ≡ None → entries_at w es ≡ restored w key had (entries_at w es))
        → entry_of w e.0 e.1 ∷ entries_at w es ≡ cond b (with_former w key had (entries_at w es)) (entry_of w e.0 e.1 ∷ restored w key had (entries_at w es))
    by_test true g rest = absurd (some_none e.1 g)
    by_test false g rest = ap (λ (xs : List WindowEntry). entry_of w e.0 e.1 ∷ xs) (rest g)
