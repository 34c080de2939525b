-- The row that ends first is taken out.
use Rattle.std.proofs.Common.{◌≡◌, ℕ, zero, suc, ◌+◌, ◌<◌, ◌≤◌, nat_lt, nat_le, Bool, true, false, cond, ◌⊎◌, inl, inr, List, [], ◌∷◌, ◌++◌, length, filter, Some, None, refl, sym, ap, subst, ◌∙◌, arith, eq-eqb}
use Rattle.std.specs.List.{AllByRecursion}
use Rattle.std.specs.declared.cmp.Ordering.{Ordering}
use Rattle.std.specs.declared.cmp.Ordering.TheVariants.{Less, Equal, Greater}
use Rattle.std.specs.Ordering.{nat_cmp, ordering_then, is_gt, MatchOrdering}
use Rattle.std.specs.Map.{lookup, remove_entry}
use Rattle.std.specs.BTreeMap.{BTreeMap, get, is_at}
use Rattle.std.specs.BTreeSet.{BTreeSet, contains}
use Rattle.std.proofs.lemmas.Bool.{cases_eq, cases_order, le-leb, lt-leb}
use Rattle.std.proofs.lemmas.Cmp.{ranked}
use Rattle.std.proofs.lemmas.List.{nil_from_length}
use Rattle.std.proofs.lemmas.List.Elements.{recursion_from_All}
use Rattle.std.proofs.lemmas.Map.Views.{All-found, btree_set_IsLowerBound-head}
use Rattle.ss_elem.specs.declared.element.Event.{Event}
use Rattle.ss_meaning.specs.ByTime.{put_by_time, by_time}
use Rattle.ss_meaning.specs.Entries.{rows_ending_above}
use Rattle.ss_meaning.specs.ExceptLaws.{ending_up_to}
use Rattle.ss_join.specs.Held.{place_cmp, end_cmp, numbered, with_number, in_order, rows_held, IsPlaced, ends_at, AreHeld}
use Rattle.ss_join.proofs.Numbers.{with-hit, with-miss, filter-in_order}
use Rattle.ss_join.proofs.Places.{place_total, place_exact, end_total, equal_from}
use Rattle.ss_join.proofs.Holding.{above, numbered-above, not_greater}

-- the row that ends first stands in front

each-put : (P : Event → Type 0) (row : Event) (rows : List Event) → P row → AllByRecursion P rows → AllByRecursion P (put_by_time (λ (r : Event). r.end) row rows)
each-put P row [] p all = (p, tt)
each-put P row (r ∷ rs) p all = by_test (nat_le row.end r.end) (each-put P row rs p all.1)
  where
    by_test : (b : Bool) → AllByRecursion P (put_by_time (λ (x : Event). x.end) row rs)
        → AllByRecursion P (cond b (row ∷ r ∷ rs) (r ∷ put_by_time (λ (x : Event). x.end) row rs))
    by_test true rest = (p, all)
    by_test false rest = (all.0, rest)

each-up_to : (P : Event → Type 0) (bound : ℕ) (rows : List Event) → AllByRecursion P rows → AllByRecursion P (ending_up_to bound rows)
each-up_to P bound [] all = tt
each-up_to P bound (row ∷ rows) all = by_test (nat_le row.end bound) (each-up_to P bound rows all.1)
  where
    by_test : (b : Bool) → AllByRecursion P (ending_up_to bound rows)
        → AllByRecursion P (by_time (λ (r : Event). r.end) (cond b (row ∷ filter (λ (r : Event). nat_le r.end bound) rows) (filter (λ (r : Event). nat_le r.end bound) rows)))
    by_test true rest = each-put P row (ending_up_to bound rows) all.0 rest
    by_test false rest = rest

put-first : (row : Event) (rows : List Event) → AllByRecursion (λ (r : Event). row.end ≤ r.end) rows → put_by_time (λ (r : Event). r.end) row rows ≡ row ∷ rows
put-first row [] h = refl
put-first row (r ∷ rs) h = ap (λ b. cond b (row ∷ r ∷ rs) (r ∷ put_by_time (λ (x : Event). x.end) row rs)) (le-leb row.end r.end h.0)

in_front : (bound : ℕ) (row : Event) (rows : List Event) → row.end ≤ bound → AllByRecursion (λ (r : Event). row.end ≤ r.end) rows
    → ending_up_to bound (row ∷ rows) ≡ row ∷ ending_up_to bound rows
in_front bound row rows h all =
    let kept : List Event = filter (λ (r : Event). nat_le r.end bound) rows in
    ap (λ b. by_time (λ (r : Event). r.end) (cond b (row ∷ kept) kept)) (le-leb row.end bound h)
    ∙ put-first row (ending_up_to bound rows) (each-up_to (λ (r : Event). row.end ≤ r.end) bound rows all)

behind : (bound : ℕ) (row : Event) (later xs ys : List Event) → AllByRecursion (λ (r : Event). row.end < r.end) later
    → ending_up_to bound xs ≡ row ∷ ending_up_to bound ys → ending_up_to bound (later ++ xs) ≡ row ∷ ending_up_to bound (later ++ ys)
behind bound row [] xs ys all h = h
behind bound row (r ∷ rs) xs ys all h = by_test (nat_le r.end bound) (behind bound row rs xs ys all.1 h)
  where
    by_test : (b : Bool) → ending_up_to bound (rs ++ xs) ≡ row ∷ ending_up_to bound (rs ++ ys)
        → by_time (λ (x : Event). x.end) (cond b (r ∷ filter (λ (x : Event). nat_le x.end bound) (rs ++ xs)) (filter (λ (x : Event). nat_le x.end bound) (rs ++ xs)))
        ≡ row ∷ by_time (λ (x : Event). x.end) (cond b (r ∷ filter (λ (x : Event). nat_le x.end bound) (rs ++ ys)) (filter (λ (x : Event). nat_le x.end bound) (rs ++ ys)))
    by_test true rest =
        ap (put_by_time (λ (x : Event). x.end) r) rest
        ∙ ap (λ b. cond b (r ∷ row ∷ ending_up_to bound (rs ++ ys)) (row ∷ put_by_time (λ (x : Event). x.end) r (ending_up_to bound (rs ++ ys)))) (lt-leb r.end row.end all.0)
    by_test false rest = rest

-- rows in the order of their numbers

each-in_order : (P : Event → Type 0) (from count : ℕ) (xs : List (ℕ × Event)) → ((n : ℕ) → AllByRecursion P (with_number n xs)) → AllByRecursion P (in_order from count xs)
unfolding in_order
each-in_order P from zero xs h = tt
each-in_order P from (suc count) xs h = each-append P (with_number from xs) (in_order (suc from) count xs) (h from) (each-in_order P (suc from) count xs h)
  where
    each-append : (Q : Event → Type 0) (ys zs : List Event) → AllByRecursion Q ys → AllByRecursion Q zs → AllByRecursion Q (ys ++ zs)
    each-append Q [] zs k l = l
    each-append Q (y ∷ ys) zs k l = (k.0, each-append Q ys zs k.1 l)

later_same : (from count : ℕ) (xs ys : List (ℕ × Event)) → ((n : ℕ) → from ≤ n → with_number n xs ≡ with_number n ys) → in_order from count xs ≡ in_order from count ys
unfolding in_order
later_same from zero xs ys h = refl
later_same from (suc count) xs ys h =
    ap (λ (zs : List Event). zs ++ in_order (suc from) count xs) (h from (omega arith))
    ∙ ap (λ (zs : List Event). with_number from ys ++ zs) (later_same (suc from) count xs ys (λ n l. h n (omega (arith, l))))

-- a row with this number ends later than another with number `first`, and never before it
abbrev EndsLater : ℕ → Event → ℕ → Event → Type 0
EndsLater first row n r = (n < first → row.end < r.end) × (row.end ≤ r.end)

record IsTaken (first : ℕ) (row : Event) (xs ys : List (ℕ × Event)) : Type 0 where
  here : with_number first xs ≡ row ∷ []
  gone : with_number first ys ≡ []
  others : (n : ℕ) → (first ≡ n → ⊥) → with_number n ys ≡ with_number n xs
  later : (n : ℕ) → AllByRecursion (EndsLater first row n) (with_number n xs)

each_less : (P Q : Event → Type 0) → ((r : Event) → P r → Q r) → (rs : List Event) → AllByRecursion P rs → AllByRecursion Q rs
each_less P Q f [] h = tt
each_less P Q f (r ∷ rs) h = (f r h.0, each_less P Q f rs h.1)

taken_first : (bound from count top first : ℕ) (row : Event) (xs ys : List (ℕ × Event)) → from + count ≡ top → from ≤ first → first < top → row.end ≤ bound → IsTaken first row xs ys
    → ending_up_to bound (in_order from count xs) ≡ row ∷ ending_up_to bound (in_order from count ys)
unfolding in_order
taken_first bound from zero top first row xs ys e least most h taken = absurd (omega (arith, e, least, most))
taken_first bound from (suc count) top first row xs ys e least most h taken =
    by_order (cases_order first from) (taken_first bound (suc from) count top first row xs ys (omega (arith, e)))
  where
    by_order : (first ≡ from) ⊎ ((first < from) ⊎ (from < first))
        → (suc from ≤ first → first < top → row.end ≤ bound → IsTaken first row xs ys → ending_up_to bound (in_order (suc from) count xs) ≡ row ∷ ending_up_to bound (in_order (suc from) count ys))
        → ending_up_to bound (with_number from xs ++ in_order (suc from) count xs) ≡ row ∷ ending_up_to bound (with_number from ys ++ in_order (suc from) count ys)
    by_order (inl same) go =
        let here : with_number from xs ≡ row ∷ [] = subst (λ n. with_number n xs ≡ row ∷ []) same taken.here in
        let gone : with_number from ys ≡ [] = subst (λ n. with_number n ys ≡ []) same taken.gone in
        let all : AllByRecursion (λ (r : Event). row.end ≤ r.end) (in_order (suc from) count xs) =
        each-in_order (λ (r : Event). row.end ≤ r.end) (suc from) count xs
        (λ n. each_less (EndsLater first row n) (λ (r : Event). row.end ≤ r.end) (λ r k. k.1) (with_number n xs) (taken.later n)) in
        ap (λ (zs : List Event). ending_up_to bound (zs ++ in_order (suc from) count xs)) here
        ∙ (in_front bound row (in_order (suc from) count xs) h all
        ∙ (ap (λ (zs : List Event). row ∷ ending_up_to bound zs) (later_same (suc from) count xs ys (λ n l. sym (taken.others n (λ s. omega (arith, s, same, l)))))
        ∙ ap (λ (zs : List Event). row ∷ ending_up_to bound (zs ++ in_order (suc from) count ys)) (sym gone)))
    by_order (inr (inl before)) go = absurd (omega (arith, before, least))
    by_order (inr (inr less)) go =
        let apart : first ≡ from → ⊥ = λ s. omega (arith, s, less) in
        behind bound row (with_number from xs) (in_order (suc from) count xs) (in_order (suc from) count ys)
        (each_less (EndsLater first row from) (λ (r : Event). row.end < r.end) (λ r k. k.0 less) (with_number from xs) (taken.later from))
        (go less most h taken)
        ∙ ap (λ (zs : List Event). row ∷ ending_up_to bound (zs ++ in_order (suc from) count ys)) (sym (taken.others from apart))

-- a row that is found at its place, and what is there without it

abbrev finds : ℕ × ℕ → ℕ × ℕ → Bool
finds p q = is_at (place_cmp p) q

nothing_there : (row : Event) → None ≡ Some row → ⊥
nothing_there row h = cc

same_row : (r row : Event) → Some r ≡ Some row → r ≡ row
same_row r row h = cc

found_alone : (p : ℕ × ℕ) (row : Event) (es : List ((ℕ × ℕ) × Event)) → lookup (is_at (place_cmp p)) es ≡ Some row → length (with_number p.1 (numbered es)) ≤ 1
    → (with_number p.1 (numbered es) ≡ row ∷ []) × (with_number p.1 (numbered (remove_entry (is_at (place_cmp p)) es)) ≡ [])
found_alone p row [] found once = absurd (nothing_there row found)
found_alone p row (e ∷ es) found once = by_test (is_at (place_cmp p) e.0) refl found (found_alone p row es)
  where
    by_test : (b : Bool) → is_at (place_cmp p) e.0 ≡ b → cond b (Some e.1) (lookup (is_at (place_cmp p)) es) ≡ Some row
        → (lookup (is_at (place_cmp p)) es ≡ Some row → length (with_number p.1 (numbered es)) ≤ 1
        → (with_number p.1 (numbered es) ≡ row ∷ []) × (with_number p.1 (numbered (remove_entry (is_at (place_cmp p)) es)) ≡ []))
        → (with_number p.1 (numbered (e ∷ es)) ≡ row ∷ []) × (with_number p.1 (numbered (cond b es (e ∷ remove_entry (is_at (place_cmp p)) es))) ≡ [])
    by_test true t is go =
        let place : e.0.1 ≡ p.1 = sym (ap (λ (q : ℕ × ℕ). q.1) (place_exact p e.0 (equal_from (place_cmp p e.0) t))) in
        let hit = with-hit p.1 (e.0.1, e.1) (numbered es) place in
        let none : with_number p.1 (numbered es) ≡ [] = nil_from_length (with_number p.1 (numbered es)) (omega (arith, once, ap (λ (ys : List Event). length ys) hit)) in
        (hit ∙ (ap (λ (r : Event). r ∷ with_number p.1 (numbered es)) (same_row e.1 row is) ∙ ap (λ (ys : List Event). row ∷ ys) none), none)
    by_test false t is go =
        elim (cases_eq e.0.1 p.1) [
          | inl same ↦
              let hit = with-hit p.1 (e.0.1, e.1) (numbered es) same in
              let rest = go is (omega (arith, once, ap (λ (ys : List Event). length ys) hit)) in
              absurd (omega (arith, once, ap (λ (ys : List Event). length ys) hit, ap (λ (ys : List Event). length ys) rest.0))
          | inr apart ↦
              let miss = with-miss p.1 (e.0.1, e.1) (numbered es) apart in
              let rest = go is (omega (arith, once, ap (λ (ys : List Event). length ys) miss)) in
              (miss ∙ rest.0, with-miss p.1 (e.0.1, e.1) (numbered (remove_entry (is_at (place_cmp p)) es)) apart ∙ rest.1)
        ]

others_stay : (p : ℕ × ℕ) (n : ℕ) (es : List ((ℕ × ℕ) × Event)) → (p.1 ≡ n → ⊥)
    → with_number n (numbered (remove_entry (is_at (place_cmp p)) es)) ≡ with_number n (numbered es)
others_stay p n [] apart = refl
others_stay p n (e ∷ es) apart = by_test (is_at (place_cmp p) e.0) refl (others_stay p n es apart)
  where
    by_test : (b : Bool) → is_at (place_cmp p) e.0 ≡ b → with_number n (numbered (remove_entry (is_at (place_cmp p)) es)) ≡ with_number n (numbered es)
        → with_number n (numbered (cond b es (e ∷ remove_entry (is_at (place_cmp p)) es))) ≡ with_number n (numbered (e ∷ es))
    by_test true t rest =
        let place : p.1 ≡ e.0.1 = ap (λ (q : ℕ × ℕ). q.1) (place_exact p e.0 (equal_from (place_cmp p e.0) t)) in
        sym (with-miss n (e.0.1, e.1) (numbered es) (λ s. apart (place ∙ s)))
    by_test false t rest =
        elim (cases_eq e.0.1 n) [
          | inl same ↦ with-hit n (e.0.1, e.1) (numbered (remove_entry (is_at (place_cmp p)) es)) same
              ∙ (ap (λ (ys : List Event). e.1 ∷ ys) rest ∙ sym (with-hit n (e.0.1, e.1) (numbered es) same))
          | inr other ↦ with-miss n (e.0.1, e.1) (numbered (remove_entry (is_at (place_cmp p)) es)) other
              ∙ (rest ∙ sym (with-miss n (e.0.1, e.1) (numbered es) other))
        ]

-- all others end later, or in the same moment with a greater number

each-with : (P : ℕ → Event → Type 0) (n : ℕ) (es : List ((ℕ × ℕ) × Event)) → AllByRecursion (λ (e : (ℕ × ℕ) × Event). P e.0.1 e.1) es → AllByRecursion (P n) (with_number n (numbered es))
each-with P n [] h = tt
each-with P n (e ∷ es) h =
    elim (cases_eq e.0.1 n) [
      | inl same ↦ subst (AllByRecursion (P n)) (sym (with-hit n (e.0.1, e.1) (numbered es) same)) (subst (λ m. P m e.1) same h.0, each-with P n es h.1)
      | inr other ↦ subst (AllByRecursion (P n)) (sym (with-miss n (e.0.1, e.1) (numbered es) other)) (each-with P n es h.1)
    ]

not_earlier : (a b c d : ℕ) (o : Ordering) → is_gt (ordering_then (ordering_then (nat_cmp a b) (nat_cmp c d)) o) ≡ false → d < c → a < b
not_earlier a b c d o h less = by_order (nat_cmp a b) (nat_cmp c d) (ranked a b (nat_cmp a b) refl) (ranked c d (nat_cmp c d) refl) h
  where
    by_order : (p q : Ordering) → MatchOrdering p (a < b) (a ≡ b) (b < a) → MatchOrdering q (c < d) (c ≡ d) (d < c)
        → is_gt (ordering_then (ordering_then p q) o) ≡ false → a < b
    by_order Less q l m k = l
    by_order Equal Less l m k = absurd (omega (arith, m, less))
    by_order Equal Equal l m k = absurd (omega (arith, m, less))
    by_order Equal Greater l m k = let no : ⊥ = cc in absurd no
    by_order Greater q l m k = let no : ⊥ = cc in absurd no

all_later : (rows : BTreeMap (ℕ × ℕ) Event) (ends : BTreeSet (ℕ × ℕ × ℕ)) (next : ℕ) (first : ℕ × ℕ × ℕ) (rest : List (ℕ × ℕ × ℕ)) (row : Event) → AreHeld rows ends next
    → ends.keys ≡ first ∷ rest → row.end ≡ first.0 → (n : ℕ) → AllByRecursion (EndsLater first.1 row n) (with_number n (numbered rows.entries))
all_later rows ends next first rest row held keys end n =
    each-with (EndsLater first.1 row) n rows.entries
    (each rows.entries (recursion_from_All (λ (e : (ℕ × ℕ) × Event). get place_cmp rows e.0 ≡ Some e.1) rows.entries (All-found place_total rows held.ordered)))
  where
    one : (e : (ℕ × ℕ) × Event) → get place_cmp rows e.0 ≡ Some e.1 → EndsLater first.1 row e.0.1 e.1
    one e found =
        let member : contains end_cmp ends (e.1.end, e.0.1, e.0.0) ≡ true =
        held.indexed e.1.end e.0.1 e.0.0 ∙ (ap (ends_at e.1.end) found ∙ eq-eqb e.1.end e.1.end refl) in
        let least = btree_set_IsLowerBound-head end_total ends held.ends_ordered first rest keys (e.1.end, e.0.1, e.0.0) member in
        let most = not_greater first.0 e.1.end (nat_cmp first.1 e.0.1) (nat_cmp first.2 e.0.0) least in
        (λ less. let more = not_earlier first.0 e.1.end first.1 e.0.1 (nat_cmp first.2 e.0.0) least less in omega (arith, more, end), omega (arith, most, end))

    each : (es : List ((ℕ × ℕ) × Event)) → AllByRecursion (λ (e : (ℕ × ℕ) × Event). get place_cmp rows e.0 ≡ Some e.1) es
        → AllByRecursion (λ (e : (ℕ × ℕ) × Event). EndsLater first.1 row e.0.1 e.1) es
    each [] h = tt
    each (e ∷ es) h = (one e h.0, each es h.1)

pub popped : (rows rows' : BTreeMap (ℕ × ℕ) Event) (ends : BTreeSet (ℕ × ℕ × ℕ)) (next bound : ℕ) (first : ℕ × ℕ × ℕ) (rest : List (ℕ × ℕ × ℕ)) (row : Event) → AreHeld rows ends next
    → ends.keys ≡ first ∷ rest → get place_cmp rows (first.2, first.1) ≡ Some row → row.end ≡ first.0 → first.1 < next → first.0 ≤ bound
    → rows'.entries ≡ remove_entry (is_at (place_cmp (first.2, first.1))) rows.entries
    → ending_up_to bound (rows_held next rows) ≡ row ∷ ending_up_to bound (rows_held next rows')
popped rows rows' ends next bound first rest row held keys found end below reached entries =
    let p : ℕ × ℕ = (first.2, first.1) in
    let alone = found_alone p row rows.entries found (held.once first.1) in
    let none : 0 + next ≡ next = omega arith in
    let taken : IsTaken first.1 row (numbered rows.entries) (numbered (remove_entry (is_at (place_cmp p)) rows.entries)) = record {
      here = alone.0;
      gone = alone.1;
      others = λ n apart. others_stay p n rows.entries apart;
      later = all_later rows ends next first rest row held keys end;
    } in
    taken_first bound 0 next next first.1 row (numbered rows.entries) (numbered (remove_entry (is_at (place_cmp p)) rows.entries)) none (omega arith) below (omega (arith, end, reached)) taken
    ∙ ap (λ es. row ∷ ending_up_to bound (in_order 0 next (numbered es))) (sym entries)

-- rows that end above a bound are the same before and after

pub same_open : (rows rows' : BTreeMap (ℕ × ℕ) Event) (next bound : ℕ) → above bound rows'.entries ≡ above bound rows.entries
    → rows_ending_above bound (rows_held next rows') ≡ rows_ending_above bound (rows_held next rows)
same_open rows rows' next bound same =
    let test : Event → Bool = λ (row : Event). nat_lt bound row.end in
    filter-in_order test 0 next (numbered rows'.entries)
    ∙ (ap (in_order 0 next) (sym (numbered-above bound rows'.entries) ∙ (ap numbered same ∙ numbered-above bound rows.entries))
    ∙ sym (filter-in_order test 0 next (numbered rows.entries)))

pub placed_at : (p : ℕ × ℕ) (row : Event) (next : ℕ) (es : List ((ℕ × ℕ) × Event)) → lookup (is_at (place_cmp p)) es ≡ Some row → AllByRecursion (IsPlaced next) es → p.1 < next
placed_at p row next [] found all = absurd (nothing_there row found)
placed_at p row next (e ∷ es) found all = by_test (is_at (place_cmp p) e.0) refl found (placed_at p row next es)
  where
    by_test : (b : Bool) → is_at (place_cmp p) e.0 ≡ b → cond b (Some e.1) (lookup (is_at (place_cmp p)) es) ≡ Some row
        → (lookup (is_at (place_cmp p)) es ≡ Some row → AllByRecursion (IsPlaced next) es → p.1 < next) → p.1 < next
    by_test true t is go =
        let place : p.1 ≡ e.0.1 = ap (λ (q : ℕ × ℕ). q.1) (place_exact p e.0 (equal_from (place_cmp p e.0) t)) in
        let below = all.0.below in
        omega (arith, place, below)
    by_test false t is go = go is all.1
