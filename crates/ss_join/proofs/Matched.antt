-- The rows that match one are taken away.
use Rattle.std.proofs.Common.{◌≡◌, ℕ, suc, ◌+◌, ◌<◌, ◌≤◌, ◌==◌, nat_lt, Bool, true, false, cond, not, ◌&&◌, ◌||◌, List, [], ◌∷◌, filter, Some, None, refl, sym, ap, subst, ◌∙◌, arith, eq-eqb}
use Rattle.std.specs.List.{AllByRecursion}
use Rattle.std.specs.List.Sorted.{IsStrictlySortedBy}
use Rattle.std.specs.declared.cmp.Ordering.{Ordering}
use Rattle.std.specs.declared.cmp.Ordering.TheVariants.{Less, Equal, Greater}
use Rattle.std.specs.declared.ops.Bound.TheVariants.{Included, Excluded}
use Rattle.std.specs.Ordering.{nat_cmp, ordering_then, is_le, MatchOrdering}
use Rattle.std.specs.Map.{keys_of, remove_entry}
use Rattle.std.specs.BTreeMap.{BTreeMap, get, is_at, IsOrdered}
use Rattle.std.specs.BTreeMap.Range.{range_contains, entries_between}
use Rattle.std.specs.BTreeSet.{BTreeSet, contains}
use Rattle.std.specs.BTreeSet as set
use Rattle.std.proofs.lemmas.Bool.{and_from, and_parts, eqb-true}
use Rattle.std.proofs.lemmas.Cmp.{ranked, tied_itself}
use Rattle.std.proofs.lemmas.List.Elements.{recursion_from_All}
use Rattle.std.proofs.lemmas.Map.Views.{All-found}
use Rattle.ss_elem.specs.declared.element.Event.{Event}
use Rattle.ss_meaning.specs.Join.{matches}
use Rattle.ss_meaning.specs.Except.{is_alone, alone}
use Rattle.ss_join.specs.Held.{place_cmp, end_cmp, numbered, in_order, rows_held, IsPlaced, ends_at, AreHeld, matched, first_place}
use Rattle.ss_join.proofs.Numbers.{Rises, filter-in_order}
use Rattle.ss_join.proofs.Places.{place_total, place_exact, equal_from, filter-removed}
use Rattle.ss_join.proofs.Ends.{EndIs, RowIs, at_place}
use Rattle.ss_join.proofs.Holding.{forgot_one}
use Rattle.ss_join.proofs.Listings.{numbered-filter, less_at_key}

-- the rows that don't match one, at their places
abbrev pub lonely : Event → List ((ℕ × ℕ) × Event) → List ((ℕ × ℕ) × Event)
lonely row es = filter (λ e. is_alone (row ∷ []) e.1) es

same_key : (r row : Event) → matches r row ≡ true → r.key ≡ row.key
same_key r row h =
    eqb-true r.key row.key
    (and_parts (r.key == row.key) (nat_lt r.start row.end) (and_parts ((r.key == row.key) && nat_lt r.start row.end) (nat_lt row.start r.end) h).0).0

-- a range of the numbers of a key has all that match

inside : (key from most : ℕ) (p : ℕ × ℕ) → key ≡ p.0 → from ≤ p.1 → p.1 < most → range_contains place_cmp (Included (key, from)) (Excluded (key, most)) p ≡ true
inside key from most p same least below = by_order (nat_cmp key p.0) (ranked key p.0 (nat_cmp key p.0) refl)
  where
    at_least : (o : Ordering) → MatchOrdering o (from < p.1) (from ≡ p.1) (p.1 < from) → is_le o ≡ true
    at_least Less l = refl
    at_least Equal l = refl
    at_least Greater l = absurd (omega (arith, l, least))

    at_most : (o : Ordering) → MatchOrdering o (most < p.1) (most ≡ p.1) (p.1 < most) → is_le o ≡ false
    at_most Less l = absurd (omega (arith, l, below))
    at_most Equal l = absurd (omega (arith, l, below))
    at_most Greater l = refl

    by_order : (o : Ordering) → MatchOrdering o (key < p.0) (key ≡ p.0) (p.0 < key)
        → (is_le (ordering_then o (nat_cmp from p.1)) && not (is_le (ordering_then o (nat_cmp most p.1)))) ≡ true
    by_order Less l = absurd (omega (arith, l, same))
    by_order Equal l =
        and_from (is_le (nat_cmp from p.1)) (not (is_le (nat_cmp most p.1))) (at_least (nat_cmp from p.1) (ranked from p.1 (nat_cmp from p.1) refl))
        (ap not (at_most (nat_cmp most p.1) (ranked most p.1 (nat_cmp most p.1) refl)))
    by_order Greater l = absurd (omega (arith, l, same))

pub matched-between : (row : Event) (from next : ℕ) (es : List ((ℕ × ℕ) × Event)) → AllByRecursion (IsPlaced next) es → AllByRecursion (λ (r : (ℕ × ℕ) × Event). from ≤ r.0.1) (matched row es)
    → matched row (entries_between place_cmp (Included (row.key, from)) (Excluded (row.key, next)) es) ≡ matched row es
matched-between row from next [] placed least = refl
matched-between row from next (e ∷ es) placed least =
    by_test (matches e.1 row) (range_contains place_cmp (Included (row.key, from)) (Excluded (row.key, next)) e.0) refl refl least (matched-between row from next es placed.1)
  where
    between : List ((ℕ × ℕ) × Event)
    between = entries_between place_cmp (Included (row.key, from)) (Excluded (row.key, next)) es

    by_test : (b d : Bool) → matches e.1 row ≡ b → range_contains place_cmp (Included (row.key, from)) (Excluded (row.key, next)) e.0 ≡ d
        → AllByRecursion (λ (r : (ℕ × ℕ) × Event). from ≤ r.0.1) (cond b (e ∷ matched row es) (matched row es))
        → (AllByRecursion (λ (r : (ℕ × ℕ) × Event). from ≤ r.0.1) (matched row es) → matched row (entries_between place_cmp (Included (row.key, from)) (Excluded (row.key, next)) es) ≡ matched row es)
        → matched row (cond d (e ∷ entries_between place_cmp (Included (row.key, from)) (Excluded (row.key, next)) es) (entries_between place_cmp (Included (row.key, from)) (Excluded (row.key, next)) es))
        ≡ cond b (e ∷ matched row es) (matched row es)
    by_test true d t r l go =
        let is_in = inside row.key from next e.0 (sym (same_key e.1 row t) ∙ placed.0.key) l.0 placed.0.below in
        ap (λ x. matched row (cond x (e ∷ entries_between place_cmp (Included (row.key, from)) (Excluded (row.key, next)) es) (entries_between place_cmp (Included (row.key, from)) (Excluded (row.key, next)) es))) (sym r ∙ is_in)
        ∙ (ap (λ x. cond x (e ∷ matched row (entries_between place_cmp (Included (row.key, from)) (Excluded (row.key, next)) es)) (matched row (entries_between place_cmp (Included (row.key, from)) (Excluded (row.key, next)) es))) t
        ∙ ap (λ (xs : List ((ℕ × ℕ) × Event)). e ∷ xs) (go l.1))
    by_test false true t r l go =
        ap (λ x. cond x (e ∷ matched row (entries_between place_cmp (Included (row.key, from)) (Excluded (row.key, next)) es)) (matched row (entries_between place_cmp (Included (row.key, from)) (Excluded (row.key, next)) es))) t ∙ go l
    by_test false false t r l go = go l

-- those that match stand in rising order of their numbers

pub matched-rise : (row : Event) (from next : ℕ) (es : List ((ℕ × ℕ) × Event)) → AllByRecursion (IsPlaced next) es → IsStrictlySortedBy place_cmp (keys_of es)
    → AllByRecursion (λ (p : ℕ × ℕ). p.0 ≡ row.key → from ≤ p.1) (keys_of es) → Rises from (numbered (matched row es))
unfolding IsStrictlySortedBy
matched-rise row from next [] placed sorted all = tt
matched-rise row from next (e ∷ es) placed sorted all =
    by_test (matches e.1 row) refl (matched-rise row from next es placed.1 sorted.1 all.1) (matched-rise row (suc e.0.1) next es placed.1 sorted.1)
  where
    later : (ps : List (ℕ × ℕ)) → e.0.0 ≡ row.key → AllByRecursion (λ (p : ℕ × ℕ). place_cmp e.0 p ≡ Less) ps
        → AllByRecursion (λ (p : ℕ × ℕ). p.0 ≡ row.key → suc e.0.1 ≤ p.1) ps
    later [] k l = tt
    later (p ∷ ps) k l = (λ s. let less = less_at_key e.0 p l.0 (k ∙ sym s) in omega (arith, less), later ps k l.1)

    by_test : (b : Bool) → matches e.1 row ≡ b → Rises from (numbered (matched row es))
        → (AllByRecursion (λ (p : ℕ × ℕ). p.0 ≡ row.key → suc e.0.1 ≤ p.1) (keys_of es) → Rises (suc e.0.1) (numbered (matched row es)))
        → Rises from (numbered (cond b (e ∷ matched row es) (matched row es)))
    by_test true t rest behind =
        let same : e.0.0 ≡ row.key = sym (placed.0.key) ∙ same_key e.1 row t in
        (all.0 same, behind (later (keys_of es) same sorted.0))
    by_test false t rest behind = rest

pub all_from_zero : (key : ℕ) (ps : List (ℕ × ℕ)) → AllByRecursion (λ (p : ℕ × ℕ). p.0 ≡ key → 0 ≤ p.1) ps
all_from_zero key [] = tt
all_from_zero key (p ∷ ps) = (λ s. omega arith, all_from_zero key ps)

pub rises_all : (from : ℕ) (xs : List ((ℕ × ℕ) × Event)) → Rises from (numbered xs) → AllByRecursion (λ (r : (ℕ × ℕ) × Event). from ≤ r.0.1) xs
rises_all from [] h = tt
rises_all from (x ∷ xs) h = let least = h.0 in (least, lower xs (omega (arith, least)) (rises_all (suc x.0.1) xs h.1))
  where
    lower : (ys : List ((ℕ × ℕ) × Event)) → from ≤ suc x.0.1 → AllByRecursion (λ (r : (ℕ × ℕ) × Event). suc x.0.1 ≤ r.0.1) ys → AllByRecursion (λ (r : (ℕ × ℕ) × Event). from ≤ r.0.1) ys
    lower [] l k = tt
    lower (y ∷ ys) l k = let more = k.0 in (omega (arith, l, more), lower ys l k.1)

-- the first that matches

record IsFirst (row : Event) (xs : List ((ℕ × ℕ) × Event)) (found : ℕ × ℕ) : Type 0 where
  first : (ℕ × ℕ) × Event
  rest : List ((ℕ × ℕ) × Event)
  is : xs ≡ first ∷ rest
  number : first.0.1 ≡ found.0
  end : first.1.end ≡ found.1

is_first : (row : Event) (xs : List ((ℕ × ℕ) × Event)) (found : ℕ × ℕ) → first_place xs ≡ Some found → IsFirst row xs found
is_first row [] found h = let no : ⊥ = cc in absurd no
is_first row (x ∷ xs) found h =
    let place : ℕ × ℕ = (x.0.1, x.1.end) in
    let same : place ≡ found = cc in
    record { first = x; rest = xs; is = refl; number = ap (λ (q : ℕ × ℕ). q.0) same; end = ap (λ (q : ℕ × ℕ). q.1) same }

none_first : (xs : List ((ℕ × ℕ) × Event)) → first_place xs ≡ None → xs ≡ []
none_first [] h = refl
none_first (x ∷ xs) h = let no : ⊥ = cc in absurd no

some_none : (x : (ℕ × ℕ) × Event) (xs : List ((ℕ × ℕ) × Event)) → [] ≡ x ∷ xs → ⊥
some_none x xs h = cc

kept_head : (Q : (ℕ × ℕ) × Event → Type 0) (row : Event) (es rest : List ((ℕ × ℕ) × Event)) (e : (ℕ × ℕ) × Event) → AllByRecursion Q es → matched row es ≡ e ∷ rest
    → Q e × (matches e.1 row ≡ true)
kept_head Q row [] rest e all h = absurd (some_none e rest h)
kept_head Q row (x ∷ xs) rest e all h = by_test (matches x.1 row) refl h (kept_head Q row xs rest e all.1)
  where
    by_test : (b : Bool) → matches x.1 row ≡ b → cond b (x ∷ matched row xs) (matched row xs) ≡ e ∷ rest
        → (matched row xs ≡ e ∷ rest → Q e × (matches e.1 row ≡ true)) → Q e × (matches e.1 row ≡ true)
    by_test true t is go =
        let same : x ≡ e = cc in
        (subst Q same all.0, subst (λ (y : (ℕ × ℕ) × Event). matches y.1 row ≡ true) same t)
    by_test false t is go = go is

not_less : (p q : ℕ × ℕ) → p ≡ q → place_cmp p q ≡ Less → ⊥
not_less p q same less =
    let tied = subst (λ r. place_cmp p r ≡ Equal) same (tied_itself place_total p) in
    let no : ⊥ = cc in no

matched-removed : (row : Event) (p : ℕ × ℕ) (es rest : List ((ℕ × ℕ) × Event)) (e : (ℕ × ℕ) × Event) → IsStrictlySortedBy place_cmp (keys_of es) → p ≡ e.0
    → matched row es ≡ e ∷ rest → matched row (remove_entry (is_at (place_cmp p)) es) ≡ rest
unfolding IsStrictlySortedBy
matched-removed row p [] rest e sorted place h = absurd (some_none e rest h)
matched-removed row p (x ∷ xs) rest e sorted place h =
    by_tests (is_at (place_cmp p) x.0) (matches x.1 row) refl refl h (matched-removed row p xs rest e sorted.1 place)
  where
    as_entries : (ys : List ((ℕ × ℕ) × Event)) → AllByRecursion (λ (k : ℕ × ℕ). place_cmp x.0 k ≡ Less) (keys_of ys) → AllByRecursion (λ (y : (ℕ × ℕ) × Event). place_cmp x.0 y.0 ≡ Less) ys
    as_entries [] k = tt
    as_entries (y ∷ ys) k = (k.0, as_entries ys k.1)

    by_tests : (a b : Bool) → is_at (place_cmp p) x.0 ≡ a → matches x.1 row ≡ b → cond b (x ∷ matched row xs) (matched row xs) ≡ e ∷ rest
        → (matched row xs ≡ e ∷ rest → matched row (remove_entry (is_at (place_cmp p)) xs) ≡ rest)
        → matched row (cond a xs (x ∷ remove_entry (is_at (place_cmp p)) xs)) ≡ rest
    by_tests true true s t is go = cc
    by_tests true false s t is go =
        let here : p ≡ x.0 = place_exact p x.0 (equal_from (place_cmp p x.0) s) in
        absurd (not_less x.0 e.0 (sym here ∙ place) (kept_head (λ (y : (ℕ × ℕ) × Event). place_cmp x.0 y.0 ≡ Less) row xs rest e (as_entries xs sorted.0) is).0)
    by_tests false true s t is go =
        let same : x ≡ e = cc in
        let found = at_place p x.0 (place ∙ sym (ap (λ (y : (ℕ × ℕ) × Event). y.0) same)) in
        let no : ⊥ = cc in absurd no
    by_tests false false s t is go =
        ap (λ b. cond b (x ∷ matched row (remove_entry (is_at (place_cmp p)) xs)) (matched row (remove_entry (is_at (place_cmp p)) xs))) t ∙ go is

not_alone : (r row : Event) → matches r row ≡ true → is_alone (row ∷ []) r ≡ false
not_alone r row h = ap (λ b. not (b || false)) h

pair_is : (p : ℕ × ℕ) (k n : ℕ) → p.0 ≡ k → p.1 ≡ n → let q : ℕ × ℕ = (k, n) in p ≡ q
pair_is p k n a b =
    let made = λ (x y : ℕ). let q : ℕ × ℕ = (x, y) in q in
    ap (λ x. made x p.1) a ∙ ap (made k) b

-- one fewer that matches

pub record OneFewer (row : Event) (rows rows' : BTreeMap (ℕ × ℕ) Event) (ends' : BTreeSet (ℕ × ℕ × ℕ)) (next number : ℕ) : Type 0 where
  pub held : AreHeld rows' ends' next
  pub same : lonely row rows'.entries ≡ lonely row rows.entries
  pub behind : Rises (number + 1) (numbered (matched row rows'.entries))

pub record FoundAt (row : Event) (rows : BTreeMap (ℕ × ℕ) Event) (next : ℕ) (found : ℕ × ℕ) : Type 0 where
  pub other : Event
  pub is : get place_cmp rows (row.key, found.0) ≡ Some other
  pub end : other.end ≡ found.1
  pub matching : matches other row ≡ true
  pub below : found.0 < next

pub found_at : (row : Event) (rows : BTreeMap (ℕ × ℕ) Event) (ends : BTreeSet (ℕ × ℕ × ℕ)) (next : ℕ) (found : ℕ × ℕ) → AreHeld rows ends next
    → first_place (matched row rows.entries) ≡ Some found → FoundAt row rows next found
found_at row rows ends next found held h =
    let first = is_first row (matched row rows.entries) found h in
    let e = first.first in
    let got = kept_head (λ (y : (ℕ × ℕ) × Event). get place_cmp rows y.0 ≡ Some y.1) row rows.entries first.rest e
    (recursion_from_All (λ (y : (ℕ × ℕ) × Event). get place_cmp rows y.0 ≡ Some y.1) rows.entries (All-found place_total rows held.ordered)) first.is in
    let placed = (kept_head (IsPlaced next) row rows.entries first.rest e held.placed first.is).0 in
    let place = pair_is e.0 row.key found.0 (sym placed.key ∙ same_key e.1 row got.1) first.number in
    let below = placed.below in
    record {
      other = e.1;
      is = subst (λ (q : ℕ × ℕ). get place_cmp rows q ≡ Some e.1) place got.0;
      end = first.end;
      matching = got.1;
      below = omega (arith, below, first.number);
    }

pub one_fewer : (row : Event) (rows rows' : BTreeMap (ℕ × ℕ) Event) (ends ends' : BTreeSet (ℕ × ℕ × ℕ)) (next from : ℕ) (found : ℕ × ℕ) → AreHeld rows ends next
    → first_place (matched row rows.entries) ≡ Some found → Rises from (numbered (matched row rows.entries))
    → rows'.entries ≡ remove_entry (is_at (place_cmp (row.key, found.0))) rows.entries → EndIs ends ends' (found.1, found.0, row.key) false
    → RowIs rows rows' (row.key, found.0) None → IsOrdered place_cmp rows' → set.IsOrdered end_cmp ends' → OneFewer row rows rows' ends' next found.0
one_fewer row rows rows' ends ends' next from found held h rises entries end_is row_is ordered ends_ordered =
    let at = found_at row rows ends next found held h in
    let first = is_first row (matched row rows.entries) found h in
    let e = first.first in
    let placed = (kept_head (IsPlaced next) row rows.entries first.rest e held.placed first.is) in
    let place = pair_is e.0 row.key found.0 (sym placed.0.key ∙ same_key e.1 row placed.1) first.number in
    let member : contains end_cmp ends (found.1, found.0, row.key) ≡ true =
    held.indexed found.1 found.0 row.key ∙ (ap (ends_at found.1) at.is ∙ eq-eqb at.other.end found.1 at.end) in
    let t : ℕ × ℕ × ℕ = (found.1, found.0, row.key) in
    let behind = (subst (λ (xs : List ((ℕ × ℕ) × Event)). Rises from (numbered xs)) first.is rises).1 in
    let count : suc e.0.1 ≡ found.0 + 1 = omega (arith, first.number) in
    record {
      held = (forgot_one rows rows' ends ends' next found.1 t held member (omega arith) entries end_is row_is ordered ends_ordered).0;
      same = ap (lonely row) entries
          ∙ filter-removed (is_alone (row ∷ [])) (is_at (place_cmp (row.key, found.0))) at.other rows.entries at.is (not_alone at.other row at.matching);
      behind = subst (λ n. Rises n (numbered (matched row rows'.entries))) count
          (subst (λ (xs : List ((ℕ × ℕ) × Event)). Rises (suc e.0.1) (numbered xs))
          (sym (ap (matched row) entries ∙ matched-removed row (row.key, found.0) rows.entries first.rest e held.ordered (sym place) first.is)) behind);
    }

-- none that matches is left

all_lonely : (row : Event) (es : List ((ℕ × ℕ) × Event)) → matched row es ≡ [] → lonely row es ≡ es
all_lonely row [] h = refl
all_lonely row (e ∷ es) h = by_test (matches e.1 row) refl h (all_lonely row es)
  where
    by_test : (b : Bool) → matches e.1 row ≡ b → cond b (e ∷ matched row es) (matched row es) ≡ [] → (matched row es ≡ [] → lonely row es ≡ es) → lonely row (e ∷ es) ≡ e ∷ es
    by_test true t is go = absurd (some_none e (matched row es) (sym is))
    by_test false t is go =
        ap (λ b. cond (not (b || false)) (e ∷ lonely row es) (lonely row es)) t ∙ ap (λ (xs : List ((ℕ × ℕ) × Event)). e ∷ xs) (go is)

pub taken_away : (row : Event) (rows rows' : BTreeMap (ℕ × ℕ) Event) (next : ℕ) → lonely row rows'.entries ≡ lonely row rows.entries → first_place (matched row rows'.entries) ≡ None
    → rows_held next rows' ≡ alone (row ∷ []) (rows_held next rows)
taken_away row rows rows' next same none =
    ap (λ es. in_order 0 next (numbered es)) (sym (all_lonely row rows'.entries (none_first (matched row rows'.entries) none)) ∙ same)
    ∙ (ap (in_order 0 next) (numbered-filter (is_alone (row ∷ [])) rows.entries)
    ∙ sym (filter-in_order (is_alone (row ∷ [])) 0 next (numbered rows.entries)))
