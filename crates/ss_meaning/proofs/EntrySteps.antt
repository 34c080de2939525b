-- The entries of a window stand in order, and what one more row makes of them.
use Rattle.std.proofs.Common.{◌≡◌, ℕ, zero, suc, ◌+◌, ◌*◌, ◌<◌, ◌≤◌, ◌==◌, Bool, true, false, cond, ◌&&◌, ◌||◌, nat_lt, ℤ, List, [], ◌∷◌, ◌++◌, length, map, filter, Option, Some, None, refl, sym, ap, ◌∙◌, inl, inr, arith, ltb-true, eq-eqb, ◌-◌, ◌/◌, mul-le-mul_left}
use Rattle.std.proofs.lemmas.Bool.{and_from}
use Rattle.std.proofs.lemmas.List.{append-nil, map-append, length_push}
use Rattle.std.proofs.lemmas.List.Elements.{filter-append, All-from_recursion}
use Rattle.std.specs.List.{AllByRecursion, list_any, flat_map}
use Rattle.ss_elem.specs.declared.element.Event.{Event}
use Rattle.ss_meaning.specs.Window.{Window, belongs, window_members, multiples, ends_of, window_keys}
use Rattle.ss_meaning.specs.Entries.{WindowEntry, window_entry, ends_above, window_entries}
use Rattle.ss_meaning.specs.EntryLists.{IsBehind, AreInOrder, put_values}
use Rattle.ss_meaning.specs.EntryLaws.{GrowsBy, EntriesAfterRow, IsEntryOf, EntriesCountRows, EntriesAreInOrder}
use Rattle.ss_meaning.proofs.Each.{each-append, each-map, each_weaker, each_given, each-flat_map, each-filter}
use Rattle.ss_meaning.proofs.Ends.{In, IsRising, rising-rising, from_rising, from_filter, in_filter, from_map, from_flat_map, from_ends_of}
use Rattle.ss_meaning.proofs.EntryFinds.{told, found, same_entries}
use Rattle.ss_meaning.proofs.EntryPuts.{among, joined, puts_keep_order, found-puts}
use Rattle.ss_meaning.proofs.EntryEnds.{entries_at}
use Rattle.ss_meaning.proofs.EntryLooks.{is_multiple, among-filter, among-ends_of, said, found-entries}

four : (a b c d : Bool) → ((a && (b && c)) && d) ≡ ((a && b) && (c && d))
four true true true d = refl
four true true false d = refl
four true false c d = refl
four false b c d = refl

-- entries stand in order

in_order-append : (es fs : List WindowEntry) → AreInOrder es → AreInOrder fs → AllByRecursion (λ (e : WindowEntry). AllByRecursion (IsBehind e.end e.key) fs) es → AreInOrder (es ++ fs)
in_order-append [] fs h k b = k
in_order-append (e ∷ es) fs h k b = (each-append (IsBehind e.end e.key) es fs h.0 b.0, in_order-append es fs h.1 k b.1)

in_order-one_end : (window : Window) (seen : List Event) (w : ℕ) (keys : List ℕ) → IsRising keys → AreInOrder (map (window_entry window seen w) keys)
in_order-one_end window seen w [] h = tt
in_order-one_end window seen w (key ∷ keys) h = (
  each-map (IsBehind w key) (window_entry window seen w) keys
      (each_weaker (λ m. key < m) (λ m. IsBehind w key (window_entry window seen w m)) (λ m l. record { ends = omega arith; keys = λ s. l }) keys h.0),
  in_order-one_end window seen w keys h.1,
)

behind_later : (window : Window) (seen : List Event) (w key : ℕ) (ws : List ℕ) → AllByRecursion (λ m. w < m) ws → AllByRecursion (IsBehind w key) (entries_at window seen ws)
behind_later window seen w key ws h =
    each-flat_map (λ m. w < m) (IsBehind w key) (λ m. map (window_entry window seen m) (window_keys window seen m))
    (λ m l. each-map (IsBehind w key) (window_entry window seen m) (window_keys window seen m)
    (each_given (λ k. IsBehind w key (window_entry window seen m k)) (λ k. record { ends = omega (arith, l); keys = λ s. absurd (omega (arith, l, s)) }) (window_keys window seen m)))
    ws h

in_order-entries_at : (window : Window) (seen : List Event) (ws : List ℕ) → IsRising ws → AreInOrder (entries_at window seen ws)
in_order-entries_at window seen [] h = tt
in_order-entries_at window seen (w ∷ ws) h =
    in_order-append (map (window_entry window seen w) (window_keys window seen w)) (entries_at window seen ws)
    (in_order-one_end window seen w (window_keys window seen w) (rising-rising (map (λ row. row.key) (filter (belongs window w) seen))))
    (in_order-entries_at window seen ws h.1)
    (each-map (λ (e : WindowEntry). AllByRecursion (IsBehind e.end e.key) (entries_at window seen ws)) (window_entry window seen w) (window_keys window seen w)
    (each_given (λ key. AllByRecursion (IsBehind w key) (entries_at window seen ws)) (λ key. behind_later window seen w key ws h.0) (window_keys window seen w)))

pub entries_in_order : EntriesAreInOrder
entries_in_order window seen bound =
    in_order-entries_at window seen (ends_above window seen bound) (rising-rising (filter (nat_lt bound) (flat_map (ends_of window) seen)))

-- what one more row says

tells : Window → List Event → ℤ × ℕ
tells window counted = (window.aggregate (map window.field counted), length counted)

filled : List Event → Bool
filled [] = false
filled (row ∷ rows) = true

kept : Window → List Event → Option (ℤ × ℕ)
kept window [] = None
kept window (row ∷ rows) = Some (tells window (row ∷ rows))

filled-filter : (test : Event → Bool) (rows : List Event) → list_any test rows ≡ filled (filter test rows)
unfolding filled
filled-filter test [] = refl
filled-filter test (row ∷ rows) = by_test (test row) (filled-filter test rows)
  where
    by_test : (b : Bool) → list_any test rows ≡ filled (filter test rows) → (b || list_any test rows) ≡ filled (cond b (row ∷ filter test rows) (filter test rows))
    by_test true rest = refl
    by_test false rest = rest

cond_filled : (b : Bool) (window : Window) (counted : List Event) → cond (b && filled counted) (Some (tells window counted)) None ≡ cond b (kept window counted) None
unfolding filled kept
cond_filled true window [] = refl
cond_filled true window (row ∷ rows) = refl
cond_filled false window counted = refl

said_kept : (window : Window) (seen : List Event) (bound w key : ℕ)
    → said window seen bound w key ≡ cond (nat_lt bound w && is_multiple window.hop w) (kept window (window_members window seen w key)) None
unfolding tells
said_kept window seen bound w key =
    ap (λ b. cond ((nat_lt bound w && is_multiple window.hop w) && b) (Some (told (window_entry window seen w key))) None)
    (filled-filter (λ row. belongs window w row && row.key == key) seen)
    ∙ cond_filled (nat_lt bound w && is_multiple window.hop w) window (window_members window seen w key)

kept-push : (window : Window) (join : ℤ → ℤ → ℤ) → GrowsBy join window.aggregate → (counted : List Event) (row : Event)
    → kept window (counted ++ row ∷ []) ≡ Some (joined join (window.field row) (kept window counted))
unfolding kept tells
kept-push window join grows [] row = ap (λ v. let pair : ℤ × ℕ = (v, 1) in Some pair) (grows.one (window.field row))
kept-push window join grows (x ∷ xs) row =
    ap (λ vs. let pair : ℤ × ℕ = (window.aggregate (window.field x ∷ vs), suc (length (xs ++ row ∷ []))) in Some pair) (map-append window.field xs (row ∷ []))
    ∙ (ap (λ v. let pair : ℤ × ℕ = (v, suc (length (xs ++ row ∷ []))) in Some pair) (grows.more (window.field x) (window.field row) (map window.field xs))
    ∙ ap (λ n. let pair : ℤ × ℕ = (join (window.aggregate (window.field x ∷ map window.field xs)) (window.field row), n) in Some pair)
    (let more = length_push xs row in let count : suc (length (xs ++ row ∷ [])) ≡ suc (length xs) + 1 = omega (arith, more) in count))

said-push : (window : Window) (join : ℤ → ℤ → ℤ) → GrowsBy join window.aggregate → (seen : List Event) (row : Event) (bound w key : ℕ)
    → said window (seen ++ row ∷ []) bound w key
    ≡ cond ((nat_lt bound w && is_multiple window.hop w) && (belongs window w row && row.key == key))
    (Some (joined join (window.field row) (said window seen bound w key))) (said window seen bound w key)
said-push window join grows seen row bound w key =
    let test : Event → Bool = λ y. belongs window w y && y.key == key in
    said_kept window (seen ++ row ∷ []) bound w key
    ∙ (ap (λ rows. cond (nat_lt bound w && is_multiple window.hop w) (kept window rows) None) (filter-append test seen (row ∷ []))
    ∙ (by_tests (nat_lt bound w && is_multiple window.hop w) (belongs window w row && row.key == key) (window_members window seen w key)
    ∙ ap (λ o. cond ((nat_lt bound w && is_multiple window.hop w) && (belongs window w row && row.key == key)) (Some (joined join (window.field row) o)) o)
    (sym (said_kept window seen bound w key))))
  where
    by_tests : (a b : Bool) (counted : List Event)
        → cond a (kept window (counted ++ cond b (row ∷ []) [])) None
        ≡ cond (a && b) (Some (joined join (window.field row) (cond a (kept window counted) None))) (cond a (kept window counted) None)
    by_tests true true counted = kept-push window join grows counted row
    by_tests true false counted = ap (kept window) (append-nil counted)
    by_tests false b counted = refl

multiples-above : (hop number from count : ℕ) → 1 ≤ hop → number < from → AllByRecursion (λ m. hop * number < m) (multiples hop from count)
multiples-above hop number from zero h k = tt
multiples-above hop number from (suc count) h k = (
  (let up : hop * (number + 1) ≤ hop * from = mul-le-mul_left hop (omega (arith, k)) in omega (arith, up, h)),
  multiples-above hop number (from + 1) count h (omega (arith, k)),
)

multiples-rising : (hop number count : ℕ) → 1 ≤ hop → IsRising (multiples hop number count)
multiples-rising hop number zero h = tt
multiples-rising hop number (suc count) h = (multiples-above hop number (number + 1) count h (omega arith), multiples-rising hop (number + 1) count h)

filter-IsRising : (test : ℕ → Bool) (ns : List ℕ) → IsRising ns → IsRising (filter test ns)
filter-IsRising test [] h = tt
filter-IsRising test (n ∷ ns) h = by_test (test n) (each-filter (λ m. n < m) test ns h.0) (filter-IsRising test ns h.1)
  where
    by_test : (b : Bool) → AllByRecursion (λ m. n < m) (filter test ns) → IsRising (filter test ns) → IsRising (cond b (n ∷ filter test ns) (filter test ns))
    by_test true above rest = (above, rest)
    by_test false above rest = rest

pub entries_after_row : EntriesAfterRow
entries_after_row window join grows h seen row bound =
    let es = window_entries window seen bound in
    let ws = filter (nat_lt bound) (ends_of window row) in
    let order = entries_in_order window seen bound in
    let apart = filter-IsRising (nat_lt bound) (ends_of window row) (multiples-rising window.hop (row.start / window.hop + 1) ((row.start + window.size) / window.hop - row.start / window.hop) h) in
    same_entries (window_entries window (seen ++ row ∷ []) bound) (put_values join row.key (window.field row) ws es)
    (entries_in_order window (seen ++ row ∷ []) bound) (puts_keep_order join row.key (window.field row) ws es order)
    (λ w key.
    let mine : (among w ws && row.key == key) ≡ ((nat_lt bound w && is_multiple window.hop w) && (belongs window w row && row.key == key)) =
    ap (λ b. b && row.key == key) (among-filter (nat_lt bound) w (ends_of window row) ∙ ap (λ b. nat_lt bound w && b) (among-ends_of window row w h))
    ∙ four (nat_lt bound w) (is_multiple window.hop w) (belongs window w row) (row.key == key) in
    found-entries window (seen ++ row ∷ []) bound w key h
    ∙ (said-push window join grows seen row bound w key
    ∙ sym (found-puts w key join row.key (window.field row) ws es apart order
    ∙ (ap (λ b. cond b (Some (joined join (window.field row) (found w key es))) (found w key es)) mine
    ∙ ap (λ o. cond ((nat_lt bound w && is_multiple window.hop w) && (belongs window w row && row.key == key)) (Some (joined join (window.field row) o)) o)
    (found-entries window seen bound w key h)))))

-- each entry is of rows

each_in : {A : Type 0} (P : A → Type 0) (xs : List A) → ((x : A) → In xs x → P x) → AllByRecursion P xs
each_in P [] f = tt
each_in P (x ∷ xs) f = (f x (inl refl), each_in P xs (λ y h. f y (inr h)))

length-in : {A : Type 0} (xs : List A) (x : A) → In xs x → 0 < length xs
length-in [] x h = absurd h
length-in (y ∷ ys) x h = omega arith

length-filter-le : (test : Event → Bool) (rows : List Event) → length (filter test rows) ≤ length rows
length-filter-le test [] = omega arith
length-filter-le test (row ∷ rows) = by_test (test row) (length-filter-le test rows)
  where
    by_test : (b : Bool) → length (filter test rows) ≤ length rows → length (cond b (row ∷ filter test rows) (filter test rows)) ≤ suc (length rows)
    by_test true rest = omega (arith, rest)
    by_test false rest = omega (arith, rest)

counts_row : (window : Window) (seen : List Event) (w key : ℕ) → In (window_keys window seen w) key → 0 < length (window_members window seen w key)
counts_row window seen w key h =
    let mine = filter (belongs window w) seen in
    let found_row = from_map (λ row. row.key) mine key (from_rising (map (λ row. row.key) mine) key h) in
    let row = found_row.0 in
    let kept_row = from_filter (belongs window w) seen row found_row.1 in
    let test : Event → Bool = λ y. belongs window w y && y.key == key in
    length-in (filter test seen) row (in_filter test seen row kept_row.0 (and_from (belongs window w row) (row.key == key) kept_row.1 (eq-eqb row.key key found_row.2)))

is_entry : (window : Window) (seen : List Event) (bound w key : ℕ) → 1 ≤ window.hop → In (ends_above window seen bound) w → In (window_keys window seen w) key
    → IsEntryOf window seen bound (window_entry window seen w key)
is_entry window seen bound w key h inside at_key =
    let ends = flat_map (ends_of window) seen in
    let past = from_filter (nat_lt bound) ends w (from_rising (filter (nat_lt bound) ends) w inside) in
    let of_row = from_flat_map (ends_of window) seen w past.0 in
    record {
      above = ltb-true bound w past.1;
      multiple = (from_ends_of window of_row.0 w h of_row.2).0;
      same = refl;
      counts = counts_row window seen w key at_key;
    }

each_entry : (window : Window) (seen : List Event) (P : WindowEntry → Type 0) (ws : List ℕ)
    → ((w key : ℕ) → In ws w → In (window_keys window seen w) key → P (window_entry window seen w key)) → AllByRecursion P (entries_at window seen ws)
each_entry window seen P ws f =
    each-flat_map (λ w. (key : ℕ) → In (window_keys window seen w) key → P (window_entry window seen w key)) P
    (λ w. map (window_entry window seen w) (window_keys window seen w))
    (λ w g. each-map P (window_entry window seen w) (window_keys window seen w) (each_in (λ key. P (window_entry window seen w key)) (window_keys window seen w) g))
    ws (each_in (λ w. (key : ℕ) → In (window_keys window seen w) key → P (window_entry window seen w key)) ws (λ w h key. f w key h))

pub entries_count_rows : EntriesCountRows
entries_count_rows window seen bound h = (
  All-from_recursion (IsEntryOf window seen bound) (window_entries window seen bound)
      (each_entry window seen (IsEntryOf window seen bound) (ends_above window seen bound) (λ w key. is_entry window seen bound w key h)),
  All-from_recursion (λ (e : WindowEntry). e.rows ≤ length seen) (window_entries window seen bound)
      (each_entry window seen (λ (e : WindowEntry). e.rows ≤ length seen) (ends_above window seen bound)
      (λ w key i j. length-filter-le (λ y. belongs window w y && y.key == key) seen)),
)
