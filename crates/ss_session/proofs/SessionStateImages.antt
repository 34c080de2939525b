-- What a session window remembers may stand in an image.
use Rattle.std.proofs.Common.{◌≡◌, ℕ, suc, ◌+◌, ◌-◌, ◌*◌, ◌^◌, ◌<◌, ◌≤◌, ◌==◌, nat_lt, nat_le, Bool, true, false, cond, ◌&&◌, List, [], ◌∷◌, ◌++◌, length, map, filter, All, refl, sym, ap, subst, ◌∙◌, arith, ℤ, pos, neg_ℤ, ◌≤ℤ◌, FitsSigned, w64, lt-ltb, le-leb}
use Rattle.std.specs.Prelude.{int_le}
use Rattle.std.specs.Int.{int_min, int_max}
use Rattle.std.specs.List.{AllByRecursion, fold, flat_map, Contains}
use Rattle.std.proofs.lemmas.Bool.{and_from}
use Rattle.std.proofs.lemmas.Int.{ints, clamps}
use Rattle.std.proofs.lemmas.List.Elements.{All-from_recursion, recursion_from_All}
use Rattle.ss_elem.specs.Key.{IsKeyNumber}
use Rattle.ss_elem.specs.declared.element.Event.{Event}
use Rattle.ss_expr.specs.Operators.{aggregate_of, field_of}
use Rattle.ss_expr.specs.declared.stream_operator.Agg.{Agg}
use Rattle.ss_expr.specs.declared.stream_operator.Agg.TheVariants.{Sum, Least, Greatest}
use Rattle.ss_expr.specs.declared.stream_operator.Field.{Field}
use Rattle.ss_expr.specs.declared.stream_operator.Field.TheVariants.{A, B, C, D}
use Rattle.ss_image.specs.NumberLaws.{NumbersAreReadAgain}
use Rattle.ss_meaning.specs.Bound.{rows}
use Rattle.ss_meaning.specs.Merge.{from_input}
use Rattle.ss_meaning.specs.Low.{low}
use Rattle.ss_meaning.specs.Window.{total, rising}
use Rattle.ss_meaning.specs.Session.{SessionEntry, put_by_start, by_start, first_start, before_runs, cut, runs_of, session_entry, sessions, closing}
use Rattle.ss_meaning.specs.SessionRows.{IsOfRows, SessionsAreOfRows}
use Rattle.ss_meaning.specs.Entries.{open_sessions}
use Rattle.ss_meaning.specs.SessionLists.{AreApart}
use Rattle.ss_meaning.specs.SessionLaws.{AggregatesJoin, IsSession, SessionsAreApart}
use Rattle.ss_session.specs.SessionHeld.{join_of}
use Rattle.ss_session.specs.States.{Settings, window_of}
use Rattle.ss_session.specs.ImageTests.{is_open_span, is_count, is_sum_of, summands}
use Rattle.ss_session.specs.ImageLaws.{IsKept, StatesAreReadAgain}
use Rattle.ss_session.proofs.SessionArrivals.{same_list, rows-at_most, joins}
use Rattle.ss_session.proofs.SessionFilters.{each-filter}
use Rattle.ss_session.proofs.SessionReadAgain.{MayStand, entries_are_read_again}

-- values of 64 bits

record IsValue (v : ℤ) : Type 0 where
  low : neg_ℤ (pos (2 ^ 63)) ≤ℤ v
  high : v ≤ℤ pos (2 ^ 63 - 1)

value_of_fit : (v : ℤ) → FitsSigned w64 v → IsValue v
value_of_fit v h = record { low = omega (arith, ints, h); high = omega (arith, ints, h) }

test_from_le : (x y : ℤ) → x ≤ℤ y → int_le x y ≡ true
test_from_le x y h = grind (arith, ints)

sum_from : (count : ℕ) (v : ℤ) → neg_ℤ (pos (count * 2 ^ 63)) ≤ℤ v → v ≤ℤ pos (count * (2 ^ 63 - 1)) → is_sum_of count v ≡ true
sum_from count v h k =
    and_from (int_le (neg_ℤ (pos (count * 2 ^ 63))) v) (int_le v (pos (count * (2 ^ 63 - 1)))) (test_from_le (neg_ℤ (pos (count * 2 ^ 63))) v h)
    (test_from_le v (pos (count * (2 ^ 63 - 1))) k)

one_value : (v : ℤ) → IsValue v → is_sum_of 1 v ≡ true
one_value v h = sum_from 1 v h.low h.high

total-low : (vs : List ℤ) → AllByRecursion IsValue vs → neg_ℤ (pos (length vs * 2 ^ 63)) ≤ℤ total vs
total-low [] h = omega (arith, ints)
total-low (v ∷ vs) h = let rest = total-low vs h.1 in let here = h.0.low in omega (arith, ints, rest, here)

total-high : (vs : List ℤ) → AllByRecursion IsValue vs → total vs ≤ℤ pos (length vs * (2 ^ 63 - 1))
total-high [] h = omega (arith, ints)
total-high (v ∷ vs) h = let rest = total-high vs h.1 in let here = h.0.high in omega (arith, ints, rest, here)

min_value : (x y : ℤ) → IsValue x → IsValue y → IsValue (int_min x y)
min_value x y h k =
    let a = h.low in let b = h.high in let c = k.low in let d = k.high in
    record { low = omega (arith, ints, clamps, a, c); high = omega (arith, ints, clamps, b, d) }

max_value : (x y : ℤ) → IsValue x → IsValue y → IsValue (int_max x y)
max_value x y h k =
    let a = h.low in let b = h.high in let c = k.low in let d = k.high in
    record { low = omega (arith, ints, clamps, a, c); high = omega (arith, ints, clamps, b, d) }

fold_value : (f : ℤ → ℤ → ℤ) → ((x y : ℤ) → IsValue x → IsValue y → IsValue (f x y)) → (a : ℤ) (vs : List ℤ) → IsValue a → AllByRecursion IsValue vs → IsValue (fold f a vs)
fold_value f keeps a [] h k = h
fold_value f keeps a (v ∷ vs) h k = fold_value f keeps (f a v) vs (keeps a v h k.0) k.1

aggregate_passes : (agg : Agg) (v : ℤ) (vs : List ℤ) → AllByRecursion IsValue (v ∷ vs) → is_sum_of (summands agg (length (v ∷ vs))) (aggregate_of agg (v ∷ vs)) ≡ true
aggregate_passes Sum v vs h = sum_from (length (v ∷ vs)) (total (v ∷ vs)) (total-low (v ∷ vs) h) (total-high (v ∷ vs) h)
aggregate_passes Least v vs h = one_value (fold int_min v vs) (fold_value int_min min_value v vs h.0 h.1)
aggregate_passes Greatest v vs h = one_value (fold int_max v vs) (fold_value int_max max_value v vs h.0 h.1)

field_value : (field : Field) (row : Event) → IsKept row → IsValue (field_of field row)
field_value A row h = value_of_fit row.a h.is_kept.a
field_value B row h = value_of_fit row.b h.is_kept.b
field_value C row h = value_of_fit row.c h.is_kept.c
field_value D row h = value_of_fit row.d h.is_kept.d

field_values : (field : Field) (rs : List Event) → AllByRecursion IsKept rs → AllByRecursion IsValue (map (field_of field) rs)
field_values field [] h = tt
field_values field (r ∷ rs) h = (field_value field r h.0, field_values field rs h.1)

length-fields : (field : Field) (rs : List Event) → length (map (field_of field) rs) ≡ length rs
length-fields field [] = refl
length-fields field (r ∷ rs) = ap suc (length-fields field rs)

-- the rows of each session

each_row-filter : (P : Event → Type 0) (test : Event → Bool) (rs : List Event) → AllByRecursion P rs → AllByRecursion P (filter test rs)
each_row-filter P test [] h = tt
each_row-filter P test (r ∷ rs) h = by_test (test r) (each_row-filter P test rs h.1)
  where
    by_test : (b : Bool) → AllByRecursion P (filter test rs) → AllByRecursion P (cond b (r ∷ filter test rs) (filter test rs))
    by_test true rest = (h.0, rest)
    by_test false rest = rest

each-put_by_start : (P : Event → Type 0) (row : Event) (rs : List Event) → P row → AllByRecursion P rs → AllByRecursion P (put_by_start row rs)
each-put_by_start P row [] h k = (h, tt)
each-put_by_start P row (r ∷ rs) h k = by_test (nat_le row.start r.start) (each-put_by_start P row rs h k.1)
  where
    by_test : (b : Bool) → AllByRecursion P (put_by_start row rs) → AllByRecursion P (cond b (row ∷ r ∷ rs) (r ∷ put_by_start row rs))
    by_test true rest = (h, k)
    by_test false rest = (k.0, rest)

each-by_start : (P : Event → Type 0) (rs : List Event) → AllByRecursion P rs → AllByRecursion P (by_start rs)
each-by_start P [] h = tt
each-by_start P (r ∷ rs) h = each-put_by_start P r (by_start rs) h.0 (each-by_start P rs h.1)

-- some rows, of each of which this holds
abbrev AreSome : (Event → Type 0) → List Event → Type 0
AreSome P run = (0 < length run) × AllByRecursion P run

each-before_runs : (P : Event → Type 0) (gap : ℕ) (row : Event) (runs : List (List Event)) → P row → AllByRecursion (AreSome P) runs → AllByRecursion (AreSome P) (before_runs gap row runs)
each-before_runs P gap row [] h k = ((omega arith, (h, tt)), tt)
each-before_runs P gap row (run ∷ runs) h k = by_test (nat_lt (first_start run) (row.start + gap))
  where
    by_test : (b : Bool) → AllByRecursion (AreSome P) (cond b ((row ∷ run) ∷ runs) ((row ∷ []) ∷ run ∷ runs))
    by_test true = ((omega arith, (h, k.0.1)), k.1)
    by_test false = ((omega arith, (h, tt)), k)

each-cut : (P : Event → Type 0) (gap : ℕ) (rs : List Event) → AllByRecursion P rs → AllByRecursion (AreSome P) (cut gap rs)
each-cut P gap [] h = tt
each-cut P gap (r ∷ rs) h = each-before_runs P gap r (cut gap rs) h.0 (each-cut P gap rs h.1)

-- the value of a session passes
record HasSum (agg : Agg) (e : SessionEntry) : Type 0 where
  value : is_sum_of (summands agg e.rows) e.value ≡ true

run_passes : (s : Settings) (key : ℕ) (run : List Event) → AreSome IsKept run → HasSum s.agg (session_entry (window_of s) key run)
run_passes s key [] h = absurd (let n = h.0 in omega (arith, n))
run_passes s key (r ∷ rs) h =
    record {
      value =
          ap (λ n. is_sum_of (summands s.agg n) (aggregate_of s.agg (map (field_of s.field) (r ∷ rs)))) (sym (length-fields s.field (r ∷ rs)))
          ∙ aggregate_passes s.agg (field_of s.field r) (map (field_of s.field) rs) (field_values s.field (r ∷ rs) h.1);
    }

runs_pass : (s : Settings) (key : ℕ) (runs : List (List Event)) → AllByRecursion (AreSome IsKept) runs → AllByRecursion (HasSum s.agg) (map (session_entry (window_of s) key) runs)
runs_pass s key [] h = tt
runs_pass s key (run ∷ runs) h = (run_passes s key run h.0, runs_pass s key runs h.1)

each-append : (P : SessionEntry → Type 0) (xs ys : List SessionEntry) → AllByRecursion P xs → AllByRecursion P ys → AllByRecursion P (xs ++ ys)
each-append P [] ys h k = k
each-append P (x ∷ xs) ys h k = (h.0, each-append P xs ys h.1 k)

keys_pass : (s : Settings) (seen : List Event) (keys : List ℕ) → AllByRecursion IsKept seen
    → AllByRecursion (HasSum s.agg) (flat_map (λ key. map (session_entry (window_of s) key) (runs_of s.gap seen key)) keys)
keys_pass s seen [] h = tt
keys_pass s seen (key ∷ keys) h =
    let mine = filter (λ (row : Event). row.key == key) seen in
    each-append (HasSum s.agg) (map (session_entry (window_of s) key) (runs_of s.gap seen key))
    (flat_map (λ k. map (session_entry (window_of s) k) (runs_of s.gap seen k)) keys)
    (runs_pass s key (runs_of s.gap seen key)
    (each-cut IsKept s.gap (by_start mine) (each-by_start IsKept mine (each_row-filter IsKept (λ (row : Event). row.key == key) seen h)))) (keys_pass s seen keys h)

-- what a session keeps that is of rows that are kept

kept_at : (seen : List Event) (row : Event) → All IsKept seen → Contains seen row → IsKept row
kept_at seen row h k = subst IsKept k.2 (h k.0 row k.1)

may_stand : (s : Settings) (seen : List Event) (b : ℕ) (e : SessionEntry) → length seen ≤ 2 ^ 62 → All IsKept seen
    → IsOfRows seen e → HasSum s.agg e → IsSession seen e → b < closing s.gap e → MayStand s.gap s.agg b e
may_stand s seen b e few kept of_rows sums is above =
    let first = kept_at seen of_rows.begins.0 kept of_rows.begins.1 in
    let last = kept_at seen of_rows.ends.0 kept of_rows.ends.1 in
    let late : e.last < 2 ^ 62 + 2 ^ 60 = (let early = last.early in let same = of_rows.ends.2 in omega (arith, early, same)) in
    let span : is_open_span s.gap b e ≡ true =
    and_from (nat_le e.first e.last) (nat_lt e.last (2 ^ 62 + 2 ^ 60) && nat_lt b (closing s.gap e)) (le-leb e.first e.last is.times)
    (and_from (nat_lt e.last (2 ^ 62 + 2 ^ 60)) (nat_lt b (closing s.gap e)) (lt-ltb e.last (2 ^ 62 + 2 ^ 60) late) (lt-ltb b (closing s.gap e) above)) in
    let most : e.rows ≤ 2 ^ 62 = (let le = is.few in omega (arith, le, few)) in
    let count : is_count e.rows ≡ true = and_from (nat_lt 0 e.rows) (nat_le e.rows (2 ^ 62)) (lt-ltb 0 e.rows is.counts) (le-leb e.rows (2 ^ 62) most) in
    record {
      passes = and_from (is_open_span s.gap b e) (is_count e.rows && is_sum_of (summands s.agg e.rows) e.value) span
          (and_from (is_count e.rows) (is_sum_of (summands s.agg e.rows) e.value) count sums.value);
      is_key = subst IsKeyNumber of_rows.begins.2 first.is_kept.is_key;
    }

each_stands : (s : Settings) (seen : List Event) (b : ℕ) (es : List SessionEntry) → length seen ≤ 2 ^ 62 → All IsKept seen
    → AllByRecursion (IsOfRows seen) es → AllByRecursion (HasSum s.agg) es → AllByRecursion (IsSession seen) es → AllByRecursion (λ (e : SessionEntry). b < closing s.gap e) es
    → AllByRecursion (MayStand s.gap s.agg b) es
each_stands s seen b [] few kept h k l m = tt
each_stands s seen b (e ∷ es) few kept h k l m = (may_stand s seen b e few kept h.0 k.0 l.0 m.0, each_stands s seen b es few kept h.1 k.1 l.1 m.1)

pub states_are_read_again : NumbersAreReadAgain → AggregatesJoin → SessionsAreApart → SessionsAreOfRows → StatesAreReadAgain
states_are_read_again laws join apart of_rows state p gaps stood kept few short =
    let s = state.settings in
    let window = window_of s in
    let seen = rows (from_input 0 p) in
    let b = low 1 p in
    let test : SessionEntry → Bool = λ e. nat_lt b (closing s.gap e) in
    let all = sessions window seen in
    let es = open_sessions window seen b in
    let same : state.entries ≡ es = same_list state.entries es stood in
    let le = rows-at_most p in
    let facts = apart window (join_of s.agg) (joins join s.agg) gaps.least seen b in
    let stand = each_stands s seen b es (omega (arith, le, few)) kept
    (each-filter (IsOfRows seen) test all (recursion_from_All (IsOfRows seen) all (of_rows window seen)))
    (each-filter (HasSum s.agg) test all (keys_pass s seen (rising (map (λ (row : Event). row.key) seen)) (recursion_from_All IsKept seen kept)))
    (recursion_from_All (IsSession seen) es facts.1) (recursion_from_All (λ (e : SessionEntry). b < closing s.gap e) es facts.2) in
    entries_are_read_again laws s.gap s.agg b state.entries short (subst (AreApart s.gap) (sym same) facts.0)
    (subst (All (MayStand s.gap s.agg b)) (sym same) (All-from_recursion (MayStand s.gap s.agg b) es stand))
