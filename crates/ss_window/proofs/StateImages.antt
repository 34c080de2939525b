-- What a window remembers may stand in an image.
use Rattle.std.proofs.Common.{◌≡◌, ℕ, suc, ◌+◌, ◌-◌, ◌*◌, ◌%◌, ◌^◌, ◌<◌, ◌≤◌, ◌==◌, nat_lt, nat_le, Bool, true, false, cond, ◌&&◌, List, [], ◌∷◌, length, map, filter, All, refl, sym, ap, subst, ◌∙◌, arith, ℤ, pos, neg_ℤ, ◌≤ℤ◌, FitsSigned, w64, leb-true, lt-ltb, le-leb, eq-eqb, eqb-true}
use Rattle.std.specs.Prelude.{int_le}
use Rattle.std.specs.Int.{int_min, int_max}
use Rattle.std.specs.List.{AllByRecursion, fold}
use Rattle.std.proofs.lemmas.Bool.{and_parts, and_from}
use Rattle.std.proofs.lemmas.Int.{ints, clamps}
use Rattle.std.proofs.lemmas.List.Elements.{All-from_recursion, recursion_from_All}
use Rattle.std.proofs.Math.Nat.{mul-mod_right}
use Rattle.ss_elem.specs.Key.{IsKeyNumber}
use Rattle.ss_elem.specs.Validity.{top}
use Rattle.ss_elem.specs.declared.element.Event.{Event}
use Rattle.ss_expr.specs.Operators.{aggregate_of, field_of}
use Rattle.ss_expr.specs.declared.stream_operator.Agg.{Agg}
use Rattle.ss_expr.specs.declared.stream_operator.Agg.TheVariants.{Sum, Least, Greatest}
use Rattle.ss_expr.specs.declared.stream_operator.Field.{Field}
use Rattle.ss_expr.specs.declared.stream_operator.Field.TheVariants.{A, B, C, D}
use Rattle.ss_meaning.specs.Bound.{rows}
use Rattle.ss_meaning.specs.Merge.{from_input}
use Rattle.ss_meaning.specs.Low.{low}
use Rattle.ss_meaning.specs.Window.{total, belongs, window_members}
use Rattle.ss_meaning.specs.Entries.{WindowEntry, window_entries}
use Rattle.ss_meaning.specs.EntryLists.{AreInOrder}
use Rattle.ss_meaning.specs.EntryLaws.{IsEntryOf, EntriesCountRows, EntriesAreInOrder}
use Rattle.ss_window.specs.States.{Settings, window_of}
use Rattle.ss_window.specs.ImageTests.{is_open_end, is_count, is_sum_of, summands}
use Rattle.ss_window.specs.ImageLaws.{EntriesAreReadAgain, MayStand, IsKept, StatesAreReadAgain}
use Rattle.ss_window.proofs.Arrivals.{same_list, rows-at_most}

-- values of 64 bits

record IsValue (v : ℤ) : Type 0 where
  low : neg_ℤ (pos (2 ^ 63)) ≤ℤ v
  high : v ≤ℤ pos (2 ^ 63 - 1)

value_of_fit : (v : ℤ) → FitsSigned w64 v → IsValue v
value_of_fit v h = record { low = omega (arith, ints, h); high = omega (arith, ints, h) }

test_from_le : (x y : ℤ) → x ≤ℤ y → int_le x y ≡ true
test_from_le x y h = grind (arith, ints)

sum_from : (count : ℕ) (v : ℤ) → neg_ℤ (pos (count * 2 ^ 63)) ≤ℤ v → v ≤ℤ pos (count * (2 ^ 63 - 1)) → is_sum_of count v ≡ true
sum_from count v h k =
    and_from (int_le (neg_ℤ (pos (count * 2 ^ 63))) v) (int_le v (pos (count * (2 ^ 63 - 1)))) (test_from_le (neg_ℤ (pos (count * 2 ^ 63))) v h)
    (test_from_le v (pos (count * (2 ^ 63 - 1))) k)

one_value : (v : ℤ) → IsValue v → is_sum_of 1 v ≡ true
one_value v h = sum_from 1 v h.low h.high

total-low : (vs : List ℤ) → AllByRecursion IsValue vs → neg_ℤ (pos (length vs * 2 ^ 63)) ≤ℤ total vs
total-low [] h = omega (arith, ints)
total-low (v ∷ vs) h = let rest = total-low vs h.1 in let here = h.0.low in omega (arith, ints, rest, here)

total-high : (vs : List ℤ) → AllByRecursion IsValue vs → total vs ≤ℤ pos (length vs * (2 ^ 63 - 1))
total-high [] h = omega (arith, ints)
total-high (v ∷ vs) h = let rest = total-high vs h.1 in let here = h.0.high in omega (arith, ints, rest, here)

min_value : (x y : ℤ) → IsValue x → IsValue y → IsValue (int_min x y)
min_value x y h k =
    let a = h.low in let b = h.high in let c = k.low in let d = k.high in
    record { low = omega (arith, ints, clamps, a, c); high = omega (arith, ints, clamps, b, d) }

max_value : (x y : ℤ) → IsValue x → IsValue y → IsValue (int_max x y)
max_value x y h k =
    let a = h.low in let b = h.high in let c = k.low in let d = k.high in
    record { low = omega (arith, ints, clamps, a, c); high = omega (arith, ints, clamps, b, d) }

fold_value : (f : ℤ → ℤ → ℤ) → ((x y : ℤ) → IsValue x → IsValue y → IsValue (f x y)) → (a : ℤ) (vs : List ℤ) → IsValue a → AllByRecursion IsValue vs → IsValue (fold f a vs)
fold_value f keeps a [] h k = h
fold_value f keeps a (v ∷ vs) h k = fold_value f keeps (f a v) vs (keeps a v h k.0) k.1

aggregate_passes : (agg : Agg) (v : ℤ) (vs : List ℤ) → AllByRecursion IsValue (v ∷ vs) → is_sum_of (summands agg (length (v ∷ vs))) (aggregate_of agg (v ∷ vs)) ≡ true
aggregate_passes Sum v vs h = sum_from (length (v ∷ vs)) (total (v ∷ vs)) (total-low (v ∷ vs) h) (total-high (v ∷ vs) h)
aggregate_passes Least v vs h = one_value (fold int_min v vs) (fold_value int_min min_value v vs h.0 h.1)
aggregate_passes Greatest v vs h = one_value (fold int_max v vs) (fold_value int_max max_value v vs h.0 h.1)

field_value : (size : ℕ) (field : Field) (row : Event) → IsKept size row → IsValue (field_of field row)
field_value size A row h = value_of_fit row.a h.is_kept.a
field_value size B row h = value_of_fit row.b h.is_kept.b
field_value size C row h = value_of_fit row.c h.is_kept.c
field_value size D row h = value_of_fit row.d h.is_kept.d

field_values : (size : ℕ) (field : Field) (rs : List Event) → AllByRecursion (IsKept size) rs → AllByRecursion IsValue (map (field_of field) rs)
field_values size field [] h = tt
field_values size field (r ∷ rs) h = (field_value size field r h.0, field_values size field rs h.1)

length-fields : (field : Field) (rs : List Event) → length (map (field_of field) rs) ≡ length rs
length-fields field [] = refl
length-fields field (r ∷ rs) = ap suc (length-fields field rs)

-- the rows that an entry counts

each_passing : (P : Event → Type 0) (test : Event → Bool) (rs : List Event) → AllByRecursion P rs → AllByRecursion (λ r. P r × (test r ≡ true)) (filter test rs)
each_passing P test [] h = tt
each_passing P test (r ∷ rs) h = by_test (test r) refl (each_passing P test rs h.1)
  where
    by_test : (b : Bool) → test r ≡ b → AllByRecursion (λ x. P x × (test x ≡ true)) (filter test rs)
        → AllByRecursion (λ x. P x × (test x ≡ true)) (cond b (r ∷ filter test rs) (filter test rs))
    by_test true e rest = ((h.0, e), rest)
    by_test false e rest = rest

firsts : (P : Event → Type 0) (test : Event → Bool) (rs : List Event) → AllByRecursion (λ r. P r × (test r ≡ true)) rs → AllByRecursion P rs
firsts P test [] h = tt
firsts P test (r ∷ rs) h = (h.0.0, firsts P test rs h.1)

-- what an entry of at least one row keeps: its end is below 2^63, its key is one, and its value passes
record Stands (s : Settings) (w key : ℕ) (counted : List Event) : Type 0 where
  below : w < 2 ^ 63
  is_key : IsKeyNumber key
  value : is_sum_of (summands s.agg (length counted)) (aggregate_of s.agg (map (field_of s.field) counted)) ≡ true

stands : (s : Settings) (w key : ℕ) (counted : List Event) → 0 < length counted
    → AllByRecursion (λ r. IsKept s.size r × ((belongs (window_of s) w r && r.key == key) ≡ true)) counted → Stands s w key counted
stands s w key [] some h = absurd (omega (arith, some))
stands s w key (r ∷ rs) some h =
    let parts = and_parts (belongs (window_of s) w r) (r.key == key) h.0.1 in
    let span = and_parts (nat_lt r.start w) (nat_le w (r.start + s.size)) parts.0 in
    let late = leb-true w (r.start + s.size) span.1 in
    let ends = h.0.0.ends in
    let kept = firsts (IsKept s.size) (λ x. belongs (window_of s) w x && x.key == key) (r ∷ rs) h in
    record {
      below = omega (arith, late, ends);
      is_key = subst IsKeyNumber (eqb-true r.key key parts.1) h.0.0.is_kept.is_key;
      value =
          ap (λ n. is_sum_of (summands s.agg n) (aggregate_of s.agg (map (field_of s.field) (r ∷ rs)))) (sym (length-fields s.field (r ∷ rs)))
          ∙ aggregate_passes s.agg (field_of s.field r) (map (field_of s.field) rs) (field_values s.size s.field (r ∷ rs) kept);
    }

may_stand : (s : Settings) (seen : List Event) (b : ℕ) (e : WindowEntry) → length seen ≤ 2 ^ 62 → AllByRecursion (IsKept s.size) seen
    → IsEntryOf (window_of s) seen b e → e.rows ≤ length seen → MayStand s.hop s.agg b e
may_stand s seen b e few kept h le =
    let window = window_of s in
    let counted = window_members window seen e.end e.key in
    let rows_are : e.rows ≡ length counted = ap (λ (x : WindowEntry). x.rows) h.same in
    let value_is : e.value ≡ aggregate_of s.agg (map (field_of s.field) counted) = ap (λ (x : WindowEntry). x.value) h.same in
    let some = h.counts in
    let st = stands s e.end e.key counted (omega (arith, some, rows_are))
    (each_passing (IsKept s.size) (λ r. belongs window e.end r && r.key == e.key) seen kept) in
    let divides : (e.end % s.hop == 0) ≡ true = eq-eqb (e.end % s.hop) 0 (ap (λ n. n % s.hop) h.multiple.1 ∙ mul-mod_right s.hop h.multiple.0) in
    let open_end : is_open_end s.hop b e.end ≡ true =
    and_from (nat_lt b e.end && nat_lt e.end top) (e.end % s.hop == 0)
    (and_from (nat_lt b e.end) (nat_lt e.end top) (lt-ltb b e.end h.above) (lt-ltb e.end top st.below)) divides in
    let count : is_count e.rows ≡ true =
    and_from (nat_lt 0 e.rows) (nat_le e.rows (2 ^ 62)) (lt-ltb 0 e.rows some) (le-leb e.rows (2 ^ 62) (omega (arith, le, few))) in
    let value : is_sum_of (summands s.agg e.rows) e.value ≡ true =
    ap (λ n. is_sum_of (summands s.agg n) e.value) rows_are ∙ (ap (is_sum_of (summands s.agg (length counted))) value_is ∙ st.value) in
    record {
      passes =
          and_from (is_open_end s.hop b e.end) (is_count e.rows && is_sum_of (summands s.agg e.rows) e.value) open_end
          (and_from (is_count e.rows) (is_sum_of (summands s.agg e.rows) e.value) count value);
      is_key = st.is_key;
    }

each_stands : (s : Settings) (seen : List Event) (b : ℕ) (es : List WindowEntry) → length seen ≤ 2 ^ 62 → AllByRecursion (IsKept s.size) seen
    → AllByRecursion (IsEntryOf (window_of s) seen b) es → AllByRecursion (λ (e : WindowEntry). e.rows ≤ length seen) es → AllByRecursion (MayStand s.hop s.agg b) es
each_stands s seen b [] few kept h k = tt
each_stands s seen b (e ∷ es) few kept h k = (may_stand s seen b e few kept h.0 k.0, each_stands s seen b es few kept h.1 k.1)

pub states_are_read_again : EntriesAreReadAgain → EntriesCountRows → EntriesAreInOrder → StatesAreReadAgain
states_are_read_again again counts order state p hops stood kept few short =
    let s = state.settings in
    let window = window_of s in
    let seen = rows (from_input 0 p) in
    let es = window_entries window seen (low 1 p) in
    let same : state.entries ≡ es = same_list state.entries es stood in
    let le = rows-at_most p in
    let facts = counts window seen (low 1 p) hops.least_hop in
    let stand = each_stands s seen (low 1 p) es (omega (arith, le, few)) (recursion_from_All (IsKept s.size) seen kept)
    (recursion_from_All (IsEntryOf window seen (low 1 p)) es facts.0) (recursion_from_All (λ (e : WindowEntry). e.rows ≤ length seen) es facts.1) in
    again s.hop s.agg (low 1 p) state.entries short (subst AreInOrder (sym same) (order window seen (low 1 p)))
    (subst (All (MayStand s.hop s.agg (low 1 p))) (sym same) (All-from_recursion (MayStand s.hop s.agg (low 1 p)) es stand))
