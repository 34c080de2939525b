-- How many entries an operator remembers.
use Rattle.std.proofs.Common.{◌≡◌, ℕ, zero, suc, ◌+◌, ◌-◌, ◌*◌, ◌/◌, ◌%◌, ◌^◌, ◌<◌, ◌≤◌, Bool, true, false, cond, ℤ, List, [], ◌∷◌, ◌++◌, length, filter, refl, sym, ap, subst, ⊎_elim, arith, append-nil, append_assoc, mul-le-mul_left, All}
use Rattle.std.specs.Prelude.{◌+ℤ◌, nat_lt}
use Rattle.std.specs.Int.{int_min, int_max}
use Rattle.std.proofs.lemmas.Bool.{cases_lt, false≢true, ltb-true, lt-ltb}
use Rattle.std.proofs.lemmas.List.Elements.{All-from_recursion, recursion_from_All}
use Rattle.std.specs.List.{AllByRecursion}
use Rattle.std.proofs.lemmas.List.{length-append}
use Rattle.std.proofs.Math.Nat.{mul-div-le}
use Rattle.ss_elem.specs.declared.element.Event.{Event}
use Rattle.ss_elem.specs.declared.element.Element.{Element}
use Rattle.ss_elem.specs.declared.element.Element.TheVariants.{Row, Cti, End}
use Rattle.ss_expr.specs.Operators.{aggregate_of, field_of}
use Rattle.ss_expr.specs.declared.stream_operator.Agg.{Agg}
use Rattle.ss_expr.specs.declared.stream_operator.Agg.TheVariants.{Sum, Least, Greatest}
use Rattle.ss_expr.specs.declared.stream_operator.Spec.{Spec}
use Rattle.ss_expr.specs.declared.stream_operator.Spec.TheVariants as spec
use Rattle.ss_meaning.specs.Bound.{bound, row_of, rows}
use Rattle.ss_meaning.specs.Entries.{WindowEntry, window_entries, open_sessions}
use Rattle.ss_meaning.specs.Except.{alone, is_alone}
use Rattle.ss_meaning.specs.Session.{SessionWindow, SessionEntry, sessions, closing}
use Rattle.ss_meaning.specs.SessionLaws.{JoinsBy, AggregatesJoin, SessionsAfterRow}
use Rattle.ss_meaning.specs.SessionLists.{is_apart, joined_sessions, single_session, put_session}
use Rattle.ss_meaning.specs.SessionRows.{IsOfRows, SessionsAreOfRows}
use Rattle.ss_meaning.specs.EntryLaws.{GrowsBy, AggregatesGrow, EntriesAfterRow, EntriesCountRows}
use Rattle.ss_meaning.specs.EntryLists.{is_before, is_of, single_entry, grown_entry, put_value, put_values}
use Rattle.ss_meaning.specs.Merge.{from_input}
use Rattle.ss_meaning.specs.Window.{Window, multiples, ends_of}
use Rattle.ss_meaning.specs.Low.{low}
use Rattle.ss_meaning.specs.Positions.{pos}
use Rattle.ss_plan.specs.Laws.{VerticesByNumber}
use Rattle.ss_plan.specs.Limit.{IsPlan}
use Rattle.ss_plan.specs.Plan.{PlanText, vertices_of}
use Rattle.ss_frames.specs.Frames.{accepted, inputs_at}
use Rattle.ss_frames.specs.Laws.{EntriesAreFew}
use Rattle.ss_frames.specs.Within.{IsWithin, AreFew, entries_at}
use Rattle.ss_frames.proofs.Operators.{IsOperatorAt, is_operator}

-- ---- lists

pub filter_fewer : {A : Type 0} (p : A → Bool) (xs : List A) → length (filter p xs) ≤ length xs
filter_fewer p [] = omega arith
filter_fewer p (x ∷ xs) = by_test (p x) (filter_fewer p xs)
  where
    by_test : (b : Bool) → length (filter p xs) ≤ length xs → length (cond b (x ∷ filter p xs) (filter p xs)) ≤ suc (length xs)
    by_test true rest = omega (arith, rest)
    by_test false rest = omega (arith, rest)

row_or_none : (x : Element) → length (row_of x) ≤ 1
row_or_none (Row row) = omega arith
row_or_none (Cti time) = omega arith
row_or_none End = omega arith

pub rows_fewer : (xs : List Element) → length (rows xs) ≤ length xs
rows_fewer [] = omega arith
rows_fewer (x ∷ xs) = omega (arith, row_or_none x, rows_fewer xs, length-append (row_of x) (rows xs))

-- ---- a row stands in at most 64 windows

few_ends : (hop start size : ℕ) → 1 ≤ hop → size ≤ 64 * hop → (start + size) / hop ≤ start / hop + 64
few_ends hop start size h k = ⊎_elim (λ l. absurd (too_many l)) (λ r. r) (cases_lt (start / hop + 64) ((start + size) / hop))
  where
    too_many : start / hop + 64 < (start + size) / hop → ⊥
    too_many l =
        let up : hop * (start / hop + 65) ≤ hop * ((start + size) / hop) = mul-le-mul_left hop (omega (arith, l)) in
        let below = mul-div-le (start + size) hop in
        let rest : hop * (start / hop) + start % hop ≡ start = omega (arith, h) in
        let short : start % hop < hop = omega (arith, h) in
        omega (arith, up, below, rest, short, k)

length-multiples : (hop number count : ℕ) → length (multiples hop number count) ≡ count
length-multiples hop number zero = refl
length-multiples hop number (suc count) = ap suc (length-multiples hop (number + 1) count)

ends_few : (window : Window) (row : Event) → 1 ≤ window.hop → window.size ≤ 64 * window.hop → length (ends_of window row) ≤ 64
ends_few window row h k =
    let number = row.start / window.hop in
    omega (
      arith,
      few_ends window.hop row.start window.size h k,
      length-multiples window.hop (number + 1) ((row.start + window.size) / window.hop - number),
    )

-- a value that is put makes at most one entry more

value_more : (join : ℤ → ℤ → ℤ) (key : ℕ) (value : ℤ) (w : ℕ) (es : List WindowEntry) → length (put_value join key value w es) ≤ length es + 1
value_more join key value w [] = omega arith
value_more join key value w (e ∷ es) = by_tests (is_before w key e) (is_of w key e) (value_more join key value w es)
  where
    by_tests : (before same : Bool) → length (put_value join key value w es) ≤ length es + 1
        → length (cond before (e ∷ put_value join key value w es) (cond same (grown_entry join value e ∷ es) (single_entry w key value ∷ e ∷ es))) ≤ suc (length es) + 1
    by_tests true same rest = omega (arith, rest)
    by_tests false true rest = omega arith
    by_tests false false rest = omega arith

values_more : (join : ℤ → ℤ → ℤ) (key : ℕ) (value : ℤ) (ws : List ℕ) (es : List WindowEntry) → length (put_values join key value ws es) ≤ length es + length ws
values_more join key value [] es = omega arith
values_more join key value (w ∷ ws) es =
    omega (arith, values_more join key value ws (put_value join key value w es), value_more join key value w es)

-- ---- the entries of a window, row by row

row_more : EntriesAfterRow → (window : Window) (join : ℤ → ℤ → ℤ) → GrowsBy join window.aggregate → 1 ≤ window.hop → window.size ≤ 64 * window.hop
    → (bound : ℕ) (seen : List Event) (row : Event) → length (window_entries window (seen ++ row ∷ []) bound) ≤ length (window_entries window seen bound) + 64
row_more law window join grows h k bound seen row =
    let ends = filter (nat_lt bound) (ends_of window row) in
    let es = window_entries window seen bound in
    let same = ap length (law window join grows h seen row bound) in
    omega (
      arith,
      same,
      values_more join row.key (window.field row) ends es,
      filter_fewer (nat_lt bound) (ends_of window row),
      ends_few window row h k,
    )

few_behind : EntriesAfterRow → (window : Window) (join : ℤ → ℤ → ℤ) → GrowsBy join window.aggregate → 1 ≤ window.hop → window.size ≤ 64 * window.hop
    → (bound : ℕ) (rest seen : List Event) → length (window_entries window seen bound) ≤ 64 * length seen
    → length (window_entries window (seen ++ rest) bound) ≤ 64 * length (seen ++ rest)
few_behind law window join grows h k bound [] seen few =
    subst (λ (xs : List Event). length (window_entries window xs bound) ≤ 64 * length xs) (sym (append-nil seen)) few
few_behind law window join grows h k bound (row ∷ rest) seen few =
    let next : length (window_entries window (seen ++ row ∷ []) bound) ≤ 64 * length (seen ++ row ∷ []) =
    omega (arith, few, row_more law window join grows h k bound seen row, length-append seen (row ∷ [])) in
    subst (λ (xs : List Event). length (window_entries window xs bound) ≤ 64 * length xs) (append_assoc seen (row ∷ []) rest)
    (few_behind law window join grows h k bound rest (seen ++ row ∷ []) next)

few_entries : EntriesAfterRow → (window : Window) (join : ℤ → ℤ → ℤ) → GrowsBy join window.aggregate → 1 ≤ window.hop → window.size ≤ 64 * window.hop
    → (bound : ℕ) (seen : List Event) → length (window_entries window seen bound) ≤ 64 * length seen
few_entries law window join grows h k bound seen = few_behind law window join grows h k bound seen [] (omega arith)

record Grows (agg : Agg) : Type 0 where
  join : ℤ → ℤ → ℤ
  by : GrowsBy join (aggregate_of agg)

grows : AggregatesGrow → (agg : Agg) → Grows agg
grows law Sum = record { join = ◌+ℤ◌; by = law.0 }
grows law Least = record { join = int_min; by = law.1 }
grows law Greatest = record { join = int_max; by = law.2 }

-- ---- the sessions, row by row

-- a session that is put makes at most one more
put_more : (gap : ℕ) (join : ℤ → ℤ → ℤ) (s : SessionEntry) (es : List SessionEntry) → length (put_session gap join s es) ≤ length es + 1
put_more gap join s [] = omega arith
put_more gap join s (e ∷ es) =
    by_tests (is_apart gap e s) (is_apart gap s e) (put_more gap join s es) (put_more gap join (joined_sessions join e s) es)
  where
    by_tests : (before behind : Bool) → length (put_session gap join s es) ≤ length es + 1 → length (put_session gap join (joined_sessions join e s) es) ≤ length es + 1
        → length (cond before (e ∷ put_session gap join s es) (cond behind (s ∷ e ∷ es) (put_session gap join (joined_sessions join e s) es))) ≤ suc (length es) + 1
    by_tests true behind rest joined = omega (arith, rest)
    by_tests false true rest joined = omega arith
    by_tests false false rest joined = omega (arith, joined)

sessions_behind : SessionsAfterRow → (window : SessionWindow) (join : ℤ → ℤ → ℤ) → JoinsBy join window.aggregate → 1 ≤ window.gap
    → (rest seen : List Event) → length (open_sessions window seen 0) ≤ length seen → length (open_sessions window (seen ++ rest) 0) ≤ length (seen ++ rest)
sessions_behind law window join joins h [] seen few =
    subst (λ (xs : List Event). length (open_sessions window xs 0) ≤ length xs) (sym (append-nil seen)) few
sessions_behind law window join joins h (row ∷ rest) seen few =
    let same = ap length (law window join joins h seen row 0 (omega arith)) in
    let more = put_more window.gap join (single_session window row) (open_sessions window seen 0) in
    let next : length (open_sessions window (seen ++ row ∷ []) 0) ≤ length (seen ++ row ∷ []) =
    omega (arith, few, same, more, length-append seen (row ∷ [])) in
    subst (λ (xs : List Event). length (open_sessions window xs 0) ≤ length xs) (append_assoc seen (row ∷ []) rest)
    (sessions_behind law window join joins h rest (seen ++ row ∷ []) next)

-- of what passes a test at most as much passes as of what passes a weaker one
filter_weaker : {A : Type 0} (p q : A → Bool) → ((x : A) → p x ≡ true → q x ≡ true) → (xs : List A) → length (filter p xs) ≤ length (filter q xs)
filter_weaker p q h [] = omega arith
filter_weaker p q h (x ∷ xs) = by_tests (p x) (q x) (h x) (filter_weaker p q h xs)
  where
    by_tests : (a b : Bool) → (a ≡ true → b ≡ true) → length (filter p xs) ≤ length (filter q xs)
        → length (cond a (x ∷ filter p xs) (filter p xs)) ≤ length (cond b (x ∷ filter q xs) (filter q xs))
    by_tests true true k rest = omega (arith, rest)
    by_tests true false k rest = absurd (false≢true (k refl))
    by_tests false true k rest = omega (arith, rest)
    by_tests false false k rest = rest

few_sessions : SessionsAfterRow → (window : SessionWindow) (join : ℤ → ℤ → ℤ) → JoinsBy join window.aggregate → 1 ≤ window.gap
    → (bound : ℕ) (seen : List Event) → length (open_sessions window seen bound) ≤ length seen
few_sessions law window join joins h bound seen =
    let all = sessions_behind law window join joins h seen [] (omega arith) in
    let fewer =
    filter_weaker (λ (s : SessionEntry). nat_lt bound (closing window.gap s)) (λ (s : SessionEntry). nat_lt 0 (closing window.gap s))
    (λ s late. let above = ltb-true bound (closing window.gap s) late in lt-ltb 0 (closing window.gap s) (omega (arith, above)))
    (sessions window seen) in
    omega (arith, all, fewer)

record Joins (agg : Agg) : Type 0 where
  join : ℤ → ℤ → ℤ
  by : JoinsBy join (aggregate_of agg)

joins : AggregatesJoin → (agg : Agg) → Joins agg
joins law Sum = record { join = ◌+ℤ◌; by = law.0 }
joins law Least = record { join = int_min; by = law.1 }
joins law Greatest = record { join = int_max; by = law.2 }

each_kept : (P : SessionEntry → Type 0) (p : SessionEntry → Bool) (es : List SessionEntry) → AllByRecursion P es → AllByRecursion P (filter p es)
each_kept P p [] h = tt
each_kept P p (e ∷ es) h = by_test (p e) (each_kept P p es h.1)
  where
    by_test : (b : Bool) → AllByRecursion P (filter p es) → AllByRecursion P (cond b (e ∷ filter p es) (filter p es))
    by_test true rest = (h.0, rest)
    by_test false rest = rest

sessions_count : SessionsAreOfRows → (window : SessionWindow) (seen : List Event) (bound : ℕ) → All (λ s. s.rows ≤ length seen) (open_sessions window seen bound)
sessions_count law window seen bound i d k =
    let all = All-from_recursion (IsOfRows seen) (open_sessions window seen bound)
    (each_kept (IsOfRows seen) (λ (s : SessionEntry). nat_lt bound (closing window.gap s)) (sessions window seen)
    (recursion_from_All (IsOfRows seen) (sessions window seen) (law window seen))) in
    (all i d k).few

-- ---- the laws

pub record EntryLaws : Type 0 where
  pub row : EntriesAfterRow
  pub grow : AggregatesGrow
  pub counts : EntriesCountRows
  pub session_row : SessionsAfterRow
  pub join : AggregatesJoin
  pub of_rows : SessionsAreOfRows

-- what has arrived from an input within the job's limit
arrived : (plan : PlanText) → IsPlan plan → (v n : ℕ) → IsWithin plan v n → (input : ℕ) → input < inputs_at plan v
    → length (rows (from_input input (accepted plan v n))) ≤ 131072
arrived plan is v n within input h =
    let most = is.job.max_elements.most_of in
    let taken : pos (vertices_of plan) v n input ≤ plan.job.max_elements = within.pos input h in
    omega (arith, rows_fewer (from_input input (accepted plan v n)), most, taken)

few_each : (es : List SessionEntry) (m : ℕ) → m ≤ 131072 → All (λ s. s.rows ≤ m) es → All (λ s. s.rows < 2 ^ 62) es
few_each es m h all i d k = let here = all i d k in omega (arith, here, h)

each_few : (es : List WindowEntry) (m : ℕ) → m ≤ 131072 → All (λ e. e.rows ≤ m) es → All (λ e. e.rows < 2 ^ 62) es
each_few es m h all i d k = let here = all i d k in omega (arith, here, h)

pub few_at : EntryLaws → (plan : PlanText) → IsPlan plan → (v n : ℕ) (operator : Spec) → IsOperatorAt plan v operator → IsWithin plan v n
    → AreFew (entries_at plan v n operator)
few_at laws plan is v n (spec.Select test a b c d) o within = tt
few_at laws plan is v n spec.Union o within = tt
few_at laws plan is v n (spec.Window size hop agg of) o within =
    let window : Window = record { size = size; hop = hop; aggregate = aggregate_of agg; field = field_of of } in
    let seen = rows (from_input 0 (accepted plan v n)) in
    let bound = low (inputs_at plan v) (accepted plan v n) in
    let least : 1 ≤ hop = o.sound.hop_of.least_of in
    let most : size ≤ 64 * hop = o.sound.size_of.most_of in
    let g = grows laws.grow agg in
    let few = few_entries laws.row window g.join g.by least most bound seen in
    let short = arrived plan is v n within 0 (let one = o.least in omega (arith, one)) in
    (omega (arith, few, short), each_few (window_entries window seen bound) (length seen) short (laws.counts window seen bound least).1)
few_at laws plan is v n spec.Join o within =
    let p = accepted plan v n in
    let two = o.fewest in
    let left = arrived plan is v n within 0 (omega (arith, two)) in
    let right = arrived plan is v n within 1 (omega (arith, two)) in
    omega (
      arith,
      left,
      right,
      filter_fewer (λ (row : Event). nat_lt (bound (from_input 1 p)) row.end) (rows (from_input 0 p)),
      filter_fewer (λ (row : Event). nat_lt (bound (from_input 0 p)) row.end) (rows (from_input 1 p)),
    )
few_at laws plan is v n (spec.Session gap agg of) o within =
    let window : SessionWindow = record { gap = gap; aggregate = aggregate_of agg; field = field_of of } in
    let seen = rows (from_input 0 (accepted plan v n)) in
    let bound = low (inputs_at plan v) (accepted plan v n) in
    let j = joins laws.join agg in
    let few = few_sessions laws.session_row window j.join j.by o.sound.least_of bound seen in
    let short = arrived plan is v n within 0 (let one = o.least in omega (arith, one)) in
    (omega (arith, few, short), few_each (open_sessions window seen bound) (length seen) short (sessions_count laws.of_rows window seen bound))
few_at laws plan is v n spec.Except o within =
    let p = accepted plan v n in
    let two = o.fewest in
    let left = arrived plan is v n within 0 (omega (arith, two)) in
    let right = arrived plan is v n within 1 (omega (arith, two)) in
    let lefts = rows (from_input 0 p) in
    let rights = rows (from_input 1 p) in
    omega (
      arith,
      left,
      right,
      filter_fewer (λ (row : Event). nat_lt (bound (from_input 1 p)) row.end) (alone rights lefts),
      filter_fewer (is_alone rights) lefts,
      filter_fewer (λ (row : Event). nat_lt (bound (from_input 0 p)) row.end) rights,
    )

pub entries_are_few : EntryLaws → VerticesByNumber → EntriesAreFew
entries_are_few laws law plan is v n operator e within = few_at laws plan is v n operator (is_operator law plan is v operator e) within
