-- Each element of each stream has a record.
use Rattle.std.proofs.Common.{◌≡◌, ℕ, zero, suc, ◌+◌, ◌-◌, ◌^◌, ◌<◌, ◌≤◌, Bool, true, false, cond, ℤ, pos, negsuc, List, [], ◌∷◌, ◌++◌, length, get_or, map, filter, Option, Some, None, IsSome, All, FitsSigned, refl, sym, ap, ◌∙◌, subst, arith}
use Rattle.std.specs.Prelude.{nat_lt, nat_le, ◌&&◌, ◌==◌}
use Rattle.std.specs.Int.{w64}
use Rattle.std.specs.List.{AllByRecursion, Contains, flat_map, slice_get}
use Rattle.std.specs.Option.{option_and_then}
use Rattle.std.proofs.lemmas.Bool.{and_parts, and_from, ltb-true, lt-ltb, le-leb}
use Rattle.std.proofs.lemmas.Int.{ints}
use Rattle.std.proofs.lemmas.List.{length-append, length-map}
use Rattle.std.proofs.lemmas.List.Elements.{recursion_from_All, All-from_recursion, All-contains}
use Rattle.ss_codec.specs.Record.{HasRecord}
use Rattle.ss_elem.specs.Key.{IsKeyNumber}
use Rattle.ss_elem.specs.Rows.{IsKept}
use Rattle.ss_elem.specs.Validity.{top, next_bound, bound_from}
use Rattle.ss_elem.specs.declared.element.Event.{Event}
use Rattle.ss_elem.specs.declared.element.Element.{Element}
use Rattle.ss_elem.specs.declared.element.Element.TheVariants.{Row, Cti, End}
use Rattle.ss_expr.specs.Operators.{operator_of, aggregate_of, field_of, selection_of}
use Rattle.ss_expr.specs.declared.stream_operator.Spec.{Spec}
use Rattle.ss_expr.specs.declared.stream_operator.Spec.TheVariants as spec
use Rattle.ss_job.specs.JobText.{VertexText, source, inner, sink, spec_of, spec_of_vertex}
use Rattle.ss_meaning.specs.Bound.{row_of, rows}
use Rattle.ss_meaning.specs.Except.{absent_row, is_alone, alone, ends_between, ending_between, left_alone}
use Rattle.ss_meaning.specs.Session.{SessionWindow, SessionEntry, sessions, closing, closings, closed, session_row, session_rows}
use Rattle.ss_meaning.specs.SessionRows.{IsOfRows, SessionsAreOfRows}
use Rattle.ss_meaning.specs.Bound.{bound}
use Rattle.ss_meaning.specs.Emit.{revalued, rows_at, emit, given_along}
use Rattle.ss_meaning.specs.Jobs.{IsBefore, IsJob, MayStand}
use Rattle.ss_meaning.specs.Join.{matches, joined, joined_from, join_rows}
use Rattle.ss_meaning.specs.Laws.{MeaningByInputs, MeaningIsWhole}
use Rattle.ss_meaning.specs.Low.{low, advance}
use Rattle.ss_meaning.specs.Meaning.{Vertex, Inner, Sink, reads, stream, vertex, meaning}
use Rattle.ss_meaning.specs.Positions.{mlen}
use Rattle.ss_meaning.specs.Merge.{Arrival, goes_first, insert_segment, segments_in_order, arrivals, merge, is_from, from_input}
use Rattle.ss_meaning.specs.Segments.{Segment, extend_first_segment, input_segments, all_segments}
use Rattle.ss_meaning.specs.Window.{Window, clamped, belongs, window_members, put_once, rising, window_ends, window_keys, window_row, window_rows}
use Rattle.ss_plan.specs.Limit.{IsPlan}
use Rattle.ss_plan.specs.Plan.{PlanText, vertex_at, vertices_of, sources_before, source_list}
use Rattle.ss_water.specs.declared.node.Node.{Node}
use Rattle.ss_frames.specs.Laws.{ElementsHaveRecords}
use Rattle.ss_frames.specs.Ranges.{IsSpecOfProgram, IsOfProgram}
use Rattle.ss_frames.proofs.Codes.{JobLaws, merged_is}
use Rattle.ss_frames.proofs.Few.{filter_fewer, rows_fewer}
use Rattle.ss_frames.proofs.Operators.{is_operator, mlen_is}
use Rattle.ss_frames.proofs.Values.{IsShortRow, computed_fits, zero_fits}
use Rattle.ss_frames.proofs.Vertices.{stands}

-- ---- what holds of each element of a list

pub each_append : {A : Type 0} (P : A → Type 0) (xs ys : List A) → AllByRecursion P xs → AllByRecursion P ys → AllByRecursion P (xs ++ ys)
each_append P [] ys h k = k
each_append P (x ∷ xs) ys h k = (h.0, each_append P xs ys h.1 k)

each_filter : {A : Type 0} (P : A → Type 0) (p : A → Bool) (xs : List A) → AllByRecursion P xs → AllByRecursion P (filter p xs)
each_filter P p [] h = tt
each_filter P p (x ∷ xs) h = by_test (p x) (each_filter P p xs h.1)
  where
    by_test : (b : Bool) → AllByRecursion P (filter p xs) → AllByRecursion P (cond b (x ∷ filter p xs) (filter p xs))
    by_test true rest = (h.0, rest)
    by_test false rest = rest

pub each_map : {A B : Type 0} (P : A → Type 0) (Q : B → Type 0) (f : A → B) → ((x : A) → P x → Q (f x)) → (xs : List A) → AllByRecursion P xs → AllByRecursion Q (map f xs)
each_map P Q f h [] k = tt
each_map P Q f h (x ∷ xs) k = (h x k.0, each_map P Q f h xs k.1)

each_flat : {A B : Type 0} (P : A → Type 0) (Q : B → Type 0) (f : A → List B) → ((x : A) → P x → AllByRecursion Q (f x)) → (xs : List A) → AllByRecursion P xs
    → AllByRecursion Q (flat_map f xs)
each_flat P Q f h [] k = tt
each_flat P Q f h (x ∷ xs) k = each_append Q (f x) (flat_map f xs) (h x k.0) (each_flat P Q f h xs k.1)

any_of : {A : Type 0} (xs : List A) → AllByRecursion (λ (x : A). Unit {0}) xs
any_of [] = tt
any_of (x ∷ xs) = (tt, any_of xs)

-- ---- what holds of each element of the inputs holds of each that arrives

abbrev IsOf : (Element → Type 0) → Segment → Type 0
IsOf P s = AllByRecursion P s.elements

extended : (P : Element → Type 0) (input bound : ℕ) (x : Element) (ss : List Segment) → P x → AllByRecursion (IsOf P) ss
    → AllByRecursion (IsOf P) (extend_first_segment input bound x ss)
extended P input bound x [] h k = ((h, tt), tt)
extended P input bound x (s ∷ ss) h k = ((h, k.0), k.1)

cut : (P : Element → Type 0) (input bound : ℕ) (xs : List Element) → AllByRecursion P xs → AllByRecursion (IsOf P) (input_segments input bound xs)
cut P input bound [] h = tt
cut P input bound (Row row ∷ xs) h = extended P input bound (Row row) (input_segments input bound xs) h.0 (cut P input bound xs h.1)
cut P input bound (Cti time ∷ xs) h = ((h.0, tt), cut P input time xs h.1)
cut P input bound (End ∷ xs) h = ((h.0, tt), cut P input top xs h.1)

all_cut : (P : Element → Type 0) (input : ℕ) (lists : List (List Element)) → AllByRecursion (AllByRecursion P) lists
    → AllByRecursion (IsOf P) (all_segments input lists)
all_cut P input [] h = tt
all_cut P input (xs ∷ lists) h =
    each_append (IsOf P) (input_segments input 0 xs) (all_segments (input + 1) lists) (cut P input 0 xs h.0) (all_cut P (input + 1) lists h.1)

inserted : (P : Element → Type 0) (s : Segment) (ss : List Segment) → IsOf P s → AllByRecursion (IsOf P) ss → AllByRecursion (IsOf P) (insert_segment s ss)
inserted P s [] h k = (h, tt)
inserted P s (t ∷ ss) h k = by_test (goes_first s t) (inserted P s ss h k.1)
  where
    by_test : (b : Bool) → AllByRecursion (IsOf P) (insert_segment s ss) → AllByRecursion (IsOf P) (cond b (s ∷ t ∷ ss) (t ∷ insert_segment s ss))
    by_test true rest = (h, k)
    by_test false rest = (k.0, rest)

in_order : (P : Element → Type 0) (ss : List Segment) → AllByRecursion (IsOf P) ss → AllByRecursion (IsOf P) (segments_in_order ss)
in_order P [] h = tt
in_order P (s ∷ ss) h = inserted P s (segments_in_order ss) h.0 (in_order P ss h.1)

abbrev ArrivesAs : (Element → Type 0) → Arrival → Type 0
ArrivesAs P x = P x.element

pub each_arrives : (P : Element → Type 0) (lists : List (List Element)) → AllByRecursion (AllByRecursion P) lists → AllByRecursion (ArrivesAs P) (merge lists)
each_arrives P lists h =
    each_flat (IsOf P) (ArrivesAs P) arrivals
    (λ s k. each_map P (ArrivesAs P) (λ (x : Element). record { input = s.input; element = x }) (λ x e. e) s.elements k)
    (segments_in_order (all_segments 0 lists)) (in_order P (all_segments 0 lists) (all_cut P 0 lists h))

each_from : (P : Element → Type 0) (input : ℕ) (p : List Arrival) → AllByRecursion (ArrivesAs P) p → AllByRecursion P (from_input input p)
each_from P input p h =
    each_map (ArrivesAs P) P (λ (x : Arrival). x.element) (λ x e. e) (filter (is_from input) p) (each_filter (ArrivesAs P) (is_from input) p h)

abbrev IsRow : (Element → Type 0) → Event → Type 0
IsRow P row = P (Row row)

rows_of_one : (P : Element → Type 0) (x : Element) → P x → AllByRecursion (IsRow P) (row_of x)
rows_of_one P (Row row) h = (h, tt)
rows_of_one P (Cti time) h = tt
rows_of_one P End h = tt

each_row : (P : Element → Type 0) (xs : List Element) → AllByRecursion P xs → AllByRecursion (IsRow P) (rows xs)
each_row P xs h = each_flat P (IsRow P) row_of (rows_of_one P) xs h

-- ---- what an operator gives of what is kept is kept

-- what arrives: what the program's type of elements keeps, with times below 2^63
abbrev IsTaken : Element → Type 0
IsTaken x = IsKept x × IsBefore (2 ^ 63) x

bits_fit : (z : ℤ) → FitsSigned w64 (clamped z)
bits_fit (pos n) = omega (arith, ints)
bits_fit (negsuc n) = omega (arith, ints)

count_fits : (n : ℕ) → n < 2 ^ 63 → FitsSigned w64 (pos n)
count_fits n h = omega (arith, ints, h)

put_kept : (P : ℕ → Type 0) (n : ℕ) (ns : List ℕ) → P n → AllByRecursion P ns → AllByRecursion P (put_once n ns)
put_kept P n [] h k = (h, tt)
put_kept P n (m ∷ ms) h k = by_tests (nat_lt n m) (n == m) (put_kept P n ms h k.1)
  where
    by_tests : (less same : Bool) → AllByRecursion P (put_once n ms)
        → AllByRecursion P (cond less (n ∷ m ∷ ms) (cond same (m ∷ ms) (m ∷ put_once n ms)))
    by_tests true same rest = (h, k)
    by_tests false true rest = k
    by_tests false false rest = (k.0, rest)

rising_kept : (P : ℕ → Type 0) (ns : List ℕ) → AllByRecursion P ns → AllByRecursion P (rising ns)
rising_kept P [] h = tt
rising_kept P (n ∷ ns) h = put_kept P n (rising ns) h.0 (rising_kept P ns h.1)

window_kept : (window : Window) (seen : List Event) (before after : ℕ) → length seen < 2 ^ 63 → AllByRecursion (IsRow IsTaken) seen
    → AllByRecursion (IsRow IsKept) (window_rows window seen before after)
window_kept window seen before after few h =
    each_flat (λ (w : ℕ). Unit {0}) (IsRow IsKept) (λ w. map (window_row window seen w) (window_keys window seen w))
    (λ w k. each_map IsKeyNumber (IsRow IsKept) (window_row window seen w) (row_kept w) (window_keys window seen w) (keys w))
    (window_ends window seen before after) (any_of (window_ends window seen before after))
  where
    keys : (w : ℕ) → AllByRecursion IsKeyNumber (window_keys window seen w)
    keys w =
        rising_kept IsKeyNumber (map (λ (row : Event). row.key) (filter (belongs window w) seen))
        (each_map (IsRow IsTaken) IsKeyNumber (λ (row : Event). row.key) (λ row e. e.0.is_key) (filter (belongs window w) seen)
        (each_filter (IsRow IsTaken) (belongs window w) seen h))

    row_kept : (w key : ℕ) → IsKeyNumber key → IsRow IsKept (window_row window seen w key)
    row_kept w key k =
        let counted = window_members window seen w key in
        let fewer : length counted ≤ length seen = filter_fewer (λ (row : Event). belongs window w row && row.key == key) seen in
        record {
          is_key = k;
          a = bits_fit (window.aggregate (map window.field counted));
          b = count_fits (length counted) (omega (arith, fewer, few));
          c = zero_fits;
          d = zero_fits;
        }

joined_kept : (input : ℕ) (x y : Event) → IsRow IsTaken x → IsRow IsTaken y → IsRow IsKept (joined_from input x y)
joined_kept input x y h k = by_test (input == 0)
  where
    by_test : (b : Bool) → IsRow IsKept (cond b (joined x y) (joined y x))
    by_test true = record { is_key = h.0.is_key; a = h.0.a; b = k.0.a; c = h.0.c; d = k.0.c }
    by_test false = record { is_key = k.0.is_key; a = k.0.a; b = h.0.a; c = k.0.c; d = h.0.c }

-- a session begins and ends where rows start
session_kept : SessionsAreOfRows → (window : SessionWindow) (seen : List Event) (before after : ℕ) → length seen < 2 ^ 63 → AllByRecursion (IsRow IsTaken) seen
    → AllByRecursion (IsRow IsKept) (session_rows window seen before after)
session_kept law window seen before after few h =
    let all = sessions window seen in
    each_map (IsOfRows seen) (IsRow IsKept) (session_row window.gap) row_kept (closed window.gap all before after)
    (each_flat (λ (time : ℕ). Unit {0}) (IsOfRows seen) (λ time. filter (λ (s : SessionEntry). closing window.gap s == time) all)
    (λ time k. each_filter (IsOfRows seen) (λ (s : SessionEntry). closing window.gap s == time) all (recursion_from_All (IsOfRows seen) all (law window seen)))
    (closings window.gap all before after) (any_of (closings window.gap all before after)))
  where
    taken : (row : Event) → Contains seen row → IsRow IsTaken row
    taken row within = All-contains (IsRow IsTaken) seen row (All-from_recursion (IsRow IsTaken) seen h) within

    row_kept : (s : SessionEntry) → IsOfRows seen s → IsRow IsKept (session_row window.gap s)
    row_kept s is =
        let first = taken is.begins.0 is.begins.1 in
        let last = taken is.ends.0 is.ends.1 in
        let short = is.few in
        record {
          is_key = subst IsKeyNumber is.begins.2 first.0.is_key;
          a = bits_fit s.value;
          b = count_fits s.rows (omega (arith, short, few));
          c = count_fits s.first (let early = first.1.0 in omega (arith, early, is.begins.3));
          d = count_fits s.last (let early = last.1.0 in omega (arith, early, is.ends.2));
        }

-- a left row that is alone is a left row
absent_kept : (row : Event) → IsRow IsTaken row → IsRow IsKept (absent_row row)
absent_kept row h =
    let early = h.1.0 in
    record { is_key = h.0.is_key; a = h.0.a; b = h.0.b; c = count_fits row.start (omega (arith, early)); d = zero_fits }

left_kept : (p : List Arrival) (x : Arrival) → AllByRecursion (ArrivesAs IsTaken) p → IsTaken x.element → AllByRecursion (IsRow IsTaken) (left_alone p x)
left_kept p x h k = by_input (x.input == 0)
  where
    rights : List Event
    rights = rows (from_input 1 p)

    reached : ℕ
    reached = bound (from_input 1 p)

    lefts : List Event
    lefts = alone rights (rows (from_input 0 p))

    lefts_taken : AllByRecursion (IsRow IsTaken) lefts
    lefts_taken = each_filter (IsRow IsTaken) (is_alone rights) (rows (from_input 0 p)) (each_row IsTaken (from_input 0 p) (each_from IsTaken 0 p h))

    by_input : (b : Bool) → AllByRecursion (IsRow IsTaken) (cond b (filter (λ row. nat_le row.end reached && is_alone rights row) (row_of x.element)) (ending_between lefts reached (bound (from_input 1 (p ++ x ∷ [])))))
    by_input true = each_filter (IsRow IsTaken) (λ row. nat_le row.end reached && is_alone rights row) (row_of x.element) (rows_of_one IsTaken x.element k)
    by_input false =
        let times = ends_between lefts reached (bound (from_input 1 (p ++ x ∷ []))) in
        each_flat (λ (time : ℕ). Unit {0}) (IsRow IsTaken) (λ time. filter (λ (row : Event). row.end == time) lefts)
        (λ time u. each_filter (IsRow IsTaken) (λ (row : Event). row.end == time) lefts lefts_taken) times (any_of times)

short_row : (row : Event) → IsRow IsTaken row → IsShortRow row
short_row row h = record { times = h.1; a = h.0.a; b = h.0.b; c = h.0.c; d = h.0.d }

arrived_fewer : (input : ℕ) (p : List Arrival) → length (rows (from_input input p)) ≤ length p
arrived_fewer input p =
    omega (
      arith,
      rows_fewer (from_input input p),
      length-map (filter (is_from input) p) (λ (x : Arrival). x.element),
      filter_fewer (is_from input) p,
    )

rows_kept : SessionsAreOfRows → (operator : Spec) → IsSpecOfProgram operator → (inputs : ℕ) (p : List Arrival) (x : Arrival) → length p < 2 ^ 63
    → AllByRecursion (ArrivesAs IsTaken) p → IsTaken x.element → AllByRecursion (IsRow IsKept) (rows_at (operator_of operator) inputs p x)
rows_kept law (spec.Select test a b c d) of inputs p x few h k =
    let select = selection_of test a b c d in
    each_map (IsRow IsTaken) (IsRow IsKept) (revalued select)
    (λ row e. record {
      is_key = e.0.is_key;
      a = computed_fits a row of.0 (short_row row e);
      b = computed_fits b row of.1 (short_row row e);
      c = computed_fits c row of.2 (short_row row e);
      d = computed_fits d row of.3 (short_row row e);
    })
    (filter select.test (row_of x.element)) (each_filter (IsRow IsTaken) select.test (row_of x.element) (rows_of_one IsTaken x.element k))
rows_kept law spec.Union of inputs p x few h k = rows_of_one IsKept x.element k.0
rows_kept law (spec.Window size hop agg field) of inputs p x few h k =
    window_kept (record { size = size; hop = hop; aggregate = aggregate_of agg; field = field_of field }) (rows (from_input 0 p))
    (low inputs p) (low inputs (p ++ x ∷ [])) (omega (arith, few, arrived_fewer 0 p))
    (each_row IsTaken (from_input 0 p) (each_from IsTaken 0 p h))
rows_kept law spec.Join of inputs p x few h k =
    let earlier = rows (from_input (1 - x.input) p) in
    each_flat (IsRow IsTaken) (IsRow IsKept) (λ row. join_rows x.input row earlier)
    (λ row e.
    each_map (IsRow IsTaken) (IsRow IsKept) (joined_from x.input row) (λ y f. joined_kept x.input row y e f) (filter (matches row) earlier)
    (each_filter (IsRow IsTaken) (matches row) earlier
    (each_row IsTaken (from_input (1 - x.input) p) (each_from IsTaken (1 - x.input) p h))))
    (row_of x.element) (rows_of_one IsTaken x.element k)
rows_kept law (spec.Session gap agg field) of inputs p x few h k =
    session_kept law (record { gap = gap; aggregate = aggregate_of agg; field = field_of field }) (rows (from_input 0 p))
    (low inputs p) (low inputs (p ++ x ∷ [])) (omega (arith, few, arrived_fewer 0 p))
    (each_row IsTaken (from_input 0 p) (each_from IsTaken 0 p h))
rows_kept law spec.Except of inputs p x few h k =
    each_map (IsRow IsTaken) (IsRow IsKept) absent_row absent_kept (left_alone p x) (left_kept p x h k)

advance_kept : (before after : ℕ) → AllByRecursion IsKept (advance before after)
advance_kept before after = by_tests (nat_lt before after) (nat_lt after top)
  where
    by_tests : (rose early : Bool) → AllByRecursion IsKept (cond rose (cond early (Cti after) End ∷ []) [])
    by_tests true true = (tt, tt)
    by_tests true false = (tt, tt)
    by_tests false early = tt

given_kept : SessionsAreOfRows → (operator : Spec) → IsSpecOfProgram operator → (inputs : ℕ) (xs p : List Arrival) → length p + length xs < 2 ^ 63
    → AllByRecursion (ArrivesAs IsTaken) p → AllByRecursion (ArrivesAs IsTaken) xs
    → AllByRecursion IsKept (given_along (emit (operator_of operator) inputs) p xs)
given_kept law operator of inputs [] p few h k = tt
given_kept law operator of inputs (x ∷ xs) p few h k =
    let kind = operator_of operator in
    let after = p ++ x ∷ [] in
    let rows_given = rows_at kind inputs p x in
    let here : AllByRecursion IsKept (emit kind inputs p x) =
    each_append IsKept (map (λ (row : Event). Row row) rows_given) (advance (low inputs p) (low inputs after))
    (each_map (IsRow IsKept) IsKept (λ (row : Event). Row row) (λ row e. e) rows_given
    (rows_kept law operator of inputs p x (omega (arith, few)) h k.0))
    (advance_kept (low inputs p) (low inputs after)) in
    each_append IsKept (emit kind inputs p x) (given_along (emit kind inputs) after xs) here
    (given_kept law operator of inputs xs after (omega (arith, few, length-append p (x ∷ [])))
    (each_append (ArrivesAs IsTaken) p (x ∷ []) h (k.0, tt)) k.1)

-- ---- a whole list has elements that may stand first

some_and : {A B : Type 0} (f : A → Option B) (o : Option A) (t : B) → option_and_then f o ≡ Some t → (a : A) × (o ≡ Some a) × (f a ≡ Some t)
some_and f (Some a) t h = (a, refl, h)
some_and f None t h = cc

passed : (b : Bool) (x a : ℕ) → cond b (Some x) None ≡ Some a → b ≡ true
passed true x a h = refl
passed false x a h = cc

shown : (b : Bool) (x : ℕ) → b ≡ true → IsSome (cond b (Some x) None)
shown true x h = refl
shown false x h = cc

may_be_first : (before after : ℕ) (x : Element) → next_bound before x ≡ Some after → IsSome (next_bound 0 x)
may_be_first before after (Row row) h =
    let four = passed (nat_lt before top && nat_lt row.end top && nat_lt row.start row.end && nat_le before row.start) before after h in
    let three = and_parts (nat_lt before top && nat_lt row.end top && nat_lt row.start row.end) (nat_le before row.start) four in
    let two = and_parts (nat_lt before top && nat_lt row.end top) (nat_lt row.start row.end) three.0 in
    let one = and_parts (nat_lt before top) (nat_lt row.end top) two.0 in
    shown (nat_lt 0 top && nat_lt row.end top && nat_lt row.start row.end && nat_le 0 row.start) 0
    (and_from (nat_lt 0 top && nat_lt row.end top && nat_lt row.start row.end) (nat_le 0 row.start)
    (and_from (nat_lt 0 top && nat_lt row.end top) (nat_lt row.start row.end) (and_from (nat_lt 0 top) (nat_lt row.end top) refl one.1) two.1)
    (le-leb 0 row.start (omega arith)))
may_be_first before after (Cti time) h =
    let both = and_parts (nat_lt before time) (nat_lt time top) (passed (nat_lt before time && nat_lt time top) time after h) in
    let late = ltb-true before time both.0 in
    shown (nat_lt 0 time && nat_lt time top) time (and_from (nat_lt 0 time) (nat_lt time top) (lt-ltb 0 time (omega (arith, late))) both.1)
may_be_first before after End h = refl

abbrev MayBeFirst : Element → Type 0
MayBeFirst x = IsSome (next_bound 0 x)

each_first : (before after : ℕ) (xs : List Element) → bound_from before xs ≡ Some after → AllByRecursion MayBeFirst xs
each_first before after [] h = tt
each_first before after (x ∷ xs) h =
    let next = some_and (λ bound. bound_from bound xs) (next_bound before x) after h in
    (may_be_first before next.0 x next.1, each_first next.0 after xs next.2)

both_kept : (xs : List Element) → AllByRecursion IsKept xs → AllByRecursion (IsBefore (2 ^ 63)) xs → AllByRecursion IsTaken xs
both_kept [] h k = tt
both_kept (x ∷ xs) h k = ((h.0, k.0), both_kept xs h.1 k.1)

have_records : (xs : List Element) → AllByRecursion MayBeFirst xs → AllByRecursion IsKept xs → AllByRecursion HasRecord xs
have_records [] h k = tt
have_records (x ∷ xs) h k = (record { first = h.0; kept = k.0 }, have_records xs h.1 k.1)

-- ---- the streams of a plan, one after another

at_place : (k : ℕ) (lists : List (List Element)) → AllByRecursion (All IsKept) lists → AllByRecursion IsKept (get_or lists k [])
at_place k [] h = tt
at_place zero (xs ∷ lists) h = recursion_from_All IsKept xs h.0
at_place (suc k) (xs ∷ lists) h = at_place k lists h.1

abbrev AreKeptBelow : PlanText → ℕ → Type 0
AreKeptBelow plan v = (u : ℕ) → u < v → AllByRecursion IsKept (meaning (vertices_of plan) u)

pub record RecordLaws : Type 0 where
  pub job : JobLaws
  pub made : MeaningByInputs
  pub sessions : SessionsAreOfRows

taken_lists : MeaningIsWhole → (plan : PlanText) → IsJob (vertices_of plan) → (v : ℕ) → v < length (vertices_of plan) → AreKeptBelow plan v → (names : List ℕ)
    → AllByRecursion (λ u. u < v) names → AllByRecursion (AllByRecursion IsTaken) (map (meaning (vertices_of plan)) names)
taken_lists whole plan is v h kept names below =
    each_map (λ (u : ℕ). u < v) (AllByRecursion IsTaken) (meaning (vertices_of plan))
    (λ u early.
    both_kept (meaning (vertices_of plan) u) (kept u early)
    (recursion_from_All (IsBefore (2 ^ 63)) (meaning (vertices_of plan) u) (whole (vertices_of plan) is u (omega (arith, early, h))).1))
    names below

by_text : RecordLaws → (plan : PlanText) → IsPlan plan → IsOfProgram plan → ((v : ℕ) → mlen (vertices_of plan) v < 2 ^ 63)
    → (v : ℕ) → v < length (vertices_of plan) → AreKeptBelow plan v → (node : Node) (text : VertexText)
    → slice_get plan.job.vertices v ≡ Some text → vertex (vertices_of plan) v ≡ vertex_at node text (source_list plan v)
    → AllByRecursion IsKept (meaning (vertices_of plan) v)
by_text laws plan is of few v h kept node (source file late) text_is e =
    let job = vertices_of plan in
    let job_is = laws.job.means plan is.job is.lists in
    let made : meaning job v ≡ source_list plan v =
    laws.made job job_is v h ∙ ap (λ (x : Vertex). stream x (map (meaning job) (reads (vertex job v)))) e in
    subst (AllByRecursion IsKept) (sym made)
    (at_place (sources_before plan.job v) plan.lists (recursion_from_All (All IsKept) plan.lists of.lists))
by_text laws plan is of few v h kept node (inner s policy) text_is e =
    let job = vertices_of plan in
    let job_is = laws.job.means plan is.job is.lists in
    let said : spec_of plan.job v ≡ Some s = ap (option_and_then spec_of_vertex) text_is in
    let o = is_operator laws.job.vertices plan is v s said in
    let stands : MayStand v (Inner (operator_of s) o.names) = subst (MayStand v) o.vertex (job_is.each v h) in
    let below = recursion_from_All (λ (u : ℕ). u < v) o.names stands.1 in
    let lists = map (meaning job) o.names in
    let arrive = each_arrives IsTaken lists (taken_lists laws.job.whole plan job_is v h kept o.names below) in
    let short : length (merge lists) < 2 ^ 63 = omega (arith, few v, mlen_is plan v s o, ap length (merged_is plan v s o)) in
    let made : meaning job v ≡ given_along (emit (operator_of s) (length o.names)) [] (merge lists) =
    laws.made job job_is v h ∙ ap (λ (x : Vertex). stream x (map (meaning job) (reads x))) o.vertex in
    subst (AllByRecursion IsKept) (sym made) (given_kept laws.sessions s (of.specs v s said) (length o.names) (merge lists) [] (omega (arith, short)) tt arrive)
by_text laws plan is of few v h kept node (sink file) text_is e =
    let job = vertices_of plan in
    let job_is = laws.job.means plan is.job is.lists in
    let input = get_or node.inputs 0 0 in
    let early : MayStand v (Sink input) = subst (MayStand v) e (job_is.each v h) in
    let made : meaning job v ≡ meaning job input =
    laws.made job job_is v h ∙ ap (λ (x : Vertex). stream x (map (meaning job) (reads x))) e in
    subst (AllByRecursion IsKept) (sym made) (kept input early)

streams_kept : RecordLaws → (plan : PlanText) → IsPlan plan → IsOfProgram plan → ((v : ℕ) → mlen (vertices_of plan) v < 2 ^ 63)
    → (n v : ℕ) → v < n → v < length (vertices_of plan) → AllByRecursion IsKept (meaning (vertices_of plan) v)
streams_kept laws plan is of few zero v below h = absurd (omega (arith, below))
streams_kept laws plan is of few (suc n) v below h =
    let st = stands laws.job.vertices plan is v (omega (arith, h, (laws.job.vertices plan is.job).count)) in
    by_text laws plan is of few v h (λ u early. streams_kept laws plan is of few n u (omega (arith, early, below)) (omega (arith, early, h)))
    st.node st.text st.text_is st.vertex

pub elements_have_records : RecordLaws → ElementsHaveRecords
elements_have_records laws plan is of few v h =
    let job = vertices_of plan in
    let whole = laws.job.whole job (laws.job.means plan is.job is.lists) v h in
    All-from_recursion HasRecord (meaning job v)
    (have_records (meaning job v) (each_first 0 top (meaning job v) whole.0) (streams_kept laws plan is of few (suc v) v (omega arith) h))
