-- What a whole pass leaves.
use Rattle.std.proofs.Common.{◌≡◌, ℕ, zero, suc, ◌+◌, ◌-◌, ◌*◌, ◌<◌, ◌≤◌, max, Bool, true, false, not, cond, nat_lt, nat_le, List, [], ◌∷◌, ◌++◌, length, filter, reverse, refl, sym, ap, ◌∙◌, subst, ⊎_elim, arith}
use Rattle.std.specs.List.{range_with_len}
use Rattle.std.proofs.lemmas.Bool.{cases_eq, cond-false, le-ltb, not-true, not-false, both_ways}
use Rattle.std.proofs.lemmas.List.{get_or-set_same, get_or-set_other, reverse-append}
use Rattle.std.proofs.lemmas.List.Elements.{filter-append}
use Rattle.ss_water.specs.Graph.{is_sink}
use Rattle.ss_state.specs.Numbers.{VertexNumbers, JobNumbers, IsStream, IsSink, is_inner, vertex}
use Rattle.ss_state.specs.State.{LedgerRow, Ledger, State, empty_row, row_at, durable_at}
use Rattle.ss_state.specs.LowWater.{snap_within, low, low_at, taken_at, need, start_at, start, required}
use Rattle.ss_state.specs.Journal.{collected, trimmed, trimmed_row, passed_over, pass_order, all_halves, passed, change}
use Rattle.ss_state.specs.Acts.{pass_act}
use Rattle.ss_state.specs.IsNumbers.{IsNumbers}
use Rattle.ss_state.specs.Joint.{Joint}
use Rattle.ss_state.proofs.Parts.{RowFits}
use Rattle.ss_state.specs.Laws.{IsPassed}
use Rattle.ss_state.proofs.Snapshots.{one_of_filter}
use Rattle.ss_state.proofs.Lows.{by_kind, within_grows, low_inner, low_plain, trimmed_inner, trimmed_plain, trims}
use Rattle.ss_state.proofs.Storing.{no_sink}
use Rattle.ss_state.proofs.Passing.{need_is, Beside, collect_beside, trim_beside}
use Rattle.ss_state.proofs.Recording.{joint_beside}
use Rattle.ss_state.proofs.Marks.{least_same, reader_above, reader_stream, required_is, start_is, start_inner, start_plain}

-- the streams below a number, from the greatest to the least

abbrev streams_below : JobNumbers → ℕ → List ℕ
streams_below job zero = []
streams_below job (suc b) = cond (not (is_sink (vertex job b).kind)) (b ∷ streams_below job b) (streams_below job b)

range_last : (a n : ℕ) → range_with_len a (suc n) ≡ range_with_len a n ++ (a + n) ∷ []
range_last a zero = ap (λ k. k ∷ []) (let e : a ≡ a + 0 = omega arith in e)
range_last a (suc n) = ap (λ ns. a ∷ ns) (range_last (a + 1) n ∙ ap (λ k. range_with_len (a + 1) n ++ k ∷ []) (let e : a + 1 + n ≡ a + suc n = omega arith in e))

order_is : (job : JobNumbers) (b : ℕ) → reverse (filter (λ v. not (is_sink (vertex job v).kind)) (range_with_len 0 b)) ≡ streams_below job b
order_is job zero = refl
order_is job (suc b) =
    let f : ℕ → Bool = λ v. not (is_sink (vertex job v).kind) in
    let last : range_with_len 0 (suc b) ≡ range_with_len 0 b ++ b ∷ [] = range_last 0 b ∙ ap (λ k. range_with_len 0 b ++ k ∷ []) (let e : 0 + b ≡ b = omega arith in e) in
    let split = ap (λ ns. reverse (filter f ns)) last ∙ ap reverse (filter-append f (range_with_len 0 b) (b ∷ [])) ∙ reverse-append (filter f (range_with_len 0 b)) (filter f (b ∷ [])) in
    let P : List ℕ → List ℕ → Type 0 = λ xs ys. reverse xs ++ reverse (filter f (range_with_len 0 b)) ≡ ys in
    split ∙ by_test (f b) (order_is job b)
  where
    by_test : (t : Bool) → reverse (filter (λ v. not (is_sink (vertex job v).kind)) (range_with_len 0 b)) ≡ streams_below job b
        → reverse (cond t (b ∷ []) []) ++ reverse (filter (λ v. not (is_sink (vertex job v).kind)) (range_with_len 0 b)) ≡ cond t (b ∷ streams_below job b) (streams_below job b)
    by_test true e = ap (λ ns. b ∷ ns) e
    by_test false e = e

-- the row that a pass leaves of stream u
record IsDone (job : JobNumbers) (l : Ledger) (u : ℕ) (row : LedgerRow) : Type 0 where
  base : row.base ≡ required job l u
  dur : row.dur ≡ max (row_at l u).dur (required job l u)
  rise : low (vertex job u) row ≡ start job l u
  snaps : is_inner (vertex job u).kind ≡ true → row.snaps ≡ filter (λ n. nat_le (start job l u) n) (row_at l u).snaps
  mark : is_inner (vertex job u).kind ≡ false → row.mark ≡ start job l u

-- the low-water mark of a row that was collected as far as is required
collected_low : (x : VertexNumbers) (row : LedgerRow) (q : ℕ) → is_inner x.kind ≡ true → low x (record row { base = q; dur = max row.dur q }) ≡ start_at x row q
collected_low x row q e = low_inner x (record row { base = q; dur = max row.dur q }) e ∙ sym (start_inner x row q e)

cut_low : (x : VertexNumbers) (row : LedgerRow) → is_inner x.kind ≡ true → low x row ≤ low x (record row { snaps = filter (λ n. nat_le (low x row) n) row.snaps })
    → low x (record row { snaps = filter (λ n. nat_le (low x row) n) row.snaps }) ≡ low x row
cut_low x row e rise =
    let f : ℕ → Bool = λ n. nat_le (low x row) n in
    let new : LedgerRow = record row { snaps = filter f row.snaps } in
    let less = within_grows x (filter f row.snaps) row.snaps row.dur row.dur (omega arith) (λ n i o. (one_of_filter f n row.snaps i).1) in
    omega (arith, low_inner x row e, low_inner x new e)

done_row : (job : JobNumbers) → IsNumbers job → (l : Ledger) (u : ℕ) → IsStream job u
    → RowFits job.max_elements (vertex job u) (record (row_at l u) { base = required job l u; dur = max (row_at l u).dur (required job l u) })
    → IsDone job l u (trimmed_row (vertex job u) (record (row_at l u) { base = required job l u; dur = max (row_at l u).dur (required job l u) }))
done_row job numbers l u stream stands =
    let x = vertex job u in
    let q = required job l u in
    let row = row_at l u in
    let once : LedgerRow = record row { base = q; dur = max row.dur q } in
    let trim = trims job.max_elements x once stream.1 stands in
    let is = start_is job numbers l u stream in
    by_kind x (IsDone job l u (trimmed_row x once))
    (λ e.
    let at_start : low x once ≡ start job l u = collected_low x row q e ∙ sym is in
    let cut : LedgerRow = record once { snaps = filter (λ n. nat_le (low x once) n) row.snaps } in
    let same = trimmed_inner x once e in
    let rise : low x once ≤ low x cut = subst (λ (r : LedgerRow). low x once ≤ low x r) same trim.rise in
    subst (IsDone job l u) (sym same) (record {
      base = refl;
      dur = refl;
      rise = cut_low x once e rise ∙ at_start;
      snaps = λ i. ap (λ k. filter (λ n. nat_le k n) row.snaps) at_start;
      mark = λ plain. absurd (both_ways (is_inner x.kind) plain e);
    }))
    (λ e.
    let marked : LedgerRow = record once { mark = max row.dur q } in
    let at_start : max row.dur q ≡ start job l u = sym (start_plain x row q e) ∙ sym is in
    subst (IsDone job l u) (sym (trimmed_plain x once e)) (record {
      base = refl;
      dur = refl;
      rise = low_plain x marked e ∙ at_start;
      snaps = λ inner. absurd (both_ways (is_inner x.kind) e inner);
      mark = λ plain. at_start;
    }))

-- a pass over the streams at and above b was made from l, and has come to m
record Half (job : JobNumbers) (s : State) (l m : Ledger) (b : ℕ) : Type 0 where
  beside : Beside job s m
  rest : (u : ℕ) → u < b → row_at m u ≡ row_at l u
  sinks : (k : ℕ) → IsSink job k → row_at m k ≡ row_at l k
  done : (u : ℕ) → b ≤ u → IsStream job u → IsDone job l u (row_at m u)

need_now : (job : JobNumbers) → IsNumbers job → (s : State) (l m : Ledger) (b : ℕ) → IsStream job b → Half job s l m (suc b) → need job m b ≡ required job l b
need_now job numbers s l m b stream half =
    least_same job (low_at job m) (start job l) (taken_at m) (taken_at l) b (need job m b) (required job l b)
    (need_is job numbers m b stream) (required_is job numbers l b stream)
    (λ w i r. let above = reader_above job numbers b w i r in (half.done w (omega arith) (reader_stream job b w i r)).rise)
    (λ k sink i. ap (λ (row : LedgerRow). row.taken) (half.sinks k sink))

half_next : (job : JobNumbers) → IsNumbers job → (s : State) (l m : Ledger) (b : ℕ) → IsStream job b → Half job s l m (suc b) → Half job s l (trimmed job (collected job m b) b) b
half_next job numbers s l m b stream half =
    let once = collected job m b in
    let twice = trimmed job once b in
    let x = vertex job b in
    let first = collect_beside job numbers s m b stream half.beside in
    let within : b < length m.rows = omega (arith, stream.0, half.beside.rows) in
    let within_once : b < length once.rows = omega (arith, stream.0, first.rows) in
    let same_row = half.rest b (omega arith) in
    let made : LedgerRow = record (row_at l b) { base = required job l b; dur = max (row_at l b).dur (required job l b) } in
    let as_made : record (row_at m b) { base = need job m b; dur = max (row_at m b).dur (need job m b) } ≡ made =
    ap (λ (row : LedgerRow). record row { base = need job m b; dur = max row.dur (need job m b) }) same_row
    ∙ ap (λ q. record (row_at l b) { base = q; dur = max (row_at l b).dur q }) (need_now job numbers s l m b stream half) in
    let row_once : row_at once b ≡ made = get_or-set_same m.rows b _ empty_row within ∙ as_made in
    let row_twice : row_at twice b ≡ trimmed_row x made = get_or-set_same once.rows b (trimmed_row x (row_at once b)) empty_row within_once ∙ ap (trimmed_row x) row_once in
    let other : (u : ℕ) → (u ≡ b → ⊥) → row_at twice u ≡ row_at m u = λ u differs.
    get_or-set_other once.rows b u (trimmed_row x (row_at once b)) empty_row differs ∙ get_or-set_other m.rows b u _ empty_row differs in
    let done = done_row job numbers l b stream (subst (RowFits job.max_elements x) row_once (first.parts.row b)) in
    record {
      beside = trim_beside job numbers s once b stream first;
      rest = λ u less. other u (λ e. omega arith) ∙ half.rest u (omega arith);
      sinks = λ k sink. other k (λ e. no_sink job b stream (subst (IsSink job) e sink)) ∙ half.sinks k sink;
      done = λ u above of_stream. ⊎_elim
          (λ same. subst (λ v. IsDone job l v (row_at twice v)) (sym same) (subst (IsDone job l b) (sym row_twice) done))
          (λ differs. subst (IsDone job l u) (sym (other u differs)) (half.done u (omega arith) of_stream))
          (cases_eq u b);
    }

-- b is a sink, which a pass leaves out
half_over : (job : JobNumbers) (s : State) (l m : Ledger) (b : ℕ) → Half job s l m (suc b) → not (is_sink (vertex job b).kind) ≡ false → Half job s l m b
half_over job s l m b half is = record {
  beside = half.beside;
  rest = λ u less. half.rest u (omega arith);
  sinks = half.sinks;
  done = λ u above stream. ⊎_elim
      (λ equal. absurd (both_ways (is_sink (vertex job b).kind) (subst (λ v. is_sink (vertex job v).kind ≡ false) equal stream.1) (not-false (is_sink (vertex job b).kind) is)))
      (λ differs. half.done u (omega arith) stream)
      (cases_eq u b);
}

-- what is left to make below b
abbrev Rest : JobNumbers → State → Ledger → ℕ → Type 0
Rest job s l b =
    (m : Ledger) (halves : ℕ) → b ≤ length job.vertices → halves ≡ 2 * length (streams_below job b) → Half job s l m b
    → Half job s l (passed_over job m (streams_below job b) halves) 0

half_all : (job : JobNumbers) → IsNumbers job → (s : State) (l : Ledger) (b : ℕ) → Rest job s l b
half_all job numbers s l zero m halves fits e half = half
half_all job numbers s l (suc b) m halves fits e half = by_test (half_all job numbers s l b) (not (is_sink (vertex job b).kind)) refl halves e
  where
    by_test : Rest job s l b → (t : Bool) → not (is_sink (vertex job b).kind) ≡ t → (halves : ℕ) → halves ≡ 2 * length (cond t (b ∷ streams_below job b) (streams_below job b))
        → Half job s l (passed_over job m (cond t (b ∷ streams_below job b) (streams_below job b)) halves) 0
    by_test rest true is zero same = absurd (omega arith)
    by_test rest true is (suc zero) same = absurd (omega arith)
    by_test rest true is (suc (suc h)) same =
        rest (trimmed job (collected job m b) b) h (omega arith) (omega arith)
        (half_next job numbers s l m b (omega arith, not-true (is_sink (vertex job b).kind) is) half)
    by_test rest false is zero same = rest m zero (omega arith) same (half_over job s l m b half is)
    by_test rest false is (suc h) same = rest m (suc h) (omega arith) same (half_over job s l m b half is)

whole_half : (job : JobNumbers) (s : State) → Joint job s → Half job s s.vault.ledger (passed_over job s.vault.ledger (pass_order job) (all_halves job)) 0
whole_half job s joint =
    let l = s.vault.ledger in
    let all = length job.vertices in
    let begin : Half job s l l all = record {
      beside = joint_beside job s joint;
      rest = λ u less. refl;
      sinks = λ k sink. refl;
      done = λ u above stream. let within = stream.0 in absurd (omega arith);
    } in
    subst (λ vs. Half job s l (passed_over job l vs (2 * length vs)) 0) (sym (order_is job all))
    (half_all job joint.numbers s l all l (2 * length (streams_below job all)) (omega arith) refl begin)

-- where every stream is done, from where it would start and what that requires is as before
record AllDone (job : JobNumbers) (l new : Ledger) : Type 0 where
  each : (u : ℕ) → IsStream job u → IsDone job l u (row_at new u)
  sinks : (k : ℕ) → IsSink job k → row_at new k ≡ row_at l k

start_again : (job : JobNumbers) → IsNumbers job → (l new : Ledger) (v : ℕ) → IsStream job v → IsDone job l v (row_at new v)
    → start_at (vertex job v) (row_at new v) (required job l v) ≡ start job l v
start_again job numbers l new v stream done =
    let x = vertex job v in
    let q = required job l v in
    let row = row_at new v in
    let most : max row.dur q ≡ row.dur = let dur = done.dur in omega arith in
    by_kind x (start_at x row q ≡ start job l v)
    (λ e. start_inner x row q e ∙ ap (snap_within x row.snaps) most ∙ sym (low_inner x row e) ∙ done.rise)
    (λ e. start_plain x row q e ∙ most ∙ done.dur ∙ sym (start_plain x (row_at l v) q e) ∙ sym (start_is job numbers l v stream))

marks_after : (job : JobNumbers) → IsNumbers job → (l new : Ledger) → AllDone job l new → (k v : ℕ) → length job.vertices - k ≤ v → IsStream job v
    → (required job new v ≡ required job l v) × (start job new v ≡ start job l v)
marks_after job numbers l new done zero v above stream = let within = stream.0 in absurd (omega arith)
marks_after job numbers l new done (suc k) v above stream =
    let req : required job new v ≡ required job l v =
    least_same job (start job new) (start job l) (taken_at new) (taken_at l) v (required job new v) (required job l v)
    (required_is job numbers new v stream) (required_is job numbers l v stream)
    (λ w i r. let higher = reader_above job numbers v w i r in (marks_after job numbers l new done k w (omega arith) (reader_stream job v w i r)).1)
    (λ j sink i. ap (λ (row : LedgerRow). row.taken) (done.sinks j sink)) in
    (req, start_is job numbers new v stream ∙ ap (start_at (vertex job v) (row_at new v)) req ∙ start_again job numbers l new v stream (done.each v stream))

passed_is : (job : JobNumbers) (s : State) → Joint job s → (new : Ledger) → AllDone job s.vault.ledger new → (v : ℕ) → IsStream job v → IsPassed job s.vault.ledger new v
passed_is job s joint new done v stream =
    let here = done.each v stream in
    let marks = marks_after job joint.numbers s.vault.ledger new done (length job.vertices) v (omega arith) stream in
    record { base = here.base; dur = here.dur; snaps = here.snaps; mark = here.mark; required = marks.0; start = marks.1 }

pub pass_in : (job : JobNumbers) (s : State) → Joint job s
    → let new = (pass_act job s.vault).vault.ledger in
    ((v : ℕ) → IsStream job v → IsPassed job s.vault.ledger new v)
    × ((k : ℕ) → IsSink job k → row_at new k ≡ durable_at s k) × (new.since ≡ 0)
unfolding pass_act change
pass_in job s joint =
    let l = s.vault.ledger in
    let half = whole_half job s joint in
    let done : AllDone job l (passed job l (all_halves job)) = record { each = λ u stream. half.done u (omega arith) stream; sinks = half.sinks } in (
      λ v stream. passed_is job s joint (passed job l (all_halves job)) done v stream,
      half.sinks,
      cond-false (nat_lt (all_halves job) (all_halves job)) l.since 0 (le-ltb (all_halves job) (all_halves job) (omega arith)),
    )
