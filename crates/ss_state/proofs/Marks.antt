-- From where each vertex would start, and what that requires.
use Rattle.ss_state.specs.Joint.{Joint}
use Rattle.ss_state.specs.Wanted.{IsLeastWanted, AreMarks}
use Rattle.std.proofs.Common.{◌≡◌, ℕ, zero, suc, ◌-◌, ◌<◌, ◌≤◌, max, true, false, nat_eq, length, refl, sym, ap, ◌∙◌, ⊎_elim, arith, eq-eqb, ne_eqb, inl, inr}
use Rattle.std.proofs.lemmas.Bool.{cases_eq, cond-true, cond-false, false≢true}
use Rattle.ss_water.specs.Graph.{is_sink}
use Rattle.ss_water.specs.declared.node.Kind.{Kind}
use Rattle.ss_water.specs.declared.node.Kind.TheVariants.{Source, Inner, Sink}
use Rattle.ss_state.specs.Numbers.{VertexNumbers, JobNumbers, IsStream, IsSink, is_inner, vertex, input}
use Rattle.ss_state.specs.State.{LedgerRow, Ledger, row_at, State, durable_at}
use Rattle.ss_state.specs.LowWater.{snap_within, low, low_at, taken_at, least_wanted, need, start_at, start_of_last, start, required}
use Rattle.ss_state.specs.IsNumbers.{IsNumbers, Reads}
use Rattle.ss_state.specs.Laws.{LeastWantedIsOne, NeedIsLeast, RequiredAreMarks, MarksAreOne}
use Rattle.ss_state.proofs.Parts.{joint_parts}
use Rattle.ss_state.proofs.Counting.{positions_never_fall}
use Rattle.ss_state.proofs.Lows.{by_kind, within_grows, low_inner, low_plain}
use Rattle.ss_state.proofs.Frames.{in_job, earlier, sink_input}
use Rattle.ss_state.proofs.Needs.{IsLeast, least_is}
use Rattle.ss_state.proofs.Passing.{need_is}
use Rattle.ss_state.proofs.Growing.{base_le_need}

pub no_sink_of : (k : Kind) → is_inner k ≡ true → is_sink k ≡ false
no_sink_of Source e = refl
no_sink_of Inner e = refl
no_sink_of Sink e = absurd (false≢true e)

-- a reader of v
pub record IsReader (job : JobNumbers) (v w i : ℕ) : Type 0 where
  pub inner : is_inner (vertex job w).kind ≡ true
  pub within : i < length (vertex job w).inputs
  pub reads : input (vertex job w) i ≡ v

-- it is a stream, and lies above v
pub reader_stream : (job : JobNumbers) (v w i : ℕ) → IsReader job v w i → IsStream job w
reader_stream job v w i reader = (in_job job w i reader.within, no_sink_of (vertex job w).kind reader.inner)

pub reader_above : (job : JobNumbers) → IsNumbers job → (v w i : ℕ) → IsReader job v w i → v < w
reader_above job numbers v w i reader = let before = earlier job numbers w i reader.within in let same = reader.reads in omega arith

pub least_mono : (job : JobNumbers) (a b t u : ℕ → ℕ) (v n m : ℕ) → IsLeast job a t v n → IsLeast job b u v m → ((w i : ℕ) → IsReader job v w i → a w ≤ b w)
    → ((k : ℕ) → IsSink job k → input (vertex job k) 0 ≡ v → t k ≤ u k) → n ≤ m
least_mono job a b t u v n m small large starts takes = ⊎_elim
    (λ at_reader.
    let w = at_reader.0 in
    let i = at_reader.1 in
    let below = small.readers w i at_reader.2 at_reader.3 at_reader.4 in
    let more = positions_never_fall (vertex job w) (a w) (b w) i (starts w i (record { inner = at_reader.2; within = at_reader.3; reads = at_reader.4 })) in
    omega (arith, at_reader.5))
    (λ at_sink.
    let below = small.sinks at_sink.0 at_sink.1 at_sink.2 in
    let more = takes at_sink.0 at_sink.1 at_sink.2 in
    omega (arith, at_sink.3))
    large.one

pub least_same : (job : JobNumbers) (a b t u : ℕ → ℕ) (v n m : ℕ) → IsLeast job a t v n → IsLeast job b u v m → ((w i : ℕ) → IsReader job v w i → a w ≡ b w)
    → ((k : ℕ) → IsSink job k → input (vertex job k) 0 ≡ v → t k ≡ u k) → n ≡ m
least_same job a b t u v n m one other starts takes =
    let below = least_mono job a b t u v n m one other (λ w i r. let e = starts w i r in omega arith) (λ k s i. let e = takes k s i in omega arith) in
    let above = least_mono job b a u t v m n other one (λ w i r. let e = starts w i r in omega arith) (λ k s i. let e = takes k s i in omega arith) in
    omega arith

-- the starts of the last vertices

last_here : (job : JobNumbers) (l : Ledger) (k v : ℕ) → v ≡ length job.vertices - suc k
    → start_of_last job l (suc k) v ≡ start_at (vertex job v) (row_at l v) (least_wanted job (start_of_last job l k) (taken_at l) v)
last_here job l k v e = cond-true (nat_eq v (length job.vertices - suc k)) _ _ (eq-eqb v (length job.vertices - suc k) e)

last_other : (job : JobNumbers) (l : Ledger) (k v : ℕ) → (v ≡ length job.vertices - suc k → ⊥) → start_of_last job l (suc k) v ≡ start_of_last job l k v
last_other job l k v e = cond-false (nat_eq v (length job.vertices - suc k)) _ _ (ne_eqb v (length job.vertices - suc k) e)

last_stays : (job : JobNumbers) (l : Ledger) (m k v : ℕ) → k ≤ m → m ≤ length job.vertices → length job.vertices - k ≤ v → v < length job.vertices
    → start_of_last job l m v ≡ start_of_last job l k v
last_stays job l zero k v h fits above below = absurd (omega arith)
last_stays job l (suc m) k v h fits above below = ⊎_elim
    (λ same. ap (λ j. start_of_last job l j v) (sym same))
    (λ differs. last_other job l m v (λ e. omega arith) ∙ last_stays job l m k v (omega arith) (omega arith) above below)
    (cases_eq k (suc m))

pub required_is : (job : JobNumbers) → IsNumbers job → (l : Ledger) (v : ℕ) → IsStream job v → IsLeast job (start job l) (taken_at l) v (required job l v)
unfolding required
required_is job numbers l v stream = least_is job numbers (start job l) (taken_at l) v stream

pub start_is : (job : JobNumbers) → IsNumbers job → (l : Ledger) (v : ℕ) → IsStream job v → start job l v ≡ start_at (vertex job v) (row_at l v) (required job l v)
unfolding start
start_is job numbers l v stream =
    let all = length job.vertices in
    let k = all - suc v in
    let here : v ≡ all - suc k = omega (arith, stream.0) in
    let of_last = least_is job numbers (start_of_last job l k) (taken_at l) v stream in
    let wanted : least_wanted job (start_of_last job l k) (taken_at l) v ≡ required job l v =
    least_same job (start_of_last job l k) (start_of_last job l all) (taken_at l) (taken_at l) v
    (least_wanted job (start_of_last job l k) (taken_at l) v) (required job l v) of_last (required_is job numbers l v stream)
    (λ w i r. let above = reader_above job numbers v w i r in
    sym (last_stays job l all k w (omega arith) (omega arith) (omega arith) (reader_stream job v w i r).0))
    (λ j s i. refl) in
    last_stays job l all (suc k) v (omega (arith, stream.0)) (omega arith) (omega arith) stream.0
    ∙ last_here job l k v here ∙ ap (start_at (vertex job v) (row_at l v)) wanted

pub start_inner : (x : VertexNumbers) (row : LedgerRow) (n : ℕ) → is_inner x.kind ≡ true → start_at x row n ≡ snap_within x row.snaps (max row.dur n)
unfolding start_at
start_inner x row n e = cond-true (is_inner x.kind) (snap_within x row.snaps (max row.dur n)) (max row.dur n) e

pub start_plain : (x : VertexNumbers) (row : LedgerRow) (n : ℕ) → is_inner x.kind ≡ false → start_at x row n ≡ max row.dur n
unfolding start_at
start_plain x row n e = cond-false (is_inner x.kind) (snap_within x row.snaps (max row.dur n)) (max row.dur n) e

pub low_le_start_at : (x : VertexNumbers) (row : LedgerRow) (n : ℕ) → row.mark ≤ row.dur → low x row ≤ start_at x row n
low_le_start_at x row n mark = by_kind x (low x row ≤ start_at x row n)
    (λ e. let more = within_grows x row.snaps row.snaps row.dur (max row.dur n) (omega arith) (λ m i o. i) in omega (arith, low_inner x row e, start_inner x row n e))
    (λ e. omega (arith, low_plain x row e, start_plain x row n e))

pub low_le_start : (job : JobNumbers) → IsNumbers job → (l : Ledger) (v : ℕ) → IsStream job v → (row_at l v).mark ≤ (row_at l v).dur → low_at job l v ≤ start job l v
low_le_start job numbers l v stream mark =
    let more = low_le_start_at (vertex job v) (row_at l v) (required job l v) mark in omega (arith, start_is job numbers l v stream)

pub need_le_required : (job : JobNumbers) → IsNumbers job → (l : Ledger) (v : ℕ) → IsStream job v → ((w : ℕ) → (row_at l w).mark ≤ (row_at l w).dur) → need job l v ≤ required job l v
need_le_required job numbers l v stream marks =
    least_mono job (low_at job l) (start job l) (taken_at l) (taken_at l) v (need job l v) (required job l v)
    (need_is job numbers l v stream) (required_is job numbers l v stream)
    (λ w i r. low_le_start job numbers l w (reader_stream job v w i r) (marks w)) (λ k s i. omega arith)

pub needed_in : (job : JobNumbers) (s : State) (v : ℕ) → Joint job s → IsStream job v
    → ((durable_at s v).base ≤ need job s.vault.ledger v) × (need job s.vault.ledger v ≤ required job s.vault.ledger v)
needed_in job s v joint stream = (
  base_le_need job s v (need job s.vault.ledger v) (joint_parts job s joint) (need_is job joint.numbers s.vault.ledger v stream),
  need_le_required job joint.numbers s.vault.ledger v stream (λ w. ((joint_parts job s joint).row w).mark),
)

pub mark_in : (job : JobNumbers) (s : State) (v : ℕ) → Joint job s → IsStream job v → is_inner (vertex job v).kind ≡ false
    → (durable_at s v).mark ≤ start job s.vault.ledger v
mark_in job s v joint stream plain =
    let l = s.vault.ledger in
    let more = low_le_start job joint.numbers l v stream ((joint_parts job s joint).row v).mark in omega (arith, low_plain (vertex job v) (row_at l v) plain)

-- what is told of these numbers outside

sink_reads : (job : JobNumbers) → IsNumbers job → (v k : ℕ) → IsSink job k → input (vertex job k) 0 ≡ v → Reads job v k 0
sink_reads job numbers v k sink is = record { is_vertex = sink.0; is_input = sink_input job numbers k sink; is_stream = is }

told : (job : JobNumbers) → IsNumbers job → (a t : ℕ → ℕ) (v n : ℕ) → IsLeast job a t v n → IsLeastWanted job a t v n
told job numbers a t v n least = record {
  readers = λ w i r e. least.readers w i e r.is_input r.is_stream;
  sinks = λ k r e. least.sinks k (r.is_vertex, e) r.is_stream;
  one = ⊎_elim
      (λ f. inl (f.0, f.1, record { is_vertex = in_job job f.0 f.1 f.3; is_input = f.3; is_stream = f.4 }, f.2, f.5))
      (λ f. inr (f.0, sink_reads job numbers v f.0 f.1 f.2, f.1.1, f.3)) least.one;
}

heard : (job : JobNumbers) → IsNumbers job → (a t : ℕ → ℕ) (v n : ℕ) → IsLeastWanted job a t v n → IsLeast job a t v n
heard job numbers a t v n least = record {
  readers = λ w i e h is. least.readers w i (record { is_vertex = in_job job w i h; is_input = h; is_stream = is }) e;
  sinks = λ k sink is. least.sinks k (sink_reads job numbers v k sink is) sink.1;
  one = ⊎_elim
      (λ f. inl (f.0, f.1, f.3, f.2.is_input, f.2.is_stream, f.4))
      (λ f. inr (f.0, (f.1.is_vertex, f.2), f.1.is_stream, f.3)) least.one;
}

pub least_wanted_is_one : LeastWantedIsOne
least_wanted_is_one job a t v m n numbers one other =
    least_same job a a t t v m n (heard job numbers a t v m one) (heard job numbers a t v n other) (λ w i r. refl) (λ k s i. refl)

pub need_is_least : NeedIsLeast
need_is_least job l v numbers stream = told job numbers (low_at job l) (taken_at l) v (need job l v) (need_is job numbers l v stream)

pub required_are_marks : RequiredAreMarks
required_are_marks job l numbers = record {
  least = λ v stream. told job numbers (start job l) (taken_at l) v (required job l v) (required_is job numbers l v stream);
  begins = λ v stream. start_is job numbers l v stream;
}

marks_from : (job : JobNumbers) → IsNumbers job → (l : Ledger) (wanted begin : ℕ → ℕ) → AreMarks job l wanted begin → (k v : ℕ) → length job.vertices - k ≤ v → IsStream job v
    → (wanted v ≡ required job l v) × (begin v ≡ start job l v)
marks_from job numbers l wanted begin marks zero v above stream = let within = stream.0 in absurd (omega arith)
marks_from job numbers l wanted begin marks (suc k) v above stream =
    let same : wanted v ≡ required job l v =
    least_same job begin (start job l) (taken_at l) (taken_at l) v (wanted v) (required job l v)
    (heard job numbers begin (taken_at l) v (wanted v) (marks.least v stream)) (required_is job numbers l v stream)
    (λ w i r. let higher = reader_above job numbers v w i r in (marks_from job numbers l wanted begin marks k w (omega arith) (reader_stream job v w i r)).1)
    (λ j s i. refl) in
    (same, marks.begins v stream ∙ ap (start_at (vertex job v) (row_at l v)) same ∙ sym (start_is job numbers l v stream))

pub marks_are_one : MarksAreOne
marks_are_one job l wanted begin numbers marks v stream = marks_from job numbers l wanted begin marks (length job.vertices) v (omega arith) stream
