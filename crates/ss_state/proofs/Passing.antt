-- The parts stand after a collect and after any part of a pass.
use Rattle.std.proofs.Common.{◌≡◌, ℕ, zero, suc, ◌<◌, ◌≤◌, max, true, false, List, [], ◌∷◌, length, ◌∙◌, subst, ⊎_elim, arith}
use Rattle.std.specs.List.{AllByRecursion}
use Rattle.std.proofs.lemmas.List.{length-set}
use Rattle.ss_state.specs.Numbers.{JobNumbers, is_inner, vertex, input, mlen, pos, size, IsStream, IsSink}
use Rattle.ss_state.specs.State.{TailNumbers, LedgerRow, Ledger, State, tail_at, row_at, durable_at}
use Rattle.ss_state.specs.LowWater.{low, low_at, taken_at, need}
use Rattle.ss_state.specs.Journal.{collected, trimmed, trimmed_row, passed_over}
use Rattle.ss_state.specs.IsNumbers.{IsNumbers}
use Rattle.ss_state.specs.Joint.{most_of}
use Rattle.ss_state.proofs.Parts.{PartsFit}
use Rattle.ss_state.proofs.Counting.{positions_never_fall}
use Rattle.ss_state.proofs.Lows.{low_grows, raised_stands, suits_dur}
use Rattle.ss_state.proofs.Frames.{in_job, RowMayBe, keep_row}
use Rattle.ss_state.proofs.Storing.{trimmed_may}
use Rattle.ss_state.proofs.Needs.{IsLeast, least_is}

pub need_is : (job : JobNumbers) → IsNumbers job → (l : Ledger) (v : ℕ) → IsStream job v → IsLeast job (low_at job l) (taken_at l) v (need job l v)
unfolding need
need_is job numbers l v stream = least_is job numbers (low_at job l) (taken_at l) v stream

-- what is needed of a stream is one of its elements, and in a tail that was never lost
pub record IsWithin (all : ℕ) (tail : TailNumbers) (n : ℕ) : Type 0 where
  pub most : n ≤ all
  pub whole : tail.torn ≡ false → n ≤ tail.end

need_within : (job : JobNumbers) → IsNumbers job → (s : State) (v n : ℕ) → PartsFit job s → IsLeast job (low_at job s.vault.ledger) (taken_at s.vault.ledger) v n
    → IsWithin (most_of job v) (tail_at s v) n
need_within job numbers s v n stands least = ⊎_elim
    (λ at_reader. of_reader at_reader.0 at_reader.1 at_reader.2 at_reader.3 at_reader.4 at_reader.5)
    (λ at_sink. of_sink at_sink.0 at_sink.1 at_sink.2 at_sink.3) least.one
  where
    of_reader : (w i : ℕ) → is_inner (vertex job w).kind ≡ true → i < length (vertex job w).inputs → input (vertex job w) i ≡ v
        → n ≡ pos (vertex job w) (low_at job s.vault.ledger w) i → IsWithin (most_of job v) (tail_at s v) n
    of_reader w i e h is same =
        let x = vertex job w in
        let mark = low x (durable_at s w) in
        let stored = (stands.row w).low e in
        let whole : pos x (mlen x) i ≡ size (vertex job v) = subst (λ u. pos x (mlen x) i ≡ size (vertex job u)) is ((numbers.each w (in_job job w i h)).whole e i h) in
        let may = (stands.row w).snaps mark stored in
        let below = positions_never_fall x mark (mlen x) i may.within in
        record {
          most = omega arith;
          whole = λ torn.
              let reaches : (tail_at s v).torn ≡ false → pos x mark i ≤ (tail_at s v).end =
              subst (λ u. (tail_at s u).torn ≡ false → pos x mark i ≤ (tail_at s u).end) is (stands.snapped w i mark stored h) in
              let there = reaches torn in omega arith;
        }

    of_sink : (k : ℕ) → IsSink job k → input (vertex job k) 0 ≡ v → n ≡ taken_at s.vault.ledger k → IsWithin (most_of job v) (tail_at s v) n
    of_sink k sink is same =
        let taken : (durable_at s k).taken ≤ (durable_at s v).dur = subst (λ u. (durable_at s k).taken ≤ (durable_at s u).dur) is (stands.taken k sink) in
        let tail = stands.tail v in
        record {
          most = omega (arith, tail.durable);
          whole = λ torn. let all = tail.whole torn in omega arith;
        }

pub collected_may : (job : JobNumbers) → IsNumbers job → (s : State) (v n : ℕ) → IsStream job v → PartsFit job s → IsLeast job (low_at job s.vault.ledger) (taken_at s.vault.ledger) v n
    → RowMayBe job s v (record (durable_at s v) { base = n; dur = max (durable_at s v).dur n })
collected_may job numbers s v n stream stands least =
    let row = durable_at s v in
    let within = need_within job numbers s v n stands least in
    let new : LedgerRow = record row { base = n; dur = max row.dur n } in
    let tail = stands.tail v in
    record {
      tail = record {
        order = tail.order;
        end = tail.end;
        durable = omega (arith, tail.durable, within.most);
        from = omega (arith, tail.from);
        seen = omega (arith, tail.seen);
        whole = λ e. let all = tail.whole e in let there = within.whole e in omega arith;
        count = tail.count;
      };
      stands = raised_stands job.max_elements (vertex job v) row n (max row.dur n) row.taken (stands.row v) (omega arith) (omega arith)
          (suits_dur (vertex job v).kind row n (max row.dur n) stream.1 (stands.row v).suits);
      snapped = λ i m e l. stands.snapped v i m e l;
      rise = low_grows (vertex job v) row new (omega arith) (omega arith) (λ e m i o. i);
      needed = λ w i e h is. least.readers w i e h is;
      untaken = λ k sink is. least.sinks k sink is;
      taken = omega arith;
      takes = λ e. stands.taken v e;
      dur = omega arith;
    }

-- the state with this ledger
abbrev pub with_ledger : State → Ledger → State
with_ledger s l = record s { vault = record s.vault { ledger = l } }

-- the parts stand beside a ledger with a row for each vertex
pub record Beside (job : JobNumbers) (s : State) (l : Ledger) : Type 0 where
  pub rows : length l.rows ≡ length job.vertices
  pub parts : PartsFit job (with_ledger s l)

pub collect_beside : (job : JobNumbers) → IsNumbers job → (s : State) (l : Ledger) (v : ℕ) → IsStream job v → Beside job s l → Beside job s (collected job l v)
collect_beside job numbers s l v stream beside =
    let n = need job l v in
    let row = row_at l v in
    record {
      rows = length-set l.rows v (record row { base = n; dur = max row.dur n }) ∙ beside.rows;
      parts = keep_row job numbers (with_ledger s l) v (record row { base = n; dur = max row.dur n }) l.since s.vault.journal (omega (arith, stream.0, beside.rows)) beside.parts
          (collected_may job numbers (with_ledger s l) v n stream beside.parts (need_is job numbers l v stream));
    }

pub trim_beside : (job : JobNumbers) → IsNumbers job → (s : State) (l : Ledger) (v : ℕ) → IsStream job v → Beside job s l → Beside job s (trimmed job l v)
trim_beside job numbers s l v stream beside =
    let new = trimmed_row (vertex job v) (row_at l v) in
    record {
      rows = length-set l.rows v new ∙ beside.rows;
      parts = keep_row job numbers (with_ledger s l) v new l.since s.vault.journal (omega (arith, stream.0, beside.rows)) beside.parts
          (trimmed_may job (with_ledger s l) v stream beside.parts);
    }

pub pass_beside : (job : JobNumbers) → IsNumbers job → (s : State) (l : Ledger) (vs : List ℕ) (halves : ℕ) → AllByRecursion (IsStream job) vs → Beside job s l
    → Beside job s (passed_over job l vs halves)
pass_beside job numbers s l [] halves streams beside = beside
pass_beside job numbers s l (v ∷ vs) zero streams beside = beside
pass_beside job numbers s l (v ∷ vs) (suc zero) streams beside = collect_beside job numbers s l v streams.0 beside
pass_beside job numbers s l (v ∷ vs) (suc (suc halves)) streams beside =
    pass_beside job numbers s (trimmed job (collected job l v) v) vs halves streams.1
    (trim_beside job numbers s (collected job l v) v streams.0 (collect_beside job numbers s l v streams.0 beside))
