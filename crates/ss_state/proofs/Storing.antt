-- The parts stand after a flush, a snap, a take and a trim.
use Rattle.std.proofs.Common.{◌≡◌, ℕ, ◌+◌, ◌<◌, ◌≤◌, max, false, length, subst, ⊎_elim, arith, true}
use Rattle.std.proofs.lemmas.Bool.{true≢false}
use Rattle.ss_water.specs.Graph.{is_sink}
use Rattle.ss_water.specs.declared.node.Kind.{Kind}
use Rattle.ss_water.specs.declared.node.Kind.TheVariants.{Sink}
use Rattle.ss_state.specs.Numbers.{JobNumbers, vertex, input, pos, IsStream, IsSink, is_inner}
use Rattle.ss_state.specs.State.{TailNumbers, InstNumbers, LedgerRow, State}
use Rattle.ss_state.specs.State.{tail_at, durable_at, put_tail}
use Rattle.ss_state.specs.LowWater.{low}
use Rattle.ss_state.specs.Journal.{is_one_of, put_in, trimmed_row}
use Rattle.ss_state.specs.Acts.{flushed_dur, flushed_tail}
use Rattle.ss_state.specs.Joint.{most_of}
use Rattle.ss_state.proofs.Parts.{TailFits, PartsFit}
use Rattle.ss_state.proofs.Snapshots.{one_of_put, put_other}
use Rattle.ss_state.proofs.Lows.{low_grows, raised_stands, put_stands, trims, suits_dur, suits_taken}
use Rattle.ss_state.proofs.Frames.{MayBe, RowMayBe, keep_tail}

-- a vertex that gives a stream is no sink
pub no_sink : (job : JobNumbers) (v : ℕ) → IsStream job v → IsSink job v → ⊥
no_sink job v stream sink = by_kind (vertex job v).kind stream.1 sink.1
  where
    by_kind : (k : Kind) → is_sink k ≡ false → k ≡ Sink → ⊥
    by_kind k a b = true≢false (subst (λ j. is_sink j ≡ false) b a)

-- Flush

-- dur may rise up to the end of the tail
pub raised_may : (job : JobNumbers) (s : State) (v dur : ℕ) → IsStream job v → PartsFit job s → (durable_at s v).dur ≤ dur → dur ≤ max (durable_at s v).dur (tail_at s v).end
    → RowMayBe job s v (record (durable_at s v) { dur = dur })
raised_may job s v dur stream stands h k =
    let row = durable_at s v in
    let tail = stands.tail v in
    let new : LedgerRow = record row { dur = dur } in
    record {
      tail = record {
        order = tail.order;
        end = tail.end;
        durable = omega (arith, tail.end, tail.durable);
        from = omega (arith, tail.from);
        seen = omega (arith, tail.seen);
        whole = λ e. let all = tail.whole e in omega arith;
        count = tail.count;
      };
      stands = raised_stands job.max_elements (vertex job v) row row.base dur row.taken (stands.row v) (omega (arith, (stands.row v).base)) h
          (suits_dur (vertex job v).kind row row.base dur stream.1 (stands.row v).suits);
      snapped = λ i n e l. stands.snapped v i n e l;
      rise = low_grows (vertex job v) row new h (omega arith) (λ e n i o. i);
      needed = λ w i e l is. subst (λ u. (durable_at s u).base ≤ pos (vertex job w) (low (vertex job w) (durable_at s w)) i) is (stands.needed w i e l);
      untaken = λ w e is. subst (λ u. (durable_at s u).base ≤ (durable_at s w).taken) is (stands.untaken w e);
      taken = omega arith;
      takes = λ e. stands.taken v e;
      dur = h;
    }

pub flushed_tail_stands : (all : ℕ) (tail : TailNumbers) (row : LedgerRow) (most : ℕ) → TailFits all tail row → row.base ≤ row.dur
    → TailFits all (flushed_tail tail most row) (record row { dur = flushed_dur tail most row })
flushed_tail_stands all tail row most stands h = record {
  order = omega (arith, stands.order);
  end = stands.end;
  durable = omega (arith, stands.durable, stands.end, stands.seen, stands.from, stands.order);
  from = omega (arith, stands.from);
  seen = omega (arith, stands.seen);
  whole = λ e. let whole = stands.whole e in omega (arith, stands.seen, stands.order);
  count = stands.count;
}

-- nothing was stored, and the tail was told
pub keep_told : (job : JobNumbers) (s : State) (v most : ℕ) → v < length s.tails → PartsFit job s → flushed_dur (tail_at s v) most (durable_at s v) ≡ (durable_at s v).dur
    → PartsFit job (put_tail s v (flushed_tail (tail_at s v) most (durable_at s v)))
keep_told job s v most h stands same =
    let tail = tail_at s v in
    let row = durable_at s v in
    keep_tail job s v (flushed_tail tail most row) h stands
    (subst (λ d. TailFits (most_of job v) (flushed_tail tail most row) (record row { dur = d })) same
    (flushed_tail_stands (most_of job v) tail row most (stands.tail v) (stands.row v).base))
    (λ e. (e, omega arith))

-- Snap

pub kept_may : (job : JobNumbers) (s : State) (v : ℕ) (up : InstNumbers) → is_inner (vertex job v).kind ≡ true → PartsFit job s → MayBe job s v up → is_one_of up.n (durable_at s v).snaps ≡ false
    → RowMayBe job s v (record (durable_at s v) { snaps = put_in up.n (durable_at s v).snaps })
kept_may job s v up inner stands may new_one =
    let row = durable_at s v in
    let new : LedgerRow = record row { snaps = put_in up.n row.snaps } in
    let tail = stands.tail v in
    record {
      tail = record { order = tail.order; end = tail.end; durable = tail.durable; from = tail.from; seen = tail.seen; whole = tail.whole; count = tail.count };
      stands = put_stands job.max_elements (vertex job v) row up.n inner (stands.row v) may.stands.accepted new_one;
      snapped = λ i n e h torn. ⊎_elim
          (λ same. subst (λ m. pos (vertex job v) m i ≤ (tail_at s (input (vertex job v) i)).end) same (may.read i h torn))
          (λ other. stands.snapped v i n other h torn) (one_of_put n up.n row.snaps e);
      rise = low_grows (vertex job v) row new (omega arith) (omega arith) (λ e m i o. put_other m up.n row.snaps i);
      needed = λ w i e l is. subst (λ u. (durable_at s u).base ≤ pos (vertex job w) (low (vertex job w) (durable_at s w)) i) is (stands.needed w i e l);
      untaken = λ w e is. subst (λ u. (durable_at s u).base ≤ (durable_at s w).taken) is (stands.untaken w e);
      taken = omega arith;
      takes = λ e. stands.taken v e;
      dur = omega arith;
    }

-- Take

pub took_may : (job : JobNumbers) (s : State) (k : ℕ) → IsSink job k → PartsFit job s → (durable_at s k).taken < (durable_at s (input (vertex job k) 0)).dur
    → RowMayBe job s k (record (durable_at s k) { taken = (durable_at s k).taken + 1 })
took_may job s k sink stands h =
    let row = durable_at s k in
    let new : LedgerRow = record row { taken = row.taken + 1 } in
    let tail = stands.tail k in
    record {
      tail = record { order = tail.order; end = tail.end; durable = tail.durable; from = tail.from; seen = tail.seen; whole = tail.whole; count = tail.count };
      stands = raised_stands job.max_elements (vertex job k) row row.base row.dur (row.taken + 1) (stands.row k) (stands.row k).base (omega arith)
          (suits_taken (vertex job k).kind row (row.taken + 1) sink.1 (stands.row k).suits);
      snapped = λ i n e l. stands.snapped k i n e l;
      rise = low_grows (vertex job k) row new (omega arith) (omega arith) (λ e n i o. i);
      needed = λ w i e l is. subst (λ u. (durable_at s u).base ≤ pos (vertex job w) (low (vertex job w) (durable_at s w)) i) is (stands.needed w i e l);
      untaken = λ w e is. subst (λ u. (durable_at s u).base ≤ (durable_at s w).taken) is (stands.untaken w e);
      taken = omega arith;
      takes = λ e. omega arith;
      dur = omega arith;
    }

-- Trim

pub trimmed_may : (job : JobNumbers) (s : State) (v : ℕ) → IsStream job v → PartsFit job s → RowMayBe job s v (trimmed_row (vertex job v) (durable_at s v))
trimmed_may job s v stream stands =
    let row = durable_at s v in
    let new = trimmed_row (vertex job v) row in
    let trim = trims job.max_elements (vertex job v) row stream.1 (stands.row v) in
    let tail = stands.tail v in
    record {
      tail = record {
        order = tail.order;
        end = tail.end;
        durable = omega (arith, trim.dur, tail.durable);
        from = omega (arith, trim.dur, tail.from);
        seen = omega (arith, trim.dur, tail.seen);
        whole = λ e. let all = tail.whole e in omega (arith, trim.dur);
        count = tail.count;
      };
      stands = trim.stands;
      snapped = λ i n e l. stands.snapped v i n (trim.snaps n e) l;
      rise = trim.rise;
      needed = λ w i e l is. let old = subst (λ u. (durable_at s u).base ≤ pos (vertex job w) (low (vertex job w) (durable_at s w)) i) is (stands.needed w i e l) in omega (arith, trim.base);
      untaken = λ w e is. let old = subst (λ u. (durable_at s u).base ≤ (durable_at s w).taken) is (stands.untaken w e) in omega (arith, trim.base);
      taken = omega (arith, trim.taken);
      takes = λ e. let old = stands.taken v e in omega (arith, trim.taken);
      dur = omega (arith, trim.dur);
    }
