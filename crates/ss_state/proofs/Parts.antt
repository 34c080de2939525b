-- What stands of a running job, in the form in which the proofs carry it from state to state: memory and ledger as one.
use Rattle.std.proofs.Common.{◌≡◌, ℕ, ◌^◌, ◌<◌, ◌≤◌, true, false, Some, IfSome, length}
use Rattle.ss_state.specs.Numbers.{VertexNumbers, JobNumbers, IsSink, is_inner, vertex, input, pos}
use Rattle.ss_state.specs.State.{TailNumbers, InstNumbers, LedgerRow, State, tail_at, inst_at, durable_at}
use Rattle.ss_state.specs.LowWater.{low}
use Rattle.ss_state.specs.Journal.{is_one_of}
use Rattle.ss_state.specs.Joint.{most_of, Rises, MayAccept, Suits, Reaches, InstStands, MemoryStands, LedgerStands, Joint}

-- a tail, and the dur of its stream
pub record TailFits (most : ℕ) (tail : TailNumbers) (row : LedgerRow) : Type 0 where
  pub order : tail.from ≤ tail.end
  pub end : tail.end ≤ most
  pub durable : row.dur ≤ most
  pub from : tail.from ≤ row.dur
  pub seen : tail.seen ≤ row.dur
  pub whole : tail.torn ≡ false → row.dur ≤ tail.end
  pub count : tail.stored < 2 ^ 64

-- a row but for its dur
pub record RowFits (most : ℕ) (x : VertexNumbers) (row : LedgerRow) : Type 0 where
  pub suits : Suits x.kind row
  pub base : row.base ≤ row.dur
  pub mark : row.mark ≤ row.dur
  pub rises : Rises row.snaps
  pub snaps : (n : ℕ) → is_one_of n row.snaps ≡ true → MayAccept most x n
  pub low : is_inner x.kind ≡ true → is_one_of (low x row) row.snaps ≡ true

pub record PartsFit (job : JobNumbers) (s : State) : Type 0 where
  pub tail : (v : ℕ) → TailFits (most_of job v) (tail_at s v) (durable_at s v)
  pub inst : (v r : ℕ) → IfSome (inst_at s v r) (InstStands job.max_elements (vertex job v))
  pub row : (v : ℕ) → RowFits job.max_elements (vertex job v) (durable_at s v)
  pub read : (w r i : ℕ) (up : InstNumbers) → inst_at s w r ≡ Some up → i < length (vertex job w).inputs
      → Reaches (tail_at s (input (vertex job w) i)) (pos (vertex job w) up.n i)
  pub snapped : (w i n : ℕ) → is_one_of n (durable_at s w).snaps ≡ true → i < length (vertex job w).inputs
      → Reaches (tail_at s (input (vertex job w) i)) (pos (vertex job w) n i)
  pub needed : (w i : ℕ) → is_inner (vertex job w).kind ≡ true → i < length (vertex job w).inputs
      → (durable_at s (input (vertex job w) i)).base ≤ pos (vertex job w) (low (vertex job w) (durable_at s w)) i
  pub untaken : (k : ℕ) → IsSink job k → (durable_at s (input (vertex job k) 0)).base ≤ (durable_at s k).taken
  pub taken : (k : ℕ) → IsSink job k → (durable_at s k).taken ≤ (durable_at s (input (vertex job k) 0)).dur

-- from memory and ledger, and back

pub parts_fit : (job : JobNumbers) (s : State) → MemoryStands job s → LedgerStands job s.vault.ledger → PartsFit job s
parts_fit job s memory ledger = record {
  tail = λ v.
      let tail = memory.tail v in
      record { order = tail.order; end = tail.end; durable = (ledger.row v).dur; from = tail.from; seen = tail.seen; whole = tail.whole; count = tail.count };
  inst = memory.inst;
  row = λ v.
      let row = ledger.row v in
      record { suits = row.suits; base = row.base; mark = row.mark; rises = row.rises; snaps = row.snaps; low = row.low };
  read = memory.read;
  snapped = memory.snapped;
  needed = ledger.needed;
  untaken = ledger.untaken;
  taken = ledger.taken;
}

pub memory_of : (job : JobNumbers) (s : State) → PartsFit job s → MemoryStands job s
memory_of job s fit = record {
  tail = λ v.
      let tail = fit.tail v in
      record { order = tail.order; end = tail.end; from = tail.from; seen = tail.seen; whole = tail.whole; count = tail.count };
  inst = fit.inst;
  read = fit.read;
  snapped = fit.snapped;
}

pub ledger_of : (job : JobNumbers) (s : State) → length s.vault.ledger.rows ≡ length job.vertices → s.vault.ledger.since ≤ job.collect_every → PartsFit job s
    → LedgerStands job s.vault.ledger
ledger_of job s rows since fit = record {
  rows = rows;
  row = λ v.
      let row = fit.row v in
      record { suits = row.suits; base = row.base; mark = row.mark; dur = (fit.tail v).durable; rises = row.rises; snaps = row.snaps; low = row.low };
  needed = fit.needed;
  untaken = fit.untaken;
  taken = fit.taken;
  since = since;
}

pub joint_parts : (job : JobNumbers) (s : State) → Joint job s → PartsFit job s
joint_parts job s joint = parts_fit job s joint.memory joint.vault.stands
