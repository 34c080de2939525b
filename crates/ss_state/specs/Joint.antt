-- What is true of a running job between any two acts.
use Rattle.std.specs.Prelude.{◌≡◌, ℕ, ◌-◌, ◌^◌, min, ◌<◌, ◌≤◌, true, false, Some, IfSome, List, [], ◌∷◌, length}
use Rattle.std.specs.List.{AllByRecursion}
use Rattle.ss_water.specs.declared.node.Kind.{Kind}
use Rattle.ss_water.specs.declared.node.Kind.TheVariants.{Source, Inner, Sink}
use Rattle.ss_state.specs.Numbers.{VertexNumbers, JobNumbers, IsSink, is_inner, vertex, input, mlen, pos, out, size}
use Rattle.ss_state.specs.State.{TailNumbers, InstNumbers, LedgerRow, Ledger, VaultNumbers, State, row_at}
use Rattle.ss_state.specs.State.{tail_at, insts_at, inst_at, durable_at}
use Rattle.ss_state.specs.LowWater.{low, low_at}
use Rattle.ss_state.specs.Journal.{is_one_of, replay, Lawful}
use Rattle.ss_state.specs.IsNumbers.{IsNumbers}

-- each of these numbers is below those behind it
abbrev pub Rises : List ℕ → Type 0
Rises [] = Unit {0}
Rises (n ∷ ns) = AllByRecursion (λ m. n < m) ns × Rises ns

-- how many elements of stream v there can be: all of them, or as many as a stream may have
abbrev pub most_of : JobNumbers → ℕ → ℕ
most_of job v = min (size (vertex job v)) job.max_elements

-- a tail of a stream of which there can be so many elements, beside what is stored of it
pub record TailStands (most : ℕ) (tail : TailNumbers) (row : LedgerRow) : Type 0 where
  pub order : tail.from ≤ tail.end
  pub end : tail.end ≤ most
  pub from : tail.from ≤ row.dur
  pub seen : tail.seen ≤ row.dur
  -- one that was never lost has all that is stored
  pub whole : tail.torn ≡ false → row.dur ≤ tail.end
  pub count : tail.stored < 2 ^ 64

-- a vertex may have accepted n elements, where no stream may have more than so many
pub record MayAccept (most : ℕ) (x : VertexNumbers) (n : ℕ) : Type 0 where
  pub within : n ≤ mlen x
  pub out : out x n ≤ most
  pub pos : (i : ℕ) → pos x n i ≤ most

-- a replica that is up: what it has left was given at the last element that it accepted
pub record InstStands (most : ℕ) (x : VertexNumbers) (up : InstNumbers) : Type 0 where
  pub accepted : MayAccept most x up.n
  pub left : up.left ≤ out x up.n - out x (up.n - 1)

-- what a vertex of this kind doesn't have is 0, or no snapshot
abbrev pub Suits : Kind → LedgerRow → Type 0
Suits Source row = (row.snaps ≡ []) × (row.taken ≡ 0)
Suits Inner row = (row.mark ≡ 0) × (row.taken ≡ 0)
Suits Sink row = (row.dur ≡ 0) × (row.snaps ≡ []) × (row.mark ≡ 0)

-- what is stored of a vertex
pub record RowStands (most : ℕ) (x : VertexNumbers) (row : LedgerRow) : Type 0 where
  pub suits : Suits x.kind row
  pub base : row.base ≤ row.dur
  pub mark : row.mark ≤ row.dur
  pub dur : row.dur ≤ min (size x) most
  pub rises : Rises row.snaps
  pub snaps : (n : ℕ) → is_one_of n row.snaps ≡ true → MayAccept most x n
  -- an operator's low-water mark is a stored snapshot
  pub low : is_inner x.kind ≡ true → is_one_of (low x row) row.snaps ≡ true

-- a tail that was never lost reaches number n
abbrev pub Reaches : TailNumbers → ℕ → Type 0
Reaches tail n = tail.torn ≡ false → n ≤ tail.end

-- the tails and replicas of a running job stand, beside each other and beside what is stored
pub record MemoryStands (job : JobNumbers) (s : State) : Type 0 where
  pub tail : (v : ℕ) → TailStands (most_of job v) (tail_at s v) (durable_at s v)
  pub inst : (v r : ℕ) → IfSome (inst_at s v r) (InstStands job.max_elements (vertex job v))
  -- a tail that was never lost reaches what any replica has read of it, and what any stored snapshot has
  pub read : (w r i : ℕ) (up : InstNumbers) → inst_at s w r ≡ Some up → i < length (vertex job w).inputs
      → Reaches (tail_at s (input (vertex job w) i)) (pos (vertex job w) up.n i)
  pub snapped : (w i n : ℕ) → is_one_of n (durable_at s w).snaps ≡ true → i < length (vertex job w).inputs
      → Reaches (tail_at s (input (vertex job w) i)) (pos (vertex job w) n i)

-- the rows of a ledger stand, each for itself and beside the others
pub record LedgerStands (job : JobNumbers) (l : Ledger) : Type 0 where
  pub rows : length l.rows ≡ length job.vertices
  pub row : (v : ℕ) → RowStands job.max_elements (vertex job v) (row_at l v)
  -- what an operator needs that starts from its low-water mark is there, and what a sink hasn't taken
  pub needed : (w i : ℕ) → is_inner (vertex job w).kind ≡ true → i < length (vertex job w).inputs
      → (row_at l (input (vertex job w) i)).base ≤ pos (vertex job w) (low_at job l w) i
  pub untaken : (k : ℕ) → IsSink job k → (row_at l (input (vertex job k) 0)).base ≤ (row_at l k).taken
  -- a sink takes stored elements alone
  pub taken : (k : ℕ) → IsSink job k → (row_at l k).taken ≤ (row_at l (input (vertex job k) 0)).dur
  pub since : l.since ≤ job.collect_every

-- the journal tells the ledger, and each of its entries may stand where it does
pub record IsRecorded (job : JobNumbers) (vault : VaultNumbers) : Type 0 where
  pub lawful : Lawful job vault.journal
  pub ledger : vault.ledger ≡ replay job vault.journal

-- the durable side between any two changes
pub record IsSound (job : JobNumbers) (vault : VaultNumbers) : Type 0 where
  pub stands : LedgerStands job vault.ledger
  pub recorded : IsRecorded job vault

-- a running job between any two acts
pub record Joint (job : JobNumbers) (s : State) : Type 0 where
  pub numbers : IsNumbers job
  pub tails : length s.tails ≡ length job.vertices
  pub insts : length s.insts ≡ length job.vertices
  pub replicas : (v : ℕ) → length (insts_at s v) ≡ (vertex job v).replicas
  pub memory : MemoryStands job s
  pub vault : IsSound job s.vault
