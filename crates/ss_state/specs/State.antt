-- The numbers of a running job.
use Rattle.std.specs.Prelude.{ℕ, ◌-◌, Bool, false, Option, Some, None, List, [], ◌∷◌, get_or, set, map, replicate}
use Rattle.ss_water.specs.declared.node.Kind.{Kind}
use Rattle.ss_water.specs.declared.node.Kind.TheVariants.{Source, Inner, Sink}
use Rattle.ss_state.specs.declared.entry.Entry.{Entry}
use Rattle.ss_state.specs.Numbers.{VertexNumbers, JobNumbers, out}

-- the tail of a stream: the elements in memory, with the numbers from `from` up to and without `end`
pub record TailNumbers : Type 0 where
  pub from : ℕ
  pub end : ℕ
  -- the `dur` that it was last told
  pub seen : ℕ
  -- whether it was ever lost or begun anew
  pub torn : Bool
  -- how many writes added an element to it; from 2^64 - 1 on it stands still
  pub stored : ℕ

-- a replica that is up: how many elements it has accepted, and how many that it has made and not written yet
pub record InstNumbers : Type 0 where
  pub n : ℕ
  pub left : ℕ

-- what is stored of a vertex; what a vertex of its kind doesn't have is 0, or no snapshot
pub record LedgerRow : Type 0 where
  -- the durable elements of its stream are those from `base` up to and without `dur`
  pub base : ℕ
  pub dur : ℕ
  -- of an operator, after how many elements its stored snapshots were made, rising
  pub snaps : List ℕ
  -- of a source, below which element its list isn't asked for any more
  pub mark : ℕ
  -- of a sink, how many lines it has put
  pub taken : ℕ

-- what is stored of each vertex, and how many elements were stored since the last whole pass
pub record Ledger : Type 0 where
  pub rows : List LedgerRow
  pub since : ℕ

-- the durable side: the ledger, and the entries that made it
pub record VaultNumbers : Type 0 where
  pub ledger : Ledger
  pub journal : List Entry

-- a running job: a tail for each vertex, for each its replicas (None is one that is down), and the vault
pub record State : Type 0 where
  pub tails : List TailNumbers
  pub insts : List (List (Option InstNumbers))
  pub vault : VaultNumbers

-- the tail of a stream that has begun and was never lost
abbrev pub new_tail : TailNumbers
new_tail = record { from = 0; end = 0; seen = 0; torn = false; stored = 0 }

-- what is stored of a sink at the start
abbrev pub empty_row : LedgerRow
empty_row = record { base = 0; dur = 0; snaps = []; mark = 0; taken = 0 }

abbrev pub tail_at : State → ℕ → TailNumbers
tail_at s v = get_or s.tails v new_tail

abbrev pub insts_at : State → ℕ → List (Option InstNumbers)
insts_at s v = get_or s.insts v []

-- replica r of vertex v
abbrev pub inst_at : State → ℕ → ℕ → Option InstNumbers
inst_at s v r = get_or (insts_at s v) r None

abbrev pub row_at : Ledger → ℕ → LedgerRow
row_at l v = get_or l.rows v empty_row

-- what is durable of vertex v in a running job
abbrev pub durable_at : State → ℕ → LedgerRow
durable_at s v = row_at s.vault.ledger v

abbrev pub put_tail : State → ℕ → TailNumbers → State
put_tail s v tail = record s { tails = set s.tails v tail }

abbrev pub put_inst : State → ℕ → ℕ → Option InstNumbers → State
put_inst s v r inst = record s { insts = set s.insts v (set (insts_at s v) r inst) }

abbrev pub put_row : Ledger → ℕ → LedgerRow → Ledger
put_row l v row = record l { rows = set l.rows v row }

-- the number of the next element that a replica writes
abbrev pub next : VertexNumbers → InstNumbers → ℕ
next x up = out x up.n - up.left

-- the snapshots that are stored at the start: of an operator the one after no element
abbrev pub first_snaps : Kind → List ℕ
first_snaps Source = []
first_snaps Inner = 0 ∷ []
first_snaps Sink = []

abbrev pub first_row : VertexNumbers → LedgerRow
first_row x = record empty_row { snaps = first_snaps x.kind }

abbrev pub first_ledger : JobNumbers → Ledger
first_ledger job = record { rows = map first_row job.vertices; since = 0 }

-- the replicas of a vertex at the start, which are up and have accepted nothing
abbrev pub first_insts : VertexNumbers → List (Option InstNumbers)
first_insts x = replicate x.replicas (Some (record { n = 0; left = 0 }))

-- a job that has just been started
abbrev pub first_state : JobNumbers → State
first_state job = record {
  tails = map (λ x. new_tail) job.vertices;
  insts = map first_insts job.vertices;
  vault = record { ledger = first_ledger job; journal = [] };
}
