-- What an entry of the journal does to the ledger, and where it may stand.
use Rattle.std.specs.Prelude.{◌≡◌, ℕ, zero, suc, ◌+◌, ◌*◌, max, ◌<◌, ◌≤◌, ◌==◌, nat_lt, nat_le, Bool, false}
use Rattle.std.specs.Prelude.{if◌then◌else◌, Option, Some, None, List, [], ◌∷◌, ◌++◌, length, filter, reverse}
use Rattle.std.specs.List.{list_any}
use Rattle.ss_state.specs.declared.entry.Entry.{Entry}
use Rattle.ss_state.specs.declared.entry.Entry.TheVariants.{Flushed, Kept, Took, Collected, Trimmed, Pass}
use Rattle.ss_state.specs.Numbers.{VertexNumbers, JobNumbers, IsStream, IsOperator, IsSink, is_inner, vertex, streams}
use Rattle.ss_state.specs.Numbers.{input, mlen, size}
use Rattle.ss_state.specs.State.{LedgerRow, Ledger, VaultNumbers, row_at, put_row, first_ledger}
use Rattle.ss_state.specs.LowWater.{low, low_at, need}

-- a number put in its place among rising ones
abbrev pub put_in : ℕ → List ℕ → List ℕ
put_in n [] = n ∷ []
put_in n (m ∷ ms) = if nat_lt n m then n ∷ m ∷ ms else m ∷ put_in n ms

-- whether a number is one of these
abbrev pub is_one_of : ℕ → List ℕ → Bool
is_one_of n ns = list_any (λ m. m == n) ns

-- stream v has `count` stored elements more
abbrev pub flushed : Ledger → ℕ → ℕ → Ledger
flushed l v count =
    let row = row_at l v in
    record (put_row l v (record row { dur = row.dur + count })) { since = l.since + count }

-- snapshot n of vertex v is stored
abbrev pub kept : Ledger → ℕ → ℕ → Ledger
kept l v n = let row = row_at l v in put_row l v (record row { snaps = put_in n row.snaps })

-- sink k has put one line more
abbrev pub took : Ledger → ℕ → Ledger
took l k = let row = row_at l k in put_row l k (record row { taken = row.taken + 1 })

-- the stored elements of v that no reader needs are dropped; where fewer are stored than aren't needed, dur goes ahead
abbrev pub collected : JobNumbers → Ledger → ℕ → Ledger
collected job l v =
    let row = row_at l v in
    put_row l v (record row { base = need job l v; dur = max row.dur (need job l v) })

-- what is stored for the vertex itself and needed no more is given up
abbrev pub trimmed_row : VertexNumbers → LedgerRow → LedgerRow
trimmed_row x row =
    if is_inner x.kind then record row { snaps = filter (λ n. nat_le (low x row) n) row.snaps }
    else record row { mark = row.dur }

abbrev pub trimmed : JobNumbers → Ledger → ℕ → Ledger
trimmed job l v = put_row l v (trimmed_row (vertex job v) (row_at l v))

-- each of these streams is collected and then its vertex trimmed, as far as the first so many of these halves go
abbrev pub passed_over : JobNumbers → Ledger → List ℕ → ℕ → Ledger
passed_over job l [] halves = l
passed_over job l (v ∷ vs) zero = l
passed_over job l (v ∷ vs) (suc zero) = collected job l v
passed_over job l (v ∷ vs) (suc (suc halves)) = passed_over job (trimmed job (collected job l v) v) vs halves

-- the order of a pass: the streams from the last declared to the first
abbrev pub pass_order : JobNumbers → List ℕ
pass_order job = reverse (streams job)

-- how many halves a whole pass has
abbrev pub all_halves : JobNumbers → ℕ
all_halves job = 2 * length (pass_order job)

-- so many halves of a pass were made, and where it is whole, what is stored from now on is counted anew
abbrev pub passed : JobNumbers → Ledger → ℕ → Ledger
passed job l halves =
    record (passed_over job l (pass_order job) halves) { since = if nat_lt halves (all_halves job) then l.since else 0 }

-- the ledger after an entry
unfoldable pub change : JobNumbers → Ledger → Entry → Ledger
change job l (Flushed v count) = flushed l v count
change job l (Kept v n) = kept l v n
change job l (Took k) = took l k
change job l (Collected v) = collected job l v
change job l (Trimmed v) = trimmed job l v
change job l (Pass halves) = passed job l halves

-- the ledger after entries
abbrev pub changes : JobNumbers → Ledger → List Entry → Ledger
changes job l [] = l
changes job l (entry ∷ entries) = changes job (change job l entry) entries

-- the ledger that a journal tells
abbrev pub replay : JobNumbers → List Entry → Ledger
replay job journal = changes job (first_ledger job) journal

-- what one entry more does to the vault; None is no entry
abbrev pub enter : JobNumbers → VaultNumbers → Option Entry → VaultNumbers
enter job vault None = vault
enter job vault (Some entry) =
    record { ledger = change job vault.ledger entry; journal = vault.journal ++ entry ∷ [] }

-- so many elements of stream v may be stored at once
pub record MayFlush (job : JobNumbers) (l : Ledger) (v count : ℕ) : Type 0 where
  pub stream : IsStream job v
  pub few : count ≤ 64
  pub within : (row_at l v).dur + count ≤ size (vertex job v)
  pub since : l.since + count ≤ job.collect_every

-- snapshot n of operator v may be stored
pub record MayKeep (job : JobNumbers) (l : Ledger) (v n : ℕ) : Type 0 where
  pub operator : IsOperator job v
  pub within : n ≤ mlen (vertex job v)
  pub new : is_one_of n (row_at l v).snaps ≡ false
  pub above : low_at job l v ≤ n

-- the entry may stand behind a journal that tells this ledger
abbrev pub IsLawful : JobNumbers → Ledger → Entry → Type 0
IsLawful job l (Flushed v count) = MayFlush job l v count
IsLawful job l (Kept v n) = MayKeep job l v n
IsLawful job l (Took k) = IsSink job k × ((row_at l k).taken < (row_at l (input (vertex job k) 0)).dur)
IsLawful job l (Collected v) = IsStream job v
IsLawful job l (Trimmed v) = IsStream job v
IsLawful job l (Pass halves) = halves ≤ all_halves job

-- each of these entries may stand where it does, the first behind a journal that tells this ledger
abbrev pub AreLawful : JobNumbers → Ledger → List Entry → Type 0
AreLawful job l [] = Unit {0}
AreLawful job l (entry ∷ entries) = IsLawful job l entry × AreLawful job (change job l entry) entries

-- each entry of a whole journal may stand where it does
abbrev pub Lawful : JobNumbers → List Entry → Type 0
Lawful job journal = AreLawful job (first_ledger job) journal
