-- What an entry changes in a ledger, row by row.
use Rattle.std.proofs.Common.{◌≡◌, ◌≢◌, ℕ, ◌+◌, ◌<◌, Some, List, [], ◌∷◌, ◌++◌, length, get_or, set, ap, ap₂, ◌∙◌}
use Rattle.std.proofs.lemmas.List.{get_or-set_same, get_or-set_other}
use Rattle.ss_state.specs.Journal.{change, enter, flushed, kept, took, put_in}
use Rattle.ss_state.specs.Numbers.{JobNumbers}
use Rattle.ss_state.specs.State.{LedgerRow, Ledger, VaultNumbers, empty_row, row_at}
use Rattle.ss_state.specs.declared.entry.Entry.{Entry}
use Rattle.ss_state.specs.declared.entry.Entry.TheVariants as entry

-- the ledger behind an entry
pub flushed_is : (job : JobNumbers) (n m : VaultNumbers) (v count : ℕ) → m ≡ enter job n (Some (entry.Flushed v count))
    → m.ledger ≡ flushed n.ledger v count
unfolding change
flushed_is job n m v count e = ap (λ (x : VaultNumbers). x.ledger) e

pub kept_is : (job : JobNumbers) (n m : VaultNumbers) (v k : ℕ) → m ≡ enter job n (Some (entry.Kept v k))
    → m.ledger ≡ kept n.ledger v k
unfolding change
kept_is job n m v k e = ap (λ (x : VaultNumbers). x.ledger) e

pub took_is : (job : JobNumbers) (n m : VaultNumbers) (k : ℕ) → m ≡ enter job n (Some (entry.Took k))
    → m.ledger ≡ took n.ledger k
unfolding change
took_is job n m k e = ap (λ (x : VaultNumbers). x.ledger) e

abbrev numbers_with : Ledger → List Entry → VaultNumbers
numbers_with l journal = record { ledger = l; journal = journal }

-- numbers whose ledger and journal changed so are those that the entry makes
pub flushed_enters : (job : JobNumbers) (n m : VaultNumbers) (v count : ℕ) → m.ledger ≡ flushed n.ledger v count
    → m.journal ≡ n.journal ++ entry.Flushed v count ∷ [] → m ≡ enter job n (Some (entry.Flushed v count))
unfolding change
flushed_enters job n m v count e f = ap₂ numbers_with e f

pub kept_enters : (job : JobNumbers) (n m : VaultNumbers) (v k : ℕ) → m.ledger ≡ kept n.ledger v k
    → m.journal ≡ n.journal ++ entry.Kept v k ∷ [] → m ≡ enter job n (Some (entry.Kept v k))
unfolding change
kept_enters job n m v k e f = ap₂ numbers_with e f

pub took_enters : (job : JobNumbers) (n m : VaultNumbers) (k : ℕ) → m.ledger ≡ took n.ledger k
    → m.journal ≡ n.journal ++ entry.Took k ∷ [] → m ≡ enter job n (Some (entry.Took k))
unfolding change
took_enters job n m k e f = ap₂ numbers_with e f

-- one row of a ledger that changed
pub same_row : (l : Ledger) (rows : List LedgerRow) (v : ℕ) (row : LedgerRow) → v < length l.rows → rows ≡ set l.rows v row
    → get_or rows v empty_row ≡ row
same_row l rows v row within e =
    ap (λ (x : List LedgerRow). get_or x v empty_row) e ∙ get_or-set_same l.rows v row empty_row within

pub other_row : (l : Ledger) (rows : List LedgerRow) (v w : ℕ) (row : LedgerRow) → w ≢ v → rows ≡ set l.rows v row
    → get_or rows w empty_row ≡ row_at l w
other_row l rows v w row other e =
    ap (λ (x : List LedgerRow). get_or x w empty_row) e ∙ get_or-set_other l.rows v w row empty_row other

abbrev pub rows_of : Ledger → List LedgerRow
rows_of l = l.rows

-- ---- after a flush

abbrev flushed_row : Ledger → ℕ → ℕ → LedgerRow
flushed_row l v count = record (row_at l v) { dur = (row_at l v).dur + count }

pub flushed_same : (l m : Ledger) (v count : ℕ) → v < length l.rows → m ≡ flushed l v count
    → row_at m v ≡ record (row_at l v) { dur = (row_at l v).dur + count }
flushed_same l m v count within e = same_row l m.rows v (flushed_row l v count) within (ap rows_of e)

pub flushed_other : (l m : Ledger) (v w count : ℕ) → w ≢ v → m ≡ flushed l v count → row_at m w ≡ row_at l w
flushed_other l m v w count other e = other_row l m.rows v w (flushed_row l v count) other (ap rows_of e)

-- ---- after a keep

abbrev kept_row : Ledger → ℕ → ℕ → LedgerRow
kept_row l v n = record (row_at l v) { snaps = put_in n (row_at l v).snaps }

pub kept_same : (l m : Ledger) (v n : ℕ) → v < length l.rows → m ≡ kept l v n
    → row_at m v ≡ record (row_at l v) { snaps = put_in n (row_at l v).snaps }
kept_same l m v n within e = same_row l m.rows v (kept_row l v n) within (ap rows_of e)

pub kept_other : (l m : Ledger) (v w n : ℕ) → w ≢ v → m ≡ kept l v n → row_at m w ≡ row_at l w
kept_other l m v w n other e = other_row l m.rows v w (kept_row l v n) other (ap rows_of e)

-- ---- after a take

abbrev took_row : Ledger → ℕ → LedgerRow
took_row l k = record (row_at l k) { taken = (row_at l k).taken + 1 }

pub took_same : (l m : Ledger) (k : ℕ) → k < length l.rows → m ≡ took l k
    → row_at m k ≡ record (row_at l k) { taken = (row_at l k).taken + 1 }
took_same l m k within e = same_row l m.rows k (took_row l k) within (ap rows_of e)

pub took_other : (l m : Ledger) (k w : ℕ) → w ≢ k → m ≡ took l k → row_at m w ≡ row_at l w
took_other l m k w other e = other_row l m.rows k w (took_row l k) other (ap rows_of e)
