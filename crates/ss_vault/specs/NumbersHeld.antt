-- What a vault keeps of its numbers.
use Rattle.std.specs.Prelude.{◌≡◌, ℕ, max, nat_lt, nat_le, Bool, true, not, List, [], ◌∷◌, get_or, map, replicate}
use Rattle.std.specs.Prelude.{filter, slice_get, sum_by, Some}
use Rattle.std.specs.Prelude.{if◌then◌else◌}
use Rattle.ss_state.specs.State.{LedgerRow, Ledger, VaultNumbers, empty_row, first_snaps, put_row, row_at}
use Rattle.ss_water.specs.Graph.{is_sink}
use Rattle.ss_water.specs.Needs.{Stored}
use Rattle.ss_water.specs.Starts.{HasStart, RisesInN}
use Rattle.ss_water.specs.declared.node.Kind.{Kind}
use Rattle.ss_water.specs.declared.node.Kind.TheVariants.{Source, Inner, Sink}
use Rattle.ss_water.specs.declared.node.Node.{Node}
use Rattle.ss_water.specs.declared.snap_row.SnapRow.{SnapRow}

-- the ledger and the journal; of each vertex its stored snapshots, and whether it has no lines left to put; and how
-- many places are reserved, in the journal and behind the snapshots of each vertex, as only what asks for places needs
pub record NumbersHeld : Type 0 where
  pub numbers : VaultNumbers
  pub snaps : List (List SnapRow)
  pub ended : List Bool
  pub places : ℕ
  pub snap_places : List ℕ

-- the stored snapshots of vertex v
abbrev pub snaps_held : NumbersHeld → ℕ → List SnapRow
snaps_held held v = get_or held.snaps v []

-- whether vertex v has no lines left to put
abbrev pub ended_held : NumbersHeld → ℕ → Bool
ended_held held v = get_or held.ended v true

-- how many places are reserved behind the snapshots of vertex v
abbrev pub places_held : NumbersHeld → ℕ → ℕ
places_held held v = get_or held.snap_places v 0

-- how many elements are stored of all streams
abbrev pub all_stored : Ledger → ℕ
all_stored l = sum_by (λ row. row.dur) l.rows

-- a snapshot put in its place among rising ones
abbrev pub put_snap : SnapRow → List SnapRow → List SnapRow
put_snap snap [] = snap ∷ []
put_snap snap (other ∷ others) =
    if nat_lt snap.n other.n then snap ∷ other ∷ others else other ∷ put_snap snap others

-- the snapshots that aren't below number n
abbrev pub snaps_from_number : ℕ → List SnapRow → List SnapRow
snaps_from_number n snaps = filter (λ snap. nat_le n snap.n) snaps

-- what is told of the greatest of these snapshots that has given at most so many elements, 0 where there is none
abbrev pub greatest_within : List SnapRow → ℕ → ℕ
greatest_within [] limit = 0
greatest_within (snap ∷ snaps) limit = max (if nat_le snap.out limit then snap.n else 0) (greatest_within snaps limit)

-- the first snapshot of an operator
abbrev pub first_snap : SnapRow
first_snap = record { n = 0; out = 0; pos = replicate 8 0 }

-- the snapshots that are stored at the start
abbrev pub first_rows : Kind → List SnapRow
first_rows Source = []
first_rows Inner = first_snap ∷ []
first_rows Sink = []

-- the row of a vertex of this kind at the start
abbrev pub first_row_of : Kind → LedgerRow
first_row_of kind = record empty_row { snaps = first_snaps kind }

-- the numbers of a job with these nodes, before anything is stored
pub record AreFirst (nodes : List Node) (held : NumbersHeld) : Type 0 where
  pub rows : held.numbers.ledger.rows ≡ map (λ node. first_row_of node.kind) nodes
  pub since : held.numbers.ledger.since ≡ 0
  pub journal : held.numbers.journal ≡ []
  pub snaps : held.snaps ≡ map (λ node. first_rows node.kind) nodes
  pub ended : held.ended ≡ map (λ node. not (is_sink node.kind)) nodes

-- of each vertex its snapshots, how many elements of its stream are stored, and how many lines it has put
abbrev pub stored_of : NumbersHeld → Stored
stored_of held = record {
  rows = held.snaps;
  dur = map (λ row. row.dur) held.numbers.ledger.rows;
  taken = map (λ row. row.taken) held.numbers.ledger.rows;
}

-- each operator among these nodes can be recovered from one of its snapshots, which rise
pub record CanRecover (nodes : List Node) (held : NumbersHeld) : Type 0 where
  pub rise : (w : ℕ) (node : Node) → slice_get nodes w ≡ Some node → node.kind ≡ Inner → RisesInN (snaps_held held w)
  pub start : (w : ℕ) (node : Node) → slice_get nodes w ≡ Some node → node.kind ≡ Inner
      → HasStart (snaps_held held w) (row_at held.numbers.ledger w).dur

-- ---- halves of a pass

-- the elements of stream v below number n are dropped; where fewer are stored, those up to n count as stored
abbrev pub lifted : Ledger → ℕ → ℕ → Ledger
lifted l v n = let row = row_at l v in put_row l v (record row { base = n; dur = max row.dur n })

-- the snapshots of vertex v below number n are dropped
abbrev pub dropped : Ledger → ℕ → ℕ → Ledger
dropped l v n = let row = row_at l v in put_row l v (record row { snaps = filter (λ m. nat_le n m) row.snaps })

-- the list of source v isn't asked any more for what is stored
abbrev pub marked : Ledger → ℕ → Ledger
marked l v = let row = row_at l v in put_row l v (record row { mark = row.dur })

-- nothing changed but the ledger and the snapshots
pub record IsSameBesidesLedger (old new : NumbersHeld) : Type 0 where
  pub journal : new.numbers.journal ≡ old.numbers.journal
  pub ended : new.ended ≡ old.ended
  pub places : new.places ≡ old.places
