-- The numbers of a vault as its code keeps them.
use Rattle.std.specs.Prelude.{◌≡◌, ℕ, ◌-◌, ◌≤◌, Bool, List, [], Vec, get_or, length}
use Rattle.std.specs.Prelude.{map, slice_index, vec_len, vec_capacity}
use Rattle.std.specs.List.{range_with_len}
use Rattle.std.specs.declared.alloc.Global.{Global}
use Rattle.ss_state.specs.declared.entry.Entry.{Entry}
use Rattle.ss_state.specs.State.{LedgerRow}
use Rattle.ss_water.specs.declared.snap_row.SnapRow.{SnapRow}
use Rattle.ss_vault.specs.NumbersHeld.{NumbersHeld, all_stored}

-- the numbers of all vertices, each kind of them in a list by vertex
pub record Columns : Type 0 where
  pub base : List ℕ
  pub dur : List ℕ
  pub mark : List ℕ
  pub taken : List ℕ
  pub ended : List Bool
  pub snaps : List (Vec SnapRow Global)

abbrev pub columns : List ℕ → List ℕ → List ℕ → List ℕ → List Bool → List (Vec SnapRow Global) → Columns
columns base dur mark taken ended snaps =
    record { base = base; dur = dur; mark = mark; taken = taken; ended = ended; snaps = snaps }

-- the stored snapshots of each vertex
abbrev pub snaps_from : Columns → List (List SnapRow)
snaps_from c = map (λ snaps. snaps.items) c.snaps

-- the row of vertex v as the ledger has it
abbrev pub row_from : Columns → ℕ → LedgerRow
row_from c v = record {
  base = slice_index c.base v;
  dur = slice_index c.dur v;
  snaps = map (λ snap. snap.n) (get_or (snaps_from c) v []);
  mark = slice_index c.mark v;
  taken = slice_index c.taken v;
}

-- the rows of all vertices
abbrev pub rows_from : Columns → List LedgerRow
rows_from c = map (row_from c) (range_with_len 0 (length c.base))

-- how many places a vector has reserved behind its items
abbrev pub spare : {A : Type 0} → Vec A Global → ℕ
spare items = vec_capacity items - vec_len items

-- the numbers of vertices, how many elements were stored since the last whole pass, and a journal
abbrev pub numbers_held : Columns → ℕ → Vec Entry Global → NumbersHeld
numbers_held c since journal = record {
  numbers = record { ledger = record { rows = rows_from c; since = since }; journal = journal.items };
  snaps = snaps_from c;
  ended = c.ended;
  places = spare journal;
  snap_places = map spare c.snaps;
}

-- each kind of number has one for each vertex, and no more elements are counted than are stored
pub record AreNumbers (c : Columns) (counted : ℕ) : Type 0 where
  pub dur : length c.dur ≡ length c.base
  pub mark : length c.mark ≡ length c.base
  pub taken : length c.taken ≡ length c.base
  pub ended : length c.ended ≡ length c.base
  pub snaps : length c.snaps ≡ length c.base
  pub since : counted ≤ all_stored (record { rows = rows_from c; since = counted })
