-- What is true of the entries of every window.
use Rattle.std.specs.Prelude.{◌≡◌, ℕ, ◌*◌, ◌<◌, ◌≤◌, nat_lt, nat_le, ℤ, ◌+ℤ◌, List, [], ◌∷◌, ◌++◌, length, map}
use Rattle.std.specs.Prelude.{filter, All}
use Rattle.std.specs.Int.{int_min, int_max}
use Rattle.ss_elem.specs.declared.element.Event.{Event}
use Rattle.ss_meaning.specs.Window.{Window, total, least, greatest, ends_of, window_rows}
use Rattle.ss_meaning.specs.Entries.{WindowEntry, window_entry, window_entries}
use Rattle.ss_meaning.specs.EntryLists.{AreInOrder, put_value, put_values, row_of_entry}

-- an aggregate can be kept up value by value, by joining each to what there is
pub record GrowsBy (join : ℤ → ℤ → ℤ) (aggregate : List ℤ → ℤ) : Type 0 where
  pub one : (v : ℤ) → aggregate (v ∷ []) ≡ v
  pub more : (x v : ℤ) (xs : List ℤ) → aggregate (x ∷ xs ++ v ∷ []) ≡ join (aggregate (x ∷ xs)) v

-- the sum grows by adding, the least by the lesser, the greatest by the greater
abbrev pub AggregatesGrow : Type 0
AggregatesGrow = GrowsBy ◌+ℤ◌ total × GrowsBy int_min least × GrowsBy int_max greatest

-- one more row is put at each of its ends above the bound, and nothing else changes
abbrev pub EntriesAfterRow : Type 0
EntriesAfterRow =
    (window : Window) (join : ℤ → ℤ → ℤ) → GrowsBy join window.aggregate → 1 ≤ window.hop
    → (seen : List Event) (row : Event) (bound : ℕ)
    → window_entries window (seen ++ row ∷ []) bound
    ≡ put_values join row.key (window.field row) (filter (nat_lt bound) (ends_of window row))
    (window_entries window seen bound)

-- where the bound rises, the entries that it reaches go
abbrev pub EntriesAfterRise : Type 0
EntriesAfterRise =
    (window : Window) (seen : List Event) (before after : ℕ) → before ≤ after
    → window_entries window seen after ≡ filter (λ e. nat_lt after e.end) (window_entries window seen before)

-- and the rows that are given then are those of the entries that go
abbrev pub RowsAreOfEntries : Type 0
RowsAreOfEntries =
    (window : Window) (seen : List Event) (before after : ℕ)
    → window_rows window seen before after
    ≡ map (row_of_entry window.hop) (filter (λ e. nat_le e.end after) (window_entries window seen before))

-- an entry is that of its end and its key: the end is a multiple of hop above the bound, and it counts a row
pub record IsEntryOf (window : Window) (seen : List Event) (bound : ℕ) (e : WindowEntry) : Type 0 where
  pub above : bound < e.end
  pub multiple : (n : ℕ) × (e.end ≡ window.hop * n)
  pub same : e ≡ window_entry window seen e.end e.key
  pub counts : 0 < e.rows

-- each entry is that of its end and its key, and counts no more rows than there are
abbrev pub EntriesCountRows : Type 0
EntriesCountRows =
    (window : Window) (seen : List Event) (bound : ℕ) → 1 ≤ window.hop
    → All (IsEntryOf window seen bound) (window_entries window seen bound)
    × All (λ e. e.rows ≤ length seen) (window_entries window seen bound)

-- the entries stand in order
abbrev pub EntriesAreInOrder : Type 0
EntriesAreInOrder = (window : Window) (seen : List Event) (bound : ℕ) → AreInOrder (window_entries window seen bound)

-- a value put among entries in order leaves them in order
abbrev pub PutKeepsOrder : Type 0
PutKeepsOrder =
    (join : ℤ → ℤ → ℤ) (key : ℕ) (value : ℤ) (w : ℕ) (es : List WindowEntry)
    → AreInOrder es → AreInOrder (put_value join key value w es)
