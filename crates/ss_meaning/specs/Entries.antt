-- What an operator has to remember of what arrived, to go on as if it had all of it.
use Rattle.std.specs.Prelude.{ℕ, ◌+◌, ◌-◌, nat_lt, ℤ, List, length, map, filter, flat_map}
use Rattle.ss_elem.specs.declared.element.Event.{Event}
use Rattle.ss_meaning.specs.Bound.{bound, rows}
use Rattle.ss_meaning.specs.Merge.{Arrival, from_input}
use Rattle.ss_meaning.specs.Low.{low}
use Rattle.ss_meaning.specs.Window.{Window, window_members, ends_of, rising, window_keys}
use Rattle.ss_meaning.specs.Session.{SessionWindow, SessionEntry, sessions, closing}
use Rattle.ss_meaning.specs.Except.{alone}
use Rattle.ss_meaning.specs.Emit.{Kind, Select, Union, Hopping, Join, Session, Except}

-- what a window remembers of one end and one key: the aggregate of the rows, exact, and how many they are
pub record WindowEntry : Type 0 where
  pub end : ℕ
  pub key : ℕ
  pub value : ℤ
  pub rows : ℕ

-- what an operator remembers: nothing, or the entries of a window, or the rows of the left and the right side of a join
-- (by presence or by absence), or the sessions that are open
pub data Entries : Type 0 where
  NoEntries : Entries
  WindowEntries : List WindowEntry → Entries
  JoinRows : List Event → List Event → Entries
  SessionEntries : List SessionEntry → Entries

-- the entry of the window that ends at w, for a key
abbrev pub window_entry : Window → List Event → ℕ → ℕ → WindowEntry
window_entry window rows w key =
    let counted = window_members window rows w key in
    record { end = w; key = key; value = window.aggregate (map window.field counted); rows = length counted }

-- the ends above a bound of the windows that have a row, in rising order
abbrev pub ends_above : Window → List Event → ℕ → List ℕ
ends_above window rows bound = rising (filter (nat_lt bound) (flat_map (ends_of window) rows))

-- the entries of the windows that end above a bound: window after window, and in each key after key
abbrev pub window_entries : Window → List Event → ℕ → List WindowEntry
window_entries window rows bound =
    flat_map (λ w. map (window_entry window rows w) (window_keys window rows w)) (ends_above window rows bound)

-- the rows that end above a bound, in their order
abbrev pub rows_ending_above : ℕ → List Event → List Event
rows_ending_above bound rows = filter (λ row. nat_lt bound row.end) rows

-- what a join remembers of an input: the rows that a later row of the other input may still overlap
abbrev pub join_side : ℕ → List Arrival → List Event
join_side input p = rows_ending_above (bound (from_input (1 - input) p)) (rows (from_input input p))

-- the sessions that close above a bound: a later row may still belong to one of them
abbrev pub open_sessions : SessionWindow → List Event → ℕ → List SessionEntry
open_sessions window rows bound = filter (λ s. nat_lt bound (closing window.gap s)) (sessions window rows)

-- the left rows that a join by absence remembers: those alone that a later right row may still overlap
abbrev pub alone_side : List Arrival → List Event
alone_side p =
    rows_ending_above (bound (from_input 1 p)) (alone (rows (from_input 1 p)) (rows (from_input 0 p)))

-- what a vertex with so many inputs remembers after p
abbrev pub entries_after : Kind → ℕ → List Arrival → Entries
entries_after (Select select) inputs p = NoEntries
entries_after Union inputs p = NoEntries
entries_after (Hopping window) inputs p = WindowEntries (window_entries window (rows (from_input 0 p)) (low inputs p))
entries_after Join inputs p = JoinRows (join_side 0 p) (join_side 1 p)
entries_after (Session window) inputs p = SessionEntries (open_sessions window (rows (from_input 0 p)) (low inputs p))
entries_after Except inputs p = JoinRows (alone_side p) (join_side 1 p)

-- how many entries these are
abbrev pub entry_count : Entries → ℕ
entry_count NoEntries = 0
entry_count (WindowEntries entries) = length entries
entry_count (JoinRows left right) = length left + length right
entry_count (SessionEntries entries) = length entries

-- how many entries a vertex with so many inputs remembers after p
abbrev pub held : Kind → ℕ → List Arrival → ℕ
held kind inputs p = entry_count (entries_after kind inputs p)
