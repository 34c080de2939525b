-- What a session window gives.
use Rattle.std.specs.Prelude.{ℕ, ◌+◌, ◌==◌, nat_lt, nat_le, ◌&&◌, if◌then◌else◌, ℤ, pos, List, [], ◌∷◌, length}
use Rattle.std.specs.Prelude.{map, filter, flat_map}
use Rattle.ss_elem.specs.declared.element.Event.{Event}
use Rattle.ss_meaning.specs.Window.{clamped, rising}

-- a session of a key goes on while a row starts less than gap after the one before it; of its rows a field is
-- aggregated
pub record SessionWindow : Type 0 where
  pub gap : ℕ
  pub aggregate : List ℤ → ℤ
  pub field : Event → ℤ

-- a row put in its place among rows in rising order of start, before those that start when it does
abbrev pub put_by_start : Event → List Event → List Event
put_by_start row [] = row ∷ []
put_by_start row (r ∷ rs) = if nat_le row.start r.start then row ∷ r ∷ rs else r ∷ put_by_start row rs

-- the rows in rising order of start, and those of one start in the order in which they came
abbrev pub by_start : List Event → List Event
by_start [] = []
by_start (row ∷ rows) = put_by_start row (by_start rows)

-- the start of the first of some rows
abbrev pub first_start : List Event → ℕ
first_start [] = 0
first_start (row ∷ rows) = row.start

-- the start of the last of them
abbrev pub last_start : List Event → ℕ
last_start [] = 0
last_start (row ∷ []) = row.start
last_start (row ∷ next ∷ rows) = last_start (next ∷ rows)

-- a row before the runs of those behind it: it belongs to the first run where that starts less than gap later
abbrev pub before_runs : ℕ → Event → List (List Event) → List (List Event)
before_runs gap row [] = (row ∷ []) ∷ []
before_runs gap row (run ∷ runs) =
    if nat_lt (first_start run) (row.start + gap) then (row ∷ run) ∷ runs else (row ∷ []) ∷ run ∷ runs

-- rows cut into runs: wherever one starts gap or more after the one before it
abbrev pub cut : ℕ → List Event → List (List Event)
cut gap [] = []
cut gap (row ∷ rows) = before_runs gap row (cut gap rows)

-- the rows of each session of a key
abbrev pub runs_of : ℕ → List Event → ℕ → List (List Event)
runs_of gap rows key = cut gap (by_start (filter (λ row. row.key == key) rows))

-- a session: its key, its least and its greatest start, the aggregate of its rows, exact, and how many they are
pub record SessionEntry : Type 0 where
  pub key : ℕ
  pub first : ℕ
  pub last : ℕ
  pub value : ℤ
  pub rows : ℕ

-- the session of these rows of a key
abbrev pub session_entry : SessionWindow → ℕ → List Event → SessionEntry
session_entry window key run = record {
  key = key;
  first = first_start run;
  last = last_start run;
  value = window.aggregate (map window.field run);
  rows = length run;
}

-- all sessions, key after key, and those of a key in the order in which they start
abbrev pub sessions : SessionWindow → List Event → List SessionEntry
sessions window rows =
    flat_map (λ key. map (session_entry window key) (runs_of window.gap rows key)) (rising (map (λ row. row.key) rows))

-- when a session closes: from then on no row can belong to it
abbrev pub closing : ℕ → SessionEntry → ℕ
closing gap s = s.last + gap

-- the row of a session that has closed: the aggregate, clamped, the count, and the least and the greatest start
abbrev pub session_row : ℕ → SessionEntry → Event
session_row gap s = record {
  start = closing gap s;
  end = closing gap s + 1;
  key = s.key;
  a = clamped s.value;
  b = pos s.rows;
  c = pos s.first;
  d = pos s.last;
}

-- the times above one bound and up to another at which some of these sessions close, in rising order
abbrev pub closings : ℕ → List SessionEntry → ℕ → ℕ → List ℕ
closings gap entries before after =
    rising (filter (λ time. nat_lt before time && nat_le time after) (map (closing gap) entries))

-- those that close above one bound and up to another, in the order in which they close and then in theirs
abbrev pub closed : ℕ → List SessionEntry → ℕ → ℕ → List SessionEntry
closed gap entries before after =
    flat_map (λ time. filter (λ s. closing gap s == time) entries) (closings gap entries before after)

-- what is given where the bound rises, of all rows so far: the sessions that close, by time and then by key
abbrev pub session_rows : SessionWindow → List Event → ℕ → ℕ → List Event
session_rows window rows before after =
    map (session_row window.gap) (closed window.gap (sessions window rows) before after)
