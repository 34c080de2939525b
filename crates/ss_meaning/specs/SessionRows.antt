-- Of which rows a session is.
use Rattle.std.specs.Prelude.{◌≡◌, ℕ, ◌≤◌, nat_lt, nat_le, Bool, ◌&&◌, List, length, filter, All}
use Rattle.std.specs.List.{Contains}
use Rattle.ss_elem.specs.declared.element.Event.{Event}
use Rattle.ss_meaning.specs.ByTime.{by_time}
use Rattle.ss_meaning.specs.Session.{SessionWindow, SessionEntry, sessions, closing, closed}

-- a session begins where a row of its key starts, ends where a row does, and counts no more rows than there are
pub record IsOfRows (rows : List Event) (s : SessionEntry) : Type 0 where
  pub begins : (row : Event) × Contains rows row × (row.key ≡ s.key) × (row.start ≡ s.first)
  pub ends : (row : Event) × Contains rows row × (row.start ≡ s.last)
  pub few : s.rows ≤ length rows

-- each session of some rows is of them
abbrev pub SessionsAreOfRows : Type 0
SessionsAreOfRows = (window : SessionWindow) (rows : List Event) → All (IsOfRows rows) (sessions window rows)

-- whether a session closes above one bound and up to another
abbrev pub closes_between : ℕ → ℕ → ℕ → SessionEntry → Bool
closes_between gap before after s = nat_lt before (closing gap s) && nat_le (closing gap s) after

-- those that do are given in the order in which they close, and those that close at once in theirs
abbrev pub ClosedAreByTime : Type 0
ClosedAreByTime =
    (gap : ℕ) (entries : List SessionEntry) (before after : ℕ)
    → closed gap entries before after ≡ by_time (closing gap) (filter (closes_between gap before after) entries)

-- so there are as many
abbrev pub ClosedAreCounted : Type 0
ClosedAreCounted =
    (gap : ℕ) (entries : List SessionEntry) (before after : ℕ)
    → length (closed gap entries before after) ≡ length (filter (closes_between gap before after) entries)
