-- What is true of the sessions of every session window.
use Rattle.std.specs.Prelude.{◌≡◌, ℕ, ◌<◌, ◌≤◌, nat_lt, ℤ, ◌+ℤ◌, List, [], ◌∷◌, ◌++◌, length, map, filter, take, drop, All}
use Rattle.std.specs.Int.{int_min, int_max}
use Rattle.std.specs.List.{prefix_len}
use Rattle.ss_elem.specs.declared.element.Event.{Event}
use Rattle.ss_meaning.specs.Window.{total, least, greatest}
use Rattle.ss_meaning.specs.Session.{SessionWindow, SessionEntry, closing, session_row, closed, session_rows}
use Rattle.ss_meaning.specs.Entries.{open_sessions}
use Rattle.ss_meaning.specs.SessionLists.{AreApart, is_apart, single_session, put_session, joined_first}

-- an aggregate is that of its values joined in any order
pub record JoinsBy (join : ℤ → ℤ → ℤ) (aggregate : List ℤ → ℤ) : Type 0 where
  pub one : (v : ℤ) → aggregate (v ∷ []) ≡ v
  pub more : (v w : ℤ) (vs : List ℤ) → aggregate (v ∷ w ∷ vs) ≡ join (aggregate (w ∷ vs)) v
  pub swapped : (v w : ℤ) → join v w ≡ join w v
  pub regrouped : (v w x : ℤ) → join (join v w) x ≡ join v (join w x)

-- sums, least and greatest values do
abbrev pub AggregatesJoin : Type 0
AggregatesJoin = JoinsBy ◌+ℤ◌ total × JoinsBy int_min least × JoinsBy int_max greatest

-- one more row that starts at the bound or above it is put in its place, and nothing else changes
abbrev pub SessionsAfterRow : Type 0
SessionsAfterRow =
    (window : SessionWindow) (join : ℤ → ℤ → ℤ) → JoinsBy join window.aggregate → 1 ≤ window.gap
    → (seen : List Event) (row : Event) (bound : ℕ) → bound ≤ row.start
    → open_sessions window (seen ++ row ∷ []) bound
    ≡ put_session window.gap join (single_session window row) (open_sessions window seen bound)

-- where the bound rises, the sessions that it closes go
abbrev pub SessionsAfterRise : Type 0
SessionsAfterRise =
    (window : SessionWindow) (seen : List Event) (before after : ℕ) → before ≤ after
    → open_sessions window seen after ≡ filter (λ s. nat_lt after (closing window.gap s)) (open_sessions window seen before)

-- and the rows that are given then are those of the sessions that go, in the order in which they close
abbrev pub RowsAreOfSessions : Type 0
RowsAreOfSessions =
    (window : SessionWindow) (seen : List Event) (before after : ℕ)
    → session_rows window seen before after
    ≡ map (session_row window.gap) (closed window.gap (open_sessions window seen before) 0 after)

-- a session counts a row at least and no more than there are, and doesn't end before it begins
pub record IsSession (seen : List Event) (s : SessionEntry) : Type 0 where
  pub times : s.first ≤ s.last
  pub counts : 0 < s.rows
  pub few : s.rows ≤ length seen

-- the open sessions are sessions, stand in order and are apart, and each closes above the bound
abbrev pub SessionsAreApart : Type 0
SessionsAreApart =
    (window : SessionWindow) (join : ℤ → ℤ → ℤ) → JoinsBy join window.aggregate → 1 ≤ window.gap
    → (seen : List Event) (bound : ℕ)
    → AreApart window.gap (open_sessions window seen bound)
    × All (IsSession seen) (open_sessions window seen bound)
    × All (λ s. bound < closing window.gap s) (open_sessions window seen bound)

-- a session put among sessions that are apart leaves them apart, where none ends before it begins
abbrev pub PutKeepsApart : Type 0
PutKeepsApart =
    (gap : ℕ) (join : ℤ → ℤ → ℤ) (s : SessionEntry) (es : List SessionEntry)
    → 1 ≤ gap → s.first ≤ s.last → All (λ e. e.first ≤ e.last) es → AreApart gap es
    → AreApart gap (put_session gap join s es) × All (λ e. e.first ≤ e.last) (put_session gap join s es)

-- a session of one start is one with at most two others, which stand at its place
abbrev pub PutJoinsAtMostTwo : Type 0
PutJoinsAtMostTwo =
    (gap : ℕ) (join : ℤ → ℤ → ℤ) (s : SessionEntry) (es : List SessionEntry)
    → 1 ≤ gap → s.first ≡ s.last → All (λ e. e.first ≤ e.last) es → AreApart gap es
    → let at = prefix_len (λ e. is_apart gap e s) es in
    let one = joined_first gap join s (drop at es) in
    let two = joined_first gap join one.0 one.1 in
    put_session gap join s es ≡ take at es ++ two.0 ∷ two.1
