-- Session windows go by keys.
use Rattle.std.specs.Prelude.{◌≡◌, ℕ, ◌≤◌, ℤ, Bool, List, filter}
use Rattle.ss_elem.specs.declared.element.Event.{Event}
use Rattle.ss_meaning.specs.Session.{SessionWindow, SessionEntry, session_rows}
use Rattle.ss_meaning.specs.SessionLaws.{JoinsBy}
use Rattle.ss_meaning.specs.Entries.{open_sessions}

-- the rows of some keys
abbrev pub rows_of_keys : (ℕ → Bool) → List Event → List Event
rows_of_keys test rows = filter (λ row. test row.key) rows

-- the sessions of some keys
abbrev pub sessions_of_keys : (ℕ → Bool) → List SessionEntry → List SessionEntry
sessions_of_keys test entries = filter (λ s. test s.key) entries

-- the sessions that the rows of some keys alone leave open are the open ones of these keys
abbrev pub OpenSessionsGoByKeys : Type 0
OpenSessionsGoByKeys =
    (window : SessionWindow) (join : ℤ → ℤ → ℤ) → JoinsBy join window.aggregate → 1 ≤ window.gap
    → (test : ℕ → Bool) (seen : List Event) (bound : ℕ)
    → open_sessions window (rows_of_keys test seen) bound ≡ sessions_of_keys test (open_sessions window seen bound)

-- and what is given of them alone is what is given of these keys, in the same order
abbrev pub SessionRowsGoByKeys : Type 0
SessionRowsGoByKeys =
    (window : SessionWindow) (join : ℤ → ℤ → ℤ) → JoinsBy join window.aggregate → 1 ≤ window.gap
    → (test : ℕ → Bool) (seen : List Event) (before after : ℕ)
    → session_rows window (rows_of_keys test seen) before after ≡ rows_of_keys test (session_rows window seen before after)
