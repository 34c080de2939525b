-- What a step changes of what a session window remembers.
use Rattle.std.specs.Prelude.{ℕ, ◌≤◌, nat_lt, nat_le, List, map, filter, All, if◌then◌else◌}
use Rattle.std.specs.BTreeMap.{insert_entry}
use Rattle.std.specs.Ordering.{nat_cmp, ordering_then}
use Rattle.std.specs.declared.cmp.Ordering.{Ordering}
use Rattle.ss_elem.specs.declared.element.Event.{Event}
use Rattle.ss_elem.specs.declared.element.Element.{Element}
use Rattle.ss_elem.specs.declared.element.Element.TheVariants.{Row}
use Rattle.ss_expr.specs.Operators.{HasGap}
use Rattle.ss_expr.specs.declared.stream_operator.Agg.{Agg}
use Rattle.ss_expr.specs.declared.stream_operator.Field.{Field}
use Rattle.ss_meaning.specs.ByTime.{by_time}
use Rattle.ss_meaning.specs.Session.{SessionEntry, closing, session_row}
use Rattle.ss_meaning.specs.SessionLists.{AreApart, single_session, put_session}
use Rattle.ss_session.specs.SessionHeld.{join_of}
use Rattle.ss_session.specs.States.{Settings, State, window_of, reached}

abbrev pub state_of : ℕ → Agg → Field → List SessionEntry → State
state_of gap agg field entries = record { settings = record { gap = gap; agg = agg; field = field }; entries = entries }

-- the gap is one of a session window, and the sessions stand in order and apart, and none ends before it begins
pub record AreOpen (gap : ℕ) (entries : List SessionEntry) : Type 0 where
  pub has_gap : HasGap gap
  pub apart : AreApart gap entries
  pub times : All (λ s. s.first ≤ s.last) entries

-- no session closes before this time
abbrev pub NoneCloseBefore : ℕ → ℕ → List SessionEntry → Type 0
NoneCloseBefore gap time es = All (λ s. time ≤ closing gap s) es

-- what is held: the sessions that are open, and a time before which none of them closes
pub record AreHeld (gap soonest : ℕ) (entries : List SessionEntry) : Type 0 where
  pub opened : AreOpen gap entries
  pub late : NoneCloseBefore gap soonest entries

-- the sessions with a row put in its place
abbrev pub with_row : Settings → Event → List SessionEntry → List SessionEntry
with_row s row es = put_session s.gap (join_of s.agg) (single_session (window_of s) row) es

-- the sessions that a bound leaves open
abbrev pub left : ℕ → ℕ → List SessionEntry → List SessionEntry
left gap bound es = filter (λ s. nat_lt bound (closing gap s)) es

-- those that it closes, in the order in which they close
abbrev pub in_time : ℕ → ℕ → List SessionEntry → List SessionEntry
in_time gap bound es = by_time (closing gap) (reached gap bound es)

-- the order of closings, and of keys where they are the same
abbrev pub by_place : ℕ × ℕ → ℕ × ℕ → Ordering
by_place p q = ordering_then (nat_cmp p.0 q.0) (nat_cmp p.1 q.1)

-- sessions by closing and key with one more, where a bound has closed it
abbrev pub filed : ℕ → ℕ → SessionEntry → List ((ℕ × ℕ) × SessionEntry) → List ((ℕ × ℕ) × SessionEntry)
filed gap bound s m =
    if nat_le (closing gap s) bound then insert_entry by_place m (closing gap s, s.key) s else m

-- the rows that sessions are given as
abbrev pub rows_of_sessions : ℕ → List SessionEntry → List Element
rows_of_sessions gap es = map (λ row. Row row) (map (session_row gap) es)

-- the rows that are given where Low rises to a bound
abbrev pub given_at : ℕ → State → List Element
given_at bound state = rows_of_sessions state.settings.gap (in_time state.settings.gap bound state.entries)
