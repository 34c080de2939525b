-- The sessions in their order, and what one more row makes of them.
use Rattle.std.specs.Prelude.{◌≡◌, ℕ, ◌+◌, ◌≤◌, ◌==◌, min, max, nat_lt, nat_le, Bool, ◌&&◌, ◌||◌}
use Rattle.std.specs.Prelude.{if◌then◌else◌, ℤ, List, [], ◌∷◌}
use Rattle.std.specs.List.{AllByRecursion}
use Rattle.ss_elem.specs.declared.element.Event.{Event}
use Rattle.ss_meaning.specs.Session.{SessionWindow, SessionEntry, closing}

-- one session stands before another: its key is less, or it is the same and the first has closed where the second starts
pub record IsApart (gap : ℕ) (s t : SessionEntry) : Type 0 where
  pub keys : s.key ≤ t.key
  pub times : s.key ≡ t.key → s.last + gap ≤ t.first

-- whether it does
abbrev pub is_apart : ℕ → SessionEntry → SessionEntry → Bool
is_apart gap s t = nat_lt s.key t.key || (s.key == t.key && nat_le (closing gap s) t.first)

-- each session stands before all those behind it
abbrev pub AreApart : ℕ → List SessionEntry → Type 0
AreApart gap [] = Unit {0}
AreApart gap (s ∷ ss) = AllByRecursion (IsApart gap s) ss × AreApart gap ss

-- the session of a single row
abbrev pub single_session : SessionWindow → Event → SessionEntry
single_session window row =
    record { key = row.key; first = row.start; last = row.start; value = window.field row; rows = 1 }

-- two sessions of one key as one
abbrev pub joined_sessions : (ℤ → ℤ → ℤ) → SessionEntry → SessionEntry → SessionEntry
joined_sessions join s t = record {
  key = s.key;
  first = min s.first t.first;
  last = max s.last t.last;
  value = join s.value t.value;
  rows = s.rows + t.rows;
}

-- a session put in its place among others, as one with those from which it isn't apart
abbrev pub put_session : ℕ → (ℤ → ℤ → ℤ) → SessionEntry → List SessionEntry → List SessionEntry
put_session gap join s [] = s ∷ []
put_session gap join s (e ∷ es) =
    if is_apart gap e s then e ∷ put_session gap join s es
    else (if is_apart gap s e then s ∷ e ∷ es else put_session gap join (joined_sessions join e s) es)

-- a session as one with the first of others, where it doesn't stand before that one, and the others without it
abbrev pub joined_first : ℕ → (ℤ → ℤ → ℤ) → SessionEntry → List SessionEntry → SessionEntry × List SessionEntry
joined_first gap join s [] = (s, [])
joined_first gap join s (e ∷ es) = if is_apart gap s e then (s, e ∷ es) else (joined_sessions join e s, es)
