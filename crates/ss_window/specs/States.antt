-- What a window is at a moment.
use Rattle.std.specs.Prelude.{◌≡◌, ℕ, ◌^◌, ◌<◌, ◌≤◌, nat_lt, nat_le, Bool, false, List, [], ◌∷◌, ◌++◌}
use Rattle.std.specs.Prelude.{length, map, filter, nat_eq, All}
use Rattle.std.specs.Set.{distinct_count}
use Rattle.ss_elem.specs.declared.element.Event.{Event}
use Rattle.ss_elem.specs.declared.element.Element.{Element}
use Rattle.ss_elem.specs.declared.element.Element.TheVariants.{Row}
use Rattle.ss_expr.specs.Operators.{operator_of, aggregate_of, field_of, HasWholeHops}
use Rattle.ss_expr.specs.declared.stream_operator.Agg.{Agg}
use Rattle.ss_expr.specs.declared.stream_operator.Field.{Field}
use Rattle.ss_expr.specs.declared.stream_operator.Spec.TheVariants as spec
use Rattle.ss_meaning.specs.Merge.{Arrival}
use Rattle.ss_meaning.specs.Low.{low}
use Rattle.ss_meaning.specs.Window.{Window, ends_of}
use Rattle.ss_meaning.specs.Emit.{Kind, rows_at}
use Rattle.ss_meaning.specs.Entries.{WindowEntry, WindowEntries, entries_after}
use Rattle.ss_meaning.specs.EntryLists.{put_values, row_of_entry}
use Rattle.ss_window.specs.Held.{join_of}

-- what a window aggregates: its size, its hop, the aggregate and the field that it is of
pub record Settings : Type 0 where
  pub size : ℕ
  pub hop : ℕ
  pub agg : Agg
  pub field : Field

-- the settings, which stay, and the entries that are remembered
pub record State : Type 0 where
  pub settings : Settings
  pub entries : List WindowEntry

abbrev pub state_of : ℕ → ℕ → Agg → Field → List WindowEntry → State
state_of size hop agg field entries =
    record { settings = record { size = size; hop = hop; agg = agg; field = field }; entries = entries }

-- the window of the meaning that has these settings, and the operator that it is
abbrev pub window_of : Settings → Window
window_of s = record { size = s.size; hop = s.hop; aggregate = aggregate_of s.agg; field = field_of s.field }

abbrev pub kind_of : Settings → Kind
kind_of s = operator_of (spec.Window s.size s.hop s.agg s.field)

-- the window remembers what its operator has to remember after p
abbrev pub StandsAfter : State → List Arrival → Type 0
StandsAfter state p = WindowEntries state.entries ≡ entries_after (kind_of state.settings) 1 p

-- an element from the one input
abbrev pub arrival : Element → Arrival
arrival x = record { input = 0; element = x }

-- at x the window steps as its operator does after p: it remembers what is to be remembered then, and the
-- operator's rows stand behind what was given before
pub record Steps (old new : State) (before after : List Element) (p : List Arrival) (x : Element) : Type 0 where
  pub stands : StandsAfter new (p ++ arrival x ∷ [])
  pub given : after ≡ before ++ map (λ row. Row row) (rows_at (kind_of old.settings) 1 p (arrival x))

-- it does so after each p after which the window stood, where the bound given is Low after x, which didn't fall
abbrev pub StepsFromAll : State → State → List Element → List Element → Element → ℕ → Type 0
StepsFromAll old new before after x bound =
    (p : List Arrival) → StandsAfter old p → low 1 p ≤ bound → bound ≡ low 1 (p ++ arrival x ∷ [])
    → Steps old new before after p x

-- the entries with a row put at each of its ends above a bound
abbrev pub with_row : Settings → Event → ℕ → List WindowEntry → List WindowEntry
with_row s row bound es =
    put_values (join_of s.agg) row.key (field_of s.field row) (filter (nat_lt bound) (ends_of (window_of s) row)) es

-- the entries whose ends a bound has reached, and those that are left
abbrev pub reached : ℕ → List WindowEntry → List WindowEntry
reached bound es = filter (λ e. nat_le e.end bound) es

abbrev pub left : ℕ → List WindowEntry → List WindowEntry
left bound es = filter (λ e. nat_lt bound e.end) es

-- how many different ends entries have
abbrev pub pane_count : List WindowEntry → ℕ
pane_count es = distinct_count nat_eq (map (λ e. e.end) es)

-- the first entry's end is reached by a bound
abbrev pub begins_reached : ℕ → List WindowEntry → Bool
begins_reached bound [] = false
begins_reached bound (e ∷ es) = nat_le e.end bound

-- the rows that entries become
abbrev pub rows_of_entries : ℕ → List WindowEntry → List Element
rows_of_entries hop es = map (λ row. Row row) (map (row_of_entry hop) es)

-- the rows that a window gives where Low rises to a bound
abbrev pub given_at : ℕ → State → List Element
given_at bound state = rows_of_entries state.settings.hop (reached bound state.entries)

-- an entry counts fewer than 2^62 rows
abbrev pub CountsFew : WindowEntry → Type 0
CountsFew e = e.rows < 2 ^ 62

-- no entry counts more rows than elements have arrived
abbrev pub FewArrivalsAreFewRows : Type 0
FewArrivalsAreFewRows =
    (state : State) (p : List Arrival) → HasWholeHops state.settings.size state.settings.hop → StandsAfter state p
    → length p < 2 ^ 62 → All CountsFew state.entries
