-- What a session window is at a moment.
use Rattle.std.specs.Prelude.{◌≡◌, ℕ, ◌^◌, ◌<◌, ◌≤◌, nat_le, List, [], ◌∷◌, ◌++◌, length, map, filter, All}
use Rattle.ss_elem.specs.declared.element.Element.{Element}
use Rattle.ss_elem.specs.declared.element.Element.TheVariants.{Row, Cti, End}
use Rattle.ss_expr.specs.Operators.{operator_of, aggregate_of, field_of, HasGap}
use Rattle.ss_expr.specs.declared.stream_operator.Agg.{Agg}
use Rattle.ss_expr.specs.declared.stream_operator.Field.{Field}
use Rattle.ss_expr.specs.declared.stream_operator.Spec.TheVariants as spec
use Rattle.ss_meaning.specs.Merge.{Arrival}
use Rattle.ss_meaning.specs.Low.{low}
use Rattle.ss_meaning.specs.Session.{SessionWindow, SessionEntry, closing}
use Rattle.ss_meaning.specs.Emit.{Kind, rows_at}
use Rattle.ss_meaning.specs.Entries.{SessionEntries, entries_after}

-- what a session window aggregates: its gap, the aggregate and the field that it is of
pub record Settings : Type 0 where
  pub gap : ℕ
  pub agg : Agg
  pub field : Field

-- the settings, which stay, and the sessions that are open
pub record State : Type 0 where
  pub settings : Settings
  pub entries : List SessionEntry

-- the session window of the meaning that has these settings, and the operator that it is
abbrev pub window_of : Settings → SessionWindow
window_of s = record { gap = s.gap; aggregate = aggregate_of s.agg; field = field_of s.field }

abbrev pub kind_of : Settings → Kind
kind_of s = operator_of (spec.Session s.gap s.agg s.field)

-- the session window remembers what its operator has to remember after p
abbrev pub StandsAfter : State → List Arrival → Type 0
StandsAfter state p = SessionEntries state.entries ≡ entries_after (kind_of state.settings) 1 p

-- an element from the one input
abbrev pub arrival : Element → Arrival
arrival x = record { input = 0; element = x }

-- a row starts at a bound or above it
abbrev pub StartsFrom : ℕ → Element → Type 0
StartsFrom bound (Row row) = bound ≤ row.start
StartsFrom bound (Cti time) = Unit {0}
StartsFrom bound End = Unit {0}

-- at x the session window steps as its operator does after p: it remembers what is to be remembered then, and the
-- operator's rows stand behind what was given before
pub record Steps (old new : State) (before after : List Element) (p : List Arrival) (x : Element) : Type 0 where
  pub stands : StandsAfter new (p ++ arrival x ∷ [])
  pub given : after ≡ before ++ map (λ row. Row row) (rows_at (kind_of old.settings) 1 p (arrival x))

-- it does so after each p after which it stood, where the bound given is Low after x, which didn't fall, and a row
-- starts there or later
abbrev pub StepsFromAll : State → State → List Element → List Element → Element → ℕ → Type 0
StepsFromAll old new before after x bound =
    (p : List Arrival) → StandsAfter old p → low 1 p ≤ bound → bound ≡ low 1 (p ++ arrival x ∷ [])
    → StartsFrom bound x → Steps old new before after p x

-- the sessions that a bound closes
abbrev pub reached : ℕ → ℕ → List SessionEntry → List SessionEntry
reached gap bound es = filter (λ s. nat_le (closing gap s) bound) es

-- a session counts fewer than 2^62 rows
abbrev pub CountsFew : SessionEntry → Type 0
CountsFew s = s.rows < 2 ^ 62

-- no session counts more rows than elements have arrived
abbrev pub FewArrivalsAreFewRows : Type 0
FewArrivalsAreFewRows =
    (state : State) (p : List Arrival) → HasGap state.settings.gap → StandsAfter state p
    → length p < 2 ^ 62 → All CountsFew state.entries
