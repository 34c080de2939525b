-- What the program keeps of an operator.
use Rattle.std.specs.Prelude.{◌≡◌, ℕ, ◌<◌, true, List, [], ◌∷◌, ◌++◌, length, map, slice_index}
use Rattle.ss_elem.specs.declared.element.Element.{Element}
use Rattle.ss_elem.specs.declared.element.Element.TheVariants.{Row}
use Rattle.ss_expr.specs.Operators.{operator_of, is_row_by_row, IsComputable}
use Rattle.ss_expr.specs.declared.stream_operator.Spec.{Spec}
use Rattle.ss_expr.specs.declared.stream_operator.Spec.TheVariants as spec
use Rattle.ss_meaning.specs.Bound.{bound}
use Rattle.ss_meaning.specs.Entries.{Entries, NoEntries, WindowEntries, JoinRows, SessionEntries, entries_after}
use Rattle.ss_meaning.specs.Emit.{rows_at}
use Rattle.ss_meaning.specs.Low.{low}
use Rattle.ss_meaning.specs.Merge.{Arrival, from_input}
use Rattle.ss_merge.specs.Merging.{arriving}
use Rattle.ss_oper.specs.Standing.{OperState, MayArrive}
use Rattle.ss_oper.specs.declared.kept.Kept.{Kept}
use Rattle.ss_oper.specs.declared.kept.Kept.TheVariants.{RowByRow, Hopping, Joining, InSessions, Excepting}

-- what it computes
abbrev pub spec_kept : Kept → Spec
spec_kept (RowByRow s) = s
spec_kept (Hopping w) = spec.Window w.settings.size w.settings.hop w.settings.agg w.settings.field
spec_kept (Joining j) = spec.Join
spec_kept (InSessions s) = spec.Session s.settings.gap s.settings.agg s.settings.field
spec_kept (Excepting e) = spec.Except

-- what it remembers
abbrev pub entries_kept : Kept → Entries
entries_kept (RowByRow s) = NoEntries
entries_kept (Hopping w) = WindowEntries w.entries
entries_kept (Joining j) = JoinRows j.left j.right
entries_kept (InSessions s) = SessionEntries s.entries
entries_kept (Excepting e) = JoinRows e.left e.right

-- a select or a union is kept as its spec
abbrev pub IsKept : Kept → Type 0
IsKept (RowByRow s) = (is_row_by_row s ≡ true) × IsComputable s
IsKept (Hopping w) = Unit {0}
IsKept (Joining j) = Unit {0}
IsKept (InSessions s) = Unit {0}
IsKept (Excepting e) = Unit {0}

abbrev pub state_of : Kept → ℕ → OperState
state_of kept low = record { spec = spec_kept kept; low = low; entries = entries_kept kept }

-- whatever the number of inputs, nothing that arrived is what is remembered
abbrev pub RemembersNothing : Kept → Type 0
RemembersNothing kept = (inputs : ℕ) → entries_kept kept ≡ entries_after (operator_of (spec_kept kept)) inputs []

-- of so many inputs, this is Low after p, and these are their bounds
pub record AreBoundsAfter (inputs : ℕ) (p : List Arrival) (least : ℕ) (all : List ℕ) : Type 0 where
  pub low : least ≡ low inputs p
  pub each : (input : ℕ) → input < inputs → slice_index all input ≡ bound (from_input input p)

-- after each p that is remembered and behind which x may arrive from this input, it remembers both, and the rows of the
-- operator stand behind what was given before; Low and the bounds are those after x
abbrev pub GivesRows : Kept → Kept → List Element → List Element → ℕ → Element → ℕ → List ℕ → Type 0
GivesRows old new before after input x least all =
    (inputs : ℕ) (p : List Arrival) → entries_kept old ≡ entries_after (operator_of (spec_kept old)) inputs p
    → MayArrive (operator_of (spec_kept old)) inputs p (arriving input x)
    → AreBoundsAfter inputs (p ++ arriving input x ∷ []) least all
    → (entries_kept new ≡ entries_after (operator_of (spec_kept old)) inputs (p ++ arriving input x ∷ []))
    × (after ≡ before ++ map (λ row. Row row) (rows_at (operator_of (spec_kept old)) inputs p (arriving input x)))

-- after each p that is remembered and behind which x may arrive from this input, the rows of the operator at x are so
-- many; Low and the bounds are those after x
abbrev pub CountsRows : Kept → ℕ → Element → ℕ → List ℕ → ℕ → Type 0
CountsRows kept input x least all count =
    (inputs : ℕ) (p : List Arrival) → entries_kept kept ≡ entries_after (operator_of (spec_kept kept)) inputs p
    → MayArrive (operator_of (spec_kept kept)) inputs p (arriving input x)
    → AreBoundsAfter inputs (p ++ arriving input x ∷ []) least all
    → count ≡ length (rows_at (operator_of (spec_kept kept)) inputs p (arriving input x))
