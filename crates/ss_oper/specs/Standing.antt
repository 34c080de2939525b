-- Where an operator stands, and what one step of it is.
use Rattle.std.specs.Prelude.{◌≡◌, ℕ, ◌<◌, ◌≤◌, List, [], ◌∷◌, ◌++◌, length, All}
use Rattle.std.specs.Prelude.{Result, Ok, Err}
use Rattle.ss_elem.specs.declared.element.Element.{Element}
use Rattle.ss_expr.specs.Operators.{operator_of}
use Rattle.ss_expr.specs.declared.stream_operator.Spec.{Spec}
use Rattle.ss_expr.specs.declared.stream_operator.Spec.TheVariants.{Select, Union, Window, Join, Session, Except}
use Rattle.ss_meaning.specs.Emit.{Kind, emit}
use Rattle.ss_meaning.specs.Entries.{Entries, NoEntries, WindowEntries, JoinRows, SessionEntries, WindowEntry, entries_after}
use Rattle.ss_join.specs.ImageTests as join
use Rattle.ss_join.specs.States.{Sides, MayFollow}
use Rattle.ss_meaning.specs.Inputs.{least_bound}
use Rattle.ss_meaning.specs.Jobs.{Takes}
use Rattle.ss_meaning.specs.Low.{low}
use Rattle.ss_meaning.specs.Merge.{Arrival}
use Rattle.ss_merge.specs.Merging.{MergerState, StandsAfter, arriving}
use Rattle.ss_meaning.specs.Session.{SessionEntry}
use Rattle.ss_session.specs.ImageTests as session
use Rattle.ss_session.specs.States as sessions
use Rattle.ss_window.specs.ImageTests as window
use Rattle.ss_window.specs.States.{CountsFew}

-- what an operator computes, how far all its inputs have come, and what it remembers
pub record OperState : Type 0 where
  pub spec : Spec
  pub low : ℕ
  pub entries : Entries

-- the operator, with so many inputs, is where it is after p
pub record OperStandsAfter (inputs : ℕ) (p : List Arrival) (state : OperState) : Type 0 where
  pub low : state.low ≡ low inputs p
  pub entries : state.entries ≡ entries_after (operator_of state.spec) inputs p

-- the operator is where it is before any element, whatever its number of inputs
abbrev pub StandsBeforeAll : OperState → Type 0
StandsBeforeAll state = (inputs : ℕ) → 1 ≤ inputs → OperStandsAfter inputs [] state

-- x may arrive after p: the operator takes so many inputs, x is of one of them and may follow in it, and Low doesn't
-- fall
pub record MayArrive (kind : Kind) (inputs : ℕ) (p : List Arrival) (x : Arrival) : Type 0 where
  pub takes : Takes kind inputs
  pub within : x.input < inputs
  pub follows : MayFollow p x
  pub rises : low inputs p ≤ low inputs (p ++ x ∷ [])

-- after p and then x, the operator is where it is there, and the elements grew by exactly what it gives at x
pub record StepsAt (inputs : ℕ) (p : List Arrival) (x : Arrival) (old new : OperState) (before after : List Element)
    : Type 0 where
  pub stands : OperStandsAfter inputs (p ++ x ∷ []) new
  pub given : after ≡ before ++ emit (operator_of old.spec) inputs p x

-- so it is wherever the operator stood, x may arrive, and the merger stands now behind x of this input
abbrev pub Steps : MergerState → ℕ → Element → OperState → OperState → List Element → List Element → Type 0
Steps merger input x old new before after =
    (p : List Arrival) → OperStandsAfter (length merger.bounds) p old
    → MayArrive (operator_of old.spec) (length merger.bounds) p (arriving input x)
    → StandsAfter merger (p ++ arriving input x ∷ [])
    → StepsAt (length merger.bounds) p (arriving input x) old new before after

-- wherever the operator stands, x may arrive, and the merger stands then behind x of this input, so many elements are
-- given at x
abbrev pub CountsGiven : MergerState → ℕ → Element → OperState → ℕ → Type 0
CountsGiven merger input x state count =
    (p : List Arrival) → OperStandsAfter (length merger.bounds) p state
    → MayArrive (operator_of state.spec) (length merger.bounds) p (arriving input x)
    → StandsAfter merger (p ++ arriving input x ∷ [])
    → count ≡ length (emit (operator_of state.spec) (length merger.bounds) p (arriving input x))

-- no entry of a window and no session counts 2^62 rows
abbrev pub CountFew : Entries → Type 0
CountFew NoEntries = Unit {0}
CountFew (WindowEntries es) = All CountsFew es
CountFew (JoinRows left right) = Unit {0}
CountFew (SessionEntries es) = All sessions.CountsFew es

-- the entries of a window as what is remembered
abbrev pub as_window : Result (List WindowEntry) ℕ → Result Entries ℕ
as_window (Ok es) = Ok (WindowEntries es)
as_window (Err at) = Err at

-- the sessions that are open as what is remembered
abbrev pub as_sessions : Result (List SessionEntry) ℕ → Result Entries ℕ
as_sessions (Ok es) = Ok (SessionEntries es)
as_sessions (Err at) = Err at

-- the rows of a join as what is remembered
abbrev pub as_join : Result Sides ℕ → Result Entries ℕ
as_join (Ok sides) = Ok (JoinRows sides.left sides.right)
as_join (Err at) = Err at

-- where nothing is remembered there are no bytes
abbrev pub nothing_in : List ℕ → Result Entries ℕ
nothing_in [] = Ok NoEntries
nothing_in (b ∷ bytes) = Err 0

-- what the bytes say is remembered, where the inputs have these bounds, or the place of the first fault
abbrev pub remembered : Spec → List ℕ → List ℕ → Result Entries ℕ
remembered (Select test a b c d) bounds bytes = nothing_in bytes
remembered Union bounds bytes = nothing_in bytes
remembered (Window size hop agg of) bounds bytes = as_window (window.image_read hop agg (least_bound bounds) bytes)
remembered Join bounds bytes = as_join (join.image_read bounds bytes)
remembered (Session gap agg of) bounds bytes = as_sessions (session.image_read gap agg (least_bound bounds) bytes)
remembered Except bounds bytes = as_join (join.image_read bounds bytes)
