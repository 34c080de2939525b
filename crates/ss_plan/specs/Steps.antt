-- What one arrival adds.
use Rattle.std.specs.Prelude.{◌≡◌, ℕ, ◌+◌, ◌<◌, ◌≤◌, List, [], ◌∷◌, ◌++◌, length, map, take, get_or, slice_index}
use Rattle.std.specs.Prelude.{slice_set}
use Rattle.ss_elem.specs.declared.element.Element.{Element}
use Rattle.ss_elem.specs.declared.element.Element.TheVariants.{Row}
use Rattle.ss_meaning.specs.Bound.{bound_after}
use Rattle.ss_join.specs.States.{Sides, StandsAs, MayFollow}
use Rattle.ss_meaning.specs.Emit.{Kind, rows_at, emit}
use Rattle.ss_meaning.specs.Inputs.{bounds, least_bound}
use Rattle.ss_meaning.specs.Low.{low, advance}
use Rattle.ss_meaning.specs.Merge.{Arrival}

-- the bounds after one arrival
abbrev pub moved : List ℕ → Arrival → List ℕ
moved bounds x = slice_set bounds x.input (bound_after (slice_index bounds x.input) x.element)

-- the least bound of so many inputs never falls as more of these arrive
abbrev pub NeverFalls : ℕ → List Arrival → Type 0
NeverFalls inputs arrived = (n : ℕ) → low inputs (take n arrived) ≤ low inputs (take (n + 1) arrived)

-- the elements grew by the rows at x, whatever arrived before, and by what tells that the least bound rose
abbrev pub Adds : Kind → Arrival → List ℕ → List Element → List Element → Type 0
Adds kind x bounds before after =
    (inputs : ℕ) (p : List Arrival)
    → after
    ≡ before ++ map (λ row. Row row) (rows_at kind inputs p x)
    ++ advance (least_bound bounds) (least_bound (moved bounds x))

-- each of these may follow in its input, where those before it arrived
abbrev pub EachMayFollow : List Arrival → Type 0
EachMayFollow arrived = (n : ℕ) (x : Arrival) → n < length arrived → MayFollow (take n arrived) (get_or arrived n x)

-- behind each p after which these sides stood for an operator of this kind, where these are the bounds after p and x may
-- follow: the sides stand for it after both, and the elements grew by exactly what it gives at x
abbrev pub SideSteps : Kind → Sides → Sides → List ℕ → List Element → List Element → Arrival → Type 0
SideSteps kind old new stood before after x =
    (p : List Arrival) → StandsAs kind old p → stood ≡ bounds 2 p → MayFollow p x
    → StandsAs kind new (p ++ x ∷ []) × (after ≡ before ++ emit kind 2 p x)
