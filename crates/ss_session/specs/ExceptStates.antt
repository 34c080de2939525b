-- What a join by absence gives at a moment.
use Rattle.std.specs.Prelude.{◌≡◌, ℕ, List, [], ◌∷◌, ◌++◌, length}
use Rattle.ss_elem.specs.declared.element.Element.{Element}
use Rattle.ss_join.specs.States.{Sides, StandsAs, MayFollow, AreBoundsAfter, arrival}
use Rattle.ss_meaning.specs.Merge.{Arrival}
use Rattle.ss_meaning.specs.Emit.{Except, rows_at}

-- after each p after which it stood and x may follow, where the bounds given are those after x, the operator gives so
-- many rows at x
abbrev pub CountsGiven : Sides → ℕ → Element → List ℕ → ℕ → Type 0
CountsGiven sides input x bounds count =
    (p : List Arrival) → StandsAs Except sides p → MayFollow p (arrival input x)
    → AreBoundsAfter (p ++ arrival input x ∷ []) bounds → count ≡ length (rows_at Except 2 p (arrival input x))
