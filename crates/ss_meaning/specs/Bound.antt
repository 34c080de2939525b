-- How far a stream has come, and its rows.
use Rattle.std.specs.Prelude.{ℕ, List, [], ◌∷◌, flat_map}
use Rattle.ss_elem.specs.Validity.{top}
use Rattle.ss_elem.specs.declared.element.Event.{Event}
use Rattle.ss_elem.specs.declared.element.Element.{Element}
use Rattle.ss_elem.specs.declared.element.Element.TheVariants.{Row, Cti, End}

-- the bound after an element: a row changes nothing, a Cti moves it to its time, End moves it above every time
abbrev pub bound_after : ℕ → Element → ℕ
bound_after before (Row row) = before
bound_after before (Cti time) = time
bound_after before End = top

-- the bound after elements that follow a stream at this bound
abbrev pub bound_past : ℕ → List Element → ℕ
bound_past before [] = before
bound_past before (x ∷ xs) = bound_past (bound_after before x) xs

-- the bound of a stream so far: the time of its last Cti, 0 before any, top after End
abbrev pub bound : List Element → ℕ
bound xs = bound_past 0 xs

-- the row, where the element is one
abbrev pub row_of : Element → List Event
row_of (Row row) = row ∷ []
row_of (Cti time) = []
row_of End = []

-- the rows among elements, in their order
abbrev pub rows : List Element → List Event
rows xs = flat_map row_of xs
