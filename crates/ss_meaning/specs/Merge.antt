-- How several streams become one.
use Rattle.std.specs.Prelude.{ℕ, ◌==◌, nat_lt, nat_le, Bool, ◌&&◌, ◌||◌, not, if◌then◌else◌, List, [], ◌∷◌, map, filter}
use Rattle.std.specs.Prelude.{flat_map}
use Rattle.ss_elem.specs.declared.element.Element.{Element}
use Rattle.ss_meaning.specs.Segments.{Segment, all_segments}

-- an element with the number of the input from which it came
pub record Arrival : Type 0 where
  pub input : ℕ
  pub element : Element

-- whether a segment goes before another: the one with the lower bound, and of equal bounds that of the lower input
abbrev pub goes_first : Segment → Segment → Bool
goes_first s t = nat_lt s.bound t.bound || (s.bound == t.bound && nat_le s.input t.input)

-- whether it does, and not only because both are equal
abbrev pub precedes : Segment → Segment → Bool
precedes s t = not (goes_first t s)

-- a segment put in its place among others that are in order
abbrev pub insert_segment : Segment → List Segment → List Segment
insert_segment s [] = s ∷ []
insert_segment s (t ∷ ts) = if goes_first s t then s ∷ t ∷ ts else t ∷ insert_segment s ts

-- the segments in their order
abbrev pub segments_in_order : List Segment → List Segment
segments_in_order [] = []
segments_in_order (s ∷ ss) = insert_segment s (segments_in_order ss)

-- the elements of a segment, each with its input
abbrev pub arrivals : Segment → List Arrival
arrivals s = map (λ x. record { input = s.input; element = x }) s.elements

-- the merge: all segments of all inputs in their order, joined
abbrev pub merge : List (List Element) → List Arrival
merge inputs = flat_map arrivals (segments_in_order (all_segments 0 inputs))

-- whether an arrival came from an input
abbrev pub is_from : ℕ → Arrival → Bool
is_from input x = x.input == input

-- the elements that came from an input
abbrev pub from_input : ℕ → List Arrival → List Element
from_input input p = map (λ x. x.element) (filter (is_from input) p)
