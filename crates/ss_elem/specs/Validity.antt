-- Which lists of elements are streams.
use Rattle.std.specs.Prelude.{Option, Some, None, ◌≡◌, ℕ, ◌^◌, ◌&&◌, nat_lt, nat_le, List, [], ◌∷◌, if◌then◌else◌}
use Rattle.std.specs.Option.{option_and_then}
use Rattle.ss_elem.specs.declared.element.Element.{Element}
use Rattle.ss_elem.specs.declared.element.Element.TheVariants.{Row, Cti, End}

-- the bound after End, above every time
abbrev pub top : ℕ
top = 2 ^ 63

-- the bound after an element that may follow at this bound
abbrev pub next_bound : ℕ → Element → Option ℕ
next_bound bound (Row event) =
    if nat_lt bound top && nat_lt event.end top && nat_lt event.start event.end && nat_le bound event.start
    then Some bound else None
next_bound bound (Cti time) = if nat_lt bound time && nat_lt time top then Some time else None
next_bound bound End = if nat_lt bound top then Some top else None

-- the bound after elements of which each may follow
abbrev pub bound_from : ℕ → List Element → Option ℕ
bound_from bound [] = Some bound
bound_from bound (x ∷ xs) = option_and_then (λ after. bound_from after xs) (next_bound bound x)

-- a valid list's bound: the time of its last Cti, 0 before any, top after End
abbrev pub bound_of : List Element → Option ℕ
bound_of xs = bound_from 0 xs

-- valid, and ended
abbrev pub Whole : List Element → Type 0
Whole xs = bound_of xs ≡ Some top
