-- Why an element may not follow.
use Rattle.std.specs.Prelude.{Option, Some, None, ◌≡◌, ℕ, ◌<◌, ◌≤◌, nat_le, if◌then◌else◌}
use Rattle.ss_elem.specs.declared.element.Event.{Event}
use Rattle.ss_elem.specs.declared.element.Element.{Element}
use Rattle.ss_elem.specs.declared.element.Element.TheVariants.{Row, Cti, End}
use Rattle.ss_elem.specs.declared.validity.NotNext.{NotNext}
use Rattle.ss_elem.specs.declared.validity.NotNext.TheVariants.{AfterEnd, Far, EmptySpan, Early, Backward}
use Rattle.ss_elem.specs.Validity.{top}

-- the first of the element's times that no stream may reach, a row's start before its end
abbrev pub far_time : Element → Option ℕ
far_time (Row event) =
    if nat_le top event.start then Some event.start else (if nat_le top event.end then Some event.end else None)
far_time (Cti time) = if nat_le top time then Some time else None
far_time End = None

-- the stream goes on, and the element's times are within it
abbrev pub IsNear : ℕ → Element → Type 0
IsNear bound x = (bound < top) × (far_time x ≡ None)

abbrev pub IsRowAnd : Element → (Event → Type 0) → Type 0
IsRowAnd (Row event) P = P event
IsRowAnd (Cti time) P = ⊥
IsRowAnd End P = ⊥

abbrev pub IsCtiAnd : Element → (ℕ → Type 0) → Type 0
IsCtiAnd (Row event) P = ⊥
IsCtiAnd (Cti time) P = P time
IsCtiAnd End P = ⊥

-- each reason stands only where none before it does
abbrev pub IsNotNext : ℕ → Element → NotNext → Type 0
IsNotNext bound x AfterEnd = bound ≡ top
IsNotNext bound x (Far time) = (bound < top) × (far_time x ≡ Some time)
IsNotNext bound x EmptySpan = IsNear bound x × IsRowAnd x (λ event. event.end ≤ event.start)
IsNotNext bound x (Early start at) =
    IsNear bound x
    × IsRowAnd x (λ event. (event.start < event.end) × (event.start < bound) × (start ≡ event.start) × (at ≡ bound))
IsNotNext bound x (Backward time at) =
    IsNear bound x × IsCtiAnd x (λ given. (given ≤ bound) × (time ≡ given) × (at ≡ bound))
