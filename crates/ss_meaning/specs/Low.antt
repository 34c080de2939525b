-- How far all inputs of a vertex have come.
use Rattle.std.specs.Prelude.{ℕ, zero, suc, min, nat_lt, if◌then◌else◌, List, [], ◌∷◌}
use Rattle.ss_elem.specs.Validity.{top}
use Rattle.ss_elem.specs.declared.element.Element.{Element}
use Rattle.ss_elem.specs.declared.element.Element.TheVariants.{Cti, End}
use Rattle.ss_meaning.specs.Bound.{bound}
use Rattle.ss_meaning.specs.Merge.{Arrival, from_input}

-- the least bound of the first so many inputs, after what has arrived
abbrev pub low : ℕ → List Arrival → ℕ
low zero p = top
low (suc input) p = min (bound (from_input input p)) (low input p)

-- the element that tells this bound
abbrev pub cti_or_end : ℕ → Element
cti_or_end time = if nat_lt time top then Cti time else End

-- what is given where Low was one and is now another: nothing where it didn't rise
abbrev pub advance : ℕ → ℕ → List Element
advance before after = if nat_lt before after then cti_or_end after ∷ [] else []
