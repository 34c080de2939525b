-- How far each input of a vertex has come, and which one goes next.
use Rattle.std.specs.Prelude.{ℕ, ◌+◌, min, nat_lt, nat_le, ◌&&◌, List, [], ◌∷◌, length, map, Option, Some, None}
use Rattle.std.specs.Prelude.{if◌then◌else◌}
use Rattle.std.specs.List.{range_with_len}
use Rattle.ss_elem.specs.Validity.{top}
use Rattle.ss_meaning.specs.Bound.{bound}
use Rattle.ss_meaning.specs.Merge.{Arrival, from_input}

-- the bounds of the first so many inputs, after what has arrived
abbrev pub bounds : ℕ → List Arrival → List ℕ
bounds inputs p = map (λ input. bound (from_input input p)) (range_with_len 0 inputs)

-- how many elements have arrived from each of them
abbrev pub counts : ℕ → List Arrival → List ℕ
counts inputs p = map (λ input. length (from_input input p)) (range_with_len 0 inputs)

-- the least of some bounds
abbrev pub least_bound : List ℕ → ℕ
least_bound [] = top
least_bound (b ∷ bs) = min b (least_bound bs)

-- the first input with the least bound, where these are the bounds of the inputs from this one on: none where all
-- have ended
abbrev pub next_from : ℕ → List ℕ → Option ℕ
next_from input [] = None
next_from input (b ∷ bs) = if nat_lt b top && nat_le b (least_bound bs) then Some input else next_from (input + 1) bs

-- the input that goes next
abbrev pub next_input : List ℕ → Option ℕ
next_input bs = next_from 0 bs
