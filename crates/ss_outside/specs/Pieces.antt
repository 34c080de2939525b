-- Byte strings that stand one behind another, by the places where they end.
use Rattle.std.specs.Prelude.{ℕ, zero, suc, ◌==◌, ◌&&◌, nat_le, Bool, List, [], ◌∷◌, slice_index}
use Rattle.std.specs.List.{slice_range}

-- the strings that end at these places, of which the first begins here
abbrev pub pieces : List ℕ → ℕ → List ℕ → List (List ℕ)
pieces bytes start [] = []
pieces bytes start (end ∷ ends) = slice_range bytes start end ∷ pieces bytes end ends

-- each string ends no earlier than it begins, and the last one where all bytes end
abbrev pub are_ends : ℕ → List ℕ → ℕ → Bool
are_ends start [] len = start == len
are_ends start (end ∷ ends) len = nat_le start end && are_ends end ends len

-- where the string at this place begins
abbrev pub start_at : ℕ → List ℕ → ℕ → ℕ
start_at start ends zero = start
start_at start ends (suc place) = slice_index ends place
