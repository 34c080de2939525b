-- The words and the slots of a table that was closed.
use Rattle.std.specs.Prelude.{◌≡◌, ℕ, ◌+◌, ◌==◌, ◌&&◌, Bool, List, [], ◌∷◌, length, slice_index, slice_get, is_some}
use Rattle.std.specs.Prelude.{Option as Maybe, Some}

-- which slots have a turn of 0 and a value
abbrev pub at_home : {T : Type 0} → List ℕ → List (Maybe T) → List Bool
at_home words [] = []
at_home [] (x ∷ slots) = []
at_home (turn ∷ words) (x ∷ slots) = ((turn == 0) && is_some x) ∷ at_home words slots

-- a value whose turn is 0 has its slot's place and the plan
pub record Stands {T P : Type 0}
    (place : T → ℕ) (plan : T → P) (of : Maybe P) (words : List ℕ) (slots : List (Maybe T)) : Type 0 where
  pub wide : length words ≡ length slots + 1
  pub value : (k : ℕ) (x : T) → slice_index words k ≡ 0 → slice_get slots k ≡ Some (Some x)
      → (place x ≡ k) × (of ≡ Some (plan x))
