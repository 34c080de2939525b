-- How what a pass keeps fits its view and its table.
use Rattle.std.specs.Prelude.{◌≡◌, ℕ, ◌<◌, ◌≤◌, List, map, Option as Maybe, None}
use Rattle.ss_turns.specs.declared.view.View.{View}
use Rattle.ss_turns.specs.View.{times}

-- slots that are out, each with its value moved away
abbrev pub emptied : {T : Type 0} → List ℕ → List (ℕ × Maybe T)
emptied held = map (λ k. (k, None)) held

-- of the slots that the seat has out, its view, the number of slots, the slots that are held and the room for them
pub record Fits {T P : Type 0}
    (out : List (ℕ × Maybe T)) (view : View P) (slots : ℕ) (held : List ℕ) (capacity : ℕ) : Type 0 where
  pub order : out ≡ emptied held
  pub same : (k : ℕ) → times k held ≡ times k view.has
  pub once : (k : ℕ) → times k held ≤ 1
  pub inside : (k : ℕ) → 0 < times k held → k < slots
  pub room : slots ≤ capacity
  pub share : 0 < view.share
