-- What each step on a word tells the pass that makes it: its view and the slots that it has out, before and after.
use Rattle.std.specs.Prelude.{◌≡◌, ◌≢◌, ℕ, ◌+◌, ◌<◌, ◌==◌, not, List, [], ◌∷◌, Option as Maybe, Some, None}
use Rattle.atomic_table.specs.Table.{Me, Step, rest}
use Rattle.ss_turns.specs.declared.view.View.{View}
use Rattle.ss_turns.specs.View.{took, missed, gave_back, asked, looked}

abbrev pub Holder : Type 0 → Type 0 → Type 0
Holder T P = Me (Maybe T) (View P)

-- the numbers of the value that lies in the slot taken last
abbrev pub first_numbers : {T : Type 0} → (T → List ℕ) → List (ℕ × Maybe T) → List ℕ
first_numbers numbers [] = []
first_numbers numbers ((k, None) ∷ out) = []
first_numbers numbers ((k, Some x) ∷ out) = numbers x

module _ {T P : Type 0} where
  -- turn 0 was found, and the slot's value is out with the pass; or the turn was taken
  abbrev pub Takes : (T → ℕ) → (T → P) → (T → List ℕ) → Step (Maybe T) → Holder T P → ℕ → Holder T P → Type 0
  Takes place plan numbers st m found m' =
      (found ≡ 0 → (x : T) × (place x ≡ st.word) × (m.0.plan ≡ Some (plan x))
      × (m' ≡ (took m.0 st.word (numbers x), (st.word, Some x) ∷ m.1)))
      × (found ≢ 0 → m' ≡ (missed m.0, m.1))

  -- the slot taken last goes home with the value that lies in it
  abbrev pub GivesBack : (T → List ℕ) → Step (Maybe T) → Holder T P → ℕ → Holder T P → Type 0
  GivesBack numbers st m stored m' = m' ≡ (gave_back m.0 st.word (first_numbers numbers m.1), rest m.1)

  abbrev pub Asks : Step (Maybe T) → Holder T P → ℕ → Holder T P → Type 0
  Asks st m stored m' = m' ≡ (asked m.0, m.1)

  -- a pass that has asked for a stop, or was told of one before, finds the stop word set
  abbrev pub Looks : Step (Maybe T) → Holder T P → ℕ → Holder T P → Type 0
  Looks st m found m' = (m' ≡ (looked m.0 (not (found == 0)), m.1)) × (0 < m.0.stops + m.0.heard → found ≢ 0)
