-- What contracts see of the turns, of a pass and of closed turns, and what is asked of the values at the start.
use Rattle.std.specs.Prelude.{◌≡◌, ℕ, Bool, List, slice_get, Option, Some}
use Rattle.atomic_table.specs.Seated.{TableId}
use Rattle.ss_turns.specs.declared.view.View.{View}

-- which table it is, of how many slots, and how many shares there are in all
pub record TurnsValue : Type 0 where
  pub of : TableId
  pub passes : ℕ

-- of which table the pass is, and what it has done
pub record PassValue (P : Type 0) : Type 0 where
  pub of : TableId
  pub view : View P

-- the plan of the pass that closed the turns, and for each slot whether its value is there
pub record ClosedValue (P : Type 0) : Type 0 where
  pub plan : Option P
  pub there : List Bool

-- the pass is of this table
abbrev pub IsPassOf : {P : Type 0} → TurnsValue → PassValue P → Type 0
IsPassOf turns pass = pass.of ≡ turns.of

-- the value at index k has place k
abbrev pub AtPlaces : {T : Type 0} → (T → ℕ) → List T → Type 0
AtPlaces {T} place values = (k : ℕ) (x : T) → slice_get values k ≡ Some x → place x ≡ k

-- all values have one plan
abbrev pub HaveOnePlan : {T P : Type 0} → (T → P) → List T → Type 0
HaveOnePlan {T} plan values =
    (j k : ℕ) (x y : T) → slice_get values j ≡ Some x → slice_get values k ≡ Some y → plan x ≡ plan y
