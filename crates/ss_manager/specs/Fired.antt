-- Which triggers a write fires.
use Rattle.std.specs.Prelude.{◌≡◌, ℕ, ◌<◌, ◌≤◌, ◌==◌, ◌&&◌, Bool, true, false, List, length, slice_get, IfSome}
use Rattle.ss_fail.specs.declared.trigger.Trigger.{Trigger}

-- whether it is for the write by which stream v has counted so many elements
abbrev pub fires : Trigger → ℕ → ℕ → Bool
fires t v stored = (t.v == v) && (t.count == stored)

-- none at or above `start` is
abbrev pub NoneFires : List Trigger → ℕ → ℕ → ℕ → Type 0
NoneFires ts start v stored = (j : ℕ) → start ≤ j → IfSome (slice_get ts j) (λ t. fires t v stored ≡ false)

-- that with number i is, and it is the first one at or above `start`
pub record IsNextFired (ts : List Trigger) (start v stored i : ℕ) : Type 0 where
  pub from : start ≤ i
  pub within : i < length ts
  pub fired : IfSome (slice_get ts i) (λ t. fires t v stored ≡ true)
  pub first : (j : ℕ) → start ≤ j → j < i → IfSome (slice_get ts j) (λ t. fires t v stored ≡ false)
