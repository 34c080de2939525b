-- The rule over turns, values at home, views and shares. Every step of every pass keeps it.
use Rattle.std.specs.Prelude.{◌≡◌, ℕ, ◌+◌, ◌<◌, ◌≤◌, length, slice_index, sum_by, Option as Maybe, Some}
use mathlib.Core.Option.{some}
use lib.ListN.{get_elem?}
use Rattle.atomic_table.specs.Table.{State}
use Rattle.ss_turns.specs.declared.view.View.{View}
use Rattle.ss_turns.specs.View.{times, spent}

-- for values of T with a place and a plan: all have the plan p, and `passes` shares were handed out
pub record Kept {T P : Type 0}
    (place : T → ℕ) (plan : T → P) (p : P) (passes : ℕ) (s : State (Maybe T) (View P)) : Type 0 where
  -- each slot has a word, its turn, and the last word is the stop word
  pub wide : length s.words ≡ length s.homes + 1
  -- a turn is the number of views that have its slot
  pub turn : (k : ℕ) → k < length s.homes → slice_index s.words k ≡ sum_by (λ v. times k v.has) s.views
  -- no two views have one slot
  pub single : (k : ℕ) → k < length s.homes → slice_index s.words k ≤ 1
  -- a slot that no view has is at home, with a value of its own place and of the plan
  pub home : (k : ℕ) → k < length s.homes → slice_index s.words k ≡ 0
      → (x : T) × (get_elem? s.homes k ≡ some (some (Some x))) × (place x ≡ k) × (plan x ≡ p)
  -- no share is lost or made
  pub shares : sum_by (λ v. v.share) s.views ≡ passes
  -- every view that has a share knows the plan
  pub same_plan : (j : ℕ) (v : View P) → get_elem? s.views j ≡ some v → 0 < v.share → v.plan ≡ Some p
  -- only what a join has spent has no share
  pub no_share : (j : ℕ) (v : View P) → get_elem? s.views j ≡ some v → v.share ≡ 0 → v ≡ spent
  -- the stop word is set, or some view was told of it, only where some view has asked for a stop
  pub told : 0 < slice_index s.words (length s.homes) + sum_by (λ v. v.heard) s.views
      → 0 < sum_by (λ v. v.stops) s.views
  -- where some view has asked for a stop, the stop word is set
  pub asked : 0 < sum_by (λ v. v.stops) s.views → 0 < slice_index s.words (length s.homes)
