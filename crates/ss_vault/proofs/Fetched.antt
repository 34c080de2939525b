-- The snapshot that a fetch gives.
use Rattle.std.proofs.Common.{◌≡◌, ℕ, ◌≤◌, Bool, true, Some, None, ap, ◌∙◌, arith, if◌then◌else◌}
use Rattle.ss_codec.specs.Frame.{frame_bytes}
use Rattle.ss_frames.specs.Frames.{frame_of}
use Rattle.ss_frames.specs.Plans.{plan_numbers}
use Rattle.ss_frames.specs.Snapshot.{IsSnapshot}
use Rattle.ss_plan.specs.Plan.{PlanText}
use Rattle.ss_state.specs.Journal.{is_one_of}
use Rattle.ss_state.specs.LowWater.{low, snap_within}
use Rattle.ss_state.specs.Numbers.{IsOperator, vertex}
use Rattle.ss_vault.specs.Answers.{fetched}
use Rattle.ss_vault.specs.Facts.{IsCoded, SnapshotFacts}
use Rattle.ss_vault.specs.NumbersHeld.{greatest_within, snaps_held}
use Rattle.ss_vault.specs.Sound.{Sound}
use Rattle.ss_vault.specs.Told.{VaultTold, durable_of, numbers_of}
use Rattle.ss_vault.proofs.Starts.{low_given, sound_within, within_is_one}

-- snapshot n of v, which is the one wanted, is held
pub record FetchedAt (plan : PlanText) (s : VaultTold) (v limit n : ℕ) : Type 0 where
  pub is : n ≡ fetched (plan_numbers plan) (numbers_of s).ledger v limit
  pub held : s.depot.contents.frames v n ≡ Some (frame_bytes (frame_of plan v n))
  pub coded : IsCoded plan v n (frame_of plan v n)
  pub snapshot : IsSnapshot plan (frame_of plan v n)

pub fetched_at : (plan : PlanText) → SnapshotFacts plan → (s : VaultTold) (v limit n : ℕ) → Sound plan s → IsOperator (plan_numbers plan) v
    → (durable_of s v).dur ≤ limit → n ≡ greatest_within (snaps_held s.held v) limit → FetchedAt plan s v limit n
fetched_at plan snaps s v limit n sound operator least e =
    let x = vertex (plan_numbers plan) v in
    let row = sound.numbers.stands.row v in
    let held = sound.snapshots v in
    let is : n ≡ snap_within x (durable_of s v).snaps limit = e ∙ sound_within plan snaps s v limit sound operator in
    let given = low_given x (durable_of s v) operator.1 in
    let one : is_one_of n (durable_of s v).snaps ≡ true =
    ap (λ (i : ℕ). is_one_of i (durable_of s v).snaps) is
    ∙ within_is_one x (durable_of s v).snaps limit (low x (durable_of s v)) (row.low operator.1) (omega (arith, given, least)) in
    let accepted = row.snaps n one in
    record {
      is = is;
      held = held.frames n ∙ ap (λ (b : Bool). if b then Some (frame_bytes (frame_of plan v n)) else None) one;
      coded = snaps.coded v n operator accepted;
      snapshot = snaps.snapshot v n operator accepted (held.kept n one);
    }
