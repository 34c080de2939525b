-- A running job whose memory is lost. `p` is what it tells before that, and `q` after it.
use Rattle.std.specs.Prelude.{◌≡◌, ◌≢◌, ℕ, None}
use Rattle.ss_frames.specs.Plans.{plan_numbers}
use Rattle.ss_state.specs.Acts.{lose_act}
use Rattle.ss_state.specs.Numbers.{IsStream}
use Rattle.ss_state.specs.State.{inst_at, tail_at}
use Rattle.ss_engine.specs.Told.{PlantTold, state_of}

-- every stream's tail is what a lose leaves of it, every replica is down, and what is stored is as it was
pub record IsWiped (p q : PlantTold) : Type 0 where
  pub plan : q.plan ≡ p.plan
  pub tails : (v : ℕ) → IsStream (plan_numbers p.plan) v
      → tail_at (state_of q) v ≡ (lose_act (tail_at (state_of p) v)).tail
  pub insts : (v r : ℕ) → inst_at (state_of q) v r ≡ None
  pub vault : q.vault ≡ p.vault

-- so it is at vertex v, and the parts of the others are as they were
pub record IsWipedAt (v : ℕ) (p q : PlantTold) : Type 0 where
  pub plan : q.plan ≡ p.plan
  pub tail : IsStream (plan_numbers p.plan) v → tail_at (state_of q) v ≡ (lose_act (tail_at (state_of p) v)).tail
  pub insts : (r : ℕ) → inst_at (state_of q) v r ≡ None
  pub vault : q.vault ≡ p.vault
  pub other_tails : (w : ℕ) → w ≢ v → tail_at (state_of q) w ≡ tail_at (state_of p) w
  pub other_insts : (w r : ℕ) → w ≢ v → inst_at (state_of q) w r ≡ inst_at (state_of p) w r

-- every replica of vertex v is down, and all else is as it was
pub record IsDownAt (v : ℕ) (p q : PlantTold) : Type 0 where
  pub plan : q.plan ≡ p.plan
  pub tails : (w : ℕ) → tail_at (state_of q) w ≡ tail_at (state_of p) w
  pub insts : (r : ℕ) → inst_at (state_of q) v r ≡ None
  pub vault : q.vault ≡ p.vault
  pub others : (w r : ℕ) → w ≢ v → inst_at (state_of q) w r ≡ inst_at (state_of p) w r
