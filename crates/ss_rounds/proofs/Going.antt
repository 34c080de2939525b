-- What comes of a first replica's act.
use Rattle.std.proofs.Common.{◌≡◌, ℕ, ◌<◌, ◌≤◌, ◌⊎◌, true, false, Option, List, inl, inr, arith}
use Rattle.ss_fail.specs.declared.trigger.Trigger.{Trigger}
use Rattle.ss_fail.specs.declared.outcome.Outcome.{Outcome}
use Rattle.ss_state.specs.Numbers.{JobNumbers, IsStream, vertex}
use Rattle.ss_state.specs.State.{TailNumbers, InstNumbers, State, tail_at, inst_at, durable_at, put_tail, put_inst}
use Rattle.ss_state.specs.Step.{Step}
use Rattle.ss_state.specs.Rule.{last_snap}
use Rattle.ss_state.specs.Joint.{Joint}
use Rattle.ss_rounds.specs.Measure.{waiting, floor, stage, effort, total_left}
use Rattle.ss_rounds.specs.Whole.{is_wait, is_idle_at, WholeBelow}
use Rattle.ss_rounds.proofs.Sums.{Lower}
use Rattle.ss_rounds.proofs.Parts.{waiting_le, store_le, work_lower}
use Rattle.ss_rounds.proofs.Frames.{places, became_both, became_inst, stream_lower}

-- there was nothing to do; or the total is lower; or it is told Wait, leaves all as it was, and an earlier stream isn't whole
abbrev pub Went : JobNumbers → List Trigger → State → ℕ → Step → Type 0
Went job ts s v did =
    ((is_idle_at job s v ≡ true) × (is_wait did.outcome ≡ false))
    ⊎ (((total_left job ts did.state < total_left job ts s) × (is_wait did.outcome ≡ false))
    ⊎ ((did.state ≡ s) × (is_wait did.outcome ≡ true) × (WholeBelow job s v → ⊥)))

-- a first replica and its tail, where the replica has less to do
pub both_went : (job : JobNumbers) (ts : List Trigger) (s : State) (v : ℕ) (old : Option InstNumbers) (tail : TailNumbers) (inst : Option InstNumbers) (o : Outcome)
    → Joint job s → IsStream job v → inst_at s v 0 ≡ old → (tail_at s v).stored ≤ tail.stored → (tail_at s v).seen ≤ tail.seen → is_wait o ≡ false
    → Lower (stage (vertex job v) old (tail_at s v).end (floor (vertex job v) (durable_at s v))) (effort (vertex job v) old (last_snap (durable_at s v).snaps))
    (stage (vertex job v) inst tail.end (floor (vertex job v) (durable_at s v))) (effort (vertex job v) inst (last_snap (durable_at s v).snaps))
    → Went job ts s v (record { state = put_inst (put_tail s v tail) v 0 inst; outcome = o })
both_went job ts s v old tail inst o joint stream e stored seen told h =
    let x = vertex job v in
    let row = durable_at s v in
    let was = tail_at s v in
    let less = store_le x (waiting ts v was.stored) (waiting ts v tail.stored) was tail row row (waiting_le ts v was.stored tail.stored stored) seen (omega arith) in
    let work = work_lower x was tail old inst row row h in
    inr (inl (stream_lower job ts s (put_inst (put_tail s v tail) v 0 inst) v old tail inst row stream e (became_both s v tail inst (places job s v joint stream)) (inr (less, work)), told))

-- a first replica alone
pub inst_went : (job : JobNumbers) (ts : List Trigger) (s : State) (v : ℕ) (old inst : Option InstNumbers) (o : Outcome)
    → Joint job s → IsStream job v → inst_at s v 0 ≡ old → is_wait o ≡ false
    → Lower (stage (vertex job v) old (tail_at s v).end (floor (vertex job v) (durable_at s v))) (effort (vertex job v) old (last_snap (durable_at s v).snaps))
    (stage (vertex job v) inst (tail_at s v).end (floor (vertex job v) (durable_at s v))) (effort (vertex job v) inst (last_snap (durable_at s v).snaps))
    → Went job ts s v (record { state = put_inst s v 0 inst; outcome = o })
inst_went job ts s v old inst o joint stream e told h =
    let x = vertex job v in
    let row = durable_at s v in
    let tail = tail_at s v in
    let work = work_lower x tail tail old inst row row h in
    inr (inl (stream_lower job ts s (put_inst s v 0 inst) v old tail inst row stream e (became_inst s v inst (places job s v joint stream)) (inr (omega arith, work)), told))
