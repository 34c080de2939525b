-- What it brings that a first replica loads.
use Rattle.std.proofs.Common.{◌≡◌, ℕ, ◌≤◌, nat_lt, false, Some, None, List, refl, sym, subst, inl, arith, ltb-false}
use Rattle.std.proofs.lemmas.Bool.{cond_both, cond-false}
use Rattle.ss_fail.specs.declared.act.Act.TheVariants as act
use Rattle.ss_fail.specs.declared.trigger.Trigger.{Trigger}
use Rattle.ss_fail.specs.declared.outcome.Outcome.TheVariants as outcome
use Rattle.ss_state.specs.Numbers.{VertexNumbers, JobNumbers, IsStream, is_inner, vertex, mlen, size}
use Rattle.ss_state.specs.State.{TailNumbers, InstNumbers, LedgerRow, State, tail_at, inst_at, durable_at, next}
use Rattle.ss_state.specs.LowWater.{snap_within}
use Rattle.ss_state.specs.Tails.{restarted}
use Rattle.ss_state.specs.Acts.{InstAndTailStep, load_tail, load_inst, load_act}
use Rattle.ss_state.specs.Step.{step, with_inst_and_tail}
use Rattle.ss_state.specs.IsNumbers.{IsVertex}
use Rattle.ss_state.specs.Joint.{TailStands, most_of, Joint}
use Rattle.ss_rounds.specs.Measure.{floor}
use Rattle.ss_rounds.proofs.Counting.{out_whole}
use Rattle.ss_rounds.proofs.Greatest.{within_limit, within_grows}
use Rattle.ss_rounds.proofs.Parts.{stage_none}
use Rattle.ss_rounds.proofs.Going.{Went, both_went}
use Rattle.ss_rounds.proofs.Snapping.{floor_inner}

-- the tail into which a replica that comes up writes
record Begun (most : ℕ) (tail : TailNumbers) (row : LedgerRow) (new : TailNumbers) : Type 0 where
  stored : new.stored ≡ tail.stored
  seen : tail.seen ≤ new.seen
  above : row.dur ≤ new.end
  within : new.end ≤ most

begun : (most : ℕ) (tail : TailNumbers) (row : LedgerRow) → TailStands most tail row → row.dur ≤ most → Begun most tail row (load_tail tail row)
unfolding load_tail
begun most tail row stands h = cond_both (nat_lt tail.end row.dur) (restarted tail row.dur) tail (Begun most tail row)
    (λ t. record { stored = refl; seen = stands.seen; above = omega arith; within = h })
    (λ t. let near = ltb-false tail.end row.dur t in record { stored = refl; seen = omega arith; above = near; within = stands.end })

pub floor_plain : (x : VertexNumbers) (row : LedgerRow) → is_inner x.kind ≡ false → floor x row ≡ row.dur
unfolding floor
floor_plain x row e = cond-false (is_inner x.kind) _ row.dur e

-- from where it goes on
record Loads (x : VertexNumbers) (tail : TailNumbers) (row : LedgerRow) (up : InstNumbers) : Type 0 where
  near : next x up ≤ tail.end
  above : floor x row ≤ up.n

loads : (job : JobNumbers) (v : ℕ) (x : VertexNumbers) (tail : TailNumbers) (row : LedgerRow) → IsVertex job v x → row.dur ≤ tail.end → tail.end ≤ size x → Loads x tail row (load_inst x tail row)
unfolding load_inst
loads job v x tail row is above within =
    cond_both (is_inner x.kind) (snap_within x row.snaps tail.end) tail.end (λ n. Loads x tail row (record { n = n; left = 0 }))
    (λ e.
    let limit = within_limit x row.snaps tail.end in
    let more = within_grows x row.snaps row.dur tail.end above in
    record { near = omega arith; above = omega (arith, floor_inner x row e) })
    (λ e.
    let whole = out_whole x is.given in
    let all = is.plain e (mlen x) (omega arith) in
    let plain = is.plain e tail.end (omega arith) in
    record { near = omega arith; above = omega (arith, floor_plain x row e) })

pub load_went : (job : JobNumbers) (ts : List Trigger) (s : State) (v : ℕ) → Joint job s → IsStream job v → inst_at s v 0 ≡ None → Went job ts s v (step job s (act.Load v 0))
load_went job ts s v joint stream e =
    let x = vertex job v in
    let tail = tail_at s v in
    let row = durable_at s v in
    let stored = joint.vault.stands.row v in
    let new = load_tail tail row in
    let P : InstAndTailStep → Type 0 = λ did. Went job ts s v (with_inst_and_tail s v 0 did) in
    let first = begun (most_of job v) tail row (joint.memory.tail v) stored.dur in
    let up = load_inst x new row in
    let then = loads job v x new row (joint.numbers.each v stream.0) first.above (omega (arith, first.within)) in
    let none = stage_none x up new.end (floor x row) then.near then.above in
    subst (λ p. P (load_act x p tail row)) (sym e)
    (both_went job ts s v None new (Some up) (outcome.Loaded up.n) joint stream e (omega (arith, first.stored)) first.seen refl (inl (omega arith)))
