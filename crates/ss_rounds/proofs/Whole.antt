-- When a stream is whole, and that it stays so.
use Rattle.std.proofs.Common.{◌≡◌, ℕ, ◌+◌, ◌≤◌, nat_lt, nat_le, not, true, ◌&&◌, ◌||◌, Option, Some, None, IfSome, length, ap, ⊎_elim, arith, leb-true, ltb-false}
use Rattle.std.proofs.lemmas.Bool.{and_parts, or_cases, not-true, false≢true}
use Rattle.ss_state.specs.Numbers.{VertexNumbers, vertex, mlen, out, size}
use Rattle.ss_state.specs.State.{InstNumbers, tail_at, inst_at, durable_at}
use Rattle.ss_state.specs.Tails.{batch_from}
use Rattle.ss_state.specs.Rule.{snap_due, last_snap}
use Rattle.ss_state.specs.Laws.{NothingDurableFalls}
use Rattle.ss_state.specs.Joint.{InstStands}
use Rattle.ss_rounds.specs.Whole.{is_at_end, next_of, accepted_of, is_idle_at, is_stored_whole, has_full_batch}
use Rattle.ss_rounds.specs.Laws.{OverIsWhole, WholeStreamsStay, TakenSinksStay}
use Rattle.ss_rounds.proofs.Counting.{out_whole}

-- a replica at its end has written its whole stream
pub end_is_whole : (most : ℕ) (x : VertexNumbers) (inst : Option InstNumbers) → length x.given ≡ length x.arrivals → IfSome inst (InstStands most x) → is_at_end x inst ≡ true
    → next_of x inst ≡ size x
end_is_whole most x None given stands h = absurd (false≢true h)
end_is_whole most x (Some up) given stands h =
    let parts = and_parts (not (nat_lt 0 up.left)) (nat_le (mlen x) up.n) h in
    let none : up.left ≤ 0 = ltb-false 0 up.left (not-true (nat_lt 0 up.left) parts.0) in
    let all : mlen x ≤ up.n = leb-true (mlen x) up.n parts.1 in
    let same : out x up.n ≡ out x (mlen x) = ap (out x) (let e : up.n ≡ mlen x = omega (arith, stands.accepted.within) in e) in
    let whole = out_whole x given in
    omega arith

pub over_is_whole : OverIsWhole
over_is_whole job s v joint stream over none =
    let x = vertex job v in
    let inst = inst_at s v 0 in
    let tail = tail_at s v in
    let row = durable_at s v in
    let last = last_snap row.snaps in
    let stands = joint.memory.tail v in
    let short : tail.end ≤ batch_from tail = ltb-false (batch_from tail) tail.end none in
    let at_end : is_at_end x inst ≡ true → next_of x inst ≡ size x =
    end_is_whole job.max_elements x inst (joint.numbers.each v stream.0).given (joint.memory.inst v 0) in
    ⊎_elim
    (λ e. ⊎_elim
    (λ idle.
    let parts = and_parts (is_at_end x inst && not (snap_due x (accepted_of inst) last)) (nat_le (next_of x inst) tail.end) idle in
    let ended = at_end (and_parts (is_at_end x inst) (not (snap_due x (accepted_of inst) last)) parts.0).0 in
    let within = leb-true (next_of x inst) tail.end parts.1 in omega (arith, stands.seen, stands.from))
    (λ stored.
    let parts = and_parts (is_at_end x inst) (nat_le (next_of x inst) row.dur) stored in
    let ended = at_end parts.0 in
    let within = leb-true (next_of x inst) row.dur parts.1 in omega arith)
    (or_cases (is_idle_at job s v) (is_stored_whole x inst row.dur) e))
    (λ full. let many = leb-true (batch_from tail + 64) tail.end full in omega arith)
    (or_cases (is_idle_at job s v || is_stored_whole x inst row.dur) (has_full_batch tail) over)

pub whole_streams_stay : NothingDurableFalls → WholeStreamsStay
whole_streams_stay falls job s a v joint may whole u h stream =
    let grows = falls job s a may joint in
    let was = whole u h stream in
    let more = grows.dur u in
    omega arith

pub taken_sinks_stay : NothingDurableFalls → TakenSinksStay
taken_sinks_stay falls job s a k joint may taken j h sink =
    let grows = falls job s a may joint in
    let was = taken j h sink in
    let more = grows.taken j in
    omega arith
