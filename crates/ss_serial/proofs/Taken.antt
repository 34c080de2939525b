-- A sink that has no line left which is stored.
use Rattle.std.proofs.Common.{◌≡◌, ℕ, false, arith, ltb-false}
use Rattle.ss_engine.specs.Joint.{Joint}
use Rattle.ss_engine.specs.Told.{PlantTold, state_of}
use Rattle.ss_state.specs.State.{durable_at}
use Rattle.ss_serial.specs.Ends.{AllPut}
use Rattle.ss_serial.specs.Stored.{IsPut, IsStored, PutBelow, has_line, stream_put, vertex_count}
use Rattle.ss_serial.proofs.Progress.{is_stored_on}

pub all_put : (p q : PlantTold) (k : ℕ) → q.plan ≡ p.plan → state_of q ≡ state_of p → has_line q k ≡ false → IsStored p (stream_put p k) → IsPut q k
all_put p q k same state none stored =
    let whole = is_stored_on p q k same state stored in
    let past = ltb-false (durable_at (state_of q) k).taken (durable_at (state_of q) (stream_put q k)).dur none in
    omega (arith, whole, past)

-- where all sinks have put all, each has put as many lines as its stream has elements
pub put_all : (q : PlantTold) → Joint q → PutBelow q (vertex_count q) → AllPut q
put_all q joint put = λ k sink.
    let most = (joint.numbers.vault.stands.row (stream_put q k)).dur in
    let stored = joint.numbers.vault.stands.taken k sink in
    let all = put k sink.0 sink in
    omega (arith, most, stored, all)
