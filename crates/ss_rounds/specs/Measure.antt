-- How far a driver is from its end, as one number: what is left to store, to take and to do.
use Rattle.std.specs.Prelude.{ℕ, zero, suc, ◌+◌, ◌-◌, ◌*◌, ◌==◌, nat_lt, Bool, ◌&&◌, ◌||◌, if◌then◌else◌}
use Rattle.std.specs.Prelude.{Option, Some, None, List, [], ◌∷◌, length}
use Rattle.ss_water.specs.Graph.{is_sink}
use Rattle.ss_fail.specs.declared.trigger.Trigger.{Trigger}
use Rattle.ss_state.specs.Numbers.{VertexNumbers, JobNumbers, is_inner, vertex, input, mlen, size}
use Rattle.ss_state.specs.State.{TailNumbers, InstNumbers, LedgerRow, State, tail_at, inst_at, durable_at, next}
use Rattle.ss_state.specs.LowWater.{low}
use Rattle.ss_state.specs.Rule.{snap_due, last_snap}

-- Two numbers as one, where the second is at most `most`: any fall of the first outweighs a rise of the second.
abbrev pub rank : ℕ → ℕ → ℕ → ℕ
rank most first second = first * (most + 1) + second

-- 1 where a test passes, 0 where it fails
abbrev pub bit : Bool → ℕ
bit b = if b then 1 else 0

-- f 0 + f 1 and so on, n numbers
abbrev pub sum_to : (ℕ → ℕ) → ℕ → ℕ
sum_to f zero = 0
sum_to f (suc n) = sum_to f n + f n

-- What is left to store of a stream.

-- how many triggers list a later write of stream v than the one of this count
abbrev pub waiting : List Trigger → ℕ → ℕ → ℕ
waiting [] v count = 0
waiting (t ∷ ts) v count =
    if (t.v == v) && nat_lt count t.count then waiting ts v count + 1 else waiting ts v count

-- the triggers that wait, then the elements that aren't stored, then whether the tail is still to be told of some
unfoldable pub store_left : VertexNumbers → ℕ → TailNumbers → LedgerRow → ℕ
store_left x waiting tail row = rank 1 (rank (size x) waiting (size x - row.dur)) (bit (nat_lt tail.seen row.dur))

-- What a replica has left to do.

-- a replica that has accepted fewer elements than this may find what it wants next collected, or not asked for any more
unfoldable pub floor : VertexNumbers → LedgerRow → ℕ
floor x row = if is_inner x.kind then low x row else row.dur

-- 1 for a replica that is down and has to load; 2 for one that will go down first, since it lies behind the floor or
-- ahead of its tail's end
abbrev pub stage : VertexNumbers → Option InstNumbers → ℕ → ℕ → ℕ
stage x None end floor = 1
stage x (Some up) end floor = if nat_lt end (next x up) || nat_lt up.n floor then 2 else 0

-- the elements that it still accepts and those that it still writes, each counted twice, and whether a snapshot is due
abbrev pub effort : VertexNumbers → Option InstNumbers → ℕ → ℕ
effort x None last = 0
effort x (Some up) last = 2 * ((mlen x - up.n) + (size x - next x up)) + bit (snap_due x up.n last)

-- no effort is greater
abbrev pub effort_most : VertexNumbers → ℕ
effort_most x = 2 * (mlen x + size x) + 1

unfoldable pub work_left : VertexNumbers → TailNumbers → Option InstNumbers → LedgerRow → ℕ
work_left x tail inst row =
    rank (effort_most x) (stage x inst tail.end (floor x row)) (effort x inst (last_snap row.snaps))

-- it is always less than this
abbrev pub work_most : VertexNumbers → ℕ
work_most x = rank (effort_most x) 3 0

-- What is left of a whole job, whose streams the first replicas make.

-- of a sink the lines that it hasn't put, of any other vertex what is left to store of its stream
unfoldable pub far : JobNumbers → List Trigger → State → ℕ → ℕ
far job ts s v =
    let x = vertex job v in
    if is_sink x.kind then size (vertex job (input x 0)) - (durable_at s v).taken
    else store_left x (waiting ts v (tail_at s v).stored) (tail_at s v) (durable_at s v)

-- what the first replica has left to do
unfoldable pub near : JobNumbers → State → ℕ → ℕ
near job s v =
    let x = vertex job v in
    if is_sink x.kind then 0 else work_left x (tail_at s v) (inst_at s v 0) (durable_at s v)

-- what is far, then what is near, each summed over the vertices: an act may raise what is near where it lowers what is
-- far
unfoldable pub total_left : JobNumbers → List Trigger → State → ℕ
total_left job ts s =
    let all = length job.vertices in
    rank (sum_to (λ v. work_most (vertex job v)) all) (sum_to (far job ts s) all) (sum_to (near job s) all)
