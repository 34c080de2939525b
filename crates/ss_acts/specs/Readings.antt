-- The acts over the numbers of the parts that they touch, told of the parts themselves.
use Rattle.std.specs.Prelude.{◌≡◌, ℕ, nat_lt, nat_le, Bool, true, false, not, ◌||◌, ◌&&◌, Option, Some, None}
use Rattle.ss_acts.specs.Parts.{vertex_of, IsTailOf}
use Rattle.ss_frames.specs.Plans.{plan_numbers}
use Rattle.ss_plan.specs.Plan.{PlanText}
use Rattle.ss_state.specs.Acts.{InstStep, InstAndTailStep, TailAndVaultStep, VaultStep, write_act, needs_vault}
use Rattle.ss_state.specs.Acts.{read_tail, read_vault, read_list, snap_act, load_act, flush_act, take_act}
use Rattle.ss_state.specs.Acts.{collect_act, trim_act, pass_act}
use Rattle.ss_state.specs.Numbers.{VertexNumbers, is_inner, mlen, wanted_number}
use Rattle.ss_state.specs.State.{InstNumbers}
use Rattle.ss_state.specs.Step.{wanted_vertex}
use Rattle.ss_tail.specs.Held.{TailHeld}
use Rattle.ss_vault.specs.Told.{VaultTold, numbers_of, durable_of}
use Rattle.ss_vertex.specs.Inst.{InstState, inst_numbers}

-- a write of this instance to this tail
abbrev pub writing : PlanText → InstState → TailHeld → InstAndTailStep
writing plan inst tail = write_act (vertex_of plan inst.v) (inst_numbers inst) tail.numbers

-- a replica may read: it is up, nothing is left to write, and something is still to arrive
abbrev pub is_ready : VertexNumbers → Option InstNumbers → Bool
is_ready x None = false
is_ready x (Some up) = not (nat_lt 0 up.left || nat_le (mlen x) up.n)

abbrev pub IsReady : PlanText → InstState → Type 0
IsReady plan inst = is_ready (vertex_of plan inst.v) (inst_numbers inst) ≡ true

-- the vertex from which an instance wants its next element, and the number of that element
abbrev pub wanted_from : PlanText → InstState → ℕ
wanted_from plan inst = wanted_vertex (vertex_of plan inst.v) (inst_numbers inst)

abbrev pub number_wanted : VertexNumbers → Option InstNumbers → ℕ
number_wanted x None = 0
number_wanted x (Some up) = wanted_number x up.n

-- where an instance may read, the tail is that of the vertex from which it wants its next element
abbrev pub IsWantedTail : PlanText → InstState → TailHeld → Type 0
IsWantedTail plan inst tail = IsReady plan inst → IsTailOf plan (wanted_from plan inst) tail

-- a read of this instance from that tail
abbrev pub tail_reading : PlanText → InstState → TailHeld → InstStep
tail_reading plan inst tail = read_tail (vertex_of plan inst.v) (inst_numbers inst) tail.numbers

-- whether it must ask the vault
abbrev pub must_ask : PlanText → InstState → TailHeld → Bool
must_ask plan inst tail = needs_vault (vertex_of plan inst.v) (inst_numbers inst) tail.numbers

-- a read of it from what is stored
abbrev pub vault_reading : PlanText → InstState → VaultTold → InstStep
vault_reading plan inst vault =
    read_vault (vertex_of plan inst.v) (inst_numbers inst) (durable_of vault (wanted_from plan inst))

-- a read of a source's instance from its list
abbrev pub list_reading : PlanText → InstState → VaultTold → InstStep
list_reading plan inst vault =
    read_list (vertex_of plan inst.v) (inst_numbers inst) (durable_of vault inst.v).mark

-- a snapshot of an instance
abbrev pub snapping : PlanText → InstState → VaultTold → VaultStep
snapping plan inst vault = snap_act (plan_numbers plan) inst.v (inst_numbers inst) (numbers_of vault)

-- whether a replica of such a vertex has a snapshot to give: it is up, and nothing is left to write
abbrev pub has_snapshot : VertexNumbers → Option InstNumbers → Bool
has_snapshot x None = false
has_snapshot x (Some up) = is_inner x.kind && not (nat_lt 0 up.left)

-- whether one that comes up needs a snapshot: it is down
abbrev pub needs_snapshot : VertexNumbers → Option InstNumbers → Bool
needs_snapshot x None = is_inner x.kind
needs_snapshot x (Some up) = false

-- the same of an instance
abbrev pub must_keep : PlanText → InstState → Bool
must_keep plan inst = has_snapshot (vertex_of plan inst.v) (inst_numbers inst)

abbrev pub must_fetch : PlanText → InstState → Bool
must_fetch plan inst = needs_snapshot (vertex_of plan inst.v) (inst_numbers inst)

-- a load of an instance beside its own tail
abbrev pub loading : PlanText → InstState → TailHeld → VaultTold → InstAndTailStep
loading plan inst tail vault =
    load_act (vertex_of plan inst.v) (inst_numbers inst) tail.numbers (durable_of vault inst.v)

-- a flush of at most so many elements of the tail of v
abbrev pub flushing : PlanText → ℕ → ℕ → TailHeld → VaultTold → TailAndVaultStep
flushing plan v count tail vault = flush_act (plan_numbers plan) v count tail.numbers (numbers_of vault)

-- a take of sink k
abbrev pub taking : PlanText → ℕ → VaultTold → VaultStep
taking plan k vault = take_act (plan_numbers plan) k (numbers_of vault)

-- a collect of the stream of v
abbrev pub collecting : PlanText → ℕ → VaultTold → VaultStep
collecting plan v vault = collect_act (plan_numbers plan) v (numbers_of vault)

-- a trim of v
abbrev pub trimming : PlanText → ℕ → VaultTold → VaultStep
trimming plan v vault = trim_act (plan_numbers plan) v (numbers_of vault)

-- a pass
abbrev pub passing : PlanText → VaultTold → VaultStep
passing plan vault = pass_act (plan_numbers plan) (numbers_of vault)
