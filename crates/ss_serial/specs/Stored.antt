-- How far a running job has come, which `p` tells.
use Rattle.std.specs.Prelude.{ℕ, Bool, true, false, nat_lt, length}
use Rattle.ss_fail.specs.declared.act.Act.{Act}
use Rattle.ss_fail.specs.declared.act.Act.TheVariants as act
use Rattle.ss_frames.specs.Plans.{plan_numbers}
use Rattle.ss_rounds.specs.Whole as whole
use Rattle.ss_state.specs.Numbers.{JobNumbers, IsSink, IsStream, input, vertex}
use Rattle.ss_state.specs.Rule.{ruled}
use Rattle.ss_state.specs.State.{durable_at, tail_at}
use Rattle.ss_engine.specs.Told.{PlantTold, state_of}

-- its plan as numbers
abbrev pub job_of : PlantTold → JobNumbers
job_of p = plan_numbers p.plan

abbrev pub vertex_count : PlantTold → ℕ
vertex_count p = length (job_of p).vertices

abbrev pub GivesStream : PlantTold → ℕ → Type 0
GivesStream p v = IsStream (job_of p) v

abbrev pub TakesStream : PlantTold → ℕ → Type 0
TakesStream p k = IsSink (job_of p) k

-- the stream that sink k puts
abbrev pub stream_put : PlantTold → ℕ → ℕ
stream_put p k = input (vertex (job_of p) k) 0

-- the next act of the first replica of v
abbrev pub next_of : PlantTold → ℕ → Act
next_of p v = ruled (job_of p) (state_of p) v 0

abbrev pub is_write : Act → Bool
is_write (act.Read v r) = false
is_write (act.Write v r) = true
is_write (act.Snap v r) = false
is_write (act.Crash v r) = false
is_write (act.Load v r) = false
is_write (act.Lose v) = false
is_write (act.Flush v count) = false
is_write (act.Take k) = false
is_write (act.Collect v) = false
is_write (act.Trim v) = false
is_write act.Pass = false

-- there is nothing left to do for the first replica of v
abbrev pub is_idle : PlantTold → ℕ → Bool
is_idle p v = whole.is_idle_at (job_of p) (state_of p) v

-- or nothing that need be done now
abbrev pub is_over : PlantTold → ℕ → Bool
is_over p v = whole.is_over (job_of p) (state_of p) v

-- elements of stream v are to be stored
abbrev pub has_batch : PlantTold → ℕ → Bool
has_batch p v = whole.has_batch (tail_at (state_of p) v)

-- sink k hasn't put all that is stored
abbrev pub has_line : PlantTold → ℕ → Bool
has_line p k = nat_lt (durable_at (state_of p) k).taken (durable_at (state_of p) (stream_put p k)).dur

-- stream v is stored to its end
abbrev pub IsStored : PlantTold → ℕ → Type 0
IsStored p v = whole.IsWhole (job_of p) (state_of p) v

-- so is each stream before v
abbrev pub StoredBelow : PlantTold → ℕ → Type 0
StoredBelow p v = whole.WholeBelow (job_of p) (state_of p) v

-- sink k has put all lines of its stream
abbrev pub IsPut : PlantTold → ℕ → Type 0
IsPut p k = whole.IsTaken (job_of p) (state_of p) k

-- so has each sink before k
abbrev pub PutBelow : PlantTold → ℕ → Type 0
PutBelow p k = whole.TakenBelow (job_of p) (state_of p) k
