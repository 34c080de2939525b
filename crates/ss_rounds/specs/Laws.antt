-- What brings a driver forward, of every job and every state between two acts.
use Rattle.std.specs.Prelude.{◌≡◌, ◌≢◌, ℕ, ◌<◌, ◌≤◌, true, false, List, []}
use Rattle.std.specs.List.{AllByRecursion}
use Rattle.ss_fail.specs.declared.act.Act.{Act}
use Rattle.ss_fail.specs.declared.act.Act.TheVariants as act
use Rattle.ss_fail.specs.declared.trigger.Trigger.{Trigger}
use Rattle.ss_state.specs.Numbers.{JobNumbers, IsStream, IsSink, vertex, input}
use Rattle.ss_state.specs.State.{State, tail_at}
use Rattle.ss_state.specs.Step.{Step, step, MayAct}
use Rattle.ss_state.specs.Rule.{ruled, due_after, IsFailure, IsTrigger}
use Rattle.ss_state.specs.Joint.{Joint}
use Rattle.ss_rounds.specs.Measure.{total_left}
use Rattle.ss_rounds.specs.Whole.{is_wait, is_took, is_pass_due, has_batch, is_idle_at, is_over}
use Rattle.ss_rounds.specs.Whole.{IsWhole, WholeBelow, IsTaken, TakenBelow, LeftByFailures}

-- The first replica of a vertex makes its next act by the rule.
abbrev pub ruled_step : JobNumbers → State → ℕ → Step
ruled_step job s v = step job s (ruled job s v 0)

-- it lowers the total, unless there was nothing to do or it is told Wait
abbrev pub RuledActsLowerTheTotal : Type 0
RuledActsLowerTheTotal =
    (job : JobNumbers) (ts : List Trigger) (s : State) (v : ℕ) → Joint job s → IsStream job v
    → is_idle_at job s v ≡ false → is_wait (ruled_step job s v).outcome ≡ false
    → total_left job ts (ruled_step job s v).state < total_left job ts s

-- told Wait, it leaves everything as it was
abbrev pub WaitsChangeNothing : Type 0
WaitsChangeNothing =
    (job : JobNumbers) (s : State) (v : ℕ) → Joint job s → IsStream job v
    → is_wait (ruled_step job s v).outcome ≡ true → (ruled_step job s v).state ≡ s

-- it isn't told Wait where the streams before its vertex are whole
abbrev pub NoWaitsBehindWholeStreams : Type 0
NoWaitsBehindWholeStreams =
    (job : JobNumbers) (s : State) (v : ℕ) → Joint job s → IsStream job v → WholeBelow job s v
    → is_wait (ruled_step job s v).outcome ≡ false

-- A flush of a batch that isn't empty lowers the total, unless it is told that a pass is due.
abbrev pub FlushesLowerTheTotal : Type 0
FlushesLowerTheTotal =
    (job : JobNumbers) (ts : List Trigger) (s : State) (v count : ℕ) → Joint job s → MayAct job (act.Flush v count)
    → has_batch (tail_at s v) ≡ true → is_pass_due (step job s (act.Flush v count)).outcome ≡ false
    → total_left job ts (step job s (act.Flush v count)).state < total_left job ts s

-- told so, it leaves everything as it was
abbrev pub DueFlushesChangeNothing : Type 0
DueFlushesChangeNothing =
    (job : JobNumbers) (s : State) (v count : ℕ) → Joint job s → MayAct job (act.Flush v count)
    → is_pass_due (step job s (act.Flush v count)).outcome ≡ true → (step job s (act.Flush v count)).state ≡ s

-- a pass alone raises nothing
abbrev pub PassesRaiseNothing : Type 0
PassesRaiseNothing =
    (job : JobNumbers) (ts : List Trigger) (s : State) → Joint job s
    → total_left job ts (step job s act.Pass).state ≤ total_left job ts s

-- and behind it no flush is told that one is due
abbrev pub NoPassIsDueBehindOne : Type 0
NoPassIsDueBehindOne =
    (job : JobNumbers) (s : State) (v count : ℕ) → Joint job s → MayAct job (act.Flush v count)
    → is_pass_due (step job (step job s act.Pass).state (act.Flush v count)).outcome ≡ false

-- so a pass with a flush behind it lowers the total
abbrev pub PassAndFlushLowerTheTotal : Type 0
PassAndFlushLowerTheTotal =
    (job : JobNumbers) (ts : List Trigger) (s : State) (v count : ℕ) → Joint job s → MayAct job (act.Flush v count)
    → has_batch (tail_at s v) ≡ true
    → total_left job ts (step job (step job s act.Pass).state (act.Flush v count)).state < total_left job ts s

-- A take that puts a line lowers the total.
abbrev pub TakesLowerTheTotal : Type 0
TakesLowerTheTotal =
    (job : JobNumbers) (ts : List Trigger) (s : State) (k : ℕ) → Joint job s → IsSink job k
    → is_took (step job s (act.Take k)).outcome ≡ true
    → total_left job ts (step job s (act.Take k)).state < total_left job ts s

-- any other leaves everything as it was
abbrev pub OtherTakesChangeNothing : Type 0
OtherTakesChangeNothing =
    (job : JobNumbers) (s : State) (k : ℕ) → Joint job s → IsSink job k
    → is_took (step job s (act.Take k)).outcome ≡ false → (step job s (act.Take k)).state ≡ s

-- and then the sink has all, if its stream is whole
abbrev pub OtherTakesHaveAll : Type 0
OtherTakesHaveAll =
    (job : JobNumbers) (s : State) (k : ℕ) → Joint job s → IsSink job k
    → is_took (step job s (act.Take k)).outcome ≡ false → IsWhole job s (input (vertex job k) 0) → IsTaken job s k

-- A failure keeps what tails have counted and were told, and what is durable.
abbrev pub FailuresLeaveTheRest : Type 0
FailuresLeaveTheRest =
    (job : JobNumbers) (s t : State) (a : Act) → Joint job t → MayAct job a → IsFailure a → LeftByFailures s t
    → LeftByFailures s (step job t a).state

-- the failures that a stored write makes due lower the total below what it was before that write
abbrev pub FiredFailuresLowerTheTotal : Type 0
FiredFailuresLowerTheTotal =
    (job : JobNumbers) (ts : List Trigger) (s t : State) (v r : ℕ) → Joint job s → IsStream job v
    → AllByRecursion (IsTrigger job) ts → due_after job ts s (act.Write v r) ≢ []
    → LeftByFailures (step job s (act.Write v r)).state t → total_left job ts t < total_left job ts s

-- Where a vertex has nothing to do and no batch is left, its stream is whole.
abbrev pub OverIsWhole : Type 0
OverIsWhole =
    (job : JobNumbers) (s : State) (v : ℕ) → Joint job s → IsStream job v
    → is_over job s v ≡ true → has_batch (tail_at s v) ≡ false → IsWhole job s v

-- Streams that are whole stay so, whatever act is made,
abbrev pub WholeStreamsStay : Type 0
WholeStreamsStay =
    (job : JobNumbers) (s : State) (a : Act) (v : ℕ) → Joint job s → MayAct job a
    → WholeBelow job s v → WholeBelow job (step job s a).state v

-- and so do sinks that have taken all
abbrev pub TakenSinksStay : Type 0
TakenSinksStay =
    (job : JobNumbers) (s : State) (a : Act) (k : ℕ) → Joint job s → MayAct job a
    → TakenBelow job s k → TakenBelow job (step job s a).state k
