-- What a driver may do: the rule of a replica's next act, and the failures that a script lists.
use Rattle.std.specs.Prelude.{◌≡◌, ℕ, ◌+◌, ◌-◌, ◌^◌, ◌<◌, ◌==◌, nat_lt, nat_le, Bool, true, false, not, ◌&&◌, ◌||◌}
use Rattle.std.specs.Prelude.{if◌then◌else◌, Option, Some, None, List, [], ◌∷◌, get_or}
use Rattle.ss_fail.specs.declared.act.Act.{Act}
use Rattle.ss_fail.specs.declared.act.Act.TheVariants as act
use Rattle.ss_fail.specs.declared.outcome.Outcome.{Outcome}
use Rattle.ss_fail.specs.declared.outcome.Outcome.TheVariants as outcome
use Rattle.ss_fail.specs.declared.trigger.Trigger.{Trigger}
use Rattle.ss_state.specs.Numbers.{VertexNumbers, JobNumbers, is_inner, vertex, mlen}
use Rattle.ss_state.specs.State.{InstNumbers, State, tail_at, inst_at, durable_at}
use Rattle.ss_state.specs.LowWater.{greatest_where}
use Rattle.ss_state.specs.Step.{step, MayAct}

-- whether an operator that has accepted n elements should store a snapshot, where the last one stored is this
unfoldable pub snap_due : VertexNumbers → ℕ → ℕ → Bool
snap_due x n last = is_inner x.kind && nat_le (last + x.every) n && (not x.replay || get_or x.held n 0 == 0)

-- the next act of replica r of v
unfoldable pub rule : VertexNumbers → ℕ → ℕ → Option InstNumbers → ℕ → Act
rule x v r None last = act.Load v r
rule x v r (Some up) last =
    if nat_lt 0 up.left then act.Write v r
    else (if snap_due x up.n last then act.Snap v r
    else (if nat_le (mlen x) up.n then act.Write v r else act.Read v r))

-- the newest snapshot, 0 where there is none
abbrev pub last_snap : List ℕ → ℕ
last_snap snaps = greatest_where (λ n. true) snaps

-- the next act of replica r of v in this state
abbrev pub ruled : JobNumbers → State → ℕ → ℕ → Act
ruled job s v r = rule (vertex job v) v r (inst_at s v r) (last_snap (durable_at s v).snaps)

-- a driver may make this act of its own accord: a replica's by the rule, no failure, and all else at any time
abbrev pub ByRule : JobNumbers → State → Act → Type 0
ByRule job s (act.Read v r) = act.Read v r ≡ ruled job s v r
ByRule job s (act.Write v r) = act.Write v r ≡ ruled job s v r
ByRule job s (act.Snap v r) = act.Snap v r ≡ ruled job s v r
ByRule job s (act.Crash v r) = ⊥
ByRule job s (act.Load v r) = act.Load v r ≡ ruled job s v r
ByRule job s (act.Lose v) = ⊥
ByRule job s a = Unit {0}

-- whether a write added an element to the stream
abbrev pub is_stored : Outcome → Bool
is_stored (outcome.Stored n) = true
is_stored o = false

-- the acts that the triggers list for this count of stream v, in their order
abbrev pub acts_at : List Trigger → ℕ → ℕ → List Act
acts_at [] v count = []
acts_at (t ∷ ts) v count = if (t.v == v) && (t.count == count) then t.act ∷ acts_at ts v count else acts_at ts v count

-- the acts that must follow this one, made in this state: those of a write's count where it added an element
abbrev pub due_after : JobNumbers → List Trigger → State → Act → List Act
due_after job ts s (act.Write v r) =
    let made = step job s (act.Write v r) in
    if is_stored made.outcome then acts_at ts v (tail_at made.state v).stored else []
due_after job ts s a = []

-- these acts obey the rule and the triggers, where from this state on the listed ones are due first
abbrev pub ObeysFrom : JobNumbers → List Trigger → List Act → State → List Act → Type 0
ObeysFrom job ts [] s [] = Unit {0}
ObeysFrom job ts (d ∷ due) s [] = ⊥
ObeysFrom job ts [] s (a ∷ acts) =
    MayAct job a × ByRule job s a × ObeysFrom job ts (due_after job ts s a) (step job s a).state acts
ObeysFrom job ts (d ∷ due) s (a ∷ acts) = MayAct job a × (a ≡ d) × ObeysFrom job ts due (step job s a).state acts

-- these acts of a driver obey the rule and the triggers
abbrev pub Obeys : JobNumbers → List Trigger → State → List Act → Type 0
Obeys job ts s acts = ObeysFrom job ts [] s acts

-- a crash or a lose, which ask nothing of what may fail
abbrev pub IsFailure : Act → Type 0
IsFailure (act.Crash v r) = Unit {0}
IsFailure (act.Lose v) = Unit {0}
IsFailure a = ⊥

-- a trigger that may be given to a driver: its count is below the one at which counts stand still
pub record IsTrigger (job : JobNumbers) (t : Trigger) : Type 0 where
  pub count : t.count < 2 ^ 64 - 1
  pub failure : IsFailure t.act
  pub act : MayAct job t.act
