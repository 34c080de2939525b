-- What each act does to a running job, and what a list of acts does.
use Rattle.std.specs.Prelude.{◌≡◌, ℕ, ◌<◌, ◌≤◌, ◌⊎◌, nat_lt, Bool, false, if◌then◌else◌, Option, Some, None, List, []}
use Rattle.std.specs.Prelude.{◌∷◌, map}
use Rattle.std.specs.Prelude.{map}
use Rattle.ss_fail.specs.declared.act.Act.{Act}
use Rattle.ss_fail.specs.declared.act.Act.TheVariants as act
use Rattle.ss_fail.specs.declared.outcome.Outcome.{Outcome}
use Rattle.ss_fail.specs.declared.outcome.Outcome.TheVariants as outcome
use Rattle.ss_state.specs.declared.entry.Entry.{Entry}
use Rattle.ss_state.specs.declared.entry.Entry.TheVariants as entry
use Rattle.ss_state.specs.Numbers.{JobNumbers, VertexNumbers, IsStream, IsSink, is_inner, vertex, input, out}
use Rattle.ss_state.specs.Numbers.{wanted_input}
use Rattle.ss_state.specs.State.{InstNumbers, State, tail_at, inst_at, durable_at, put_tail, put_inst}
use Rattle.ss_state.specs.Journal.{all_halves, enter}
use Rattle.ss_state.specs.Acts.{InstStep, InstAndTailStep, TailStep, TailAndVaultStep, VaultStep, write_act}
use Rattle.ss_state.specs.Acts.{needs_vault, read_tail, read_vault, read_list, snap_act, crash_act, load_act}
use Rattle.ss_state.specs.Acts.{lose_act, flush_act, take_act, collect_act, trim_act, pass_act}

-- what an act leaves, and what came of it
pub record Step : Type 0 where
  pub state : State
  pub outcome : Outcome

-- of an act that touches replica r of v
abbrev pub with_inst : State → ℕ → ℕ → InstStep → Step
with_inst s v r did = record { state = put_inst s v r did.inst; outcome = did.outcome }

-- that replica and the tail of v
abbrev pub with_inst_and_tail : State → ℕ → ℕ → InstAndTailStep → Step
with_inst_and_tail s v r did = record { state = put_inst (put_tail s v did.tail) v r did.inst; outcome = did.outcome }

-- the tail of v
abbrev pub with_tail : State → ℕ → TailStep → Step
with_tail s v did = record { state = put_tail s v did.tail; outcome = did.outcome }

-- that tail and the vault
abbrev pub with_tail_and_vault : State → ℕ → TailAndVaultStep → Step
with_tail_and_vault s v did =
    record { state = record (put_tail s v did.tail) { vault = did.vault }; outcome = did.outcome }

-- the vault
abbrev pub with_vault : State → VaultStep → Step
with_vault s did = record { state = record s { vault = did.vault }; outcome = did.outcome }

-- the vertex from which a replica wants its next element
abbrev pub wanted_vertex : VertexNumbers → Option InstNumbers → ℕ
wanted_vertex x None = 0
wanted_vertex x (Some up) = input x (wanted_input x up.n)

-- a replica of an operator reads: the tail of the wanted input is asked, and the vault where that can't answer
abbrev pub read_inner : JobNumbers → State → ℕ → ℕ → InstStep
read_inner job s v r =
    let x = vertex job v in
    let inst = inst_at s v r in
    let u = wanted_vertex x inst in
    if needs_vault x inst (tail_at s u) then read_vault x inst (durable_at s u) else read_tail x inst (tail_at s u)

-- replica r of v reads
unfoldable pub read_at : JobNumbers → State → ℕ → ℕ → InstStep
read_at job s v r =
    if is_inner (vertex job v).kind then read_inner job s v r
    else read_list (vertex job v) (inst_at s v r) (durable_at s v).mark

-- an act, made on the parts that it touches
abbrev pub step : JobNumbers → State → Act → Step
step job s (act.Read v r) = with_inst s v r (read_at job s v r)
step job s (act.Write v r) = with_inst_and_tail s v r (write_act (vertex job v) (inst_at s v r) (tail_at s v))
step job s (act.Snap v r) = with_vault s (snap_act job v (inst_at s v r) s.vault)
step job s (act.Crash v r) = with_inst s v r (crash_act (inst_at s v r))
step job s (act.Load v r) =
    with_inst_and_tail s v r (load_act (vertex job v) (inst_at s v r) (tail_at s v) (durable_at s v))
step job s (act.Lose v) = with_tail s v (lose_act (tail_at s v))
step job s (act.Flush v count) = with_tail_and_vault s v (flush_act job v count (tail_at s v) s.vault)
step job s (act.Take k) = with_vault s (take_act job k s.vault)
step job s (act.Collect v) = with_vault s (collect_act job v s.vault)
step job s (act.Trim v) = with_vault s (trim_act job v s.vault)
step job s act.Pass = with_vault s (pass_act job s.vault)

-- what a list of acts leaves, and what came of each
pub record Ran : Type 0 where
  pub state : State
  pub outcomes : List Outcome

-- the acts one behind the other
abbrev pub run : JobNumbers → State → List Act → Ran
run job s [] = record { state = s; outcomes = [] }
run job s (a ∷ acts) =
    let made = step job s a in
    let rest = run job made.state acts in
    record { state = rest.state; outcomes = made.outcome ∷ rest.outcomes }

-- an act that was made, and what came of it
pub record Made : Type 0 where
  pub act : Act
  pub outcome : Outcome

-- these acts with these outcomes lead from one state to the other
abbrev pub Run : JobNumbers → State → List Made → State → Type 0
Run job s made end = run job s (map (λ m. m.act) made) ≡ record { state = end; outcomes = map (λ m. m.outcome) made }

-- the state in which one more entry stands in the journal, and its change in the ledger
abbrev pub with_entry : JobNumbers → State → Entry → State
with_entry job s e = record s { vault = enter job s.vault (Some e) }

-- whether a replica has made more elements than a stream may have
abbrev pub has_passed : ℕ → VertexNumbers → Option InstNumbers → Bool
has_passed most x None = false
has_passed most x (Some up) = nat_lt most (out x up.n)

-- a read that would pass that limit isn't made, but told as full
abbrev pub is_full : JobNumbers → State → Act → Bool
is_full job s (act.Read v r) = has_passed job.max_elements (vertex job v) (read_at job s v r).inst
is_full job s a = false

-- what an act met that wasn't made: the store failed, memory was wanting, or another cause
pub data FaultKind : Type 0 where
  Store : FaultKind
  Memory : FaultKind
  Other : FaultKind

-- of the elements that a flush would have stored, it has stored some, or none
abbrev pub LeftByFlush : JobNumbers → State → ℕ → ℕ → State → Type 0
LeftByFlush job s v count end =
    (end ≡ s)
    ⊎ ((some all : ℕ) × (1 ≤ some) × (some < all) × ((step job s (act.Flush v count)).outcome ≡ outcome.Flushed all)
    × (end ≡ with_entry job s (entry.Flushed v some)))

-- of its halves, a pass has made some, perhaps none, and the journal tells how many
abbrev pub LeftByPass : JobNumbers → State → State → Type 0
LeftByPass job s end = (some : ℕ) × (some < all_halves job) × (end ≡ with_entry job s (entry.Pass some))

-- what an act leaves that met such a fault: the state before it, but for a flush and a pass that had begun to store
abbrev pub Left : JobNumbers → State → Act → FaultKind → State → Type 0
Left job s (act.Flush v count) Store end = LeftByFlush job s v count end
Left job s (act.Flush v count) Memory end = LeftByFlush job s v count end
Left job s act.Pass Store end = LeftByPass job s end
Left job s a fault end = end ≡ s

-- r is a replica of v
abbrev pub IsReplica : JobNumbers → ℕ → ℕ → Type 0
IsReplica job v r = IsStream job v × (r < (vertex job v).replicas)

-- the act names vertices and replicas of the job, of the kinds that it needs, and a flush 1 to 64 elements
abbrev pub MayAct : JobNumbers → Act → Type 0
MayAct job (act.Read v r) = IsReplica job v r
MayAct job (act.Write v r) = IsReplica job v r
MayAct job (act.Snap v r) = IsReplica job v r
MayAct job (act.Crash v r) = IsReplica job v r
MayAct job (act.Load v r) = IsReplica job v r
MayAct job (act.Lose v) = IsStream job v
MayAct job (act.Flush v count) = IsStream job v × (1 ≤ count) × (count ≤ 64)
MayAct job (act.Take k) = IsSink job k
MayAct job (act.Collect v) = IsStream job v
MayAct job (act.Trim v) = IsStream job v
MayAct job act.Pass = Unit {0}
