-- What an act makes of a running job. `p` is what the job tells before it, and `q` after it.
use Rattle.std.specs.Prelude.{◌≡◌, ℕ, max, Bool, true, false, ◌&&◌, Option, Some, None, Result, Ok, Err, is_ok}
use Rattle.ss_acts.specs.Faults.{Fails, made_by}
use Rattle.ss_acts.specs.Leaves.{AsksVault, Goes, Keeps, PutsBy}
use Rattle.ss_acts.specs.Parts.{vertex_of}
use Rattle.ss_acts.specs.Readings.{has_snapshot, needs_snapshot, number_wanted}
use Rattle.ss_acts.specs.declared.fault.EngineFault.{EngineFault}
use Rattle.ss_acts.specs.declared.fault.EngineFault.TheVariants as fault
use Rattle.ss_fail.specs.declared.act.Act.{Act}
use Rattle.ss_fail.specs.declared.act.Act.TheVariants as act
use Rattle.ss_fail.specs.declared.outcome.Outcome.{Outcome}
use Rattle.ss_frames.specs.Plans.{plan_numbers}
use Rattle.ss_plan.specs.Plan.{PlanText}
use Rattle.ss_state.specs.Acts.{needs_vault}
use Rattle.ss_state.specs.Laws.{Grows}
use Rattle.ss_state.specs.Numbers.{is_inner, input}
use Rattle.ss_state.specs.State.{inst_at, tail_at}
use Rattle.ss_state.specs.Step.{FaultKind, Store, Memory, Other, Left, MayAct, step, is_full, read_at, wanted_vertex}
use Rattle.ss_state.specs.declared.entry.Entry.{Entry}
use Rattle.ss_vault.specs.Answers.{fetched}
use Rattle.ss_vault.specs.Calls.{HasCollected, HasWhatIsNeeded, IsOfDrop, IsOfLook, IsOfPut, IsOfStore}
use Rattle.ss_vault.specs.Told.{durable_of, numbers_of}
use Rattle.ss_vault.specs.declared.fault.VaultFault.{VaultFault}
use Rattle.ss_vault.specs.declared.fault.VaultFault.TheVariants as vault
use Rattle.ss_engine.specs.Joint.{Joint}
use Rattle.ss_engine.specs.Told.{PlantTold, state_of}

-- the act can be made on a job of this plan: it names what is there
abbrev pub MayApply : PlanText → Act → Type 0
MayApply plan a = MayAct (plan_numbers plan) a

-- which of the kinds a fault is that leave something behind
abbrev pub kind_of : EngineFault → FaultKind
kind_of (fault.Vault (vault.Store count)) = Store
kind_of (fault.Vault (vault.Output count)) = Other
kind_of (fault.Vault (vault.Damaged v n)) = Other
kind_of (fault.Vault vault.Halted) = Other
kind_of (fault.Vault vault.Memory) = Memory
kind_of (fault.Full v reached) = Other
kind_of fault.Memory = Memory

-- the act was made: what it leaves and what came of it are what its reading says
pub record Makes (p : PlantTold) (a : Act) (q : PlantTold) (outcome : Outcome) : Type 0 where
  pub plan : q.plan ≡ p.plan
  pub step : step (plan_numbers p.plan) (state_of p) a ≡ record { state = state_of q; outcome = outcome }
  pub within : is_full (plan_numbers p.plan) (state_of p) a ≡ false
  pub goes : Goes p.vault q.vault
  -- nothing that is stored, collected or taken becomes less
  pub grows : Grows (plan_numbers p.plan) (numbers_of p.vault).ledger (numbers_of q.vault).ledger

-- a read was refused, and so was nothing else: vertex v would have given so many elements, more than a stream may have
abbrev pub IsFullAt : PlantTold → Act → ℕ → ℕ → Type 0
IsFullAt p (act.Read w r) v reached =
    (v ≡ w) × (reached ≡ made_by (vertex_of p.plan w) (read_at (plan_numbers p.plan) (state_of p) w r).inst)
    × (is_full (plan_numbers p.plan) (state_of p) (act.Read w r) ≡ true)
IsFullAt p (act.Write w r) v reached = ⊥
IsFullAt p (act.Snap w r) v reached = ⊥
IsFullAt p (act.Crash w r) v reached = ⊥
IsFullAt p (act.Load w r) v reached = ⊥
IsFullAt p (act.Lose w) v reached = ⊥
IsFullAt p (act.Flush w count) v reached = ⊥
IsFullAt p (act.Take k) v reached = ⊥
IsFullAt p (act.Collect w) v reached = ⊥
IsFullAt p (act.Trim w) v reached = ⊥
IsFullAt p act.Pass v reached = ⊥

-- the sink whose line the act puts
abbrev pub sink_of : Act → Option ℕ
sink_of (act.Read v r) = None
sink_of (act.Write v r) = None
sink_of (act.Snap v r) = None
sink_of (act.Crash v r) = None
sink_of (act.Load v r) = None
sink_of (act.Lose v) = None
sink_of (act.Flush v count) = None
sink_of (act.Take k) = Some k
sink_of (act.Collect v) = None
sink_of (act.Trim v) = None
sink_of act.Pass = None

-- whether the act calls the vault: a read only where the tail doesn't have what is wanted, a snapshot and a load only
-- where there is one to be stored or to be loaded
abbrev pub calls_vault : PlantTold → Act → Bool
calls_vault p (act.Read v r) =
    let x = vertex_of p.plan v in
    let inst = inst_at (state_of p) v r in
    is_inner x.kind && needs_vault x inst (tail_at (state_of p) (wanted_vertex x inst))
calls_vault p (act.Write v r) = false
calls_vault p (act.Snap v r) = has_snapshot (vertex_of p.plan v) (inst_at (state_of p) v r)
calls_vault p (act.Crash v r) = false
calls_vault p (act.Load v r) = needs_snapshot (vertex_of p.plan v) (inst_at (state_of p) v r)
calls_vault p (act.Lose v) = false
calls_vault p (act.Flush v count) = true
calls_vault p (act.Take k) = true
calls_vault p (act.Collect v) = true
calls_vault p (act.Trim v) = true
calls_vault p act.Pass = true

-- which faults of the vault the act can meet: what is damaged is what it asks for
abbrev pub CanMeet : PlantTold → Act → VaultFault → Type 0
CanMeet p (act.Read v r) f =
    let x = vertex_of p.plan v in
    let inst = inst_at (state_of p) v r in
    IsOfLook (wanted_vertex x inst) (number_wanted x inst) f
CanMeet p (act.Write v r) f = ⊥
CanMeet p (act.Snap v r) f = IsOfStore f
CanMeet p (act.Crash v r) f = ⊥
CanMeet p (act.Load v r) f =
    IsOfLook v
    (fetched (plan_numbers p.plan) (numbers_of p.vault).ledger v
    (max (tail_at (state_of p) v).end (durable_of p.vault v).dur))
    f
CanMeet p (act.Lose v) f = ⊥
CanMeet p (act.Flush v count) f = IsOfStore f
CanMeet p (act.Take k) f = IsOfPut (input (vertex_of p.plan k) 0) (durable_of p.vault k).taken f
CanMeet p (act.Collect v) f = IsOfDrop f
CanMeet p (act.Trim v) f = IsOfDrop f
CanMeet p act.Pass f = IsOfDrop f

-- whether the act may want memory
abbrev pub takes_memory : Act → Bool
takes_memory (act.Read v r) = true
takes_memory (act.Write v r) = true
takes_memory (act.Snap v r) = true
takes_memory (act.Crash v r) = false
takes_memory (act.Load v r) = true
takes_memory (act.Lose v) = false
takes_memory (act.Flush v count) = true
takes_memory (act.Take k) = true
takes_memory (act.Collect v) = true
takes_memory (act.Trim v) = true
takes_memory act.Pass = true

-- of a read from a tail or a list: no vertex would have given more than a stream may have; a read from what is stored
-- is told so only when it has the element
abbrev pub IsNotFull : PlantTold → Act → Type 0
IsNotFull p a = calls_vault p a ≡ false → is_full (plan_numbers p.plan) (state_of p) a ≡ false

-- why the act wasn't made
abbrev pub IsCause : PlantTold → Act → PlantTold → EngineFault → Type 0
IsCause p a q (fault.Vault f) =
    (entry : Option Entry) × Fails (CanMeet p a) p.plan p.vault entry (fault.Vault f) q.vault
IsCause p a q (fault.Full v reached) = IsFullAt p a v reached × Keeps p.vault q.vault
IsCause p a q fault.Memory = (takes_memory a ≡ true) × IsNotFull p a × Goes p.vault q.vault

-- the act met a fault
pub record Meets (p : PlantTold) (a : Act) (q : PlantTold) (f : EngineFault) : Type 0 where
  pub plan : q.plan ≡ p.plan
  pub left : Left (plan_numbers p.plan) (state_of p) a (kind_of f) (state_of q)
  pub cause : IsCause p a q f

-- the act was made, or it met a fault
abbrev pub Applies : PlantTold → Act → PlantTold → Result Outcome EngineFault → Type 0
Applies p a q (Ok outcome) = Makes p a q outcome
Applies p a q (Err f) = Meets p a q f

-- and the job is joint either way, the vault was called just where the act calls it, and nothing that is needed is gone
pub record AppliesJointly (p : PlantTold) (a : Act) (result : Result Outcome EngineFault) (q : PlantTold) : Type 0 where
  pub joint : Joint q
  pub applies : Applies p a q result
  pub vault : AsksVault (calls_vault p a) p.vault (is_ok result) q.vault
  pub outputs : PutsBy p.plan (sink_of a) p.vault result q.vault
  pub needed : HasWhatIsNeeded q.plan q.vault
  -- a whole pass has left no more than that
  pub collected : is_ok result ≡ true → a ≡ act.Pass → HasCollected p.plan p.vault q.vault
