-- What a list of acts makes of a running job, one behind the other.
use Rattle.std.specs.Prelude.{◌≡◌, ◌⊎◌, Bool, true, false, List, [], ◌∷◌, ◌++◌, map, Result, Ok, Err, if◌then◌else◌}
use Rattle.ss_acts.specs.Leaves.{Goes, PutsToNoOther, PutsToTakers, sink_failed}
use Rattle.ss_acts.specs.declared.fault.EngineFault.{EngineFault}
use Rattle.ss_acts.specs.declared.fault.EngineFault.TheVariants as fault
use Rattle.ss_fail.specs.declared.act.Act.{Act}
use Rattle.ss_fail.specs.declared.outcome.Outcome.{Outcome}
use Rattle.ss_frames.specs.Plans.{plan_numbers}
use Rattle.ss_state.specs.Laws.{Grows}
use Rattle.ss_state.specs.Numbers.{JobNumbers}
use Rattle.ss_state.specs.State.{State}
use Rattle.ss_state.specs.Step.{Made, Run, is_full, step}
use Rattle.ss_vault.specs.Told.{numbers_of}
use Rattle.ss_engine.specs.Applies.{Meets, sink_of}
use Rattle.ss_engine.specs.Joint.{Joint}
use Rattle.ss_engine.specs.Told.{PlantTold, state_of}

-- the pairs of a trace, each an act and what came of it
abbrev pub made_of : List (Act × Outcome) → List Made
made_of pairs = map (λ pair. record { act = pair.0; outcome = pair.1 }) pairs

abbrev pub acts_of : List Made → List Act
acts_of made = map (λ m. m.act) made

-- what a trace tells: the acts that were made, each with what came of it, if it keeps them
pub record TraceTold : Type 0 where
  pub keeps : Bool
  pub made : List Made

-- that of no act yet, which keeps those to come
abbrev pub no_acts : TraceTold
no_acts = record { keeps = true; made = [] }

-- the trace behind which these were made
abbrev pub with_made : TraceTold → List Made → TraceTold
with_made trace made = record {
  keeps = trace.keeps;
  made = if trace.keeps then trace.made ++ made else trace.made;
}

-- none of these acts, one behind the other from a state on, would let a vertex give more than a stream may have
abbrev pub NoneIsFull : JobNumbers → State → List Act → Type 0
NoneIsFull job s [] = Unit {0}
NoneIsFull job s (a ∷ acts) = (is_full job s a ≡ false) × NoneIsFull job (step job s a).state acts

-- these acts with these outcomes led from one moment of a job to another, and halted nothing; no number of the ledger
-- fell, and only the files of sinks that took an element were put to
pub record Runs (p : PlantTold) (made : List Made) (q : PlantTold) : Type 0 where
  pub plan : q.plan ≡ p.plan
  pub run : Run (plan_numbers p.plan) (state_of p) made (state_of q)
  pub within : NoneIsFull (plan_numbers p.plan) (state_of p) (acts_of made)
  pub goes : Goes p.vault q.vault
  pub grows : Grows (plan_numbers p.plan) (numbers_of p.vault).ledger (numbers_of q.vault).ledger
  pub outputs : PutsToTakers p.plan p.vault q.vault

-- all of the acts were made, and the trace has each with its outcome
pub record PlaysAll (p : PlantTold) (acts : List Act) (before : TraceTold) (q : PlantTold) (after : TraceTold) : Type 0
  where
    pub made : List Made
    pub are : acts_of made ≡ acts
    pub trace : after ≡ with_made before made
    pub runs : Runs p made q

-- an act met a fault, or there was no memory for it in the trace, and it wasn't begun
abbrev pub StopsAt : PlantTold → Act → PlantTold → EngineFault → Type 0
StopsAt p a q f = Meets p a q f ⊎ ((f ≡ fault.Memory) × (q ≡ p))

-- the acts before one were made, and the trace has each with its outcome; at this one the list stopped
pub record PlaysUpTo (p : PlantTold) (acts : List Act) (before : TraceTold) (f : EngineFault) (q : PlantTold)
    (after : TraceTold) : Type 0 where
  pub made : List Made
  pub next : Act
  pub rest : List Act
  pub are : acts ≡ acts_of made ++ next ∷ rest
  pub trace : after ≡ with_made before made
  pub between : PlantTold
  pub runs : Runs p made between
  pub joint : Joint between
  pub stops : StopsAt between next q f
  -- it put to no file but that of the sink whose put failed
  pub outputs : PutsToNoOther between.plan (sink_failed (sink_of next) f) between.vault q.vault

abbrev pub Plays : PlantTold → List Act → TraceTold → Result (Unit {0}) EngineFault → PlantTold → TraceTold → Type 0
Plays p acts before (Ok _) q after = PlaysAll p acts before q after
Plays p acts before (Err f) q after = PlaysUpTo p acts before f q after
