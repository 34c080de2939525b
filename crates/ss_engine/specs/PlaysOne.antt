-- What one act makes of a running job and of a trace.
use Rattle.std.specs.Prelude.{◌≡◌, [], ◌∷◌, Result, Ok, Err}
use Rattle.ss_acts.specs.Leaves.{PutsToNoOther, PutsToTakers, sink_failed}
use Rattle.ss_acts.specs.declared.fault.EngineFault.{EngineFault}
use Rattle.ss_fail.specs.declared.act.Act.{Act}
use Rattle.ss_fail.specs.declared.outcome.Outcome.{Outcome}
use Rattle.ss_engine.specs.Applies.{Makes, sink_of}
use Rattle.ss_engine.specs.Plays.{StopsAt, TraceTold, with_made}
use Rattle.ss_engine.specs.Told.{PlantTold}

-- the act was made with this outcome, and the trace has it behind the others
pub record MakesOne (p : PlantTold) (a : Act) (before : TraceTold) (outcome : Outcome) (q : PlantTold)
    (after : TraceTold) : Type 0 where
  pub makes : Makes p a q outcome
  pub trace : after ≡ with_made before (record { act = a; outcome = outcome } ∷ [])
  pub outputs : PutsToTakers p.plan p.vault q.vault

-- the list stopped at it, and the trace is as it was
pub record StopsAtOne (p : PlantTold) (a : Act) (before : TraceTold) (f : EngineFault) (q : PlantTold)
    (after : TraceTold) : Type 0 where
  pub stops : StopsAt p a q f
  pub trace : after ≡ before
  pub outputs : PutsToNoOther p.plan (sink_failed (sink_of a) f) p.vault q.vault

abbrev pub PlaysOne : PlantTold → Act → TraceTold → Result Outcome EngineFault → PlantTold → TraceTold → Type 0
PlaysOne p a before (Ok outcome) q after = MakesOne p a before outcome q after
PlaysOne p a before (Err f) q after = StopsAtOne p a before f q after
