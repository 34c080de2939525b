-- What is true of the acts of every running job, gathered for those that make them.
use Rattle.ss_state.specs.Laws.{ActsKeepJoint, FaultsKeepJoint, NeededIsThere, SnapshotsAreThere, MarkIsBelowStart}
use Rattle.ss_state.specs.Laws.{NothingDurableFalls, PassCollectsExactly}
use Rattle.ss_vault.specs.Calls.{HasWhatIsNeeded}
use Rattle.ss_engine.specs.Joint.{Joint}
use Rattle.ss_engine.specs.Told.{PlantTold}

pub record ActLaws : Type 0 where
  -- an act that is made, and one that meets a fault, keeps a job joint
  pub made : ActsKeepJoint
  pub fault : FaultsKeepJoint
  -- and no act lowers what is stored, collected or taken
  pub falls : NothingDurableFalls
  -- nothing that is needed is gone: no element, no snapshot, nothing of a source's list
  pub elements : NeededIsThere
  pub snapshots : SnapshotsAreThere
  pub mark : MarkIsBelowStart
  -- and a whole pass leaves no more than that
  pub pass : PassCollectsExactly

-- a joint job, whatever led to it, has all that is needed to start every vertex again
abbrev pub JointJobsHaveWhatIsNeeded : Type 0
JointJobsHaveWhatIsNeeded = (p : PlantTold) → Joint p → HasWhatIsNeeded p.plan p.vault
