-- The laws by which an operator's instance is known to go on as its vertex does.
use Rattle.ss_frames.specs.Laws.{EntriesAreFew, PlanNumbersAreMeant, PlansAreRunnable}
use Rattle.ss_meaning.specs.Laws.{ArrivalsFollow, ArrivalsMayFollow, LowIsTheLeastBound, LowNeverFalls, MeaningIsEarly}
use Rattle.ss_meaning.specs.Laws.{MeaningByInputs, MeaningIsWhole, NextInputArrives, OutputGrowsByEmit}
use Rattle.ss_meaning.specs.Laws.{OutputOnlyGrows, PositionsAddUp}
use Rattle.ss_oper.specs.Laws.{ImagesAreReadAgain}
use Rattle.ss_plan.specs.Laws.{PlansMeanJobs, VerticesByNumber}

-- what a plan means, what arrives at its vertices, what they give, and what operators remember
pub record Known : Type 0 where
  pub vertices : VerticesByNumber
  pub runnable : PlansAreRunnable
  pub numbers : PlanNumbersAreMeant
  pub jobs : PlansMeanJobs
  pub streams : MeaningByInputs
  pub whole : MeaningIsWhole
  pub early : MeaningIsEarly
  pub follow : ArrivalsFollow
  pub may_follow : ArrivalsMayFollow
  pub rises : LowNeverFalls
  pub least : LowIsTheLeastBound
  pub next : NextInputArrives
  pub grows : OutputGrowsByEmit
  pub prefix : OutputOnlyGrows
  pub adds : PositionsAddUp
  pub few : EntriesAreFew
  pub images : ImagesAreReadAgain
