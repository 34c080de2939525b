-- Which frames are snapshots of a plan's vertices.
use Rattle.std.specs.Prelude.{◌≡◌, IsSome}
use Rattle.ss_codec.specs.declared.frame.Frame.{Frame}
use Rattle.ss_job.specs.JobText.{spec_of}
use Rattle.ss_plan.specs.Plan.{PlanText}
use Rattle.ss_frames.specs.Frames.{frame_of}
use Rattle.ss_frames.specs.Within.{IsWithin, AreKept}

-- the frame is the one of an operator after so many elements, within the limit of the job, and these are elements of
-- the program
pub record IsSnapshot (plan : PlanText) (f : Frame) : Type 0 where
  pub operator : IsSome (spec_of plan.job f.v)
  pub frame : f ≡ frame_of plan f.v f.n
  pub within : IsWithin plan f.v f.n
  pub kept : AreKept plan f.v f.n
