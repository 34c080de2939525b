use Rattle.ss_plan.proofs.Vertices.{plans_mean_jobs}
use Rattle.ss_plan.proofs.laws.plans_mean_jobs.Goals as goal

pub returns : goal.returns
returns c = plans_mean_jobs
