use Rattle.ss_rounds.proofs.Firing.{failures_leave_the_rest, fired_failures_lower_the_total}
use Rattle.ss_rounds.proofs.laws.failures_lower_the_total.Goals as goal

pub returns : goal.returns
returns c = record { rest = failures_leave_the_rest; lower = fired_failures_lower_the_total }
