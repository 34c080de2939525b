use Rattle.ss_meaning.proofs.SessionsClosed.{closed_are_by_time, closed_are_counted}
use Rattle.ss_meaning.proofs.laws.sessions_close_in_time.Goals as goal

pub returns : goal.returns
returns c = record { order = closed_are_by_time; count = closed_are_counted }
