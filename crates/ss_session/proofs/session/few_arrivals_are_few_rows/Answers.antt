use Rattle.ss_session.proofs.SessionArrivals.{few_arrivals}
use Rattle.ss_session.proofs.session.few_arrivals_are_few_rows.Goals as goal

pub returns : goal.returns
returns c = few_arrivals c.sessions_follow.ensures.join c.sessions_are_apart.ensures.all
