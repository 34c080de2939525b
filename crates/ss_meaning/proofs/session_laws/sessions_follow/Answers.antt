use Rattle.ss_meaning.proofs.SessionKeys.{sessions_after_row}
use Rattle.ss_meaning.proofs.SessionRises.{sessions_after_rise, rows_are_of_sessions, aggregates_join}
use Rattle.ss_meaning.proofs.session_laws.sessions_follow.Goals as goal

pub returns-clause-row : goal.returns-clause-row
returns-clause-row c = sessions_after_row

pub returns-clause-rise : goal.returns-clause-rise
returns-clause-rise c = sessions_after_rise

pub returns-clause-given : goal.returns-clause-given
returns-clause-given c = rows_are_of_sessions

pub returns-clause-join : goal.returns-clause-join
returns-clause-join c = aggregates_join
