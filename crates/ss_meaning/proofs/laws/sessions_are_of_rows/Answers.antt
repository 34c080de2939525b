use Rattle.ss_meaning.proofs.SessionsOf.{sessions_are_of_rows}
use Rattle.ss_meaning.proofs.laws.sessions_are_of_rows.Goals as goal

pub returns : goal.returns
returns c = sessions_are_of_rows
