use Rattle.ss_meaning.proofs.SessionsOfKeys.{open_sessions_go_by_keys, session_rows_go_by_keys}
use Rattle.ss_meaning.proofs.session_laws.sessions_go_by_keys.Goals as goal

pub returns : goal.returns
returns c = record { opened = open_sessions_go_by_keys; given = session_rows_go_by_keys }
