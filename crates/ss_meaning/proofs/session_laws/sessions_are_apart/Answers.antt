use Rattle.ss_meaning.proofs.SessionRises.{sessions_are_apart, put_keeps_apart}
use Rattle.ss_meaning.proofs.SessionTouches.{put_joins_at_most_two}
use Rattle.ss_meaning.proofs.session_laws.sessions_are_apart.Goals as goal

pub returns : goal.returns
returns c = record { all = sessions_are_apart; put = put_keeps_apart; two = put_joins_at_most_two }
