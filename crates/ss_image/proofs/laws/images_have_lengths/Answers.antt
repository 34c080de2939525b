use Rattle.ss_image.proofs.Lengths.{window_lengths, session_lengths, join_lengths, join_short}
use Rattle.ss_image.proofs.laws.images_have_lengths.Goals as goal

pub returns-clause-window : goal.returns-clause-window
returns-clause-window c = window_lengths

pub returns-clause-session : goal.returns-clause-session
returns-clause-session c = session_lengths

pub returns-clause-join : goal.returns-clause-join
returns-clause-join c = join_lengths

pub returns-clause-short : goal.returns-clause-short
returns-clause-short c = join_short
