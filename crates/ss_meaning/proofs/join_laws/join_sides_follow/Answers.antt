use Rattle.ss_meaning.proofs.JoinSides.{ended_rows_never_join, side_after_rise, side_after_row}
use Rattle.ss_meaning.proofs.join_laws.join_sides_follow.Goals as goal

pub returns : goal.returns
returns c = record { ended = ended_rows_never_join; rise = side_after_rise; row = side_after_row }
