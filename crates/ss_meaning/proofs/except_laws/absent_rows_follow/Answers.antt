use Rattle.ss_meaning.proofs.ExceptEnds.{reached_rows_are_given, none_given_without_rise, ended_rows_are_counted}
use Rattle.ss_meaning.proofs.ExceptSides.{ended_rows_never_match, lefts_after_left_row, lefts_after_right_row}
use Rattle.ss_meaning.proofs.except_laws.absent_rows_follow.Goals as goal

pub returns : goal.returns
returns c = record {
  ended = ended_rows_never_match;
  left = lefts_after_left_row;
  right = lefts_after_right_row;
  given = reached_rows_are_given;
  none = none_given_without_rise;
  count = ended_rows_are_counted;
}
