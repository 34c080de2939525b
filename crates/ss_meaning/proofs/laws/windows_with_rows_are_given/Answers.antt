use Rattle.ss_meaning.proofs.Ends.{window_ends_have_rows, window_keys_have_rows}
use Rattle.ss_meaning.proofs.laws.windows_with_rows_are_given.Goals as goal

pub returns : goal.returns
returns c = record { ends = window_ends_have_rows; keys = window_keys_have_rows }
