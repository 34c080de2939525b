use Rattle.ss_meaning.proofs.EntryPuts.{put_keeps_order}
use Rattle.ss_meaning.proofs.EntrySteps.{entries_in_order, entries_count_rows}
use Rattle.ss_meaning.proofs.entry_laws.entries_are_in_order.Goals as goal

pub returns : goal.returns
returns c = record { all = entries_in_order; put = put_keeps_order; counts = entries_count_rows }
