use Rattle.ss_meaning.proofs.Aggregates.{aggregates_grow}
use Rattle.ss_meaning.proofs.EntryEnds.{entries_after_rise, rows_are_of_entries}
use Rattle.ss_meaning.proofs.EntrySteps.{entries_after_row}
use Rattle.ss_meaning.proofs.entry_laws.entries_follow.Goals as goal

pub returns : goal.returns
returns c = record {
  row = entries_after_row;
  rise = entries_after_rise;
  given = rows_are_of_entries;
  grow = aggregates_grow;
}
