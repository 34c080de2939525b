use Rattle.std.proofs.Common.{sym, subst}
use Rattle.ss_meaning.specs.EntryLists.{AreInOrder}
use Rattle.ss_window.proofs.EntryReads.{first_in_order}
use Rattle.ss_window.proofs.image_reader.read_image.Goals as goal

pub of_entries-requires : goal.of_entries-requires
of_entries-requires c =
    subst AreInOrder (sym c.deref.ensures.value)
    (first_in_order c.args.hop c.args.agg c.args.low _ 4 _ c.in_ok-entries.entries.items c.in_ok-entries.ensures.ok)
