use Rattle.ss_window.proofs.ReadAgain.{entries_are_read_again}
use Rattle.ss_window.proofs.StateImages.{states_are_read_again}
use Rattle.ss_window.proofs.image_laws.images_are_read_again.Goals as goal

pub returns : goal.returns
returns c =
    let entries = entries_are_read_again c.numbers_are_read_again.ensures in
    record {
      entries = entries;
      states = states_are_read_again entries c.entries_are_in_order.ensures.counts c.entries_are_in_order.ensures.all;
    }
