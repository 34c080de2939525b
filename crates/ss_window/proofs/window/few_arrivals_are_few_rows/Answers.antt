use Rattle.ss_window.proofs.Arrivals.{few_arrivals}
use Rattle.ss_window.proofs.window.few_arrivals_are_few_rows.Goals as goal

pub returns : goal.returns
returns c = few_arrivals c.entries_are_in_order.ensures.counts
