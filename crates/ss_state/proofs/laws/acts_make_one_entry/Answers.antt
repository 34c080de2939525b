use Rattle.ss_state.proofs.Growing.{acts_make_one_entry}
use Rattle.ss_state.proofs.laws.acts_make_one_entry.Goals as goal

pub returns : goal.returns
returns c = acts_make_one_entry
