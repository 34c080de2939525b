use Rattle.ss_meaning.proofs.Counts.{positions_add_up}
use Rattle.ss_meaning.proofs.laws.positions_add_up.Goals as goal

pub returns : goal.returns
returns c = positions_add_up
