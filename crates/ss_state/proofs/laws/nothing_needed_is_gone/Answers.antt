use Rattle.ss_state.proofs.Vaults.{needed_is_there, snapshots_are_there, mark_is_below_start}
use Rattle.ss_state.proofs.laws.nothing_needed_is_gone.Goals as goal

pub returns : goal.returns
returns c = record { elements = needed_is_there; snapshots = snapshots_are_there; mark = mark_is_below_start }
