use Rattle.ss_state.proofs.Vaults.{pass_collects_exactly}
use Rattle.ss_state.proofs.laws.pass_collects_exactly.Goals as goal

pub returns : goal.returns
returns c = pass_collects_exactly
