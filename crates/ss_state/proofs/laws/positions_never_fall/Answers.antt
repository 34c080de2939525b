use Rattle.ss_state.proofs.Counting.{positions_never_fall, out_never_falls}
use Rattle.ss_state.proofs.laws.positions_never_fall.Goals as goal

pub returns : goal.returns
returns c = record { pos = positions_never_fall; out = out_never_falls }
