use Rattle.ss_vertex.proofs.Snapshots.{snapshots_fit}
use Rattle.ss_vertex.proofs.laws.snapshots_fit.Goals as goal

pub returns : goal.returns
returns c = snapshots_fit c.frames_have_codes.ensures.codes
