use Rattle.ss_vertex.proofs.Equal.{replicas_equal}
use Rattle.ss_vertex.proofs.laws.replicas_are_equal.Goals as goal

pub returns : goal.returns
returns c = replicas_equal
