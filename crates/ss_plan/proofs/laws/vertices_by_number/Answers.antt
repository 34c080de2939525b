use Rattle.ss_plan.proofs.Vertices.{vertices_by_number}
use Rattle.ss_plan.proofs.laws.vertices_by_number.Goals as goal

pub returns : goal.returns
returns c = vertices_by_number
