use Rattle.ss_frames.proofs.Firsts.{first_frames}
use Rattle.ss_frames.proofs.laws.first_frames_are_empty.Goals as goal

pub returns : goal.returns
returns c = first_frames c.vertices_by_number.ensures
