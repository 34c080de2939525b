use Rattle.ss_codec.proofs.FrameCodes.{no_frame_begins}
use Rattle.ss_codec.proofs.laws.no_frame_begins_another.Goals as goal

pub returns : goal.returns
returns c = no_frame_begins
