use Rattle.ss_codec.proofs.FrameCodes.{frame_is_read}
use Rattle.ss_codec.proofs.laws.frames_are_read_again.Goals as goal

pub returns : goal.returns
returns c = frame_is_read
