use Rattle.ss_codec.proofs.FrameCodes.{length-frame}
use Rattle.ss_codec.proofs.laws.frames_have_lengths.Goals as goal

pub returns : goal.returns
returns c = length-frame
