use Rattle.std.proofs.Common.{refl}
use Rattle.ss_image.specs.Images.{entry_bytes, narrow_bytes, window_image, join_image}
use Rattle.ss_image.specs.Numbers.{number_bytes, key_bytes}
use Rattle.ss_state.specs.NumbersOfMeaning.{job_numbers}
use Rattle.ss_frames.specs.Frames.{frame_after, frame_of}
use Rattle.ss_frames.specs.Plans.{plan_numbers}
use Rattle.ss_frames.proofs.examples.frame_examples.Goals as goal

pub returns-clause-window : goal.returns-clause-window
unfolding frame_of frame_after window_image entry_bytes number_bytes key_bytes
returns-clause-window c = (refl, refl, refl, refl)

pub returns-clause-numbers : goal.returns-clause-numbers
unfolding plan_numbers job_numbers
returns-clause-numbers c = refl

pub returns-clause-join : goal.returns-clause-join
unfolding frame_of frame_after join_image narrow_bytes number_bytes key_bytes
returns-clause-join c = refl
