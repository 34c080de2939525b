-- What holds of records and of the codes of frames.
use Rattle.std.specs.Prelude.{◌≡◌, ℕ, ◌+◌, ◌*◌, ◌<◌, ◌^◌, List, [], ◌++◌, length, Ok}
use Rattle.ss_elem.specs.declared.element.Element.{Element}
use Rattle.ss_codec.specs.declared.frame.Frame.{Frame}
use Rattle.ss_codec.specs.Frame.{HasCode, IsFrame, frame_bytes}
use Rattle.ss_codec.specs.FrameTests.{frame_read}
use Rattle.ss_codec.specs.OldRecords.{old_record, IsOld}
use Rattle.ss_codec.specs.Record.{HasRecord, record_bytes}
use Rattle.ss_codec.specs.RecordTests.{record_read}

-- what was put is read again
abbrev pub RecordsAreReadAgain : Type 0
RecordsAreReadAgain =
    (v n : ℕ) (x : Element) → v < 2 ^ 32 → n < 2 ^ 64 → HasRecord x → record_read v n (record_bytes v n x) ≡ Ok x

-- a record that was written when rows had two values is the record of its element, and is read as it
abbrev pub OldRecordsAreRead : Type 0
OldRecordsAreRead =
    (v n : ℕ) (x : Element) → v < 2 ^ 32 → n < 2 ^ 64 → HasRecord x → IsOld x
    → (record_bytes v n x ≡ old_record v n x) × (record_read v n (old_record v n x) ≡ Ok x)

abbrev pub FramesAreReadAgain : Type 0
FramesAreReadAgain = (f : Frame) → f.v < 2 ^ 32 → f.n < 2 ^ 64 → IsFrame f → frame_read f.v f.n (frame_bytes f) ≡ Ok f

-- of two of which one begins the other, neither goes on
abbrev pub NoRecordBeginsAnother : Type 0
NoRecordBeginsAnother =
    (v n w m : ℕ) (x y : Element) (rest : List ℕ) → record_bytes v n x ≡ record_bytes w m y ++ rest → rest ≡ []

abbrev pub NoFrameBeginsAnother : Type 0
NoFrameBeginsAnother =
    (f g : Frame) (rest : List ℕ) → HasCode f → HasCode g → frame_bytes f ≡ frame_bytes g ++ rest → rest ≡ []

-- the code of a frame is as long as its inputs are many and its image is long
abbrev pub FramesHaveLengths : Type 0
FramesHaveLengths = (f : Frame) → length (frame_bytes f) ≡ 59 + 16 * f.width + length f.image
