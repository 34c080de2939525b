-- What bytes say as the code of a frame, and the order in which they are tested.
use Rattle.std.specs.Prelude.{◌≡◌, ℕ, zero, suc, ◌+◌, ◌*◌, List, [], ◌∷◌, ◌++◌, ◌&&◌, nat_lt, nat_le, ◌==◌, map, take}
use Rattle.std.specs.Prelude.{drop, slice_index, Result, Ok, Err, IsOk, if◌then◌else◌}
use Rattle.std.specs.Option.{option_map_or}
use Rattle.std.specs.Int.{w32, w64}
use Rattle.ss_elem.specs.Validity.{top}
use Rattle.ss_codec.specs.declared.fault.CodecFault.{CodecFault}
use Rattle.ss_codec.specs.declared.fault.FrameFault.{FrameFault}
use Rattle.ss_codec.specs.declared.fault.FrameFault.TheVariants as fault
use Rattle.ss_codec.specs.declared.frame.Frame.{Frame}
use Rattle.ss_codec.specs.Numbers.{number_at}
use Rattle.ss_codec.specs.Tests.{Test, first_fault, has_bytes, has_tag, has_value, name_tests, seal_tests}

-- the number that every sixteenth byte from this place on begins, for each of so many inputs, and zeros up to eight
abbrev pub entries_at : ℕ → ℕ → List ℕ → List ℕ
entries_at width place bytes =
    map (λ k. if nat_lt k width then number_at w64 (place + 16 * k) bytes else 0) (0 ∷ 1 ∷ 2 ∷ 3 ∷ 4 ∷ 5 ∷ 6 ∷ 7 ∷ [])

-- the length of the image, which stands behind so many inputs
abbrev pub image_len : ℕ → List ℕ → ℕ
image_len width bytes = number_at w32 (23 + 16 * width) bytes

-- the length of the code of a frame with so many inputs
abbrev pub frame_len : ℕ → List ℕ → ℕ
frame_len width bytes = 59 + 16 * width + image_len width bytes

-- the frame with so many inputs that the bytes say
unfoldable pub frame_at : ℕ → List ℕ → Frame
frame_at width bytes = record {
  v = number_at w32 2 bytes;
  n = number_at w64 6 bytes;
  out = number_at w64 14 bytes;
  op = slice_index bytes 1;
  width = width;
  pos = entries_at width 23 bytes;
  bounds = entries_at width 31 bytes;
  image = take (image_len width bytes) (drop (27 + 16 * width) bytes);
}

-- form, op, width, and that the inputs and the length of the image are there
abbrev pub head_tests : ℕ → List ℕ → List Test
head_tests width bytes =
    has_bytes 23 bytes ∷ has_tag 0 (slice_index bytes 0 == 0x11)
    ∷ has_tag 1 (nat_le 1 (slice_index bytes 1) && nat_le (slice_index bytes 1) 6)
    ∷ has_value 22 (nat_le 1 width && nat_le width 8) ∷ has_bytes (27 + 16 * width) bytes ∷ []

-- the bound of each of so many inputs, of which the first stands at this place
unfoldable pub bound_tests : ℕ → ℕ → List ℕ → List Test
bound_tests zero place bytes = []
bound_tests (suc left) place bytes =
    has_value place (nat_le (number_at w64 place bytes) top) ∷ bound_tests left (place + 16) bytes

-- the tests of the bytes as the code of a frame for v and n with so many inputs
abbrev pub frame_tests : ℕ → ℕ → ℕ → List ℕ → List Test
frame_tests width v n bytes =
    head_tests width bytes ++ seal_tests (frame_len width bytes) bytes ++ name_tests v n bytes
    ++ bound_tests width 31 bytes

-- what the bytes say as the code of a frame for v and n: the first fault, or the frame
unfoldable pub frame_read : ℕ → ℕ → List ℕ → Result Frame CodecFault
frame_read v n bytes = let width = slice_index bytes 22 in
    option_map_or (λ fault. Err fault) (first_fault (frame_tests width v n bytes)) (Ok (frame_at width bytes))

-- a reader answers what it should, or, of bytes that say a frame, that memory ran out
abbrev pub GivesFrame : Result Frame FrameFault → Result Frame CodecFault → Type 0
GivesFrame (Ok f) read = read ≡ Ok f
GivesFrame (Err (fault.Code why)) read = read ≡ Err why
GivesFrame (Err fault.Memory) read = IsOk read
