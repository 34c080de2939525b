-- The code of a frame: its bytes, and which frames have one.
use Rattle.std.specs.Prelude.{◌≡◌, ℕ, zero, suc, ◌<◌, ◌≤◌, ◌^◌, List, [], ◌∷◌, ◌++◌, length, slice_index}
use Rattle.std.specs.Int.{w32, w64}
use Rattle.ss_elem.specs.Validity.{top}
use Rattle.ss_codec.specs.declared.frame.Frame.{Frame}
use Rattle.ss_codec.specs.Numbers.{number_bytes}
use Rattle.ss_codec.specs.Record.{sealed}

-- the position and the bound of each of the first k inputs
abbrev pub inputs_bytes : ℕ → List ℕ → List ℕ → List ℕ
inputs_bytes zero pos bounds = []
inputs_bytes (suc k) pos bounds =
    inputs_bytes k pos bounds ++ number_bytes w64 (slice_index pos k) ++ number_bytes w64 (slice_index bounds k)

-- what stands before the inputs
abbrev pub frame_head : Frame → List ℕ
frame_head f =
    0x11 ∷ f.op ∷ number_bytes w32 f.v ++ number_bytes w64 f.n ++ number_bytes w64 f.out ++ f.width ∷ []

-- the code of a frame without its digest
abbrev pub frame_front : Frame → List ℕ
frame_front f = frame_head f ++ inputs_bytes f.width f.pos f.bounds ++ number_bytes w32 (length f.image) ++ f.image

unfoldable pub frame_bytes : Frame → List ℕ
frame_bytes f = sealed (frame_front f)

-- what a frame needs to have a code: the op of an inner vertex, 1 to 8 inputs, and bounds and an image in range
pub record HasCode (f : Frame) : Type 0 where
  pub op : (1 ≤ f.op) × (f.op ≤ 6)
  pub width : (1 ≤ f.width) × (f.width ≤ 8)
  pub bounds : (k : ℕ) → k < f.width → slice_index f.bounds k ≤ top
  pub image : length f.image < 2 ^ 32

-- eight numbers of 64 bits, of which those from this place on are 0
pub record AreEntries (width : ℕ) (entries : List ℕ) : Type 0 where
  pub eight : length entries ≡ 8
  pub zeros : (k : ℕ) → width ≤ k → slice_index entries k ≡ 0
  pub fit : (k : ℕ) → slice_index entries k < 2 ^ 64

-- a frame with a code, and with nothing in it that its code doesn't say
pub record IsFrame (f : Frame) : Type 0 where
  pub code : HasCode f
  pub out : f.out < 2 ^ 64
  pub pos : AreEntries f.width f.pos
  pub bounds : AreEntries f.width f.bounds
