-- The code of a frame passes every test, and says the frame.
use Rattle.std.proofs.Common.{◌≡◌, ℕ, zero, suc, ◌+◌, ◌-◌, ◌*◌, ◌^◌, ◌<◌, ◌≤◌, true, leb, List, [], ◌∷◌, ◌++◌, length, take, drop, Option, None, Result, Ok, Err, refl, sym, ap, subst, ◌∙◌, append_assoc, arith, inl, inr}
use Rattle.std.specs.Prelude.{◌≢◌, bytes_eq, IfOk, IsErr, slice_index}
use Rattle.std.specs.Option.{option_map_or}
use Rattle.std.specs.Int.{w32, w64}
use Rattle.std.proofs.lemmas.Bool.{and_from, cases_lt, cases_eq, eq-eqb, le-leb}
use Rattle.std.proofs.lemmas.List.{append-nil, ext_get_or, get_or-drop, length-append, nil_from_length, take_at}
use Rattle.sha2.specs.Sha256.{sha256}
use Rattle.ss_codec.specs.declared.fault.CodecFault.{CodecFault}
use Rattle.ss_codec.specs.declared.fault.FrameFault.{FrameFault}
use Rattle.ss_codec.specs.declared.frame.Frame.{Frame}
use Rattle.ss_codec.specs.Numbers.{number_at, number_bytes}
use Rattle.ss_codec.specs.Record.{sealed}
use Rattle.ss_codec.specs.Frame.{AreEntries, HasCode, IsFrame, frame_bytes, frame_front, inputs_bytes}
use Rattle.ss_codec.specs.FrameTests.{GivesFrame, entries_at, frame_at, frame_read, frame_tests, image_len}
use Rattle.ss_codec.specs.Tests.{first_fault}
use Rattle.ss_codec.proofs.Bounds.{bounds_pass}
use Rattle.ss_codec.proofs.Bytes.{drop_past, length-number_bytes, number_at-is, wide32, wide64}
use Rattle.ss_codec.proofs.Frames.{IsFrameFor, entry-there, entry-none, length-frame_front, length-inputs_bytes}
use Rattle.ss_codec.proofs.Seals.{is_sealed, length-sealed, passes}

-- ---- what stands where

-- the position and the bound of an input, and what stands behind them
pub record HasInput (k width : ℕ) (pos bounds rest : List ℕ) : Type 0 where
  pub behind : List ℕ
  pub is : inputs_bytes width pos bounds ++ rest ≡ inputs_bytes k pos bounds ++ (number_bytes w64 (slice_index pos k) ++ (number_bytes w64 (slice_index bounds k) ++ behind))

two_grouped : (a b c rest : List ℕ) → a ++ b ++ c ++ rest ≡ a ++ (b ++ (c ++ rest))
two_grouped a b c rest = simp append_assoc

pub input_parts : (width k : ℕ) (pos bounds rest : List ℕ) → k < width → HasInput k width pos bounds rest
input_parts zero k pos bounds rest lt = absurd (omega (arith, lt))
input_parts (suc m) k pos bounds rest lt =
    let last : inputs_bytes (suc m) pos bounds ++ rest ≡ inputs_bytes m pos bounds ++ (number_bytes w64 (slice_index pos m) ++ (number_bytes w64 (slice_index bounds m) ++ rest)) =
    two_grouped (inputs_bytes m pos bounds) (number_bytes w64 (slice_index pos m)) (number_bytes w64 (slice_index bounds m)) rest in
    elim (cases_eq m k) [
      | inl same ↦ subst (λ (i : ℕ). HasInput i (suc m) pos bounds rest) same (record { behind = rest; is = last })
      | inr other ↦
          let before = input_parts m k pos bounds (number_bytes w64 (slice_index pos m) ++ (number_bytes w64 (slice_index bounds m) ++ rest)) (omega (arith, lt, other)) in
          record { behind = before.behind; is = last ∙ before.is }
    ]

grouped : (v n out width inputs count image rest : List ℕ) → v ++ n ++ out ++ width ++ inputs ++ count ++ image ++ rest ≡ v ++ (n ++ (out ++ (width ++ (inputs ++ (count ++ (image ++ rest))))))
grouped v n out width inputs count image rest = simp append_assoc

-- what bytes say that begin with the front of a frame's code
pub record Says (f : Frame) (bytes : List ℕ) : Type 0 where
  pub rest : List ℕ
  pub v_at : drop 2 bytes ≡ number_bytes w32 f.v ++ drop 6 bytes
  pub n_at : drop 6 bytes ≡ number_bytes w64 f.n ++ drop 14 bytes
  pub out_at : drop 14 bytes ≡ number_bytes w64 f.out ++ drop 22 bytes
  pub width_is : slice_index bytes 22 ≡ f.width
  pub inputs_at : drop 23 bytes ≡ inputs_bytes f.width f.pos f.bounds ++ drop (23 + 16 * f.width) bytes
  pub count_at : drop (23 + 16 * f.width) bytes ≡ number_bytes w32 (length f.image) ++ drop (27 + 16 * f.width) bytes
  pub image_at : drop (27 + 16 * f.width) bytes ≡ f.image ++ rest

pub front_says : (f : Frame) (rest : List ℕ) → Says f (frame_front f ++ rest)
front_says f rest =
    let bytes : List ℕ = frame_front f ++ rest in
    let inputs : List ℕ = inputs_bytes f.width f.pos f.bounds in
    let d2 : drop 2 bytes ≡ _ =
    grouped (number_bytes w32 f.v) (number_bytes w64 f.n) (number_bytes w64 f.out) (f.width ∷ []) inputs (number_bytes w32 (length f.image)) f.image rest in
    let d6 = drop_past 2 (number_bytes w32 f.v) _ bytes 4 d2 (length-number_bytes w32 wide32 f.v) in
    let d14 = drop_past 6 (number_bytes w64 f.n) _ bytes 8 d6 (length-number_bytes w64 wide64 f.n) in
    let d22 = drop_past 14 (number_bytes w64 f.out) _ bytes 8 d14 (length-number_bytes w64 wide64 f.out) in
    let d23 = drop_past 22 (f.width ∷ []) _ bytes 1 d22 refl in
    let d-count = drop_past 23 inputs _ bytes (16 * f.width) d23 (length-inputs_bytes f.width f.pos f.bounds) in
    let d-image = drop_past (23 + 16 * f.width) (number_bytes w32 (length f.image)) _ bytes 4 d-count (length-number_bytes w32 wide32 (length f.image)) in
    let there : 23 + 16 * f.width + 4 ≡ 27 + 16 * f.width = omega arith in
    let image_at : drop (27 + 16 * f.width) bytes ≡ f.image ++ rest = subst (λ (i : ℕ). drop i bytes ≡ f.image ++ rest) there d-image in
    record {
      rest = rest;
      v_at = d2 ∙ ap (λ (t : List ℕ). number_bytes w32 f.v ++ t) (sym d6);
      n_at = d6 ∙ ap (λ (t : List ℕ). number_bytes w64 f.n ++ t) (sym d14);
      out_at = d14 ∙ ap (λ (t : List ℕ). number_bytes w64 f.out ++ t) (sym d22);
      width_is = sym (get_or-drop 22 bytes 0 0) ∙ ap (λ (t : List ℕ). slice_index t 0) d22;
      inputs_at = d23 ∙ ap (λ (t : List ℕ). inputs ++ t) (sym d-count);
      count_at = d-count ∙ ap (λ (t : List ℕ). number_bytes w32 (length f.image) ++ t) (sym image_at);
      image_at = image_at;
    }

-- the position of an input, and its bound
pub record SaysInput (f : Frame) (bytes : List ℕ) (k : ℕ) : Type 0 where
  pub pos : number_at w64 (23 + 16 * k) bytes ≡ slice_index f.pos k
  pub bound : number_at w64 (31 + 16 * k) bytes ≡ slice_index f.bounds k

pub says_input : (f : Frame) (bytes : List ℕ) → Says f bytes → (k : ℕ) → k < f.width → slice_index f.pos k < 2 ^ 64 → slice_index f.bounds k < 2 ^ 64 → SaysInput f bytes k
says_input f bytes says k lt pos_fits bound_fits =
    let parts = input_parts f.width k f.pos f.bounds (drop (23 + 16 * f.width) bytes) lt in
    let d23 = says.inputs_at ∙ parts.is in
    let d-pos = drop_past 23 (inputs_bytes k f.pos f.bounds) _ bytes (16 * k) d23 (length-inputs_bytes k f.pos f.bounds) in
    let d-bound = drop_past (23 + 16 * k) (number_bytes w64 (slice_index f.pos k)) _ bytes 8 d-pos (length-number_bytes w64 wide64 (slice_index f.pos k)) in
    let there : 23 + 16 * k + 8 ≡ 31 + 16 * k = omega arith in
    record {
      pos = number_at-is w64 wide64 (23 + 16 * k) (slice_index f.pos k) _ bytes pos_fits d-pos;
      bound = number_at-is w64 wide64 (31 + 16 * k) (slice_index f.bounds k) _ bytes bound_fits
          (subst (λ (i : ℕ). drop i bytes ≡ number_bytes w64 (slice_index f.bounds k) ++ parts.behind) there d-bound);
    }

pub says_image_len : (f : Frame) (bytes : List ℕ) → Says f bytes → length f.image < 2 ^ 32 → image_len f.width bytes ≡ length f.image
says_image_len f bytes says few = number_at-is w32 wide32 (23 + 16 * f.width) (length f.image) _ bytes few says.count_at

entries_are : (width place : ℕ) (bytes entries : List ℕ) → width ≤ 8 → AreEntries width entries
    → ((k : ℕ) → k < width → number_at w64 (place + 16 * k) bytes ≡ slice_index entries k) → entries_at width place bytes ≡ entries
entries_are width place bytes entries le are h =
    ext_get_or 0 (entries_at width place bytes) entries (sym are.eight) (λ k lt. elim (cases_lt k width) [
      | inl within ↦ entry-there width place bytes k le within ∙ h k within
      | inr past ↦ entry-none width place bytes k past ∙ sym (are.zeros k past)
    ])

frame_is : (f : Frame) (v n out width : ℕ) (pos bounds image : List ℕ) → v ≡ f.v → n ≡ f.n → out ≡ f.out → width ≡ f.width → pos ≡ f.pos → bounds ≡ f.bounds → image ≡ f.image
    → record f { v = v; n = n; out = out; width = width; pos = pos; bounds = bounds; image = image } ≡ f
frame_is f v n out width pos bounds image p q r s t u w =
    ap (λ (i : ℕ). record f { v = i; n = n; out = out; width = width; pos = pos; bounds = bounds; image = image }) p
    ∙ ap (λ (i : ℕ). record f { n = i; out = out; width = width; pos = pos; bounds = bounds; image = image }) q
    ∙ ap (λ (i : ℕ). record f { out = i; width = width; pos = pos; bounds = bounds; image = image }) r
    ∙ ap (λ (i : ℕ). record f { width = i; pos = pos; bounds = bounds; image = image }) s
    ∙ ap (λ (i : List ℕ). record f { pos = i; bounds = bounds; image = image }) t
    ∙ ap (λ (i : List ℕ). record f { bounds = i; image = image }) u
    ∙ ap (λ (i : List ℕ). record f { image = i }) w

pub record IsReadAs (f : Frame) (bytes : List ℕ) : Type 0 where
  pub tests : first_fault (frame_tests f.width f.v f.n bytes) ≡ None
  pub frame : frame_at f.width bytes ≡ f

pub is_read : (f : Frame) → f.v < 2 ^ 32 → f.n < 2 ^ 64 → IsFrame f → IsReadAs f (frame_bytes f)
unfolding frame_bytes frame_at
is_read f v_fits n_fits is_frame =
    let bytes : List ℕ = sealed (frame_front f) in
    let code = is_frame.code in
    let le = code.width.1 in
    let says = front_says f (sha256 (frame_front f)) in
    let inputs = λ (k : ℕ) (lt : k < f.width). says_input f bytes says k lt (is_frame.pos.fit k) (is_frame.bounds.fit k) in
    let len = says_image_len f bytes says code.image in
    let total = length-sealed (frame_front f) in
    let front_len = length-frame_front f in
    let seal = is_sealed (frame_front f) (27 + 16 * f.width + length f.image) front_len in
    let front : 27 + 16 * f.width + length f.image ≡ 59 + 16 * f.width + image_len f.width bytes - 32 = omega (arith, len) in
    let v_is = number_at-is w32 wide32 2 f.v _ bytes v_fits says.v_at in
    let n_is = number_at-is w64 wide64 6 f.n _ bytes n_fits says.n_at in
    let out_is = number_at-is w64 wide64 14 f.out _ bytes is_frame.out says.out_at in
    let image_is : take (image_len f.width bytes) (drop (27 + 16 * f.width) bytes) ≡ f.image =
    ap (λ (i : ℕ). take i (drop (27 + 16 * f.width) bytes)) len ∙ ap (take (length f.image)) says.image_at ∙ take_at f.image says.rest (length f.image) refl in
    record {
      tests =
          passes _ _ _ (le-leb 23 (length bytes) (omega (arith, total, front_len)))
          (passes _ _ _ (and_from (leb 1 f.op) (leb f.op 6) (le-leb 1 f.op code.op.0) (le-leb f.op 6 code.op.1))
          (passes _ _ _ (and_from (leb 1 f.width) (leb f.width 8) (le-leb 1 f.width code.width.0) (le-leb f.width 8 le))
          (passes _ _ _ (le-leb (27 + 16 * f.width) (length bytes) (omega (arith, total, front_len)))
          (passes _ _ _ (le-leb (59 + 16 * f.width + image_len f.width bytes) (length bytes) (omega (arith, total, front_len, len)))
          (passes _ _ _ (le-leb (length bytes) (59 + 16 * f.width + image_len f.width bytes) (omega (arith, total, front_len, len)))
          (passes _ _ _ (subst (λ (i : ℕ). bytes_eq (drop i bytes) (sha256 (take i bytes)) ≡ true) front seal.digest)
          (passes _ _ _ (eq-eqb _ _ v_is) (passes _ _ _ (eq-eqb _ _ n_is)
          (bounds_pass f.width 31 bytes (λ k lt. rw ((inputs k lt).bound) (code.bounds k lt)))))))))));
      frame = frame_is f _ _ _ f.width _ _ _ v_is n_is out_is refl
          (entries_are f.width 23 bytes f.pos le is_frame.pos (λ k lt. (inputs k lt).pos))
          (entries_are f.width 31 bytes f.bounds le is_frame.bounds (λ k lt. (inputs k lt).bound)) image_is;
    }

width_read : (f : Frame) → slice_index (frame_bytes f) 22 ≡ f.width
unfolding frame_bytes
width_read f = (front_says f (sha256 (frame_front f))).width_is

-- the code of a frame is read as this frame
pub frame_is_read : (f : Frame) → f.v < 2 ^ 32 → f.n < 2 ^ 64 → IsFrame f → frame_read f.v f.n (frame_bytes f) ≡ Ok f
unfolding frame_read
frame_is_read f v_fits n_fits is_frame =
    let read = is_read f v_fits n_fits is_frame in
    let said : ℕ → Result Frame CodecFault = λ width. option_map_or {T = CodecFault} (λ g. Err g) (first_fault (frame_tests width f.v f.n (frame_bytes f))) (Ok (frame_at width (frame_bytes f))) in
    ap said (width_read f)
    ∙ ap (λ (e : Option CodecFault). option_map_or {T = CodecFault} (λ g. Err g) e (Ok (frame_at f.width (frame_bytes f)))) read.tests
    ∙ ap (λ (g : Frame). Ok g) read.frame

-- ---- no code begins another

pub length-frame : (f : Frame) → length (frame_bytes f) ≡ 59 + 16 * f.width + length f.image
unfolding frame_bytes
length-frame f = omega (arith, length-sealed (frame_front f), length-frame_front f)

-- what the front of a code says of its length, whatever follows
pub record SaysLen (f : Frame) (bytes : List ℕ) : Type 0 where
  pub width : slice_index bytes 22 ≡ f.width
  pub image : image_len f.width bytes ≡ length f.image

says_len : (f : Frame) (rest : List ℕ) → HasCode f → SaysLen f (frame_bytes f ++ rest)
unfolding frame_bytes
says_len f rest code =
    let says = front_says f (sha256 (frame_front f) ++ rest) in
    subst (λ (t : List ℕ). SaysLen f t) (sym (append_assoc (frame_front f) (sha256 (frame_front f)) rest))
    (record { width = says.width_is; image = says_image_len f (frame_front f ++ (sha256 (frame_front f) ++ rest)) says code.image })

pub no_frame_begins : (f g : Frame) (rest : List ℕ) → HasCode f → HasCode g → frame_bytes f ≡ frame_bytes g ++ rest → rest ≡ []
no_frame_begins f g rest f_code g_code e =
    let of_f : SaysLen f (frame_bytes g ++ rest) = subst (λ (t : List ℕ). SaysLen f t) (append-nil (frame_bytes f) ∙ e) (says_len f [] f_code) in
    let of_g = says_len g rest g_code in
    let width : f.width ≡ g.width = sym of_f.width ∙ of_g.width in
    let image : length f.image ≡ length g.image = sym of_f.image ∙ ap (λ (k : ℕ). image_len k (frame_bytes g ++ rest)) width ∙ of_g.image in
    nil_from_length rest (omega (arith, ap length e, length-append (frame_bytes g) rest, length-frame f, length-frame g, width, image))

-- ---- what the reader answers

pub gives_frame : (v n : ℕ) (bytes : List ℕ) (r : Result Frame FrameFault) → GivesFrame r (frame_read v n bytes) → IfOk (frame_read v n bytes) (IsFrameFor v n bytes) → IfOk r (IsFrameFor v n bytes)
gives_frame v n bytes (Ok f) given h = subst (λ (r : Result Frame CodecFault). IfOk r (IsFrameFor v n bytes)) given h
gives_frame v n bytes (Err why) given h = tt

pub frame_is_given : (f : Frame) (v n : ℕ) (bytes : List ℕ) → v < 2 ^ 32 → n < 2 ^ 64 → IsFrame f → f.v ≡ v → f.n ≡ n → bytes ≡ frame_bytes f → frame_read v n bytes ≡ Ok f
frame_is_given f v n bytes v_fits n_fits is_frame v_is n_is e =
    ap (frame_read v n) e ∙ ap (λ (i : ℕ). frame_read i n (frame_bytes f)) (sym v_is) ∙ ap (λ (i : ℕ). frame_read f.v i (frame_bytes f)) (sym n_is)
    ∙ frame_is_read f (omega (arith, v_is)) (omega (arith, n_is)) is_frame

pub short_is_refused : (v n : ℕ) (f : Frame) (bytes rest : List ℕ) (r : Result Frame FrameFault) → HasCode f → frame_bytes f ≡ bytes ++ rest → rest ≢ []
    → IfOk r (IsFrameFor v n bytes) → IsErr r
short_is_refused v n f bytes rest (Ok g) code e some h =
    absurd (some (no_frame_begins f g rest code h.0.code (e ∙ ap (λ (t : List ℕ). t ++ rest) h.3)))
short_is_refused v n f bytes rest (Err why) code e some h = refl
