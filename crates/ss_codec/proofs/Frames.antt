-- Bytes that pass every test are the code of a frame.
use Rattle.std.proofs.Common.{◌≡◌, ℕ, zero, suc, ◌+◌, ◌-◌, ◌*◌, ◌^◌, ◌<◌, ◌≤◌, true, cond, leb, ltb, List, [], ◌∷◌, ◌++◌, length, take, drop, Option, Some, None, Ok, Err, refl, sym, ap, subst, ◌∙◌, arith, inl, inr}
use Rattle.std.specs.Prelude.{◌&&◌, IfOk, slice_index}
use Rattle.std.specs.Option.{option_map_or}
use Rattle.std.specs.Int.{w32, w64}
use Rattle.std.proofs.lemmas.Bool.{and_parts, cases_lt, cond-true, cond-false, eqb-true, leb-true, lt-ltb, le-ltb}
use Rattle.std.proofs.lemmas.Slice.Eq.{bytes_eq-Decides}
use Rattle.std.proofs.lemmas.List.{take-append-drop, drop-drop, drop_more, get_or_past, length-append, length-drop, length-take}
use Rattle.sha2.specs.Sha256.{sha256}
use Rattle.ss_elem.specs.Validity.{top}
use Rattle.ss_codec.specs.declared.fault.CodecFault.{CodecFault}
use Rattle.ss_codec.specs.declared.frame.Frame.{Frame}
use Rattle.ss_codec.specs.Numbers.{number_at, number_bytes}
use Rattle.ss_codec.specs.Frame.{AreEntries, IsFrame, frame_bytes, frame_front, inputs_bytes}
use Rattle.ss_codec.specs.FrameTests.{entries_at, frame_at, frame_read, frame_tests, image_len}
use Rattle.ss_codec.specs.Tests.{first_fault}
use Rattle.ss_codec.proofs.Bounds.{bounds_passed}
use Rattle.ss_codec.proofs.Bytes.{IsBytes, Spells, Spells-append, length-number_bytes, number_at-below, number_at-spells, wide32, wide64}
use Rattle.ss_codec.proofs.Records.{head_spells}
use Rattle.ss_codec.proofs.Seals.{passed, sealed_is}

-- ---- lengths

pub length-inputs_bytes : (k : ℕ) (pos bounds : List ℕ) → length (inputs_bytes k pos bounds) ≡ 16 * k
length-inputs_bytes zero pos bounds = refl
length-inputs_bytes (suc k) pos bounds =
    simp length-append (omega (arith, length-inputs_bytes k pos bounds, length-number_bytes w64 wide64 (slice_index pos k), length-number_bytes w64 wide64 (slice_index bounds k)))

pub length-frame_front : (f : Frame) → length (frame_front f) ≡ 27 + 16 * f.width + length f.image
length-frame_front f =
    simp length-append (omega (arith, length-number_bytes w32 wide32, length-number_bytes w64 wide64, length-inputs_bytes f.width f.pos f.bounds))

-- ---- entries

pub entry-is : (width place : ℕ) (bytes : List ℕ) (k : ℕ) → k < 8
    → slice_index (entries_at width place bytes) k ≡ cond (ltb k width) (number_at w64 (place + 16 * k) bytes) 0
entry-is width place bytes zero lt = refl
entry-is width place bytes (suc zero) lt = refl
entry-is width place bytes (suc (suc zero)) lt = refl
entry-is width place bytes (suc (suc (suc zero))) lt = refl
entry-is width place bytes (suc (suc (suc (suc zero)))) lt = refl
entry-is width place bytes (suc (suc (suc (suc (suc zero))))) lt = refl
entry-is width place bytes (suc (suc (suc (suc (suc (suc zero)))))) lt = refl
entry-is width place bytes (suc (suc (suc (suc (suc (suc (suc zero))))))) lt = refl
entry-is width place bytes (suc (suc (suc (suc (suc (suc (suc (suc k)))))))) lt = absurd (omega (arith, lt))

pub entry-there : (width place : ℕ) (bytes : List ℕ) (k : ℕ) → width ≤ 8 → k < width → slice_index (entries_at width place bytes) k ≡ number_at w64 (place + 16 * k) bytes
entry-there width place bytes k le lt =
    entry-is width place bytes k (omega (arith, lt, le)) ∙ cond-true (ltb k width) (number_at w64 (place + 16 * k) bytes) 0 (lt-ltb k width lt)

pub entry-none : (width place : ℕ) (bytes : List ℕ) (k : ℕ) → width ≤ k → slice_index (entries_at width place bytes) k ≡ 0
entry-none width place bytes k le =
    elim (cases_lt k 8) [
      | inl lt ↦ entry-is width place bytes k lt ∙ cond-false (ltb k width) (number_at w64 (place + 16 * k) bytes) 0 (le-ltb k width le)
      | inr past ↦ get_or_past (entries_at width place bytes) k 0 past
    ]

entry-fits : (width place : ℕ) (bytes : List ℕ) → IsBytes bytes → width ≤ 8 → (k : ℕ) → slice_index (entries_at width place bytes) k < 2 ^ 64
entry-fits width place bytes fits le k =
    elim (cases_lt k width) [
      | inl lt ↦ rw (entry-there width place bytes k le lt) (number_at-below w64 wide64 (place + 16 * k) bytes fits)
      | inr past ↦ rw (entry-none width place bytes k past) (omega arith)
    ]

are_entries : (width place : ℕ) (bytes : List ℕ) → IsBytes bytes → width ≤ 8 → AreEntries width (entries_at width place bytes)
are_entries width place bytes fits le = record {
  eight = refl;
  zeros = λ k past. entry-none width place bytes k past;
  fit = entry-fits width place bytes fits le;
}

-- ---- bytes that pass

-- what the tests tell
pub record IsCoded (width v n : ℕ) (bytes : List ℕ) : Type 0 where
  pub form : slice_index bytes 0 ≡ 0x11
  pub op : (1 ≤ slice_index bytes 1) × (slice_index bytes 1 ≤ 6)
  pub width_is : (1 ≤ width) × (width ≤ 8)
  pub len : length bytes ≡ 59 + 16 * width + image_len width bytes
  pub digest : drop (27 + 16 * width + image_len width bytes) bytes ≡ sha256 (take (27 + 16 * width + image_len width bytes) bytes)
  pub v_is : number_at w32 2 bytes ≡ v
  pub n_is : number_at w64 6 bytes ≡ n
  pub bounds : (k : ℕ) → k < width → number_at w64 (31 + 16 * k) bytes ≤ top

between : (a b x : ℕ) → (leb a x && leb x b) ≡ true → (a ≤ x) × (x ≤ b)
between a b x h = let p = and_parts (leb a x) (leb x b) h in (leb-true a x p.0, leb-true x b p.1)

pub is_coded : (width v n : ℕ) (bytes : List ℕ) → first_fault (frame_tests width v n bytes) ≡ None → IsCoded width v n bytes
is_coded width v n bytes e =
    let p0 = passed _ _ _ e in
    let p1 = passed _ _ _ p0.1 in
    let p2 = passed _ _ _ p1.1 in
    let p3 = passed _ _ _ p2.1 in
    let p4 = passed _ _ _ p3.1 in
    let p5 = passed _ _ _ p4.1 in
    let p6 = passed _ _ _ p5.1 in
    let p7 = passed _ _ _ p6.1 in
    let p8 = passed _ _ _ p7.1 in
    let p9 = passed _ _ _ p8.1 in
    let least : 59 + 16 * width + image_len width bytes ≤ length bytes = leb-true _ _ p5.0 in
    let most : length bytes ≤ 59 + 16 * width + image_len width bytes = leb-true _ _ p6.0 in
    let front : 59 + 16 * width + image_len width bytes - 32 ≡ 27 + 16 * width + image_len width bytes = omega arith in
    let sealed_at : drop (59 + 16 * width + image_len width bytes - 32) bytes ≡ sha256 (take (59 + 16 * width + image_len width bytes - 32) bytes) = (bytes_eq-Decides _ _).0 p7.0 in
    record {
      form = eqb-true _ _ p1.0;
      op = between 1 6 (slice_index bytes 1) p2.0;
      width_is = between 1 8 width p3.0;
      len = omega arith;
      digest = subst (λ (m : ℕ). drop m bytes ≡ sha256 (take m bytes)) front sealed_at;
      v_is = eqb-true _ _ p8.0;
      n_is = eqb-true _ _ p9.0;
      bounds = bounds_passed width 31 bytes p9.1;
    }

Spells-at : (p q p' q' : ℕ) (text bytes : List ℕ) → p ≡ p' → q ≡ q' → Spells p q text bytes → Spells p' q' text bytes
Spells-at p q p' q' text bytes pp qq s = subst (λ (i : ℕ). Spells i q' text bytes) pp (subst (λ (i : ℕ). Spells p i text bytes) qq s)

one_byte : (p : ℕ) (bytes : List ℕ) → p < length bytes → Spells p (p + 1) (slice_index bytes p ∷ []) bytes
one_byte p bytes lt = record { is = drop_more bytes p 0 lt }

inputs_spell : (k width : ℕ) (bytes : List ℕ) → IsBytes bytes → width ≤ 8 → k ≤ width → 27 + 16 * width ≤ length bytes
    → Spells 23 (23 + 16 * k) (inputs_bytes k (entries_at width 23 bytes) (entries_at width 31 bytes)) bytes
inputs_spell zero width bytes fits le below long = record { is = refl }
inputs_spell (suc k) width bytes fits le below long =
    let before = inputs_spell k width bytes fits le (omega (arith, below)) long in
    let pos : Spells (23 + 16 * k) (31 + 16 * k) (number_bytes w64 (slice_index (entries_at width 23 bytes) k)) bytes =
    rw (entry-there width 23 bytes k le (omega (arith, below)))
    (Spells-at (23 + 16 * k) (23 + 16 * k + 8) (23 + 16 * k) (31 + 16 * k) _ bytes refl (omega arith)
    (number_at-spells w64 wide64 (23 + 16 * k) bytes fits (omega (arith, long, below)))) in
    let bound : Spells (31 + 16 * k) (23 + 16 * suc k) (number_bytes w64 (slice_index (entries_at width 31 bytes) k)) bytes =
    rw (entry-there width 31 bytes k le (omega (arith, below)))
    (Spells-at (31 + 16 * k) (31 + 16 * k + 8) (31 + 16 * k) (23 + 16 * suc k) _ bytes refl (omega arith)
    (number_at-spells w64 wide64 (31 + 16 * k) bytes fits (omega (arith, long, below)))) in
    Spells-append 23 (31 + 16 * k) (23 + 16 * suc k) _ _ bytes (Spells-append 23 (23 + 16 * k) (31 + 16 * k) _ _ bytes before pos) bound

-- bytes that pass are the code of the frame that they say
pub is_frame : (v n : ℕ) (bytes : List ℕ) → IsBytes bytes → IsCoded (slice_index bytes 22) v n bytes
    → IsFrame (frame_at (slice_index bytes 22) bytes) × (bytes ≡ frame_bytes (frame_at (slice_index bytes 22) bytes))
unfolding frame_at frame_bytes
is_frame v n bytes fits coded =
    let width = slice_index bytes 22 in
    let le = coded.width_is.1 in
    let len : length bytes ≡ 59 + 16 * width + image_len width bytes = coded.len in
    let image : List ℕ = take (image_len width bytes) (drop (27 + 16 * width) bytes) in
    let image_is : image_len width bytes ≡ length image = omega (arith, length-take (image_len width bytes) (drop (27 + 16 * width) bytes), length-drop (27 + 16 * width) bytes, len) in
    let f = frame_at width bytes in
    let head = head_spells 0x11 (slice_index bytes 1) (number_at w32 2 bytes) (number_at w64 6 bytes) bytes fits (omega (arith, len)) coded.form refl refl refl in
    let out = number_at-spells w64 wide64 14 bytes fits (omega (arith, len)) in
    let last = one_byte 22 bytes (omega (arith, len)) in
    let inputs = inputs_spell width width bytes fits le (omega arith) (omega (arith, len)) in
    let count : Spells (23 + 16 * width) (27 + 16 * width) (number_bytes w32 (length image)) bytes =
    subst (λ (m : ℕ). Spells (23 + 16 * width) (27 + 16 * width) (number_bytes w32 m) bytes) image_is
    (Spells-at (23 + 16 * width) (23 + 16 * width + 4) (23 + 16 * width) (27 + 16 * width) _ bytes refl (omega arith)
    (number_at-spells w32 wide32 (23 + 16 * width) bytes fits (omega (arith, len)))) in
    let held : Spells (27 + 16 * width) (27 + 16 * width + image_len width bytes) image bytes =
    record { is = sym (take-append-drop (image_len width bytes) (drop (27 + 16 * width) bytes)) ∙ ap (λ (t : List ℕ). image ++ t) (drop-drop (image_len width bytes) (27 + 16 * width) bytes) } in
    let begun = Spells-append 0 22 23 _ _ bytes (Spells-append 0 14 22 _ _ bytes head out) last in
    let with_inputs = Spells-append 0 23 (23 + 16 * width) _ _ bytes begun inputs in
    let with_count = Spells-append 0 (23 + 16 * width) (27 + 16 * width) _ _ bytes with_inputs count in
    let front : Spells 0 (27 + 16 * width + image_len width bytes) (frame_front f) bytes = Spells-append 0 (27 + 16 * width) (27 + 16 * width + image_len width bytes) _ _ bytes with_count held in (
      record {
        code = record {
          op = coded.op;
          width = coded.width_is;
          bounds = λ k lt. rw (entry-there width 31 bytes k le lt) (coded.bounds k lt);
          image = rw (← image_is) (number_at-below w32 wide32 (23 + 16 * width) bytes fits);
        };
        out = number_at-below w64 wide64 14 bytes fits;
        pos = are_entries width 23 bytes fits le;
        bounds = are_entries width 31 bytes fits le;
      },
      sealed_is (frame_front f) bytes (27 + 16 * width + image_len width bytes) front (omega (arith, length-frame_front f, image_is)) coded.digest,
    )

read_if : (P : Frame → Type 0) (fault : Option CodecFault) (f : Frame) → (fault ≡ None → P f) → IfOk (option_map_or {T = CodecFault} (λ e. Err e) fault (Ok f)) P
read_if P None f h = h refl
read_if P (Some fault) f h = tt

abbrev pub IsFrameFor : ℕ → ℕ → List ℕ → Frame → Type 0
IsFrameFor v n bytes f = IsFrame f × (f.v ≡ v) × (f.n ≡ n) × (bytes ≡ frame_bytes f)

-- what is read is a frame for v and n, and its code is these bytes
pub read_is_frame : (v n : ℕ) (bytes : List ℕ) → IsBytes bytes → IfOk (frame_read v n bytes) (IsFrameFor v n bytes)
unfolding frame_read frame_at
read_is_frame v n bytes fits =
    read_if (IsFrameFor v n bytes) (first_fault (frame_tests (slice_index bytes 22) v n bytes)) (frame_at (slice_index bytes 22) bytes)
    (λ none. let coded = is_coded (slice_index bytes 22) v n bytes none in
    let h = is_frame v n bytes fits coded in
    (h.0, coded.v_is, coded.n_is, h.1))
