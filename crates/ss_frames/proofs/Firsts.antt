-- The snapshot of an operator that has read nothing.
use Rattle.std.proofs.Common.{◌≡◌, ℕ, zero, suc, ◌+◌, ◌-◌, ◌≤◌, List, [], ◌∷◌, ◌++◌, map, refl, ap, ◌∙◌, arith}
use Rattle.std.specs.Prelude.{replicate}
use Rattle.std.specs.List.{range_with_len}
use Rattle.std.proofs.lemmas.List.{length-replicate, replicate-append-replicate}
use Rattle.ss_codec.specs.declared.frame.Frame.{Frame}
use Rattle.ss_expr.specs.Operators.{operator_of}
use Rattle.ss_expr.specs.declared.stream_operator.Spec.{Spec}
use Rattle.ss_expr.specs.declared.stream_operator.Spec.TheVariants as spec
use Rattle.ss_image.specs.Images.{window_image, join_image, session_image, image_of}
use Rattle.ss_image.specs.Numbers.{number_bytes}
use Rattle.ss_meaning.specs.Entries.{entries_after}
use Rattle.ss_meaning.specs.Inputs.{bounds, counts}
use Rattle.ss_plan.specs.Laws.{VerticesByNumber}
use Rattle.ss_frames.specs.First.{first_image, first_frame}
use Rattle.ss_frames.specs.Frames.{op_number, padded, frame_after, inputs_at}
use Rattle.ss_frames.specs.Laws.{FirstFrames}
use Rattle.ss_frames.proofs.Operators.{is_operator, frame_is}

abbrev zero_of : ℕ → ℕ
zero_of i = 0

zeros : (a n : ℕ) → map zero_of (range_with_len a n) ≡ replicate n 0
zeros a zero = refl
zeros a (suc n) = ap (λ (xs : List ℕ). 0 ∷ xs) (zeros (a + 1) n)

padded_zeros : (n : ℕ) → n ≤ 8 → padded (map zero_of (range_with_len 0 n)) ≡ replicate 8 0
padded_zeros n h =
    let whole : n + (8 - n) ≡ 8 = omega (arith, h) in
    ap padded (zeros 0 n)
    ∙ ap (λ m. replicate n 0 ++ replicate (8 - m) 0) (length-replicate {A = ℕ} n 0)
    ∙ replicate-append-replicate n (8 - n) 0
    ∙ ap (λ m. replicate m 0) whole

image_is : (operator : Spec) (inputs : ℕ) → image_of (entries_after (operator_of operator) inputs []) ≡ first_image operator
unfolding window_image join_image session_image number_bytes
image_is (spec.Select test a b c d) inputs = refl
image_is spec.Union inputs = refl
image_is (spec.Window size hop agg of) inputs = refl
image_is spec.Join inputs = refl
image_is (spec.Session gap agg of) inputs = refl
image_is spec.Except inputs = refl

first_is : (v : ℕ) (operator : Spec) (inputs : ℕ) → inputs ≤ 8 → frame_after v operator inputs [] ≡ first_frame v operator inputs
unfolding frame_after
first_is v operator inputs h =
    let frame : List ℕ → List ℕ → List ℕ → Frame = λ pos bounds image. record {
      v = v;
      n = 0;
      out = 0;
      op = op_number operator;
      width = inputs;
      pos = pos;
      bounds = bounds;
      image = image;
    } in
    let zero_pos : padded (counts inputs []) ≡ replicate 8 0 = padded_zeros inputs h in
    let zero_bounds : padded (bounds inputs []) ≡ replicate 8 0 = padded_zeros inputs h in
    ap (λ pos. frame pos (padded (bounds inputs [])) (image_of (entries_after (operator_of operator) inputs []))) zero_pos
    ∙ ap (λ bs. frame (replicate 8 0) bs (image_of (entries_after (operator_of operator) inputs []))) zero_bounds
    ∙ ap (frame (replicate 8 0) (replicate 8 0)) (image_is operator inputs)

pub first_frames : VerticesByNumber → FirstFrames
first_frames law plan is v operator e =
    let o = is_operator law plan is v operator e in
    frame_is plan v 0 operator e ∙ first_is v operator (inputs_at plan v) o.most
