-- The snapshot of a vertex that has read nothing.
use Rattle.std.specs.Prelude.{ℕ, List, [], replicate}
use Rattle.ss_codec.specs.declared.frame.Frame.{Frame}
use Rattle.ss_expr.specs.declared.stream_operator.Spec.{Spec}
use Rattle.ss_expr.specs.declared.stream_operator.Spec.TheVariants as spec
use Rattle.ss_frames.specs.Frames.{op_number}

-- the image of no entries: a select and a union have no bytes, a window and a session say one
-- count, and a join two
abbrev pub first_image : Spec → List ℕ
first_image (spec.Select test a b c d) = []
first_image spec.Union = []
first_image (spec.Window size hop agg of) = replicate 4 0
first_image spec.Join = replicate 8 0
first_image (spec.Session gap agg of) = replicate 4 0
first_image spec.Except = replicate 8 0

-- the first snapshot of a vertex with this operator and so many inputs
abbrev pub first_frame : ℕ → Spec → ℕ → Frame
first_frame v operator width = record {
  v = v;
  n = 0;
  out = 0;
  op = op_number operator;
  width = width;
  pos = replicate 8 0;
  bounds = replicate 8 0;
  image = first_image operator;
}
