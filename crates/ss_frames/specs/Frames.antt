-- The snapshot of a vertex, from the meaning of its job alone.
use Rattle.std.specs.Prelude.{ℕ, ◌-◌, List, [], ◌++◌, length, take, replicate}
use Rattle.std.specs.Option.{option_map_or}
use Rattle.ss_codec.specs.declared.frame.Frame.{Frame}
use Rattle.ss_expr.specs.Operators.{operator_of}
use Rattle.ss_expr.specs.declared.stream_operator.Spec.{Spec}
use Rattle.ss_expr.specs.declared.stream_operator.Spec.TheVariants as spec
use Rattle.ss_image.specs.Images.{image_of}
use Rattle.ss_job.specs.JobText.{spec_of}
use Rattle.ss_meaning.specs.Emit.{output}
use Rattle.ss_meaning.specs.Entries.{entries_after}
use Rattle.ss_meaning.specs.Inputs.{bounds, counts}
use Rattle.ss_meaning.specs.Meaning.{reads, vertex, merged}
use Rattle.ss_meaning.specs.Merge.{Arrival}
use Rattle.ss_plan.specs.Plan.{PlanText, vertices_of}

-- the number by which a frame tells its operator
abbrev pub op_number : Spec → ℕ
op_number (spec.Select test a b c d) = 1
op_number spec.Union = 2
op_number (spec.Window size hop agg of) = 3
op_number spec.Join = 4
op_number (spec.Session gap agg of) = 5
op_number spec.Except = 6

-- a number for each input, and zeros up to eight
abbrev pub padded : List ℕ → List ℕ
padded numbers = numbers ++ replicate (8 - length numbers) 0

-- the snapshot of vertex v with this operator and so many inputs, after p
unfoldable pub frame_after : ℕ → Spec → ℕ → List Arrival → Frame
frame_after v operator inputs p = record {
  v = v;
  n = length p;
  out = length (output (operator_of operator) inputs p);
  op = op_number operator;
  width = inputs;
  pos = padded (counts inputs p);
  bounds = padded (bounds inputs p);
  image = image_of (entries_after (operator_of operator) inputs p);
}

-- what vertex v of a plan has accepted after its first n elements
abbrev pub accepted : PlanText → ℕ → ℕ → List Arrival
accepted plan v n = take n (merged (vertices_of plan) v)

-- how many inputs vertex v of a plan has
abbrev pub inputs_at : PlanText → ℕ → ℕ
inputs_at plan v = length (reads (vertex (vertices_of plan) v))

-- what stands where a vertex has no snapshots
abbrev pub no_frame : Frame
no_frame = record { v = 0; n = 0; out = 0; op = 0; width = 0; pos = []; bounds = []; image = [] }

-- the snapshot of vertex v of a plan after its first n elements
unfoldable pub frame_of : PlanText → ℕ → ℕ → Frame
frame_of plan v n =
    option_map_or (λ operator. frame_after v operator (inputs_at plan v) (accepted plan v n)) (spec_of plan.job v)
    no_frame
