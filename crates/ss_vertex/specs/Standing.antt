-- Where an instance of a vertex stands: it is where its vertex is, after so many elements, where nothing fails.
use Rattle.std.specs.Prelude.{◌≡◌, ℕ, ◌+◌, List, ◌++◌, length, Option, Some, None, option_map, IfSome}
use Rattle.ss_elem.specs.declared.element.Element.{Element}
use Rattle.ss_expr.specs.Operators.{operator_of}
use Rattle.ss_expr.specs.declared.stream_operator.Spec.{Spec}
use Rattle.ss_frames.specs.Frames.{accepted, inputs_at}
use Rattle.ss_frames.specs.Within.{IsWithin, AreKept}
use Rattle.ss_job.specs.JobText.{spec_of}
use Rattle.ss_meaning.specs.Entries.{entries_after}
use Rattle.ss_meaning.specs.Low.{low}
use Rattle.ss_meaning.specs.Meaning.{Vertex, Source, Inner, Sink, vertex}
use Rattle.ss_meaning.specs.Merge.{Arrival}
use Rattle.ss_meaning.specs.Positions.{out}
use Rattle.ss_merge.specs.Merging.{merger_after}
use Rattle.ss_plan.specs.Plan.{PlanText, vertices_of}
use Rattle.ss_state.specs.NumbersOfMeaning.{GivesStream}
use Rattle.ss_vertex.specs.Arriving.{last_given}
use Rattle.ss_vertex.specs.Inst.{OperatorState, Running, InstState}

-- an operator with so many inputs, after p: the positions and bounds of its inputs, and what it remembers
abbrev pub operator_after : ℕ → List Arrival → Spec → OperatorState
operator_after inputs p spec = record {
  merger = merger_after inputs p;
  oper = record { spec = spec; low = low inputs p; entries = entries_after (operator_of spec) inputs p };
}

-- where the operator of vertex v stands after its first n elements; a source has none
abbrev pub operator_at : PlanText → ℕ → ℕ → Option OperatorState
operator_at plan v n = option_map (operator_after (inputs_at plan v) (accepted plan v n)) (spec_of plan.job v)

-- of a source, how long its list is
abbrev pub list_len : Vertex → Option ℕ
list_len (Source list) = Some (length list)
list_len (Inner kind inputs) = None
list_len (Sink input) = None

-- elements are the last of others
abbrev pub IsEndOf : List Element → List Element → Type 0
IsEndOf left all = (before : List Element) × (all ≡ before ++ left)

-- an instance of vertex v that is up stands
pub record Stands (plan : PlanText) (v : ℕ) (up : Running) : Type 0 where
  -- it has accepted no more than arrives, and neither that nor what it has given passes the limit of the job
  pub within : IsWithin plan v up.n
  -- what it has accepted are elements of the program
  pub kept : AreKept plan v up.n
  -- its operator is where that of the vertex is
  pub operator : up.operator ≡ operator_at plan v up.n
  -- what is left is the last of what the vertex gives at the last element accepted, and is numbered as in its stream
  pub left : IsEndOf up.left (last_given (vertices_of plan) v up.n)
  pub next : up.next + length up.left ≡ out (vertices_of plan) v up.n

-- an instance stands: it is of a vertex that gives a stream, and is down, or stands while it is up
pub record InstStands (plan : PlanText) (inst : InstState) : Type 0 where
  pub stream : GivesStream (vertices_of plan) inst.v
  pub list : inst.list ≡ list_len (vertex (vertices_of plan) inst.v)
  pub running : IfSome inst.running (Stands plan inst.v)
