-- What a job says.
use Rattle.std.specs.Prelude.{ℕ, List, map, Option, Some, None, option_map, option_and_then, slice_get, IsSome}
use Rattle.std.specs.List.{filter_map}
use Rattle.ss_events.specs.declared.late.Late.{Late}
use Rattle.ss_expr.specs.declared.stream_operator.Spec.{Spec}
use Rattle.ss_expr.specs.declared.stream_operator.Spec.TheVariants as spec
use Rattle.ss_fail.specs.declared.role.Role.{Role}
use Rattle.ss_job.specs.declared.op.Op.{Op}
use Rattle.ss_job.specs.declared.op.Op.TheVariants as op
use Rattle.ss_job.specs.declared.policy.Policy.{Policy}
use Rattle.ss_water.specs.declared.node.Node.{Node}

-- what a vertex does: a source has a file and what becomes of rows that come late, a sink has a file
pub data VertexText : Type 0 where
  source : List ℕ → Late → VertexText
  inner : Spec → Policy → VertexText
  sink : List ℕ → VertexText

-- a job, its vertices in the order of the file: which reads which, their names and kinds, and what each does
pub record JobText : Type 0 where
  pub graph : List Node
  pub roles : List Role
  pub vertices : List VertexText
  pub max_elements : ℕ
  pub collect_every : ℕ

abbrev pub op_of_spec : Spec → Op
op_of_spec (spec.Select test a b c d) = op.Select
op_of_spec spec.Union = op.Union
op_of_spec (spec.Window size hop agg of) = op.Window
op_of_spec spec.Join = op.Join
op_of_spec (spec.Session gap agg of) = op.Session
op_of_spec spec.Except = op.Except

abbrev pub op_of_vertex : VertexText → Op
op_of_vertex (source file late) = op.Source
op_of_vertex (inner s policy) = op_of_spec s
op_of_vertex (sink file) = op.Sink

abbrev pub file_of_vertex : VertexText → Option (List ℕ)
file_of_vertex (source file late) = Some file
file_of_vertex (inner s policy) = None
file_of_vertex (sink file) = Some file

abbrev pub sink_file_of_vertex : VertexText → Option (List ℕ)
sink_file_of_vertex (source file late) = None
sink_file_of_vertex (inner s policy) = None
sink_file_of_vertex (sink file) = Some file

abbrev pub late_of_vertex : VertexText → Option Late
late_of_vertex (source file late) = Some late
late_of_vertex (inner s policy) = None
late_of_vertex (sink file) = None

abbrev pub spec_of_vertex : VertexText → Option Spec
spec_of_vertex (source file late) = None
spec_of_vertex (inner s policy) = Some s
spec_of_vertex (sink file) = None

abbrev pub policy_of_vertex : VertexText → Option Policy
policy_of_vertex (source file late) = None
policy_of_vertex (inner s policy) = Some policy
policy_of_vertex (sink file) = None

-- the names of the vertices, and the files of the sinks
abbrev pub vertex_names : JobText → List (List ℕ)
vertex_names job = map (λ role. role.name) job.roles

abbrev pub files_of_sinks : JobText → List (List ℕ)
files_of_sinks job = filter_map sink_file_of_vertex job.vertices

-- what vertex number v is and has, where there is such a vertex and it has such a thing
abbrev pub op_of : JobText → ℕ → Option Op
op_of job v = option_map op_of_vertex (slice_get job.vertices v)

abbrev pub file_of : JobText → ℕ → Option (List ℕ)
file_of job v = option_and_then file_of_vertex (slice_get job.vertices v)

abbrev pub late_of : JobText → ℕ → Option Late
late_of job v = option_and_then late_of_vertex (slice_get job.vertices v)

abbrev pub spec_of : JobText → ℕ → Option Spec
spec_of job v = option_and_then spec_of_vertex (slice_get job.vertices v)

abbrev pub policy_of : JobText → ℕ → Option Policy
policy_of job v = option_and_then policy_of_vertex (slice_get job.vertices v)

-- what a vertex with an op has: a source a file and what becomes of rows that come late, a sink a file, and each other
-- what it computes and how it is kept safe
abbrev pub HasPartsOf : Op → JobText → ℕ → Type 0
HasPartsOf op.Source job v = IsSome (file_of job v) × IsSome (late_of job v)
HasPartsOf op.Sink job v = IsSome (file_of job v)
HasPartsOf _ job v = IsSome (spec_of job v) × IsSome (policy_of job v)
