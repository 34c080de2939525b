-- What every job keeps.
use Rattle.std.specs.Prelude.{◌≡◌, ℕ, ◌*◌, ◌%◌, ◌^◌, ◌≤◌, Some, length, IfSome, IsTrue, slice_get, bytes_eq}
use Rattle.std.specs.List.{IsDistinct, list_any}
use Rattle.ss_expr.specs.Kinds.{HasKind}
use Rattle.ss_expr.specs.declared.kind.ValueKind.TheVariants.{Truth, Num}
use Rattle.ss_expr.specs.declared.stream_operator.Spec.{Spec}
use Rattle.ss_expr.specs.declared.stream_operator.Spec.TheVariants.{Select, Union, Window, Join, Session, Except}
use Rattle.ss_fail.specs.declared.role.Role.{Role}
use Rattle.ss_job.specs.Format.{fewest_inputs, most_inputs}
use Rattle.ss_job.specs.JobIn.{kind_of}
use Rattle.ss_job.specs.JobText.{VertexText, source, inner, sink, JobText, op_of_vertex, vertex_names, files_of_sinks}
use Rattle.ss_job.specs.LegalNames.{is_vertex_name, is_file_name, is_source_file}
use Rattle.ss_job.specs.declared.policy.Policy.{Policy}
use Rattle.ss_water.specs.Graph.{IsGraph, is_sink}
use Rattle.ss_water.specs.declared.node.Node.{Node}

-- a number is one from `least` to `most`
pub record IsFrom (least most number : ℕ) : Type 0 where
  pub least_of : least ≤ number
  pub most_of : number ≤ most

pub record IsPolicy (policy : Policy) : Type 0 where
  pub every : IsFrom 1 131072 policy.every
  pub replicas : IsFrom 1 4 policy.replicas

-- the hop of a window, and a size of one to 64 hops
pub record IsWindow (size hop : ℕ) : Type 0 where
  pub hop_of : IsFrom 1 (2 ^ 40) hop
  pub size_of : IsFrom hop (64 * hop) size
  pub multiple : size % hop ≡ 0

-- what a select computes is of the right kinds, a window has whole hops, and the gap of a session is in range
abbrev pub IsSpec : Spec → Type 0
IsSpec (Select test a b c d) =
    IfSome test (λ e. HasKind e Truth) × HasKind a Num × HasKind b Num × HasKind c Num × HasKind d Num
IsSpec Union = Unit {0}
IsSpec (Window size hop agg of) = IsWindow size hop
IsSpec Join = Unit {0}
IsSpec (Session gap agg of) = IsFrom 1 (2 ^ 40) gap
IsSpec Except = Unit {0}

-- the files of sources and sinks are such as they may have, and operators compute what they can, as they may
abbrev pub IsVertexText : VertexText → Type 0
IsVertexText (source file late) = IsTrue (is_source_file file)
IsVertexText (inner s policy) = IsSpec s × IsPolicy policy
IsVertexText (sink file) = IsTrue (is_file_name file)

-- an operator has as many replicas as its policy says, a source 1 to 4, and a sink one
abbrev pub HasReplicas : VertexText → ℕ → Type 0
HasReplicas (source file late) replicas = IsFrom 1 4 replicas
HasReplicas (inner s policy) replicas = replicas ≡ policy.replicas
HasReplicas (sink file) replicas = replicas ≡ 1

-- a vertex, its role and its node: they are of one kind, and the op takes so many inputs
pub record IsVertex (role : Role) (node : Node) (vertex : VertexText) : Type 0 where
  pub name : IsTrue (is_vertex_name role.name)
  pub role_kind : role.kind ≡ kind_of (op_of_vertex vertex)
  pub node_kind : node.kind ≡ kind_of (op_of_vertex vertex)
  pub inputs : IsFrom (fewest_inputs (op_of_vertex vertex)) (most_inputs (op_of_vertex vertex)) node.width
  pub replicas : IsFrom 1 4 role.replicas
  pub own_replicas : HasReplicas vertex role.replicas
  pub sound : IsVertexText vertex

-- what stands under one number in the three lists of a job is a vertex
abbrev pub AreVertices : JobText → Type 0
AreVertices job =
    (v : ℕ) (role : Role) (node : Node) (vertex : VertexText)
    → slice_get job.roles v ≡ Some role → slice_get job.graph v ≡ Some node → slice_get job.vertices v ≡ Some vertex
    → IsVertex role node vertex

-- a graph, in which each input is an earlier vertex that is no sink and each vertex but a sink is read; a role of each
-- of its nodes, and what it does; a sink; no two vertices of one name, and no two sinks of one file
pub record IsJob (job : JobText) : Type 0 where
  pub graph : IsGraph job.graph
  pub some : 1 ≤ length job.graph
  pub roles : length job.roles ≡ length job.graph
  pub vertices : length job.vertices ≡ length job.graph
  pub each : AreVertices job
  pub sink : IsTrue (list_any (λ role. is_sink role.kind) job.roles)
  pub names : IsDistinct bytes_eq (vertex_names job)
  pub files : IsDistinct bytes_eq (files_of_sinks job)
  pub max_elements : IsFrom 1 131072 job.max_elements
  pub collect_every : IsFrom 64 131072 job.collect_every
