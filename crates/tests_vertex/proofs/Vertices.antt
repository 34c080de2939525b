-- A vertex of a plan, by its node and what it does.
use Rattle.std.proofs.Common.{◌≡◌, ℕ, ◌<◌, false, List, [], length, get_or, map, Some, None, IsSome, refl, sym, ap, ◌∙◌, subst, arith}
use Rattle.std.proofs.lemmas.List.FromFn.{get_or-map-range_with_len}
use Rattle.std.proofs.lemmas.Option.{slice_get-get_or}
use Rattle.std.specs.List.{slice_get}
use Rattle.std.specs.Option.{option_map, option_and_then}
use Rattle.ss_elem.specs.declared.element.Element.{Element}
use Rattle.ss_expr.specs.declared.stream_operator.Spec.TheVariants as spec
use Rattle.ss_job.specs.JobText.{VertexText, source, inner, sink, op_of, op_of_vertex, spec_of, spec_of_vertex}
use Rattle.ss_job.specs.declared.op.Op.TheVariants as op
use Rattle.ss_meaning.specs.Laws.{MeaningByInputs}
use Rattle.ss_meaning.specs.Meaning.{Vertex, Source, reads, vertex, meaning, stream}
use Rattle.ss_plan.specs.Laws.{PlansMeanJobs, VerticesByNumber}
use Rattle.ss_plan.specs.Limit.{IsPlan}
use Rattle.ss_plan.specs.Plan.{PlanText, vertex_at, vertices_of, source_list}
use Rattle.ss_state.specs.NumbersOfMeaning.{GivesStream, kind_of}
use Rattle.ss_vertex.specs.Arriving.{taken, taken_by}
use Rattle.ss_vertex.specs.Standing.{list_len}
use Rattle.ss_water.specs.Graph.{is_sink}
use Rattle.ss_water.specs.declared.node.Kind.TheVariants as kind
use Rattle.ss_water.specs.declared.node.Node.{Node}

-- vertex v of a plan
record At (plan : PlanText) (v : ℕ) : Type 0 where
  node : Node
  text : VertexText
  node_is : slice_get plan.job.graph v ≡ Some node
  text_is : slice_get plan.job.vertices v ≡ Some text
  inside : v < length (vertices_of plan)
  is : vertex (vertices_of plan) v ≡ vertex_at node text (source_list plan v)

no_node : Node
no_node = record { kind = kind.Sink; inputs = []; width = 0 }

at : VerticesByNumber → (plan : PlanText) → IsPlan plan → (v : ℕ) → v < length plan.job.vertices → At plan v
at law plan is_plan v h =
    let job = is_plan.job in
    let same = job.vertices in
    let in_graph : v < length plan.job.graph = omega arith in
    let node : Node = get_or plan.job.graph v no_node in
    let text : VertexText = get_or plan.job.vertices v (sink []) in
    let node_is : slice_get plan.job.graph v ≡ Some node = slice_get-get_or plan.job.graph v no_node in_graph in
    let text_is : slice_get plan.job.vertices v ≡ Some text = slice_get-get_or plan.job.vertices v (sink []) h in
    let all = law plan job in
    let count = all.count in
    record {
      node = node;
      text = text;
      node_is = node_is;
      text_is = text_is;
      inside = omega arith;
      is = all.each v node text node_is text_is;
    }

op_at : (plan : PlanText) (v : ℕ) (a : At plan v) → op_of plan.job v ≡ Some (op_of_vertex a.text)
op_at plan v a = ap (option_map op_of_vertex) a.text_is

spec_at : (plan : PlanText) (v : ℕ) (a : At plan v) → IsSome (spec_of plan.job v) → IsSome (spec_of_vertex a.text)
spec_at plan v a some = subst IsSome (ap (option_and_then spec_of_vertex) a.text_is) some

-- an operator and a source give a stream

operator_text : (node : Node) (text : VertexText) (list : List Element) → IsSome (spec_of_vertex text) → is_sink (kind_of (vertex_at node text list)) ≡ false
operator_text node (source file late) list h = absurd cc
operator_text node (inner s policy) list h = refl
operator_text node (sink file) list h = absurd cc

pub operator_gives : VerticesByNumber → (plan : PlanText) → IsPlan plan → (v : ℕ) → v < length plan.job.vertices → IsSome (spec_of plan.job v)
    → GivesStream (vertices_of plan) v
operator_gives law plan is_plan v h some =
    let a = at law plan is_plan v h in (
      a.inside,
      ap (λ (z : Vertex). is_sink (kind_of z)) a.is ∙ operator_text a.node a.text (source_list plan v) (spec_at plan v a some),
    )

-- an operator has no list

no_list : (node : Node) (text : VertexText) (list : List Element) → IsSome (spec_of_vertex text) → list_len (vertex_at node text list) ≡ None
no_list node (source file late) list h = absurd cc
no_list node (inner s policy) list h = refl
no_list node (sink file) list h = refl

pub operator_list : VerticesByNumber → (plan : PlanText) → IsPlan plan → (v : ℕ) → v < length plan.job.vertices → IsSome (spec_of plan.job v)
    → list_len (vertex (vertices_of plan) v) ≡ None
operator_list law plan is_plan v h some =
    let a = at law plan is_plan v h in ap list_len a.is ∙ no_list a.node a.text (source_list plan v) (spec_at plan v a some)

-- a source has its list, and takes it

source_text : (node : Node) (text : VertexText) (list : List Element) → op_of_vertex text ≡ op.Source → vertex_at node text list ≡ Source list
source_text node (source file late) list h = refl
source_text node (inner (spec.Select test a b c d) policy) list h = cc
source_text node (inner spec.Union policy) list h = cc
source_text node (inner (spec.Window size hop agg of) policy) list h = cc
source_text node (inner spec.Join policy) list h = cc
source_text node (inner (spec.Session gap agg of) policy) list h = cc
source_text node (inner spec.Except policy) list h = cc
source_text node (sink file) list h = cc

pub source_is : VerticesByNumber → (plan : PlanText) → IsPlan plan → (v : ℕ) → v < length plan.job.vertices → op_of plan.job v ≡ Some op.Source
    → vertex (vertices_of plan) v ≡ Source (source_list plan v)
source_is law plan is_plan v h e =
    let a = at law plan is_plan v h in
    let both : Some (op_of_vertex a.text) ≡ Some op.Source = sym (op_at plan v a) ∙ e in
    let same : op_of_vertex a.text ≡ op.Source = cc in
    a.is ∙ source_text a.node a.text (source_list plan v) same

pub source_gives : VerticesByNumber → (plan : PlanText) → IsPlan plan → (v : ℕ) → v < length plan.job.vertices → op_of plan.job v ≡ Some op.Source
    → GivesStream (vertices_of plan) v
source_gives law plan is_plan v h e =
    let a = at law plan is_plan v h in
    (a.inside, ap (λ (z : Vertex). is_sink (kind_of z)) (source_is law plan is_plan v h e))

pub takes_own : VerticesByNumber → PlansMeanJobs → MeaningByInputs → (plan : PlanText) → IsPlan plan → (v : ℕ) → v < length plan.job.vertices
    → op_of plan.job v ≡ Some op.Source → (input : ℕ) → taken (vertices_of plan) v input ≡ meaning (vertices_of plan) v
takes_own law mean by_inputs plan is_plan v h e input =
    let J = vertices_of plan in
    let a = at law plan is_plan v h in
    let is : vertex J v ≡ Source (source_list plan v) = source_is law plan is_plan v h e in
    let stream_is : meaning J v ≡ source_list plan v =
    by_inputs J (mean plan is_plan.job is_plan.lists) v a.inside ∙ ap (λ (z : Vertex). stream z (map (meaning J) (reads z))) is in
    ap (λ (z : Vertex). taken_by z J input) is ∙ sym stream_is

-- an operator takes the streams of what its node reads

read_text : (node : Node) (text : VertexText) (list : List Element) (J : List Vertex) (input : ℕ) → IsSome (spec_of_vertex text) → input < node.width
    → taken_by (vertex_at node text list) J input ≡ meaning J (get_or node.inputs input 0)
read_text node (source file late) list J input h k = absurd cc
read_text node (inner s policy) list J input h k =
    ap (meaning J) (get_or-map-range_with_len (λ i. get_or node.inputs i 0) 0 node.width input input 0 k (omega arith))
read_text node (sink file) list J input h k = absurd cc

pub takes_read : VerticesByNumber → (plan : PlanText) → IsPlan plan → (v : ℕ) → v < length plan.job.vertices → IsSome (spec_of plan.job v)
    → (node : Node) → slice_get plan.job.graph v ≡ Some node → (input : ℕ) → input < node.width
    → taken (vertices_of plan) v input ≡ meaning (vertices_of plan) (get_or node.inputs input 0)
takes_read law plan is_plan v h some node node_is input k =
    let J = vertices_of plan in
    let a = at law plan is_plan v h in
    let both : Some a.node ≡ Some node = sym a.node_is ∙ node_is in
    let same : a.node ≡ node = cc in
    let within : input < a.node.width = subst (λ (n : Node). input < n.width) (sym same) k in
    ap (λ (z : Vertex). taken_by z J input) a.is
    ∙ read_text a.node a.text (source_list plan v) J input (spec_at plan v a some) within
    ∙ ap (λ (n : Node). meaning J (get_or n.inputs input 0)) same
