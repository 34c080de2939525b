-- The vertices of a plan by what their job says.
use Rattle.std.proofs.Common.{◌≡◌, ℕ, zero, suc, ◌<◌, List, [], length, get_or, Some, refl, sym, ◌∙◌, arith}
use Rattle.std.proofs.lemmas.List.FromFn.{get_or-map-range_with_len, length-map-range_with_len}
use Rattle.std.proofs.lemmas.Option.{slice_get-get_or}
use Rattle.std.specs.List.{slice_get}
use Rattle.ss_elem.specs.declared.element.Element.{Element}
use Rattle.ss_expr.specs.declared.stream_operator.Spec.TheVariants as spec
use Rattle.ss_fail.specs.declared.role.Role.{Role}
use Rattle.ss_job.specs.JobIn.{kind_of}
use Rattle.ss_job.specs.JobText.{VertexText, source, inner, sink, op_of_vertex}
use Rattle.ss_job.specs.Sound.{IsVertex}
use Rattle.ss_meaning.specs.Meaning.{reads, vertex}
use Rattle.ss_plan.specs.Laws.{VerticesByNumber}
use Rattle.ss_plan.specs.Limit.{IsPlan}
use Rattle.ss_plan.specs.Plan.{PlanText, vertex_at, vertices_of, source_list}
use Rattle.ss_state.specs.NumbersOfMeaning as numbers
use Rattle.ss_water.specs.Graph.{IsLinkedAt}
use Rattle.ss_water.specs.declared.node.Kind.TheVariants as kind
use Rattle.ss_water.specs.declared.node.Node.{Node}

-- what stands under number v of a plan
pub record Stands (plan : PlanText) (v : ℕ) : Type 0 where
  pub role : Role
  pub node : Node
  pub text : VertexText
  pub role_is : slice_get plan.job.roles v ≡ Some role
  pub node_is : slice_get plan.job.graph v ≡ Some node
  pub text_is : slice_get plan.job.vertices v ≡ Some text
  pub sound : IsVertex role node text
  pub linked : IsLinkedAt plan.job.graph v node
  pub vertex : vertex (vertices_of plan) v ≡ vertex_at node text (source_list plan v)

no_role : Role
no_role = record { name = []; kind = kind.Sink; replicas = 0 }

no_node : Node
no_node = record { kind = kind.Sink; inputs = []; width = 0 }

pub stands : VerticesByNumber → (plan : PlanText) → IsPlan plan → (v : ℕ) → v < length plan.job.graph → Stands plan v
stands law plan is v h =
    let job = is.job in
    let role = get_or plan.job.roles v no_role in
    let node = get_or plan.job.graph v no_node in
    let text = get_or plan.job.vertices v (sink []) in
    let role_is : slice_get plan.job.roles v ≡ Some role = slice_get-get_or plan.job.roles v no_role (omega (arith, h, job.roles)) in
    let node_is : slice_get plan.job.graph v ≡ Some node = slice_get-get_or plan.job.graph v no_node h in
    let text_is : slice_get plan.job.vertices v ≡ Some text = slice_get-get_or plan.job.vertices v (sink []) (omega (arith, h, job.vertices)) in
    record {
      role = role;
      node = node;
      text = text;
      role_is = role_is;
      node_is = node_is;
      text_is = text_is;
      sound = job.each v role node text role_is node_is text_is;
      linked = job.graph.linked v node node_is;
      vertex = (law plan job).each v node text node_is text_is;
    }

-- what a vertex reads

pub reads_count : (role : Role) (node : Node) (text : VertexText) (list : List Element) → IsVertex role node text
    → length (reads (vertex_at node text list)) ≡ node.width
reads_count role node (source file late) list h = let most = h.inputs.most_of in omega (arith, most)
reads_count role node (inner s policy) list h = length-map-range_with_len (λ i. get_or node.inputs i 0) 0 node.width
reads_count role node (sink file) list h =
    let least = h.inputs.least_of in
    let most = h.inputs.most_of in
    omega (arith, least, most)

pub read_is : (role : Role) (node : Node) (text : VertexText) (list : List Element) → IsVertex role node text → (i : ℕ) → i < node.width
    → get_or (reads (vertex_at node text list)) i 0 ≡ get_or node.inputs i 0
read_is role node (source file late) list h i k = let most = h.inputs.most_of in absurd (omega (arith, most, k))
read_is role node (inner s policy) list h i k =
    get_or-map-range_with_len (λ j. get_or node.inputs j 0) 0 node.width i i 0 k (omega arith)
read_is role node (sink file) list h zero k = refl
read_is role node (sink file) list h (suc i) k = let most = h.inputs.most_of in absurd (omega (arith, most, k))

-- its kind is that of its node

kind_by_text : (node : Node) (text : VertexText) (list : List Element) → numbers.kind_of (vertex_at node text list) ≡ kind_of (op_of_vertex text)
kind_by_text node (source file late) list = refl
kind_by_text node (inner (spec.Select test a b c d) policy) list = refl
kind_by_text node (inner spec.Union policy) list = refl
kind_by_text node (inner (spec.Window size hop agg of) policy) list = refl
kind_by_text node (inner spec.Join policy) list = refl
kind_by_text node (inner (spec.Session gap agg of) policy) list = refl
kind_by_text node (inner spec.Except policy) list = refl
kind_by_text node (sink file) list = refl

pub kind_is : (role : Role) (node : Node) (text : VertexText) (list : List Element) → IsVertex role node text
    → numbers.kind_of (vertex_at node text list) ≡ node.kind
kind_is role node text list h = kind_by_text node text list ∙ sym h.node_kind
