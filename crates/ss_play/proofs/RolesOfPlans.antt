-- The vertices of a plan are of the kinds of their roles, and have as many replicas.
use Rattle.std.proofs.Common.{◌≡◌, ℕ, ◌<◌, List, [], length, get_or, Some, refl, sym, ap, ◌∙◌, arith}
use Rattle.std.specs.List.{slice_get}
use Rattle.std.proofs.lemmas.Option.{slice_get-get_or, slice_get_within}
use Rattle.ss_elem.specs.declared.element.Element.{Element}
use Rattle.ss_expr.specs.declared.stream_operator.Spec.TheVariants as spec
use Rattle.ss_fail.specs.declared.role.Role.{Role}
use Rattle.ss_frames.specs.Laws.{PlanNumbersAreMeant}
use Rattle.ss_frames.specs.Plans.{plan_numbers, policy_with, AreOfPlan}
use Rattle.ss_job.specs.JobIn.{kind_of as named_kind}
use Rattle.ss_job.specs.JobText.{VertexText, source, inner, sink, op_of_vertex}
use Rattle.ss_job.specs.Sound.{HasReplicas, IsVertex}
use Rattle.ss_plan.specs.Laws.{VerticesByNumber}
use Rattle.ss_plan.specs.Limit.{IsPlan}
use Rattle.ss_plan.specs.Plan.{PlanText, vertex_at, source_list}
use Rattle.ss_state.specs.Numbers.{vertex}
use Rattle.ss_state.specs.NumbersOfMeaning.{kind_of}
use Rattle.ss_water.specs.Graph.{is_sink}
use Rattle.ss_water.specs.declared.node.Kind.TheVariants as kind
use Rattle.ss_water.specs.declared.node.Node.{Node}
use Rattle.ss_play.specs.Roles.{IsRoleOf, PlansHaveRoles}

no_node : Node
no_node = record { kind = kind.Sink; inputs = []; width = 0 }

kind_by_text : (node : Node) (text : VertexText) (list : List Element) → kind_of (vertex_at node text list) ≡ named_kind (op_of_vertex text)
kind_by_text node (source file late) list = refl
kind_by_text node (inner (spec.Select test a b c d) policy) list = refl
kind_by_text node (inner spec.Union policy) list = refl
kind_by_text node (inner (spec.Window size hop agg of) policy) list = refl
kind_by_text node (inner spec.Join policy) list = refl
kind_by_text node (inner (spec.Session gap agg of) policy) list = refl
kind_by_text node (inner spec.Except policy) list = refl
kind_by_text node (sink file) list = refl

replicas_by_text : (role : Role) (text : VertexText) → HasReplicas text role.replicas → (policy_with role text).replicas ≡ role.replicas
replicas_by_text role (source file late) has = refl
replicas_by_text role (inner spec policy) has = sym has
replicas_by_text role (sink file) has = refl

role_of : VerticesByNumber → PlanNumbersAreMeant → (plan : PlanText) → IsPlan plan → (v : ℕ) (role : Role)
    → slice_get plan.job.roles v ≡ Some role → IsRoleOf plan v role
role_of by_number are_meant plan is v role role_is =
    let job = is.job in
    let of_plan : AreOfPlan plan (plan_numbers plan) = are_meant plan is in
    let in_roles : v < length plan.job.roles = slice_get_within plan.job.roles v role role_is in
    let roles = job.roles in
    let vertices = job.vertices in
    let in_graph : v < length plan.job.graph = omega (arith, in_roles, roles) in
    let node : Node = get_or plan.job.graph v no_node in
    let text : VertexText = get_or plan.job.vertices v (sink []) in
    let node_is : slice_get plan.job.graph v ≡ Some node = slice_get-get_or plan.job.graph v no_node in_graph in
    let text_is : slice_get plan.job.vertices v ≡ Some text =
    slice_get-get_or plan.job.vertices v (sink []) (omega (arith, in_graph, vertices)) in
    let is_vertex : IsVertex role node text = job.each v role node text role_is node_is text_is in
    let kind_is : (vertex (plan_numbers plan) v).kind ≡ role.kind =
    (of_plan.meant v in_graph).kind ∙ ap kind_of ((by_number plan job).each v node text node_is text_is)
    ∙ kind_by_text node text (source_list plan v) ∙ sym is_vertex.role_kind in
    record {
      kind = kind_is;
      replicas = λ stream.
          (of_plan.policies v role text role_is text_is).replicas (ap is_sink kind_is ∙ stream)
          ∙ replicas_by_text role text is_vertex.own_replicas;
    }

pub have_roles : VerticesByNumber → PlanNumbersAreMeant → PlansHaveRoles
have_roles by_number are_meant plan is = record {
  count = (are_meant plan is).count ∙ sym is.job.roles;
  each = role_of by_number are_meant plan is;
}
