-- What a vertex is and how many replicas it has, as its role tells.
use Rattle.std.proofs.Common.{◌≡◌, ◌∙◌, ℕ, ◌<◌, false, Some, List, length, get_or, refl, sym, ap, arith}
use Rattle.std.specs.Prelude.{[], slice_get}
use Rattle.std.proofs.lemmas.Option.{slice_get-get_or}
use Rattle.ss_acts.specs.Facts.{ActFacts}
use Rattle.ss_acts.specs.Parts.{vertex_of}
use Rattle.ss_fail.specs.declared.role.Role.{Role}
use Rattle.ss_frames.specs.Plans.{plan_numbers, policy_with}
use Rattle.ss_job.specs.JobText.{VertexText, source, inner, sink}
use Rattle.ss_job.specs.Sound.{HasReplicas, IsVertex}
use Rattle.ss_plan.specs.Plan.{PlanText, vertices_of}
use Rattle.ss_state.specs.NumbersOfMeaning.{GivesStream}
use Rattle.ss_water.specs.Graph.{is_sink}
use Rattle.ss_water.specs.declared.node.Kind.TheVariants.{Sink}
use Rattle.ss_water.specs.declared.node.Node.{Node}

no_node : Node
no_node = record { kind = Sink; inputs = []; width = 0 }

role_replicas : (role : Role) (text : VertexText) → HasReplicas text role.replicas → (policy_with role text).replicas ≡ role.replicas
role_replicas role (source file late) has = refl
role_replicas role (inner spec policy) has = sym has
role_replicas role (sink file) has = refl

-- the role, the node and the text of a vertex
record IsOfRole (plan : PlanText) (v : ℕ) (role : Role) : Type 0 where
  node : Node
  text : VertexText
  node_at : slice_get plan.job.graph v ≡ Some node
  text_at : slice_get plan.job.vertices v ≡ Some text
  is : IsVertex role node text

of_role : (plan : PlanText) → ActFacts plan → (v : ℕ) (role : Role) → v < length (plan_numbers plan).vertices → slice_get plan.job.roles v ≡ Some role
    → IsOfRole plan v role
of_role plan facts v role here at =
    let job = facts.of_plan.is.job in
    let count = facts.of_plan.count in
    let texts = job.vertices in
    let in_graph : v < length plan.job.graph = omega (arith, here, count) in
    let in_texts : v < length plan.job.vertices = omega (arith, in_graph, texts) in
    let node_at = slice_get-get_or plan.job.graph v no_node in_graph in
    let text_at = slice_get-get_or plan.job.vertices v (sink []) in_texts in
    record {
      node = get_or plan.job.graph v no_node;
      text = get_or plan.job.vertices v (sink []);
      node_at = node_at;
      text_at = text_at;
      is = job.each v role (get_or plan.job.graph v no_node) (get_or plan.job.vertices v (sink [])) at node_at text_at;
    }

pub kind_of_role : (plan : PlanText) → ActFacts plan → (v : ℕ) (role : Role) → v < length (plan_numbers plan).vertices → slice_get plan.job.roles v ≡ Some role
    → (vertex_of plan v).kind ≡ role.kind
kind_of_role plan facts v role here at =
    let of = of_role plan facts v role here at in
    facts.of_plan.kinds v of.node of.node_at ∙ of.is.node_kind ∙ sym of.is.role_kind

pub stream_of_role : (plan : PlanText) → ActFacts plan → (v : ℕ) (role : Role) → v < length (plan_numbers plan).vertices
    → slice_get plan.job.roles v ≡ Some role → is_sink role.kind ≡ false
    → (role.replicas ≡ (vertex_of plan v).replicas) × GivesStream (vertices_of plan) v
stream_of_role plan facts v role here at is =
    let of = of_role plan facts v role here at in
    let gives : is_sink (vertex_of plan v).kind ≡ false = ap is_sink (kind_of_role plan facts v role here at) ∙ is in
    let policy = facts.meant.policies v role of.text at of.text_at in
    (sym (policy.replicas gives ∙ role_replicas role of.text of.is.own_replicas), (facts.streams v).1 (here, gives))

pub sink_of_role : (plan : PlanText) → ActFacts plan → (v : ℕ) (role : Role) → v < length (plan_numbers plan).vertices
    → slice_get plan.job.roles v ≡ Some role → role.kind ≡ Sink → 0 ≡ (vertex_of plan v).replicas
sink_of_role plan facts v role here at is =
    sym ((facts.of_plan.numbers.each v here).runs_none (kind_of_role plan facts v role here at ∙ is))

-- the role that is read under the number of a vertex
pub role_at : (plan : PlanText) → ActFacts plan → (v : ℕ) (roles : List Role) (role : Role) → v < length (plan_numbers plan).vertices
    → roles ≡ plan.job.roles → role ≡ get_or roles v role → slice_get plan.job.roles v ≡ Some role
role_at plan facts v roles role here same is =
    let count = facts.of_plan.count in
    let counted = facts.of_plan.is.job.roles in
    let inside : v < length plan.job.roles = omega (arith, here, count, counted) in
    slice_get-get_or plan.job.roles v role inside ∙ ap (λ (r : Role). Some r) (sym (is ∙ ap (λ (xs : List Role). get_or xs v role) same))
