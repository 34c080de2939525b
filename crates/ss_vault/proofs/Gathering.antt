-- What the laws of plans say of one.
use Rattle.std.proofs.Common.{◌≡◌, ℕ, ◌<◌, true, List, [], length, get_or, map, Option, Some, None, refl, sym, ap, ◌∙◌, subst, arith}
use Rattle.std.proofs.lemmas.Option.{slice_get-get_or, slice_get_within}
use Rattle.std.specs.List.{slice_get}
use Rattle.std.specs.Prelude.{IsSome, option_and_then, slice_index}
use Rattle.std.specs.List.{range_with_len}
use Rattle.ss_elem.specs.declared.element.Element.{Element}
use Rattle.ss_expr.specs.declared.stream_operator.Spec.{Spec}
use Rattle.ss_expr.specs.declared.stream_operator.Spec.TheVariants as spec
use Rattle.ss_fail.specs.declared.role.Role.{Role}
use Rattle.ss_job.specs.JobIn.{kind_of as named_kind}
use Rattle.ss_frames.specs.Laws.{InputsAreOfNodes, PlansHaveNumbers, PlanNumbersAreMeant}
use Rattle.ss_frames.specs.Plans.{plan_numbers, AreOfPlan}
use Rattle.ss_job.specs.JobText.{VertexText, source, inner, sink, JobText, op_of_vertex, spec_of_vertex, sink_file_of_vertex}
use Rattle.ss_job.specs.Sound.{IsJob}
use Rattle.ss_meaning.specs.Laws.{MeaningIsWhole}
use Rattle.ss_meaning.specs.Meaning.{reads, vertex}
use Rattle.ss_plan.specs.Laws.{PlansMeanJobs, VerticesByNumber}
use Rattle.ss_plan.specs.Limit.{IsPlan}
use Rattle.ss_plan.specs.Plan.{PlanText, inputs_read, vertex_at, vertices_of, source_list}
use Rattle.ss_state.specs.Numbers as table
use Rattle.ss_state.specs.Numbers.{IsOperator, IsSink, IsStream, VertexNumbers, is_inner}
use Rattle.ss_state.specs.NumbersOfMeaning.{kind_of}
use Rattle.ss_water.specs.declared.node.Kind.TheVariants as kind
use Rattle.ss_water.specs.declared.node.Node.{Node}
use Rattle.ss_vault.specs.Facts.{PlanFacts}
use Rattle.ss_vault.proofs.Distinct.{files_differ}

no_node : Node
no_node = record { kind = kind.Sink; inputs = []; width = 0 }

-- a vertex of a plan, by its node and its text
pub record At (plan : PlanText) (v : ℕ) : Type 0 where
  pub node : Node
  pub text : VertexText
  pub node_is : slice_get plan.job.graph v ≡ Some node
  pub text_is : slice_get plan.job.vertices v ≡ Some text
  pub vertex : vertex (vertices_of plan) v ≡ vertex_at node text (source_list plan v)

at : VerticesByNumber → (plan : PlanText) → IsPlan plan → (v : ℕ) → v < length plan.job.graph → At plan v
at law plan is v h =
    let job = is.job in
    let node = get_or plan.job.graph v no_node in
    let text = get_or plan.job.vertices v (sink []) in
    let node_is : slice_get plan.job.graph v ≡ Some node = slice_get-get_or plan.job.graph v no_node h in
    let text_is : slice_get plan.job.vertices v ≡ Some text = slice_get-get_or plan.job.vertices v (sink []) (omega (arith, h, job.vertices)) in
    record {
      node = node;
      text = text;
      node_is = node_is;
      text_is = text_is;
      vertex = (law plan job).each v node text node_is text_is;
    }

-- what stands where, by kinds
operator_text : (node : Node) (text : VertexText) (list : List Element) → is_inner (kind_of (vertex_at node text list)) ≡ true → IsSome (spec_of_vertex text)
operator_text node (source file late) list h = absurd cc
operator_text node (inner s policy) list h = refl
operator_text node (sink file) list h = absurd cc

computing_text : (node : Node) (text : VertexText) (list : List Element) (s : Spec) → spec_of_vertex text ≡ Some s → is_inner (kind_of (vertex_at node text list)) ≡ true
computing_text node (source file late) list s h = absurd cc
computing_text node (inner t policy) list s h = refl
computing_text node (sink file) list s h = absurd cc

sink_text : (node : Node) (text : VertexText) (list : List Element) → kind_of (vertex_at node text list) ≡ kind.Sink → IsSome (sink_file_of_vertex text)
sink_text node (source file late) list h = absurd cc
sink_text node (inner s policy) list h = absurd cc
sink_text node (sink file) list h = refl

sink_reads : (node : Node) (text : VertexText) (list : List Element) → kind_of (vertex_at node text list) ≡ kind.Sink
    → get_or (reads (vertex_at node text list)) 0 0 ≡ get_or node.inputs 0 0
sink_reads node (source file late) list h = absurd cc
sink_reads node (inner s policy) list h = absurd cc
sink_reads node (sink file) list h = refl

-- what a vertex reads, where it has as many inputs as its node is wide
all_inputs : (node : Node) (text : VertexText) (list : List Element) → length (reads (vertex_at node text list)) ≡ node.width
    → reads (vertex_at node text list) ≡ inputs_read node
all_inputs node (source file late) list h = ap (λ (w : ℕ). map (λ (i : ℕ). slice_index node.inputs i) (range_with_len 0 w)) h
all_inputs node (inner s policy) list h = refl
all_inputs node (sink file) list h = ap (λ (w : ℕ). map (λ (i : ℕ). slice_index node.inputs i) (range_with_len 0 w)) h

computing : (text : Option VertexText) (operator : Spec) → option_and_then spec_of_vertex text ≡ Some operator
    → (t : VertexText) × (text ≡ Some t) × (spec_of_vertex t ≡ Some operator)
computing None operator h = absurd cc
computing (Some t) operator h = (t, refl, h)

no_role : Role
no_role = record { name = []; kind = kind.Sink; replicas = 0 }

abbrev role_at : PlanText → ℕ → Role
role_at plan v = get_or plan.job.roles v no_role

kind_by_text : (node : Node) (text : VertexText) (list : List Element) → kind_of (vertex_at node text list) ≡ named_kind (op_of_vertex text)
kind_by_text node (source file late) list = refl
kind_by_text node (inner (spec.Select test a b c d) policy) list = refl
kind_by_text node (inner spec.Union policy) list = refl
kind_by_text node (inner (spec.Window size hop agg of) policy) list = refl
kind_by_text node (inner spec.Join policy) list = refl
kind_by_text node (inner (spec.Session gap agg of) policy) list = refl
kind_by_text node (inner spec.Except policy) list = refl
kind_by_text node (sink file) list = refl

within_job : (job : JobText) → IsJob job → (v : ℕ) (text : VertexText) → slice_get job.vertices v ≡ Some text → v < length job.graph
within_job job is v text h = let k = slice_get_within job.vertices v text h in let e = is.vertices in omega (arith, k, e)

-- from laws to facts
pub facts : PlansMeanJobs → VerticesByNumber → PlansHaveNumbers → PlanNumbersAreMeant → InputsAreOfNodes → MeaningIsWhole → (plan : PlanText) → IsPlan plan
    → PlanFacts plan
facts means by_number have_numbers are_meant inputs_law are_whole plan is =
    let job : table.JobNumbers = plan_numbers plan in
    let of_plan : AreOfPlan plan job = are_meant plan is in
    let count : length job.vertices ≡ length plan.job.graph = of_plan.count in
    let graph = is.job.graph.count in
    let limit = is.job.max_elements.most_of in
    let vertices = (by_number plan is.job).count in
    let at_vertex : (v : ℕ) → v < length job.vertices → At plan v = λ v h. at by_number plan is v (omega (arith, h, count)) in
    let kind_at : (v : ℕ) (h : v < length job.vertices) → (table.vertex job v).kind ≡ kind_of (vertex_at (at_vertex v h).node (at_vertex v h).text (source_list plan v)) =
    λ v h. (of_plan.meant v (omega (arith, h, count))).kind ∙ ap kind_of (at_vertex v h).vertex in
    record {
      is = is;
      numbers = have_numbers plan is;
      few = omega (arith, count, graph);
      count = count;
      most = of_plan.max_elements;
      limit = limit;
      collect_every = of_plan.collect_every;
      collects = is.job.collect_every;
      size = λ v stream. (of_plan.meant v (let h = stream.0 in omega (arith, h, count))).size stream.1;
      whole = λ v stream. (are_whole (vertices_of plan) (means plan is.job is.lists) v (let h = stream.0 in omega (arith, h, count, vertices))).0;
      kinds = λ v node node_is.
          let before = slice_get_within plan.job.graph v node node_is in
          let h : v < length job.vertices = omega (arith, before, count) in
          let x = at_vertex v h in
          let same : x.node ≡ node = cc (x.node_is, node_is) in
          kind_at v h ∙ kind_by_text x.node x.text (source_list plan v)
          ∙ sym ((is.job.each v (role_at plan v) x.node x.text (slice_get-get_or plan.job.roles v no_role (let r = is.job.roles in omega (arith, before, r))) x.node_is x.text_is).node_kind)
          ∙ ap (λ (n : Node). n.kind) same;
      inputs = λ v node node_is.
          let before = slice_get_within plan.job.graph v node node_is in
          let x = at_vertex v (omega (arith, before, count)) in
          let same : x.node ≡ node = cc (x.node_is, node_is) in
          let wide : length (reads (vertex_at x.node x.text (source_list plan v))) ≡ x.node.width =
          sym (ap (λ y. length (reads y)) x.vertex) ∙ inputs_law plan is v x.node x.node_is in
          (of_plan.meant v before).inputs ∙ ap reads x.vertex ∙ all_inputs x.node x.text (source_list plan v) wide ∙ ap inputs_read same;
      operator = λ v operator.
          let x = at_vertex v operator.0 in
          let inner_text = operator_text x.node x.text (source_list plan v) (ap is_inner (sym (kind_at v operator.0)) ∙ operator.1) in
          subst (λ (t : Option VertexText). IsSome (option_and_then spec_of_vertex t)) (sym x.text_is) inner_text;
      computes = λ v operator h.
          let some : (text : VertexText) × (slice_get plan.job.vertices v ≡ Some text) × (spec_of_vertex text ≡ Some operator) = computing (slice_get plan.job.vertices v) operator h in
          let before = within_job plan.job is.job v some.0 some.1 in
          let h2 : v < length job.vertices = omega (arith, before, count) in
          let x = at_vertex v h2 in
          let same : x.text ≡ some.0 = cc (x.text_is, some.1) in
          (h2, ap is_inner (kind_at v h2) ∙ computing_text x.node x.text (source_list plan v) operator (ap spec_of_vertex same ∙ some.2));
      file = λ k is_sink.
          let x = at_vertex k is_sink.0 in
          let file = sink_text x.node x.text (source_list plan k) (sym (kind_at k is_sink.0) ∙ is_sink.1) in
          subst (λ (t : Option VertexText). IsSome (option_and_then sink_file_of_vertex t)) (sym x.text_is) file;
      files = λ j k file f g. files_differ plan.job.vertices is.job.files j k file f g;
      reads = λ k node is_sink node_is.
          let x = at_vertex k is_sink.0 in
          let same : x.node ≡ node = cc (x.node_is, node_is) in
          let meant = of_plan.meant k (let h = is_sink.0 in omega (arith, h, count)) in
          sym (ap (λ (xs : List ℕ). get_or xs 0 0) (meant.inputs ∙ ap reads x.vertex)
          ∙ sink_reads x.node x.text (source_list plan k) (sym (kind_at k is_sink.0) ∙ is_sink.1)
          ∙ ap (λ (n : Node). get_or n.inputs 0 0) same);
    }
