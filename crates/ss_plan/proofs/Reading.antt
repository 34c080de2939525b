-- What a vertex of a plan reads, and the stream that it makes of it.
use Rattle.std.proofs.Common.{◌≡◌, ℕ, zero, suc, ◌+◌, ◌<◌, ◌≤◌, ◌^◌, true, List, [], ◌∷◌, length, get_or, map, All, Option, Some, None, Vec, Global, refl, sym, ap, ◌∙◌, subst, arith}
use Rattle.std.proofs.lemmas.List.{length-map, get_or-map}
use Rattle.std.proofs.lemmas.List.Elements.{All-map, All-from_recursion, recursion_from_All}
use Rattle.std.proofs.lemmas.Option.{get_or_from_slice_get, slice_get-get_or}
use Rattle.std.specs.List.{AllByRecursion, slice_get}
use Rattle.std.specs.Option.{option_and_then, option_map}
use Rattle.ss_elem.specs.Validity.{Whole}
use Rattle.ss_elem.specs.declared.element.Element.{Element}
use Rattle.ss_expr.specs.Operators.{operator_of, IsComputable}
use Rattle.ss_expr.specs.declared.stream_operator.Spec.{Spec}
use Rattle.ss_expr.specs.declared.stream_operator.Spec.TheVariants as spec
use Rattle.ss_fail.specs.declared.role.Role.{Role}
use Rattle.ss_job.specs.JobText.{VertexText, source, inner, sink, JobText, op_of, op_of_vertex, spec_of, spec_of_vertex}
use Rattle.ss_job.specs.Sound.{IsJob, IsVertex}
use Rattle.ss_job.specs.declared.op.Op.TheVariants as op
use Rattle.ss_job.specs.declared.policy.Policy.{Policy}
use Rattle.ss_meaning.specs.Emit.{output}
use Rattle.ss_meaning.specs.Jobs.{IsBefore, Takes, MayStand}
use Rattle.ss_meaning.specs.Jobs as meaning_jobs
use Rattle.ss_meaning.specs.Laws.{MeaningByInputs, MeaningIsWhole}
use Rattle.ss_meaning.specs.Meaning.{Vertex, Source, Inner, Sink, reads, vertex, stream, streams_at, meaning}
use Rattle.ss_meaning.specs.Merge.{merge}
use Rattle.ss_plan.specs.Plan.{PlanText, AreSourceLists, vertices_of, vertex_at, inputs_read, lists_of, source_list}
use Rattle.ss_plan.specs.Streams.{HoldInputs, MayArrive}
use Rattle.ss_plan.proofs.Meanings.{spec_stream, source_stream, spec_reads, computable}
use Rattle.ss_plan.proofs.SourcePlaces.{at_op}
use Rattle.ss_plan.proofs.Vertices.{no_node, no_text, node_of, text_of, vertex_is, vertices_count, inputs_count, takes, plans_mean_jobs}
use Rattle.ss_water.specs.declared.node.Node.{Node}
use Rattle.ss_water.specs.declared.node.Kind.TheVariants as kind

-- a vertex of a plan: its node, and the laws that hold of all
pub record Stands (plan : PlanText) (v : ℕ) (node : Node) : Type 0 where
  pub job : IsJob plan.job
  pub lists : AreSourceLists plan.job plan.lists
  pub inside : v < length plan.job.vertices
  pub node_is : slice_get plan.job.graph v ≡ Some node
  pub by_inputs : MeaningByInputs
  pub whole : MeaningIsWhole

pub stands_from : (plan : PlanText) (job : JobText) (graph : List Node) (v : ℕ) (node : Node) → job ≡ plan.job → IsJob job
    → AreSourceLists plan.job plan.lists → v < length plan.job.vertices → graph ≡ job.graph → slice_get graph v ≡ Some node
    → MeaningByInputs → MeaningIsWhole → Stands plan v node
stands_from plan job graph v node same sound lists inside graph_is node_is by_inputs whole = record {
  job = subst IsJob same sound;
  lists = lists;
  inside = inside;
  node_is = sym (ap (λ (g : List Node). slice_get g v) (graph_is ∙ ap (λ (j : JobText). j.graph) same)) ∙ node_is;
  by_inputs = by_inputs;
  whole = whole;
}

is_job : (plan : PlanText) (v : ℕ) (node : Node) → Stands plan v node → meaning_jobs.IsJob (vertices_of plan)
is_job plan v node s = plans_mean_jobs plan s.job s.lists

in_graph : (plan : PlanText) (v : ℕ) (node : Node) → Stands plan v node → v < length plan.job.graph
in_graph plan v node s = let same = s.job.vertices in let h = s.inside in omega arith

in_meaning : (plan : PlanText) (v : ℕ) (node : Node) → Stands plan v node → v < length (vertices_of plan)
in_meaning plan v node s =
    omega (arith, in_graph plan v node s, vertices_count plan.job.graph plan.job.vertices plan.lists s.job.vertices)

at_vertex : (plan : PlanText) (v : ℕ) (node : Node) → Stands plan v node
    → vertex (vertices_of plan) v ≡ vertex_at node (text_of plan v) (source_list plan v)
at_vertex plan v node s =
    vertex_is plan v s.job.vertices (in_graph plan v node s)
    ∙ ap (λ (n : Node). vertex_at n (text_of plan v) (source_list plan v)) (get_or_from_slice_get plan.job.graph v node no_node s.node_is)

meaning_at : (plan : PlanText) (v : ℕ) (node : Node) → Stands plan v node
    → meaning (vertices_of plan) v
    ≡ stream (vertex_at node (text_of plan v) (source_list plan v)) (map (meaning (vertices_of plan)) (reads (vertex_at node (text_of plan v) (source_list plan v))))
meaning_at plan v node s =
    s.by_inputs (vertices_of plan) (is_job plan v node s) v (in_meaning plan v node s)
    ∙ ap (λ (at : Vertex). stream at (map (meaning (vertices_of plan)) (reads at))) (at_vertex plan v node s)

-- what it reads stands before it

one_earlier : (v input : ℕ) → input < v → All (λ w. w < v) (input ∷ [])
one_earlier v input h = All-from_recursion (λ (w : ℕ). w < v) (input ∷ []) (h, tt)

none_earlier : (v : ℕ) → All (λ w. w < v) []
none_earlier v = All-from_recursion (λ (w : ℕ). w < v) [] tt

pub reads_earlier : (at : Vertex) (v : ℕ) → MayStand v at → All (λ w. w < v) (reads at)
reads_earlier (Source list) v h = none_earlier v
reads_earlier (Inner k inputs) v h = h.1
reads_earlier (Sink input) v h = one_earlier v input h

pub reads_before : (plan : PlanText) (v : ℕ) (node : Node) → Stands plan v node → All (λ w. w < v) (reads (vertex_at node (text_of plan v) (source_list plan v)))
reads_before plan v node s =
    reads_earlier (vertex_at node (text_of plan v) (source_list plan v)) v
    (subst (MayStand v) (at_vertex plan v node s) ((is_job plan v node s).each v (in_meaning plan v node s)))

held_at : (plan : PlanText) (v : ℕ) (node : Node) (streams : List (List Element)) → Stands plan v node → HoldInputs (vertices_of plan) v streams
    → All (λ w. get_or streams w [] ≡ meaning (vertices_of plan) w) (reads (vertex_at node (text_of plan v) (source_list plan v)))
held_at plan v node streams s held =
    subst (λ (at : Vertex). All (λ w. get_or streams w [] ≡ meaning (vertices_of plan) w) (reads at)) (at_vertex plan v node s) held

-- the same of an operator

text_spec : (texts : List VertexText) (v : ℕ) (s : Spec) → Some s ≡ option_and_then spec_of_vertex (slice_get texts v) → spec_of_vertex (get_or texts v no_text) ≡ Some s
text_spec [] v s e = cc
text_spec (text ∷ texts) zero s e = sym e
text_spec (text ∷ texts) (suc v) s e = text_spec texts v s e

text_no_spec : (texts : List VertexText) (v : ℕ) → None ≡ option_and_then spec_of_vertex (slice_get texts v) → spec_of_vertex (get_or texts v no_text) ≡ None
text_no_spec [] v e = refl
text_no_spec (text ∷ texts) zero e = sym e
text_no_spec (text ∷ texts) (suc v) e = text_no_spec texts v e

some_input : (text : VertexText) (role : Role) (node : Node) (s : Spec) → spec_of_vertex text ≡ Some s → IsVertex role node text → 1 ≤ node.width
some_input (source file late) role node s e h = cc
some_input (inner (spec.Select test a b c d) policy) role node s e h = h.inputs.least_of
some_input (inner spec.Union policy) role node s e h = let least = h.inputs.least_of in omega (arith, least)
some_input (inner (spec.Window size hop agg of) policy) role node s e h = h.inputs.least_of
some_input (inner spec.Join policy) role node s e h = let least = h.inputs.least_of in omega (arith, least)
some_input (inner (spec.Session gap agg of) policy) role node s e h = h.inputs.least_of
some_input (inner spec.Except policy) role node s e h = let least = h.inputs.least_of in omega (arith, least)
some_input (sink file) role node s e h = cc

takes_width : (text : VertexText) (role : Role) (node : Node) (s : Spec) → spec_of_vertex text ≡ Some s → IsVertex role node text → Takes (operator_of s) node.width
takes_width (source file late) role node s e h = cc
takes_width (inner t policy) role node s e h =
    let same : t ≡ s = cc in
    subst (λ (u : Spec). Takes (operator_of u) node.width) same (subst (Takes (operator_of t)) (inputs_count node) (takes t role node policy h))
takes_width (sink file) role node s e h = cc

sound_spec : (text : VertexText) (role : Role) (node : Node) (s : Spec) → spec_of_vertex text ≡ Some s → IsVertex role node text → IsComputable s
sound_spec (source file late) role node s e h = cc
sound_spec (inner t policy) role node s e h = let same : t ≡ s = cc in subst IsComputable same (computable t h.sound.0)
sound_spec (sink file) role node s e h = cc

-- an operator that can be computed
pub record Operates (node : Node) (s : Spec) : Type 0 where
  pub computable : IsComputable s
  pub some : 1 ≤ node.width
  pub takes : Takes (operator_of s) node.width

pub operates : (plan : PlanText) (v : ℕ) (node : Node) (s : Spec) → Stands plan v node → Some s ≡ spec_of plan.job v → Operates node s
operates plan v node s stands e =
    let text = text_of plan v in
    let is : spec_of_vertex text ≡ Some s = text_spec plan.job.vertices v s e in
    let no_role : Role = record { name = []; kind = kind.Sink; replicas = 0 } in
    let in_roles : v < length plan.job.roles = omega (arith, in_graph plan v node stands, stands.job.roles) in
    let sound = stands.job.each v (get_or plan.job.roles v no_role) node text
    (slice_get-get_or plan.job.roles v no_role in_roles) stands.node_is (slice_get-get_or plan.job.vertices v no_text stands.inside) in
    let role = get_or plan.job.roles v no_role in
    record { takes = takes_width text role node s is sound; computable = sound_spec text role node s is sound; some = some_input text role node s is sound }

spec_inputs : (plan : PlanText) (v : ℕ) (node : Node) (s : Spec) → Some s ≡ spec_of plan.job v
    → reads (vertex_at node (text_of plan v) (source_list plan v)) ≡ inputs_read node
spec_inputs plan v node s e = spec_reads node (text_of plan v) (source_list plan v) s (text_spec plan.job.vertices v s e)

pub inputs_within : (plan : PlanText) (v : ℕ) (node : Node) (s : Spec) (count : ℕ) → Stands plan v node → Some s ≡ spec_of plan.job v → v ≤ count
    → All (λ w. w < count) (inputs_read node)
inputs_within plan v node s count stands e h i d k =
    let before : All (λ w. w < v) (inputs_read node) = subst (All (λ w. w < v)) (spec_inputs plan v node s e) (reads_before plan v node stands) in
    let here = before i d k in
    omega (arith, here)

same_map : (f g : ℕ → List Element) (ns : List ℕ) → AllByRecursion (λ n. f n ≡ g n) ns → map f ns ≡ map g ns
same_map f g [] h = refl
same_map f g (n ∷ ns) h = ap (λ (x : List Element). x ∷ map f ns) h.0 ∙ ap (λ (xs : List (List Element)). g n ∷ xs) (same_map f g ns h.1)

inputs_held : (plan : PlanText) (v : ℕ) (node : Node) (s : Spec) (streams : List (List Element)) → Stands plan v node → Some s ≡ spec_of plan.job v
    → HoldInputs (vertices_of plan) v streams → streams_at streams (inputs_read node) ≡ map (meaning (vertices_of plan)) (inputs_read node)
inputs_held plan v node s streams stands e held =
    let P : ℕ → Type 0 = λ w. get_or streams w [] ≡ meaning (vertices_of plan) w in
    same_map (λ w. get_or streams w []) (meaning (vertices_of plan)) (inputs_read node)
    (recursion_from_All P (inputs_read node) (subst (All P) (spec_inputs plan v node s e) (held_at plan v node streams stands held)))

pub operator_meaning : (plan : PlanText) (v : ℕ) (node : Node) (s : Spec) (streams : List (List Element)) → Stands plan v node → Some s ≡ spec_of plan.job v
    → HoldInputs (vertices_of plan) v streams
    → output (operator_of s) (length (inputs_read node)) (merge (streams_at streams (inputs_read node))) ≡ meaning (vertices_of plan) v
operator_meaning plan v node s streams stands e held =
    ap (λ (lists : List (List Element)). output (operator_of s) (length (inputs_read node)) (merge lists)) (inputs_held plan v node s streams stands e held)
    ∙ sym (meaning_at plan v node stands ∙ spec_stream node (text_of plan v) (source_list plan v) (meaning (vertices_of plan)) s (text_spec plan.job.vertices v s e))

pub inputs_arrive : (plan : PlanText) (v : ℕ) (node : Node) (s : Spec) (streams : List (List Element)) → Stands plan v node → Some s ≡ spec_of plan.job v
    → HoldInputs (vertices_of plan) v streams → MayArrive (streams_at streams (inputs_read node))
inputs_arrive plan v node s streams stands e held =
    let job = is_job plan v node stands in
    let before : All (λ w. w < v) (inputs_read node) = subst (All (λ w. w < v)) (spec_inputs plan v node s e) (reads_before plan v node stands) in
    let fine : (w : ℕ) → w < v → Whole (meaning (vertices_of plan) w) × All (IsBefore (2 ^ 63)) (meaning (vertices_of plan) w) =
    λ w h. stands.whole (vertices_of plan) job w (omega (arith, h, in_meaning plan v node stands)) in
    let same = sym (inputs_held plan v node s streams stands e held) in
    record {
      whole = subst (All Whole) same (All-map Whole (meaning (vertices_of plan)) (inputs_read node) (λ i d k. (fine (get_or (inputs_read node) i d) (before i d k)).0));
      times = subst (All (All (IsBefore (2 ^ 63)))) same
          (All-map (All (IsBefore (2 ^ 63))) (meaning (vertices_of plan)) (inputs_read node) (λ i d k. (fine (get_or (inputs_read node) i d) (before i d k)).1));
    }

-- the same of a source and a sink

pub source_meaning : (plan : PlanText) (v : ℕ) (node : Node) → Stands plan v node → op_of plan.job v ≡ Some op.Source → source_list plan v ≡ meaning (vertices_of plan) v
source_meaning plan v node stands e =
    sym (meaning_at plan v node stands
    ∙ source_stream node (text_of plan v) (source_list plan v) (meaning (vertices_of plan)) (at_op plan.job.vertices v op.Source e).1)

pub sink_meaning : (plan : PlanText) (v : ℕ) (node : Node) (streams : List (List Element)) → Stands plan v node → None ≡ spec_of plan.job v → (op_of plan.job v ≡ Some op.Source → ⊥)
    → HoldInputs (vertices_of plan) v streams
    → (get_or streams (get_or node.inputs 0 0) [] ≡ meaning (vertices_of plan) v) × (get_or node.inputs 0 0 < v)
sink_meaning plan v node streams stands e other held = by_text (text_of plan v) refl (text_no_spec plan.job.vertices v e)
  where
    by_text : (text : VertexText) → text_of plan v ≡ text → spec_of_vertex (text_of plan v) ≡ None
        → (get_or streams (get_or node.inputs 0 0) [] ≡ meaning (vertices_of plan) v) × (get_or node.inputs 0 0 < v)
    by_text (source file late) is none =
        absurd (other (ap (option_map op_of_vertex) (slice_get-get_or plan.job.vertices v no_text stands.inside) ∙ ap (λ (t : VertexText). Some (op_of_vertex t)) is))
    by_text (inner s policy) is none = let two : spec_of_vertex (inner s policy) ≡ None = sym (ap spec_of_vertex is) ∙ none in cc
    by_text (sink file) is none =
        let held_here : All (λ w. get_or streams w [] ≡ meaning (vertices_of plan) w) (get_or node.inputs 0 0 ∷ []) =
        subst (λ (t : VertexText). All (λ w. get_or streams w [] ≡ meaning (vertices_of plan) w) (reads (vertex_at node t (source_list plan v)))) is (held_at plan v node streams stands held) in
        let before : All (λ w. w < v) (get_or node.inputs 0 0 ∷ []) =
        subst (λ (t : VertexText). All (λ w. w < v) (reads (vertex_at node t (source_list plan v)))) is (reads_before plan v node stands) in
        let mine : meaning (vertices_of plan) v ≡ meaning (vertices_of plan) (get_or node.inputs 0 0) =
        meaning_at plan v node stands
        ∙ ap (λ (t : VertexText). stream (vertex_at node t (source_list plan v)) (map (meaning (vertices_of plan)) (reads (vertex_at node t (source_list plan v))))) is in
        (held_here 0 0 (omega arith) ∙ sym mine, before 0 0 (omega arith))
