-- The vertices of a plan, one by one.
use Rattle.std.proofs.Common.{◌≡◌, ℕ, zero, suc, ◌+◌, ◌*◌, ◌^◌, ◌<◌, ◌≤◌, List, [], ◌∷◌, length, get_or, take, drop, map, cond, true, All, Some, refl, sym, ap, ◌∙◌, subst, arith, zero-add}
use Rattle.std.proofs.lemmas.List.{drop-drop, get_or-drop}
use Rattle.std.proofs.lemmas.List.Elements.{All-from_recursion}
use Rattle.std.proofs.lemmas.List.Sums.{sum_by-cons}
use Rattle.std.proofs.lemmas.List.FromFn.{get_or-map-range_with_len, length-map-range_with_len}
use Rattle.std.proofs.lemmas.Option.{slice_get-get_or, get_or_from_slice_get, slice_get_within}
use Rattle.std.specs.List.{AllByRecursion, count_by, range_with_len, slice_get}
use Rattle.ss_elem.specs.Validity.{Whole}
use Rattle.ss_elem.specs.declared.element.Element.{Element}
use Rattle.ss_elem.specs.declared.element.Element.TheVariants.{Row, Cti, End}
use Rattle.ss_events.specs.Events.{AllSourceTimes}
use Rattle.ss_expr.specs.Operators.{operator_of}
use Rattle.ss_expr.specs.declared.stream_operator.Spec.{Spec}
use Rattle.ss_expr.specs.declared.stream_operator.Spec.TheVariants as spec
use Rattle.ss_job.specs.JobText.{VertexText, source, inner, sink, JobText, op_of_vertex}
use Rattle.ss_fail.specs.declared.role.Role.{Role}
use Rattle.ss_job.specs.Sound.{IsJob, IsVertex}
use Rattle.ss_job.specs.declared.policy.Policy.{Policy}
use Rattle.ss_meaning.specs.Jobs.{IsBefore, Takes, MayStand}
use Rattle.ss_meaning.specs.Jobs as meaning
use Rattle.ss_meaning.specs.Meaning.{Vertex, Source, vertex}
use Rattle.ss_plan.specs.Laws.{PlansMeanJobs, AreVertices, VerticesByNumber}
use Rattle.ss_plan.specs.Plan.{PlanText, AreSourceLists, inputs_read, vertex_at, lists_behind, vertices_with, vertices_of, is_source, sources_before, source_list}
use Rattle.ss_plan.proofs.SourcePlaces.{place_within}
use Rattle.ss_water.specs.Graph.{IsLinkedAt}
use Rattle.ss_water.specs.declared.node.Kind.TheVariants as kind
use Rattle.ss_water.specs.declared.node.Node.{Node}

-- what stands in place of a vertex that there isn't
abbrev pub no_node : Node
no_node = record { kind = kind.Sink; inputs = []; width = 0 }

abbrev pub no_text : VertexText
no_text = sink []

pub vertices_count : (nodes : List Node) (texts : List VertexText) (lists : List (List Element)) → length texts ≡ length nodes
    → length (vertices_with nodes texts lists) ≡ length nodes
vertices_count [] texts lists h = refl
vertices_count (node ∷ nodes) [] lists h = absurd (omega (arith, h))
vertices_count (node ∷ nodes) (text ∷ texts) lists h =
    ap suc (vertices_count nodes texts (lists_behind text lists) (omega (arith, h)))

lists_left : (text : VertexText) (n : ℕ) (lists : List (List Element)) → drop n (lists_behind text lists) ≡ drop (cond (is_source text) 1 0 + n) lists
lists_left (source file late) n lists = drop-drop n 1 lists
lists_left (inner s policy) n lists = ap (λ m. drop m lists) (sym (zero-add n))
lists_left (sink file) n lists = ap (λ m. drop m lists) (sym (zero-add n))

count_more : (text : VertexText) (texts : List VertexText) → count_by is_source (text ∷ texts) ≡ cond (is_source text) 1 0 + count_by is_source texts
count_more text texts = sum_by-cons (λ (t : VertexText). cond (is_source t) 1 0) text texts

pub vertex_under : (nodes : List Node) (texts : List VertexText) (lists : List (List Element)) (v : ℕ) → v < length nodes → v < length texts
    → get_or (vertices_with nodes texts lists) v (Source [])
    ≡ vertex_at (get_or nodes v no_node) (get_or texts v no_text) (get_or (drop (count_by is_source (take v texts)) lists) 0 [])
vertex_under [] texts lists v h k = absurd (omega (arith, h))
vertex_under (node ∷ nodes) [] lists v h k = absurd (omega (arith, k))
vertex_under (node ∷ nodes) (text ∷ texts) lists zero h k = refl
vertex_under (node ∷ nodes) (text ∷ texts) lists (suc v) h k =
    vertex_under nodes texts (lists_behind text lists) v (omega (arith, h)) (omega (arith, k))
    ∙ ap (λ (ls : List (List Element)). vertex_at (get_or nodes v no_node) (get_or texts v no_text) (get_or ls 0 []))
    (lists_left text (count_by is_source (take v texts)) lists ∙ ap (λ m. drop m lists) (sym (count_more text (take v texts))))

-- vertex v of a plan
abbrev pub node_of : PlanText → ℕ → Node
node_of plan v = get_or plan.job.graph v no_node

abbrev pub text_of : PlanText → ℕ → VertexText
text_of plan v = get_or plan.job.vertices v no_text

pub vertex_is : (plan : PlanText) (v : ℕ) → length plan.job.vertices ≡ length plan.job.graph → v < length plan.job.graph
    → vertex (vertices_of plan) v ≡ vertex_at (node_of plan v) (text_of plan v) (source_list plan v)
vertex_is plan v same h =
    let n = sources_before plan.job v in
    vertex_under plan.job.graph plan.job.vertices plan.lists v h (omega (arith, h))
    ∙ ap (vertex_at (node_of plan v) (text_of plan v)) (get_or-drop n plan.lists 0 [] ∙ ap (λ m. get_or plan.lists m []) (omega arith))

pub vertices_by_number : VerticesByNumber
vertices_by_number plan job = record {
  count = vertices_count plan.job.graph plan.job.vertices plan.lists job.vertices;
  each = each;
}
  where
    each : (v : ℕ) (node : Node) (text : VertexText) → slice_get plan.job.graph v ≡ Some node → slice_get plan.job.vertices v ≡ Some text
        → vertex (vertices_of plan) v ≡ vertex_at node text (source_list plan v)
    each v node text h k =
        let node_is : node_of plan v ≡ node = get_or_from_slice_get plan.job.graph v node no_node h in
        let text_is : text_of plan v ≡ text = get_or_from_slice_get plan.job.vertices v text no_text k in
        vertex_is plan v job.vertices (slice_get_within plan.job.graph v node h)
        ∙ ap (λ (n : Node). vertex_at n (text_of plan v) (source_list plan v)) node_is
        ∙ ap (λ (t : VertexText). vertex_at node t (source_list plan v)) text_is

-- each may stand where it does

before_times : (xs : List Element) → AllSourceTimes xs → AllByRecursion (IsBefore (2 ^ 62)) xs
before_times [] h = tt
before_times (Row row ∷ xs) h = (h.0, before_times xs h.1)
before_times (Cti time ∷ xs) h = (h.0, before_times xs h.1)
before_times (End ∷ xs) h = (tt, before_times xs h.1)

pub inputs_count : (node : Node) → length (inputs_read node) ≡ node.width
inputs_count node = length-map-range_with_len (λ i. get_or node.inputs i 0) 0 node.width

pub input_at : (node : Node) (i d : ℕ) → i < node.width → get_or (inputs_read node) i d ≡ get_or node.inputs i 0
input_at node i d h = get_or-map-range_with_len (λ i. get_or node.inputs i 0) 0 node.width i i d h (omega arith)

all_earlier : (nodes : List Node) (v : ℕ) (node : Node) → IsLinkedAt nodes v node → All (λ input. input < v) (inputs_read node)
all_earlier nodes v node linked i d h =
    let inside : i < node.width = omega (arith, h, inputs_count node) in
    subst (λ n. n < v) (sym (input_at node i d inside)) (linked.earlier i inside)

pub takes : (s : Spec) (role : Role) (node : Node) (policy : Policy) → IsVertex role node (inner s policy) → Takes (operator_of s) (length (inputs_read node))
takes (spec.Select test a b c d) role node policy h = let least = h.inputs.least_of in let most = h.inputs.most_of in omega (arith, least, most, inputs_count node)
takes spec.Union role node policy h = let least = h.inputs.least_of in omega (arith, least, inputs_count node)
takes (spec.Window size hop agg of) role node policy h =
    let least = h.inputs.least_of in
    let most = h.inputs.most_of in
    let window = h.sound.0 in
    let low = window.hop_of.least_of in
    let high = window.hop_of.most_of in
    let long = window.size_of.most_of in
    (omega (arith, least, most, inputs_count node), low, omega (arith, high, long))
takes spec.Join role node policy h = let least = h.inputs.least_of in let most = h.inputs.most_of in omega (arith, least, most, inputs_count node)
takes (spec.Session gap agg of) role node policy h = let least = h.inputs.least_of in let most = h.inputs.most_of in let gap_in = h.sound.0 in let low = gap_in.least_of in let high = gap_in.most_of in (omega (arith, least, most, inputs_count node), low, omega (arith, high))
takes spec.Except role node policy h = let least = h.inputs.least_of in let most = h.inputs.most_of in omega (arith, least, most, inputs_count node)

may_stand : (nodes : List Node) (v : ℕ) (role : Role) (node : Node) (text : VertexText) (list : List Element)
    → IsLinkedAt nodes v node → IsVertex role node text → (is_source text ≡ true → Whole list × AllSourceTimes list)
    → MayStand v (vertex_at node text list)
may_stand nodes v role node (source file late) list linked h lists =
    let both = lists refl in
    (both.0, All-from_recursion (IsBefore (2 ^ 62)) list (before_times list both.1))
may_stand nodes v role node (inner s policy) list linked h lists = (takes s role node policy h, all_earlier nodes v node linked)
may_stand nodes v role node (sink file) list linked h lists =
    let one = h.inputs.least_of in
    linked.earlier 0 (omega (arith, one))

pub plans_mean_jobs : PlansMeanJobs
plans_mean_jobs plan job lists = record { few = omega (arith, count, few); each = each }
  where
    count : length (vertices_of plan) ≡ length plan.job.graph
    count = vertices_count plan.job.graph plan.job.vertices plan.lists job.vertices

    few : length plan.job.graph ≤ 32
    few = job.graph.count

    no_role : Role
    no_role = record { name = []; kind = kind.Sink; replicas = 0 }

    each : (v : ℕ) → v < length (vertices_of plan) → MayStand v (vertex (vertices_of plan) v)
    each v h =
        let inside : v < length plan.job.graph = omega (arith, h, count) in
        let in_texts : v < length plan.job.vertices = omega (arith, inside, job.vertices) in
        let in_roles : v < length plan.job.roles = omega (arith, inside, job.roles) in
        let node = slice_get-get_or plan.job.graph v no_node inside in
        let text = slice_get-get_or plan.job.vertices v no_text in_texts in
        let role = slice_get-get_or plan.job.roles v no_role in_roles in
        let is = job.each v (get_or plan.job.roles v no_role) (node_of plan v) (text_of plan v) role node text in
        let linked = job.graph.linked v (node_of plan v) node in
        let list : is_source (text_of plan v) ≡ true → Whole (source_list plan v) × AllSourceTimes (source_list plan v) =
        λ e.
        let place = place_within plan.job.vertices v in_texts e in
        let within : sources_before plan.job v < length plan.lists = omega (arith, place, lists.count) in
        (lists.whole (sources_before plan.job v) [] within, lists.times (sources_before plan.job v) [] within) in
        subst (MayStand v) (sym (vertex_is plan v job.vertices inside))
        (may_stand plan.job.graph v (get_or plan.job.roles v no_role) (node_of plan v) (text_of plan v) (source_list plan v) linked is list)
