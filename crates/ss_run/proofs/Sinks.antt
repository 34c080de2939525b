-- The sinks of a job that has come to its end.
use Rattle.std.proofs.Common.{◌≡◌, ℕ, ◌<◌, ◌≤◌, ◌⊎◌, List, [], ◌++◌, length, get_or, map, Option, Some, None, refl, sym, ap, ◌∙◌, inl, inr, arith}
use Rattle.std.specs.Prelude.{slice_get, option_and_then}
use Rattle.std.proofs.lemmas.Bool.{cases_lt}
use Rattle.std.proofs.lemmas.List.{append-nil, get_or_past, take_all}
use Rattle.std.proofs.lemmas.Option.{slice_get-get_or, slice_get_within}
use Rattle.ss_elem.specs.Line.{text_of}
use Rattle.ss_elem.specs.declared.element.Element.{Element}
use Rattle.ss_fail.specs.declared.role.Role.{Role}
use Rattle.ss_frames.specs.Laws.{PlanNumbersAreMeant, PlansAreRunnable}
use Rattle.ss_frames.specs.Plans.{plan_numbers}
use Rattle.ss_job.specs.JobText.{VertexText, source, inner, sink, sink_file_of_vertex}
use Rattle.ss_job.specs.Sound.{IsVertex}
use Rattle.ss_meaning.specs.Laws.{MeaningByInputs}
use Rattle.ss_meaning.specs.Meaning.{Vertex, Source, Inner, Sink, meaning, reads, stream, vertex as meant_vertex}
use Rattle.ss_plan.specs.Plan.{PlanText, vertices_of}
use Rattle.ss_state.specs.IsNumbers.{IsVertex as IsVertexNumbers}
use Rattle.ss_state.specs.Numbers.{IsSink, IsStream, input, size, vertex}
use Rattle.ss_state.specs.NumbersOfMeaning.{IsMeant, kind_of}
use Rattle.ss_state.specs.State.{Ledger, row_at}
use Rattle.ss_vault.specs.Facts.{PlanFacts}
use Rattle.ss_vault.specs.Sound.{nothing_behind, sink_file, stream_put, text_put}
use Rattle.ss_water.specs.declared.node.Kind.TheVariants as kind
use Rattle.ss_water.specs.declared.node.Node.{Node}

no_node : Node
no_node = record { kind = kind.Sink; inputs = []; width = 0 }

no_role : Role
no_role = record { name = []; kind = kind.Sink; replicas = 0 }

-- the text of a vertex that has a sink's file
text_of_sink : (o : Option VertexText) (file : List ℕ) → option_and_then sink_file_of_vertex o ≡ Some file → o ≡ Some (sink file)
text_of_sink None file e = absurd cc
text_of_sink (Some (source other late)) file e = absurd cc
text_of_sink (Some (inner spec policy)) file e = absurd cc
text_of_sink (Some (sink other)) file e =
    let same : other ≡ file = cc in
    ap (λ (name : List ℕ). Some (sink name)) same

-- only sinks have files
pub sink_of_file : (plan : PlanText) → PlanFacts plan → (k : ℕ) (file : List ℕ) → sink_file plan k ≡ Some file → IsSink (plan_numbers plan) k
sink_of_file plan facts k file e =
    let job = facts.is.job in
    let text : slice_get plan.job.vertices k ≡ Some (sink file) = text_of_sink (slice_get plan.job.vertices k) file e in
    let in_vertices = slice_get_within plan.job.vertices k (sink file) text in
    let vertices = job.vertices in
    let roles = job.roles in
    let count = facts.count in
    let in_graph : k < length plan.job.graph = omega (arith, in_vertices, vertices) in
    let in_roles : k < length plan.job.roles = omega (arith, in_graph, roles) in
    let node : Node = get_or plan.job.graph k no_node in
    let role : Role = get_or plan.job.roles k no_role in
    let node_is : slice_get plan.job.graph k ≡ Some node = slice_get-get_or plan.job.graph k no_node in_graph in
    let is : IsVertex role node (sink file) =
    job.each k role node (sink file) (slice_get-get_or plan.job.roles k no_role in_roles) node_is text in
    (omega (arith, in_graph, count), facts.kinds k node node_is ∙ is.node_kind)

-- a sink reads a stream
pub stream_of_sink : (plan : PlanText) → PlanFacts plan → (k : ℕ) → IsSink (plan_numbers plan) k
    → IsStream (plan_numbers plan) (input (vertex (plan_numbers plan) k) 0)
stream_of_sink plan facts k is =
    let numbers : IsVertexNumbers (plan_numbers plan) k (vertex (plan_numbers plan) k) = facts.numbers.each k is.0 in
    let one = numbers.sink is.1 in
    let some : 0 < length (vertex (plan_numbers plan) k).inputs = omega (arith, one) in
    let earlier = numbers.earlier 0 some in
    let within = is.0 in
    (omega (arith, earlier, within), numbers.streams 0 some)

-- the length of what it puts
pub length_put : (plan : PlanText) → PlanFacts plan → (k : ℕ) → IsSink (plan_numbers plan) k
    → size (vertex (plan_numbers plan) (input (vertex (plan_numbers plan) k) 0)) ≡ length (stream_put plan k)
length_put plan facts k is = facts.size (input (vertex (plan_numbers plan) k) 0) (stream_of_sink plan facts k is)

-- where it has put all, its text is that of the whole stream
pub whole_text : (plan : PlanText) (l : Ledger) (k : ℕ) → (row_at l k).taken ≡ length (stream_put plan k)
    → text_put plan l k ++ nothing_behind k ≡ text_of (stream_put plan k)
whole_text plan l k all =
    append-nil (text_put plan l k)
    ∙ ap text_of (take_all (row_at l k).taken (stream_put plan k) (omega (arith, all)))

-- ---- what a sink puts is its own stream, as the job means it

sink_stream : (w : Vertex) (streams : ℕ → List Element) → kind_of w ≡ kind.Sink → stream w (map streams (reads w)) ≡ streams (get_or (reads w) 0 0)
sink_stream (Source list) streams e = absurd cc
sink_stream (Inner form inputs) streams e = absurd cc
sink_stream (Sink input) streams e = refl

-- a vertex that isn't there is no sink
sink_within : (job : List Vertex) (k : ℕ) → kind_of (meant_vertex job k) ≡ kind.Sink → k < length job
sink_within job k e = by_tests (cases_lt k (length job))
  where
    past : length job ≤ k → kind_of (meant_vertex job k) ≡ kind.Source
    past le = ap kind_of (get_or_past job k (Source []) le)

    by_tests : (k < length job) ⊎ (length job ≤ k) → k < length job
    by_tests (inl lt) = lt
    by_tests (inr le) = absurd (let other = past le in cc)

pub put_is_meant : MeaningByInputs → PlansAreRunnable → PlanNumbersAreMeant → (plan : PlanText) → PlanFacts plan → (k : ℕ)
    → IsSink (plan_numbers plan) k → stream_put plan k ≡ meaning (vertices_of plan) k
put_is_meant made runnable meant plan facts k is =
    let job : List Vertex = vertices_of plan in
    let count = facts.count in
    let in_vertices = is.0 in
    let means : IsMeant job k (vertex (plan_numbers plan) k) = (meant plan facts.is).meant k (omega (arith, count, in_vertices)) in
    let is_sink : kind_of (meant_vertex job k) ≡ kind.Sink = sym means.kind ∙ is.1 in
    ap (λ (ns : List ℕ). meaning job (get_or ns 0 0)) means.inputs
    ∙ sym (sink_stream (meant_vertex job k) (meaning job) is_sink)
    ∙ sym (made job (runnable plan facts.is).means k (sink_within job k is_sink))
