-- The numbers of a plan.
use Rattle.std.proofs.Common.{◌≡◌, ℕ, zero, suc, ◌<◌, ◌≤◌, ◌==◌, Bool, true, false, not, List, [], ◌∷◌, length, get_or, take, map, Some, None, IsSome, refl, sym, ap, ◌∙◌, subst, ⊎_elim, arith}
use Rattle.std.proofs.lemmas.Bool.{cases_lt, eqb-true, not-true, not_from_false}
use Rattle.std.proofs.lemmas.List.{length-map, get_or_past, get_or-take, length-take}
use Rattle.std.proofs.lemmas.List.Folds.{Any-from_list_any}
use Rattle.std.proofs.lemmas.List.FromFn.{length-range_with_len, get_or-map-range_with_len}
use Rattle.std.proofs.lemmas.Option.{slice_get_read, slice_get_within, slice_get_past, get_or_from_slice_get}
use Rattle.std.specs.List.{slice_get, list_any, range_with_len}
use Rattle.std.specs.Option.{option_map, option_map_or, option_and_then}
use Rattle.ss_elem.specs.declared.element.Element.{Element}
use Rattle.ss_fail.specs.declared.role.Role.{Role}
use Rattle.ss_job.specs.JobText.{VertexText, source, inner, sink, op_of, op_of_vertex, spec_of, spec_of_vertex}
use Rattle.ss_job.specs.Sound.{IsVertex}
use Rattle.ss_job.specs.declared.op.Op.TheVariants as op
use Rattle.ss_meaning.specs.Laws.{MeaningByInputs}
use Rattle.ss_meaning.specs.Meaning.{Vertex, Source, Inner, Sink, reads, stream, vertex, meaning}
use Rattle.ss_plan.specs.Laws.{PlansMeanJobs, VerticesByNumber}
use Rattle.ss_plan.specs.Limit.{IsPlan}
use Rattle.ss_plan.specs.Plan.{PlanText, vertex_at, vertices_of, source_list}
use Rattle.ss_state.specs.MeaningLaws.{NumbersAreMeant, RunnableHasNumbers}
use Rattle.ss_state.specs.Numbers as table
use Rattle.ss_state.specs.NumbersOfMeaning.{Policy, policy_at, vertex_numbers, job_numbers, kind_of, GivesStream, IsInput, IsMeant}
use Rattle.ss_water.specs.Graph.{is_sink, is_stream, is_read}
use Rattle.ss_water.specs.Graph as graph
use Rattle.ss_water.specs.declared.node.Kind.TheVariants as kind
use Rattle.ss_water.specs.declared.node.Node.{Node}
use Rattle.ss_frames.specs.Laws.{PlansAreRunnable, PlansHaveNumbers, PlanNumbersAreMeant, InputsAreOfNodes}
use Rattle.ss_frames.specs.Frames.{inputs_at}
use Rattle.ss_frames.specs.Plans.{policy_with, policies_with, policies_of, limits_of, plan_numbers, HasPolicy}
use Rattle.ss_frames.proofs.Vertices.{Stands, stands, reads_count, read_is, kind_is}

-- ---- inputs

pub inputs_are : VerticesByNumber → (plan : PlanText) → IsPlan plan → (v : ℕ) → (st : Stands plan v) → inputs_at plan v ≡ st.node.width
inputs_are law plan is v st =
    ap (λ (x : Vertex). length (reads x)) st.vertex ∙ reads_count st.role st.node st.text (source_list plan v) st.sound

pub inputs_of_nodes : VerticesByNumber → InputsAreOfNodes
inputs_of_nodes law plan is v node e =
    let st = stands law plan is v (slice_get_within plan.job.graph v node e) in
    let same : st.node ≡ node = let both : Some st.node ≡ Some node = sym st.node_is ∙ e in cc in
    inputs_are law plan is v st ∙ ap (λ (n : Node). n.width) same

-- ---- what is read is a stream, and each stream is read

abbrev stream_test : Node → Bool
stream_test node = not (is_sink node.kind)

is_stream_at : (plan : PlanText) (v : ℕ) (st : Stands plan v) → is_stream plan.job.graph v ≡ not (is_sink st.node.kind)
is_stream_at plan v st = ap (λ o. option_map_or stream_test o false) st.node_is

sink_is : (plan : PlanText) (v : ℕ) (st : Stands plan v) → is_sink (kind_of (vertex (vertices_of plan) v)) ≡ is_sink st.node.kind
sink_is plan v st =
    ap (λ (x : Vertex). is_sink (kind_of x)) st.vertex
    ∙ ap is_sink (kind_is st.role st.node st.text (source_list plan v) st.sound)

-- input i of a vertex by its node
input_is : (plan : PlanText) (w i : ℕ) (st : Stands plan w) → i < st.node.width
    → get_or (reads (vertex (vertices_of plan) w)) i 0 ≡ get_or st.node.inputs i 0
input_is plan w i st h =
    ap (λ (x : Vertex). get_or (reads x) i 0) st.vertex ∙ read_is st.role st.node st.text (source_list plan w) st.sound i h

streams_are_read : VerticesByNumber → (plan : PlanText) → IsPlan plan → length (vertices_of plan) ≡ length plan.job.graph
    → (u w i : ℕ) → IsInput (vertices_of plan) u w i → GivesStream (vertices_of plan) u
streams_are_read law plan is count u w i input =
    let st = stands law plan is w (omega (arith, count, input.vertex)) in
    let inside : i < st.node.width = omega (arith, input.within, inputs_are law plan is w st) in
    let same : get_or st.node.inputs i 0 ≡ u = sym (input_is plan w i st inside) ∙ input.is in
    let early : u < w = subst (λ n. n < w) same (st.linked.earlier i inside) in
    let within : u < length plan.job.graph = omega (arith, early, count, input.vertex) in
    let stream : is_stream plan.job.graph u ≡ true = subst (λ n. is_stream plan.job.graph n ≡ true) same (st.linked.stream i inside) in
    let su = stands law plan is u within in
    let none : is_sink su.node.kind ≡ false = not-true (is_sink su.node.kind) (sym (is_stream_at plan u su) ∙ stream) in
    (omega (arith, within, count), sink_is plan u su ∙ none)

-- an element of a list that passes a test, and its place
record IsFound {A : Type 0} (p : A → Bool) (xs : List A) : Type 0 where
  place : ℕ
  value : A
  is : slice_get xs place ≡ Some value
  passes : p value ≡ true

found : {A : Type 0} (p : A → Bool) (xs : List A) → list_any p xs ≡ true → IsFound p xs
found p xs h =
    let some = Any-from_list_any p xs h in
    record { place = some.0; value = some.1; is = slice_get_read xs (length xs) some.0 some.1 refl some.2 (sym some.3); passes = some.4 }

-- a node that reads u does so at one of its inputs
record ReadsAt (node : Node) (u : ℕ) : Type 0 where
  input : ℕ
  within : input < node.width
  is : get_or node.inputs input 0 ≡ u

reads_at : (node : Node) (u : ℕ) → IsFound (λ (v : ℕ). v == u) (take node.width node.inputs) → ReadsAt node u
reads_at node u f =
    let inside = slice_get_within (take node.width node.inputs) f.place f.value f.is in
    let within : f.place < node.width = omega (arith, inside, length-take node.width node.inputs) in
    record {
      input = f.place;
      within = within;
      is =
          sym (get_or-take node.width node.inputs f.place 0 within)
          ∙ get_or_from_slice_get (take node.width node.inputs) f.place f.value 0 f.is
          ∙ eqb-true f.value u f.passes;
    }

input_of : (plan : PlanText) (u w : ℕ) (st : Stands plan w) → w < length (vertices_of plan) → inputs_at plan w ≡ st.node.width → ReadsAt st.node u
    → (w i : ℕ) × IsInput (vertices_of plan) u w i
input_of plan u w st h width r =
    let inside = r.within in
    (w, r.input, record { vertex = h; within = omega (arith, inside, width); is = input_is plan w r.input st inside ∙ r.is })

read_by : VerticesByNumber → (plan : PlanText) → IsPlan plan → length (vertices_of plan) ≡ length plan.job.graph → (u : ℕ)
    → IsFound (λ (node : Node). graph.reads node u) plan.job.graph → (w i : ℕ) × IsInput (vertices_of plan) u w i
read_by law plan is count u f =
    let inside = slice_get_within plan.job.graph f.place f.value f.is in
    let st = stands law plan is f.place inside in
    let same : f.value ≡ st.node = let both : Some f.value ≡ Some st.node = sym f.is ∙ st.node_is in cc in
    let reading : graph.reads st.node u ≡ true = subst (λ (n : Node). graph.reads n u ≡ true) same f.passes in
    input_of plan u f.place st (omega (arith, inside, count)) (inputs_are law plan is f.place st)
    (reads_at st.node u (found (λ (v : ℕ). v == u) (take st.node.width st.node.inputs) reading))

each_is_read : VerticesByNumber → (plan : PlanText) → IsPlan plan → length (vertices_of plan) ≡ length plan.job.graph
    → (u : ℕ) → GivesStream (vertices_of plan) u → (w i : ℕ) × IsInput (vertices_of plan) u w i
each_is_read law plan is count u gives =
    let su = stands law plan is u (omega (arith, count, gives.0)) in
    let none : is_sink su.node.kind ≡ false = sym (sink_is plan u su) ∙ gives.1 in
    let stream : is_stream plan.job.graph u ≡ true = is_stream_at plan u su ∙ not_from_false (is_sink su.node.kind) none in
    read_by law plan is count u (found (λ (node : Node). graph.reads node u) plan.job.graph (is.job.graph.read u stream))

-- ---- policies and limits

policy_found : (roles : List Role) (texts : List VertexText) (v : ℕ) (role : Role) (text : VertexText) (d : Policy)
    → slice_get roles v ≡ Some role → slice_get texts v ≡ Some text → get_or (policies_with roles texts) v d ≡ policy_with role text
policy_found [] texts v role text d h k = cc
policy_found (r ∷ roles) [] v role text d h k = cc
policy_found (r ∷ roles) (t ∷ texts) zero role text d h k =
    let one : r ≡ role = cc in
    let two : t ≡ text = cc in
    ap (λ (x : Role). policy_with x t) one ∙ ap (policy_with role) two
policy_found (r ∷ roles) (t ∷ texts) (suc v) role text d h k = policy_found roles texts v role text d h k

pub policy_is : (plan : PlanText) (v : ℕ) (st : Stands plan v) → policy_at (policies_of plan.job) v ≡ policy_with st.role st.text
policy_is plan v st =
    policy_found plan.job.roles plan.job.vertices v st.role st.text (record { every = 64; replay = false; replicas = 1 }) st.role_is st.text_is

record IsAsked (policy : Policy) : Type 0 where
  every : 0 < policy.every
  replicas : 0 < policy.replicas

asked : (role : Role) (node : Node) (text : VertexText) → IsVertex role node text → IsAsked (policy_with role text)
asked role node (source file late) h = let some = h.replicas.least_of in record { every = omega arith; replicas = omega (arith, some) }
asked role node (inner s policy) h =
    let every = h.sound.1.every.least_of in
    let replicas = h.sound.1.replicas.least_of in
    record { every = omega (arith, every); replicas = omega (arith, replicas) }
asked role node (sink file) h = let some = h.replicas.least_of in record { every = omega arith; replicas = omega (arith, some) }

asked_at : VerticesByNumber → (plan : PlanText) → IsPlan plan → (v : ℕ) → v < length plan.job.graph → IsAsked (policy_at (policies_of plan.job) v)
asked_at law plan is v h =
    let st = stands law plan is v h in
    subst IsAsked (sym (policy_is plan v st)) (asked st.role st.node st.text st.sound)

-- the list of a source
listed : (plan : PlanText) → IsPlan plan → (v : ℕ) (node : Node) (text : VertexText) (list : List Element)
    → slice_get plan.job.vertices v ≡ Some text → vertex_at node text (source_list plan v) ≡ Source list
    → length list ≤ plan.job.max_elements
listed plan is v node (source file late) list h e =
    let same : source_list plan v ≡ list = cc in
    let source : option_map op_of_vertex (slice_get plan.job.vertices v) ≡ Some op.Source = ap (option_map op_of_vertex) h in
    let short : length (source_list plan v) ≤ plan.job.max_elements =
    ⊎_elim (λ (l : plan.job.max_elements < length (source_list plan v)). absurd (is.within v (source, l)))
    (λ (l : length (source_list plan v) ≤ plan.job.max_elements). l)
    (cases_lt plan.job.max_elements (length (source_list plan v))) in
    subst (λ (xs : List Element). length xs ≤ plan.job.max_elements) same short
listed plan is v node (inner s policy) list h e = cc
listed plan is v node (sink file) list h e = cc

-- ---- the laws

pub plans_are_runnable : PlansMeanJobs → VerticesByNumber → PlansAreRunnable
plans_are_runnable means law plan is =
    let count = (law plan is.job).count in
    record {
      means = means plan is.job is.lists;
      streams = streams_are_read law plan is count;
      read = each_is_read law plan is count;
      listed = λ v list h e.
          let st = stands law plan is v (omega (arith, h, count)) in
          listed plan is v st.node st.text list st.text_is (sym st.vertex ∙ e);
      every = λ v h. (asked_at law plan is v (omega (arith, h, count))).every;
      replicas = λ v h. (asked_at law plan is v (omega (arith, h, count))).replicas;
      collects = is.job.collect_every.least_of;
    }

pub plans_have_numbers : PlansMeanJobs → VerticesByNumber → RunnableHasNumbers → PlansHaveNumbers
unfolding plan_numbers
plans_have_numbers means law numbers plan is =
    numbers (vertices_of plan) (policies_of plan.job) (limits_of plan.job) (plans_are_runnable means law plan is)

pub vertex_is : (plan : PlanText) (v : ℕ) → v < length (vertices_of plan)
    → table.vertex (plan_numbers plan) v ≡ vertex_numbers (vertex (vertices_of plan) v) (vertices_of plan) v (policy_at (policies_of plan.job) v)
unfolding plan_numbers job_numbers
vertex_is plan v h =
    let job = vertices_of plan in
    get_or-map-range_with_len (λ u. vertex_numbers (vertex job u) job u (policy_at (policies_of plan.job) u)) 0 (length job) v v table.no_vertex h (omega arith)

numbers_count : (plan : PlanText) → length (plan_numbers plan).vertices ≡ length (vertices_of plan)
unfolding plan_numbers job_numbers
numbers_count plan =
    let job = vertices_of plan in
    length-map (range_with_len 0 (length job)) (λ v. vertex_numbers (vertex job v) job v (policy_at (policies_of plan.job) v)) ∙ length-range_with_len 0 (length job)

most_is : (plan : PlanText) → (plan_numbers plan).max_elements ≡ plan.job.max_elements
unfolding plan_numbers job_numbers
most_is plan = refl

collects_is : (plan : PlanText) → (plan_numbers plan).collect_every ≡ plan.job.collect_every
unfolding plan_numbers job_numbers
collects_is plan = refl

has_policy : (form : Vertex) (job : List Vertex) (v : ℕ) (policy : Policy) → HasPolicy policy (vertex_numbers form job v policy)
has_policy (Source list) job v policy = record { every = refl; replay = refl; replicas = λ h. refl }
has_policy (Inner form inputs) job v policy = record { every = refl; replay = refl; replicas = λ h. refl }
has_policy (Sink input) job v policy = record { every = refl; replay = refl; replicas = λ h. cc }

meant_at : PlansMeanJobs → VerticesByNumber → NumbersAreMeant → (plan : PlanText) → IsPlan plan → (v : ℕ) → v < length plan.job.graph
    → IsMeant (vertices_of plan) v (table.vertex (plan_numbers plan) v)
unfolding plan_numbers
meant_at means law meant plan is v h =
    let count = (law plan is.job).count in
    meant (vertices_of plan) (policies_of plan.job) (limits_of plan.job) (means plan is.job is.lists) v (omega (arith, h, count))

policy_at_is : VerticesByNumber → (plan : PlanText) → IsPlan plan → (v : ℕ) (role : Role) (text : VertexText)
    → slice_get plan.job.roles v ≡ Some role → slice_get plan.job.vertices v ≡ Some text
    → HasPolicy (policy_with role text) (table.vertex (plan_numbers plan) v)
policy_at_is law plan is v role text h k =
    let job = vertices_of plan in
    let count = (law plan is.job).count in
    let inside = slice_get_within plan.job.vertices v text k in
    let in_job : v < length job = omega (arith, inside, count, is.job.vertices) in
    let policy = policy_at (policies_of plan.job) v in
    let same : policy ≡ policy_with role text =
    policy_found plan.job.roles plan.job.vertices v role text (record { every = 64; replay = false; replicas = 1 }) h k in
    subst (HasPolicy (policy_with role text)) (sym (vertex_is plan v in_job))
    (subst (λ (p : Policy). HasPolicy p (vertex_numbers (vertex job v) job v policy)) same (has_policy (vertex job v) job v policy))

-- an operator has a spec
inner_spec : (node : Node) (text : VertexText) (list : List Element) → table.is_inner (kind_of (vertex_at node text list)) ≡ true → IsSome (spec_of_vertex text)
inner_spec node (source file late) list h = absurd cc
inner_spec node (inner s policy) list h = refl
inner_spec node (sink file) list h = absurd cc

spec_at : PlansMeanJobs → VerticesByNumber → NumbersAreMeant → (plan : PlanText) → IsPlan plan → (v : ℕ)
    → table.is_inner (table.vertex (plan_numbers plan) v).kind ≡ true → IsSome (spec_of plan.job v)
spec_at means law meant plan is v h = ⊎_elim within past (cases_lt v (length plan.job.graph))
  where
    within : v < length plan.job.graph → IsSome (spec_of plan.job v)
    within l =
        let st = stands law plan is v l in
        let kind = (meant_at means law meant plan is v l).kind ∙ ap kind_of st.vertex in
        let inner : table.is_inner (kind_of (vertex_at st.node st.text (source_list plan v))) ≡ true = sym (ap table.is_inner kind) ∙ h in
        subst (λ o. IsSome (option_and_then spec_of_vertex o)) (sym st.text_is) (inner_spec st.node st.text (source_list plan v) inner)

    past : length plan.job.graph ≤ v → IsSome (spec_of plan.job v)
    past l =
        let count = (law plan is.job).count in
        let none : table.vertex (plan_numbers plan) v ≡ table.no_vertex =
        get_or_past (plan_numbers plan).vertices v table.no_vertex (omega (arith, l, count, numbers_count plan)) in
        let inner : false ≡ true = sym (ap (λ (x : table.VertexNumbers). table.is_inner x.kind) none) ∙ h in
        absurd cc

-- and what has a spec is one
spec_inner : (node : Node) (text : VertexText) (list : List Element) → IsSome (spec_of_vertex text) → table.is_inner (kind_of (vertex_at node text list)) ≡ true
spec_inner node (source file late) list h = cc
spec_inner node (inner s policy) list h = refl
spec_inner node (sink file) list h = cc

inner_at : PlansMeanJobs → VerticesByNumber → NumbersAreMeant → (plan : PlanText) → IsPlan plan → (v : ℕ)
    → IsSome (spec_of plan.job v) → table.is_inner (table.vertex (plan_numbers plan) v).kind ≡ true
inner_at means law meant plan is v h = ⊎_elim within past (cases_lt v (length plan.job.graph))
  where
    within : v < length plan.job.graph → table.is_inner (table.vertex (plan_numbers plan) v).kind ≡ true
    within l =
        let st = stands law plan is v l in
        let kind_is = (meant_at means law meant plan is v l).kind ∙ ap kind_of st.vertex in
        let some : IsSome (spec_of_vertex st.text) = subst (λ o. IsSome (option_and_then spec_of_vertex o)) st.text_is h in
        ap table.is_inner kind_is ∙ spec_inner st.node st.text (source_list plan v) some

    past : length plan.job.graph ≤ v → table.is_inner (table.vertex (plan_numbers plan) v).kind ≡ true
    past l =
        let none : slice_get plan.job.vertices v ≡ None = slice_get_past plan.job.vertices v (omega (arith, l, is.job.vertices)) in
        let some : IsSome (option_and_then spec_of_vertex None) = subst (λ o. IsSome (option_and_then spec_of_vertex o)) none h in
        cc

-- a source gives its list
source_text : (node : Node) (text : VertexText) (list : List Element) → kind_of (vertex_at node text list) ≡ kind.Source
    → (op_of_vertex text ≡ op.Source) × (vertex_at node text list ≡ Source list)
source_text node (source file late) list h = (refl, refl)
source_text node (inner s policy) list h = cc
source_text node (sink file) list h = cc

source_at : PlansMeanJobs → VerticesByNumber → NumbersAreMeant → MeaningByInputs → (plan : PlanText) → IsPlan plan → (v : ℕ)
    → (table.vertex (plan_numbers plan) v).kind ≡ kind.Source
    → (op_of plan.job v ≡ Some op.Source) × (meaning (vertices_of plan) v ≡ source_list plan v)
source_at means law meant made plan is v h = ⊎_elim within past (cases_lt v (length plan.job.graph))
  where
    within : v < length plan.job.graph → (op_of plan.job v ≡ Some op.Source) × (meaning (vertices_of plan) v ≡ source_list plan v)
    within l =
        let job = vertices_of plan in
        let count = (law plan is.job).count in
        let st = stands law plan is v l in
        let kind_is = (meant_at means law meant plan is v l).kind ∙ ap kind_of st.vertex in
        let text = source_text st.node st.text (source_list plan v) (sym kind_is ∙ h) in (
          ap (option_map op_of_vertex) st.text_is ∙ ap (λ o. Some o) text.0,
          made job (means plan is.job is.lists) v (omega (arith, l, count))
              ∙ ap (λ (x : Vertex). stream x (map (meaning job) (reads (vertex job v)))) (st.vertex ∙ text.1),
        )

    past : length plan.job.graph ≤ v → (op_of plan.job v ≡ Some op.Source) × (meaning (vertices_of plan) v ≡ source_list plan v)
    past l =
        let count = (law plan is.job).count in
        let none : table.vertex (plan_numbers plan) v ≡ table.no_vertex =
        get_or_past (plan_numbers plan).vertices v table.no_vertex (omega (arith, l, count, numbers_count plan)) in
        let other : kind.Sink ≡ kind.Source = sym (ap (λ (x : table.VertexNumbers). x.kind) none) ∙ h in
        cc

pub numbers_are_meant : PlansMeanJobs → VerticesByNumber → NumbersAreMeant → MeaningByInputs → PlanNumbersAreMeant
numbers_are_meant means law meant made plan is = record {
  max_elements = most_is plan;
  collect_every = collects_is plan;
  count = omega (arith, numbers_count plan, (law plan is.job).count);
  meant = meant_at means law meant plan is;
  policies = policy_at_is law plan is;
  operators = λ v. (spec_at means law meant plan is v, inner_at means law meant plan is v);
  sources = source_at means law meant made plan is;
}
