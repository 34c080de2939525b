-- The stream of a vertex by what the vertex is.
use Rattle.std.proofs.Common.{◌≡◌, ℕ, ◌+◌, ◌<◌, ◌≤◌, ◌^◌, Bool, true, false, cond, List, [], ◌∷◌, ◌++◌, length, get_or, take, drop, map, All, Option, Some, None, IfSome, refl, sym, ap, ◌∙◌, subst, arith, take-append-drop, length-append, ◌⊎◌, ⊎_elim}
use Rattle.std.proofs.lemmas.List.{length-map, get_or-map, drop_more, get_or_past, get_or_at}
use Rattle.std.proofs.lemmas.Bool.{cases_lt}
use Rattle.ss_elem.specs.Validity.{Whole}
use Rattle.ss_elem.specs.declared.element.Element.{Element}
use Rattle.ss_elem.specs.declared.element.Element.TheVariants.{Row, Cti, End}
use Rattle.ss_expr.specs.Operators.{operator_of, IsComputable, HasShortRow}
use Rattle.ss_expr.specs.declared.stream_operator.Spec.{Spec}
use Rattle.ss_expr.specs.declared.stream_operator.Spec.TheVariants as spec
use Rattle.ss_job.specs.JobText.{VertexText, source, inner, sink, JobText, op_of_vertex, spec_of, spec_of_vertex}
use Rattle.ss_job.specs.Sound.{IsSpec}
use Rattle.ss_job.specs.declared.op.Op.TheVariants as op
use Rattle.ss_meaning.specs.Emit.{output}
use Rattle.ss_meaning.specs.Jobs.{IsBefore}
use Rattle.ss_meaning.specs.Laws.{ArrivalsFollow, ArrivalsMayFollow}
use Rattle.ss_meaning.specs.Meaning.{Vertex, reads, stream}
use Rattle.ss_meaning.specs.Merge.{Arrival, merge, from_input}
use Rattle.ss_plan.specs.Plan.{vertex_at, inputs_read}
use Rattle.ss_plan.specs.Steps.{EachMayFollow}
use Rattle.ss_plan.specs.Streams.{MayArrive}
use Rattle.ss_water.specs.declared.node.Node.{Node}

-- the stream that a vertex makes of what it reads

pub spec_stream : (node : Node) (text : VertexText) (list : List Element) (f : ℕ → List Element) (s : Spec) → spec_of_vertex text ≡ Some s
    → stream (vertex_at node text list) (map f (reads (vertex_at node text list)))
    ≡ output (operator_of s) (length (inputs_read node)) (merge (map f (inputs_read node)))
spec_stream node (source file late) list f s e = cc
spec_stream node (inner t policy) list f s e =
    let same : t ≡ s = cc in
    ap (λ (u : Spec). output (operator_of u) (length (inputs_read node)) (merge (map f (inputs_read node)))) same
spec_stream node (sink file) list f s e = cc

pub source_stream : (node : Node) (text : VertexText) (list : List Element) (f : ℕ → List Element) → op_of_vertex text ≡ op.Source
    → stream (vertex_at node text list) (map f (reads (vertex_at node text list))) ≡ list
source_stream node (source file late) list f e = refl
source_stream node (inner (spec.Select test a b c d) policy) list f e = cc
source_stream node (inner spec.Union policy) list f e = cc
source_stream node (inner (spec.Window size hop agg of) policy) list f e = cc
source_stream node (inner spec.Join policy) list f e = cc
source_stream node (inner (spec.Session gap agg of) policy) list f e = cc
source_stream node (inner spec.Except policy) list f e = cc
source_stream node (sink file) list f e = cc

pub sink_stream : (node : Node) (text : VertexText) (list : List Element) (f : ℕ → List Element) → spec_of_vertex text ≡ None → (op_of_vertex text ≡ op.Source → ⊥)
    → stream (vertex_at node text list) (map f (reads (vertex_at node text list))) ≡ f (get_or node.inputs 0 0)
sink_stream node (source file late) list f e other = absurd (other refl)
sink_stream node (inner s policy) list f e other = cc
sink_stream node (sink file) list f e other = refl

-- what is read

pub spec_reads : (node : Node) (text : VertexText) (list : List Element) (s : Spec) → spec_of_vertex text ≡ Some s → reads (vertex_at node text list) ≡ inputs_read node
spec_reads node (source file late) list s e = cc
spec_reads node (inner t policy) list s e = refl
spec_reads node (sink file) list s e = cc

-- the spec of a job's operator can be computed

pub computable : (s : Spec) → IsSpec s → IsComputable s
computable (spec.Select test a b c d) h = h
computable spec.Union h = tt
computable (spec.Window size hop agg of) h = record {
  least_hop = h.hop_of.least_of;
  most_hop = h.hop_of.most_of;
  least_size = h.size_of.least_of;
  most_size = h.size_of.most_of;
  whole = h.multiple;
}
computable spec.Join h = tt
computable (spec.Session gap agg of) h = record { least = h.least_of; most = h.most_of }
computable spec.Except h = tt

-- what arrives from inputs that may arrive

short_row : (x : Element) → IsBefore (2 ^ 63) x → HasShortRow x
short_row (Row row) h = h
short_row (Cti time) h = tt
short_row End h = tt

-- the element under an index came from an input, and stands in its list
record Came (lists : List (List Element)) (x : Arrival) : Type 0 where
  before : List Element
  behind : List Element
  from : get_or lists x.input [] ≡ before ++ x.element ∷ behind

came : ArrivalsFollow → (lists : List (List Element)) → All Whole lists → (i : ℕ) (d : Arrival) → i < length (merge lists) → Came lists (get_or (merge lists) i d)
came law lists whole i d h =
    let all = merge lists in
    let x = get_or all i d in
    let split : all ≡ take i all ++ x ∷ drop (i + 1) all =
    sym (take-append-drop i all) ∙ ap (λ (back : List Arrival). take i all ++ back) (drop_more all i d h) in
    let follows = law lists whole (take i all) (drop (i + 1) all) x split in
    record { before = from_input x.input (take i all); behind = follows.0; from = follows.1 }

within_by : (lists : List (List Element)) (x : Arrival) → Came lists x → (x.input < length lists) ⊎ (length lists ≤ x.input) → x.input < length lists
within_by lists x c o = ⊎_elim (λ (h : x.input < length lists). h) (λ (h : length lists ≤ x.input). absurd (none h)) o
  where
    none : length lists ≤ x.input → ⊥
    none h =
        let past : get_or lists x.input [] ≡ [] = get_or_past lists x.input [] h in
        let count = ap length (sym past ∙ c.from) in
        omega (arith, count, length-append c.before (x.element ∷ c.behind))

pub arrivals_within : ArrivalsFollow → (lists : List (List Element)) → MayArrive lists → All (λ x. x.input < length lists) (merge lists)
arrivals_within law lists may i d h =
    let x = get_or (merge lists) i d in
    within_by lists x (came law lists may.whole i d h) (cases_lt x.input (length lists))

pub arrivals_short : ArrivalsFollow → (lists : List (List Element)) → MayArrive lists → All (λ x. HasShortRow x.element) (merge lists)
arrivals_short law lists may i d h =
    let x = get_or (merge lists) i d in
    let c = came law lists may.whole i d h in
    let inside = within_by lists x c (cases_lt x.input (length lists)) in
    let all : All (IsBefore (2 ^ 63)) (c.before ++ x.element ∷ c.behind) =
    subst (All (IsBefore (2 ^ 63))) c.from (may.times x.input [] inside) in
    let place : length c.before < length (c.before ++ x.element ∷ c.behind) = omega (arith, length-append c.before (x.element ∷ c.behind)) in
    short_row x.element
    (subst (IsBefore (2 ^ 63)) (get_or_at c.before x.element c.behind End (length c.before) refl) (all (length c.before) End place))

pub arrivals_early : ArrivalsFollow → (lists : List (List Element)) → MayArrive lists → All (λ x. IsBefore (2 ^ 63) x.element) (merge lists)
arrivals_early law lists may i d h =
    let x = get_or (merge lists) i d in
    let c = came law lists may.whole i d h in
    let inside = within_by lists x c (cases_lt x.input (length lists)) in
    let all : All (IsBefore (2 ^ 63)) (c.before ++ x.element ∷ c.behind) =
    subst (All (IsBefore (2 ^ 63))) c.from (may.times x.input [] inside) in
    let place : length c.before < length (c.before ++ x.element ∷ c.behind) = omega (arith, length-append c.before (x.element ∷ c.behind)) in
    subst (IsBefore (2 ^ 63)) (get_or_at c.before x.element c.behind End (length c.before) refl) (all (length c.before) End place)

pub arrivals_follow : ArrivalsMayFollow → (lists : List (List Element)) → MayArrive lists → EachMayFollow (merge lists)
arrivals_follow law lists may n x h =
    let all = merge lists in
    law lists may.whole (take n all) (drop (n + 1) all) (get_or all n x)
    (sym (take-append-drop n all) ∙ ap (λ (back : List Arrival). take n all ++ back) (drop_more all n x h))
