-- An operator of a plan, and where one stands that is at work.
use Rattle.std.proofs.Common.{◌≡◌, ℕ, ◌<◌, ◌≤◌, List, [], length, get_or, All, Option, Some, None, option_map, refl, sym, ap, ◌∙◌, subst, arith}
use Rattle.std.proofs.lemmas.List.FromFn.{length-map-range_with_len}
use Rattle.std.proofs.lemmas.Option.{slice_get-get_or, slice_get_within}
use Rattle.std.specs.List.{slice_get}
use Rattle.std.specs.Borrow.{Bor}
use Rattle.std.specs.Option.{option_and_then}
use Rattle.ss_expr.specs.Operators.{operator_of, IsComputable}
use Rattle.ss_expr.specs.declared.stream_operator.Spec.{Spec}
use Rattle.ss_expr.specs.declared.stream_operator.Spec.TheVariants as spec
use Rattle.ss_fail.specs.declared.role.Role.{Role}
use Rattle.ss_frames.specs.Frames.{accepted, inputs_at}
use Rattle.ss_job.specs.JobText.{JobText, VertexText, source, inner, sink, spec_of, spec_of_vertex}
use Rattle.ss_job.specs.Sound.{IsSpec, IsVertex}
use Rattle.ss_job.specs.declared.policy.Policy.{Policy}
use Rattle.ss_meaning.specs.Entries.{Entries, entries_after}
use Rattle.ss_meaning.specs.Jobs.{MayStand, Takes}
use Rattle.ss_meaning.specs.Jobs as meant
use Rattle.ss_meaning.specs.Low.{low}
use Rattle.ss_meaning.specs.Meaning.{Vertex, Inner, reads, vertex}
use Rattle.ss_merge.specs.Merging.{MergerState, merger_after}
use Rattle.ss_oper.specs.Standing.{OperState, StandsBeforeAll}
use Rattle.ss_plan.specs.Laws.{PlansMeanJobs, VerticesByNumber}
use Rattle.ss_plan.specs.Limit.{IsPlan}
use Rattle.ss_plan.specs.Plan.{PlanText, vertices_of, inputs_read}
use Rattle.ss_vertex.specs.Inst.{OperatorState}
use Rattle.ss_vertex.specs.Kept.{OperatesAt, operator_kept}
use Rattle.ss_vertex.specs.Standing.{operator_after}
use Rattle.ss_vertex.specs.declared.operating.Operating.{Operating}
use Rattle.ss_water.specs.declared.node.Kind.TheVariants as kind
use Rattle.ss_water.specs.declared.node.Node.{Node}

-- vertex v of a plan is an operator
pub record Operator (plan : PlanText) (v : ℕ) (s : Spec) : Type 0 where
  pub node : Node
  pub node_is : slice_get plan.job.graph v ≡ Some node
  pub inside : v < length (vertices_of plan)
  pub is : vertex (vertices_of plan) v ≡ Inner (operator_of s) (reads (vertex (vertices_of plan) v))
  pub inputs : inputs_at plan v ≡ node.width
  pub computable : IsComputable s
  pub some : 1 ≤ node.width
  pub few : node.width ≤ 8
  pub takes : Takes (operator_of s) (inputs_at plan v)
  pub earlier : All (λ u. u < v) (reads (vertex (vertices_of plan) v))
  pub job : meant.IsJob (vertices_of plan)

spec_at : (o : Option VertexText) (s : Spec) → option_and_then spec_of_vertex o ≡ Some s → (policy : Policy) × (o ≡ Some (inner s policy))
spec_at None s e = cc
spec_at (Some (source file late)) s e = cc
spec_at (Some (inner t policy)) s e = let same : t ≡ s = cc in (policy, ap (λ (u : Spec). Some (inner u policy)) same)
spec_at (Some (sink file)) s e = cc

computable : (s : Spec) → IsSpec s → IsComputable s
computable (spec.Select test a b c d) h = h
computable spec.Union h = tt
computable (spec.Window size hop agg of) h = record {
  least_hop = h.hop_of.least_of;
  most_hop = h.hop_of.most_of;
  least_size = h.size_of.least_of;
  most_size = h.size_of.most_of;
  whole = h.multiple;
}
computable spec.Join h = tt
computable (spec.Session gap agg of) h = record { least = h.least_of; most = h.most_of }
computable spec.Except h = tt

some_input : (s : Spec) (role : Role) (node : Node) (policy : Policy) → IsVertex role node (inner s policy) → 1 ≤ node.width
some_input (spec.Select test a b c d) role node policy h = h.inputs.least_of
some_input spec.Union role node policy h = let least = h.inputs.least_of in omega (arith, least)
some_input (spec.Window size hop agg of) role node policy h = h.inputs.least_of
some_input spec.Join role node policy h = let least = h.inputs.least_of in omega (arith, least)
some_input (spec.Session gap agg of) role node policy h = h.inputs.least_of
some_input spec.Except role node policy h = let least = h.inputs.least_of in omega (arith, least)

reads_same : (x : Vertex) (s : Spec) (ins : List ℕ) → x ≡ Inner (operator_of s) ins → x ≡ Inner (operator_of s) (reads x)
reads_same x s ins e = e ∙ ap (Inner (operator_of s)) (sym (ap reads e))

pub operator : VerticesByNumber → PlansMeanJobs → (plan : PlanText) → IsPlan plan → (v : ℕ) (s : Spec) → spec_of plan.job v ≡ Some s
    → Operator plan v s
operator by_number mean plan is_plan v s e =
    let text = spec_at (slice_get plan.job.vertices v) s e in
    let text_is : slice_get plan.job.vertices v ≡ Some (inner s text.0) = text.1 in
    let in_texts = slice_get_within plan.job.vertices v (inner s text.0) text_is in
    let job = is_plan.job in
    let same = job.vertices in
    let roles = job.roles in
    let in_graph : v < length plan.job.graph = omega arith in
    let in_roles : v < length plan.job.roles = omega arith in
    let no_node : Node = record { kind = kind.Sink; inputs = []; width = 0 } in
    let no_role : Role = record { name = []; kind = kind.Sink; replicas = 0 } in
    let node : Node = get_or plan.job.graph v no_node in
    let role : Role = get_or plan.job.roles v no_role in
    let node_is : slice_get plan.job.graph v ≡ Some node = slice_get-get_or plan.job.graph v no_node in_graph in
    let role_is : slice_get plan.job.roles v ≡ Some role = slice_get-get_or plan.job.roles v no_role in_roles in
    let sound = job.each v role node (inner s text.0) role_is node_is text_is in
    let all = by_number plan job in
    let count = all.count in
    let inside : v < length (vertices_of plan) = omega arith in
    let is : vertex (vertices_of plan) v ≡ Inner (operator_of s) (reads (vertex (vertices_of plan) v)) =
    reads_same (vertex (vertices_of plan) v) s (inputs_read node) (all.each v node (inner s text.0) node_is text_is) in
    let meaning_job = mean plan job is_plan.lists in
    let may : MayStand v (Inner (operator_of s) (reads (vertex (vertices_of plan) v))) =
    subst (MayStand v) is (meaning_job.each v inside) in
    record {
      node = node;
      node_is = node_is;
      inside = inside;
      is = is;
      inputs = ap (λ (x : Vertex). length (reads x)) (all.each v node (inner s text.0) node_is text_is)
          ∙ length-map-range_with_len (λ i. get_or node.inputs i 0) 0 node.width;
      computable = computable s sound.sound.0;
      some = some_input s role node text.0 sound;
      few = (job.graph.linked v node node_is).width;
      takes = may.0;
      earlier = may.1;
      job = meaning_job;
    }

-- an operator at work is that of its vertex, and where it stands
pub record AtWork (plan : PlanText) (v : ℕ) (o : Operating) : Type 0 where
  pub s : Spec
  pub spec : spec_of plan.job v ≡ Some s
  pub merger : o.merger ≡ merger_after (inputs_at plan v) (accepted plan v o.n)
  pub oper_spec : o.oper.spec ≡ s
  pub low : o.oper.low ≡ low (inputs_at plan v) (accepted plan v o.n)
  pub entries : o.oper.entries ≡ entries_after (operator_of s) (inputs_at plan v) (accepted plan v o.n)

at_work_by : (q : Option Spec) (f : Spec → OperatorState) (k : OperatorState) → Some k ≡ option_map f q → (s : Spec) × (q ≡ Some s) × (k ≡ f s)
at_work_by None f k e = cc
at_work_by (Some s) f k e = (s, refl, cc)

pub at_work : (plan : PlanText) (v : ℕ) (o : Operating) → OperatesAt plan v o → AtWork plan v o
at_work plan v o e =
    let found = at_work_by (spec_of plan.job v) (operator_after (inputs_at plan v) (accepted plan v o.n)) (operator_kept o) e in
    record {
      s = found.0;
      spec = found.1;
      merger = ap (λ (k : OperatorState). k.merger) found.2;
      oper_spec = ap (λ (k : OperatorState). k.oper.spec) found.2;
      low = ap (λ (k : OperatorState). k.oper.low) found.2;
      entries = ap (λ (k : OperatorState). k.oper.entries) found.2;
    }

-- what is equal in its parts is the operator where it stands
abbrev pub state_of : MergerState → OperState → OperatorState
state_of m o = record { merger = m; oper = o }

state_is : (k : OperatorState) (m : MergerState) (o : OperState) → k.merger ≡ m → k.oper ≡ o → k ≡ state_of m o
state_is k m o e f = ap (λ (x : MergerState). state_of x k.oper) e ∙ ap (state_of m) f

abbrev pub oper_of : Spec → ℕ → Entries → OperState
oper_of s low entries = record { spec = s; low = low; entries = entries }

pub oper_is : (k o : OperState) → k.spec ≡ o.spec → k.low ≡ o.low → k.entries ≡ o.entries → k ≡ o
oper_is k o e f g =
    ap (λ (s : Spec). oper_of s k.low k.entries) e ∙ ap (λ l. oper_of o.spec l k.entries) f ∙ ap (oper_of o.spec o.low) g

pub operates : (plan : PlanText) (v : ℕ) (s : Spec) (o : Operating) → spec_of plan.job v ≡ Some s
    → o.merger ≡ merger_after (inputs_at plan v) (accepted plan v o.n) → o.oper.spec ≡ s
    → o.oper.low ≡ low (inputs_at plan v) (accepted plan v o.n)
    → o.oper.entries ≡ entries_after (operator_of s) (inputs_at plan v) (accepted plan v o.n)
    → OperatesAt plan v o
operates plan v s o spec merger oper_spec low_is entries =
    let there : OperatorState = operator_after (inputs_at plan v) (accepted plan v o.n) s in
    let oper : o.oper ≡ there.oper = oper_is o.oper there.oper oper_spec low_is entries in
    ap (λ (k : OperatorState). Some k) (state_is (operator_kept o) there.merger there.oper merger oper)
    ∙ sym (ap (option_map (operator_after (inputs_at plan v) (accepted plan v o.n))) spec)

-- the spec that the job's reader gives is the one of the plan
pub spec_found : (job there : JobText) (v : ℕ) (found : Option (Bor Spec)) (s : Bor Spec) → there ≡ job
    → option_map (λ (r : Bor Spec). r.now) found ≡ spec_of there v → found ≡ Some s → spec_of job v ≡ Some s.now
spec_found job there v found s same is some =
    ap (λ (j : JobText). spec_of j v) (sym same) ∙ sym is ∙ ap (option_map (λ (r : Bor Spec). r.now)) some

pub no_spec_found : (job there : JobText) (v : ℕ) (found : Option (Bor Spec)) → there ≡ job
    → option_map (λ (r : Bor Spec). r.now) found ≡ spec_of there v → found ≡ None → spec_of job v ≡ None
no_spec_found job there v found same is none =
    ap (λ (j : JobText). spec_of j v) (sym same) ∙ sym is ∙ ap (option_map (λ (r : Bor Spec). r.now)) none

pub some_same : (s t : Spec) → Some s ≡ Some t → s ≡ t
some_same s t e = cc

-- the node that the graph's reader gives is as wide as the vertex has inputs
pub node_found : (plan : PlanText) (v : ℕ) (s : Spec) (o : Operator plan v s) (there : JobText) (graph : List Node) (node : Node)
    → there ≡ plan.job → graph ≡ there.graph → slice_get graph v ≡ Some node → node.width ≡ inputs_at plan v
node_found plan v s o there graph node same of at =
    let two : Some node ≡ Some o.node =
    sym at ∙ ap (λ (g : List Node). slice_get g v) (of ∙ ap (λ (j : JobText). j.graph) same) ∙ o.node_is in
    let one : node ≡ o.node = cc in
    ap (λ (n : Node). n.width) one ∙ sym o.inputs

-- before any element
pub fresh_operates : (plan : PlanText) (v : ℕ) (s : Spec) (w : ℕ) (merger : MergerState) (oper : OperState) → spec_of plan.job v ≡ Some s
    → Operator plan v s → w ≡ inputs_at plan v → merger ≡ merger_after w [] → oper.spec ≡ s → StandsBeforeAll oper
    → OperatesAt plan v (record { n = 0; merger = merger; oper = oper })
fresh_operates plan v s w merger oper spec o width at oper_spec stands =
    let some = o.some in
    let inputs = o.inputs in
    let there = stands (inputs_at plan v) (omega arith) in
    let new : Operating = record { n = 0; merger = merger; oper = oper } in
    operates plan v s new spec (at ∙ ap (λ k. merger_after k []) width) oper_spec there.low
    (there.entries ∙ ap (λ (t : Spec). entries_after (operator_of t) (inputs_at plan v) []) oper_spec)
