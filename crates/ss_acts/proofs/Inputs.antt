-- The inputs of an operator are those of its node.
use Rattle.std.proofs.Common.{◌≡◌, ℕ, ◌<◌, true, List, [], length, get_or, Some, refl, sym, ap, ◌∙◌, arith}
use Rattle.std.proofs.lemmas.List.{length-map}
use Rattle.std.proofs.lemmas.List.FromFn.{get_or-map-range_with_len, length-range_with_len}
use Rattle.std.proofs.lemmas.Option.{slice_get-get_or, slice_get_within}
use Rattle.std.specs.List.{range_with_len}
use Rattle.std.specs.Prelude.{slice_get, slice_index}
use Rattle.ss_acts.specs.Parts.{vertex_of}
use Rattle.ss_elem.specs.declared.element.Element.{Element}
use Rattle.ss_frames.specs.Plans.{plan_numbers, AreOfPlan}
use Rattle.ss_job.specs.JobText.{VertexText, source, inner, sink}
use Rattle.ss_meaning.specs.Meaning.{reads}
use Rattle.ss_plan.specs.Laws.{VerticesByNumber}
use Rattle.ss_plan.specs.Plan.{PlanText, inputs_read, source_list, vertex_at}
use Rattle.ss_state.specs.Numbers.{IsOperator, input, is_inner}
use Rattle.ss_state.specs.NumbersOfMeaning.{kind_of}
use Rattle.ss_vault.specs.Facts.{PlanFacts}
use Rattle.ss_water.specs.declared.node.Node.{Node}

operator_reads : (node : Node) (text : VertexText) (list : List Element) → is_inner (kind_of (vertex_at node text list)) ≡ true
    → reads (vertex_at node text list) ≡ inputs_read node
operator_reads node (source file late) list h = absurd cc
operator_reads node (inner s policy) list h = refl
operator_reads node (sink file) list h = absurd cc

inputs_are : VerticesByNumber → (plan : PlanText) → PlanFacts plan → AreOfPlan plan (plan_numbers plan) → (v : ℕ) (node : Node)
    → IsOperator (plan_numbers plan) v → slice_get plan.job.graph v ≡ Some node → (vertex_of plan v).inputs ≡ inputs_read node
inputs_are law plan facts of_plan v node operator node_is =
    let here : v < length plan.job.graph = slice_get_within plan.job.graph v node node_is in
    let job = facts.is.job in
    let text : VertexText = get_or plan.job.vertices v (sink []) in
    let text_is = slice_get-get_or plan.job.vertices v (sink []) (let n = job.vertices in omega (arith, here, n)) in
    let at = (law plan job).each v node text node_is text_is in
    let meant = of_plan.meant v here in
    meant.inputs ∙ ap reads at
    ∙ operator_reads node text (source_list plan v) (sym (ap is_inner (meant.kind ∙ ap kind_of at)) ∙ operator.1)

-- how many there are
pub width_is : VerticesByNumber → (plan : PlanText) → PlanFacts plan → AreOfPlan plan (plan_numbers plan) → (v : ℕ) (node : Node)
    → IsOperator (plan_numbers plan) v → slice_get plan.job.graph v ≡ Some node → length (vertex_of plan v).inputs ≡ node.width
width_is law plan facts of_plan v node operator node_is =
    ap (λ (xs : List ℕ). length xs) (inputs_are law plan facts of_plan v node operator node_is)
    ∙ length-map (range_with_len 0 node.width) (λ i. slice_index node.inputs i)
    ∙ length-range_with_len 0 node.width

-- and which each is
pub input_is : VerticesByNumber → (plan : PlanText) → PlanFacts plan → AreOfPlan plan (plan_numbers plan) → (v i : ℕ) (node : Node)
    → IsOperator (plan_numbers plan) v → slice_get plan.job.graph v ≡ Some node → i < length (vertex_of plan v).inputs
    → slice_index node.inputs i ≡ input (vertex_of plan v) i
input_is law plan facts of_plan v i node operator node_is within =
    let width = width_is law plan facts of_plan v node operator node_is in
    sym (ap (λ (xs : List ℕ). get_or xs i 0) (inputs_are law plan facts of_plan v node operator node_is)
    ∙ get_or-map-range_with_len (λ k. slice_index node.inputs k) 0 node.width i i 0 (omega (arith, within, width)) (omega arith))
