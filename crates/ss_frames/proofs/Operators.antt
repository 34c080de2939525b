-- The operators of a plan, and their snapshots.
use Rattle.std.proofs.Common.{◌≡◌, ℕ, ◌<◌, ◌≤◌, List, length, Option, Some, None, refl, sym, ap, ◌∙◌, subst, ⊎_elim, arith, length-take-le}
use Rattle.std.proofs.lemmas.Bool.{cases_lt}
use Rattle.std.proofs.lemmas.Option.{slice_get_past}
use Rattle.std.specs.List.{slice_get}
use Rattle.std.specs.Option.{option_and_then, option_map_or}
use Rattle.ss_expr.specs.Operators.{operator_of}
use Rattle.ss_expr.specs.declared.stream_operator.Spec.{Spec}
use Rattle.ss_expr.specs.declared.stream_operator.Spec.TheVariants as spec
use Rattle.ss_job.specs.Format.{fewest_inputs, most_inputs}
use Rattle.ss_job.specs.JobText.{VertexText, source, inner, sink, op_of_spec, spec_of, spec_of_vertex}
use Rattle.ss_job.specs.Sound.{IsFrom, IsSpec, IsVertex}
use Rattle.ss_meaning.specs.Emit.{output}
use Rattle.ss_meaning.specs.Meaning.{Vertex, Inner, reads, vertex, merged}
use Rattle.ss_meaning.specs.Positions.{mlen, mlen_of, out, out_of}
use Rattle.ss_plan.specs.Laws.{VerticesByNumber}
use Rattle.ss_plan.specs.Limit.{IsPlan}
use Rattle.ss_plan.specs.Plan.{PlanText, inputs_read, vertex_at, vertices_of, source_list}
use Rattle.ss_frames.specs.Frames.{frame_after, accepted, inputs_at, no_frame, frame_of}
use Rattle.ss_frames.specs.Laws.{FramesAreMeant}
use Rattle.ss_frames.specs.Within.{IsOfMeaning}
use Rattle.ss_frames.proofs.Vertices.{Stands, stands}
use Rattle.ss_frames.proofs.Numbers.{inputs_are}

-- what stands under the number of an operator
pub record IsOperatorAt (plan : PlanText) (v : ℕ) (operator : Spec) : Type 0 where
  pub within : v < length plan.job.graph
  pub names : List ℕ
  pub vertex : vertex (vertices_of plan) v ≡ Inner (operator_of operator) names
  pub sound : IsSpec operator
  pub least : 1 ≤ inputs_at plan v
  pub fewest : fewest_inputs (op_of_spec operator) ≤ inputs_at plan v
  pub most : inputs_at plan v ≤ 8

few_inputs : (s : Spec) (n : ℕ) → IsFrom (fewest_inputs (op_of_spec s)) (most_inputs (op_of_spec s)) n → (1 ≤ n) × (n ≤ 8)
few_inputs (spec.Select test a b c d) n h = let least = h.least_of in let most = h.most_of in (omega (arith, least), omega (arith, most))
few_inputs spec.Union n h = let least = h.least_of in let most = h.most_of in (omega (arith, least), omega (arith, most))
few_inputs (spec.Window size hop agg of) n h = let least = h.least_of in let most = h.most_of in (omega (arith, least), omega (arith, most))
few_inputs spec.Join n h = let least = h.least_of in let most = h.most_of in (omega (arith, least), omega (arith, most))
few_inputs (spec.Session gap agg of) n h = let least = h.least_of in let most = h.most_of in (omega (arith, least), omega (arith, most))
few_inputs spec.Except n h = let least = h.least_of in let most = h.most_of in (omega (arith, least), omega (arith, most))

by_text : VerticesByNumber → (plan : PlanText) → IsPlan plan → (v : ℕ) → v < length plan.job.graph → (st : Stands plan v) (text : VertexText) (operator : Spec)
    → st.text ≡ text → spec_of_vertex text ≡ Some operator → IsOperatorAt plan v operator
by_text law plan is v inside st (source file late) operator same e = cc
by_text law plan is v inside st (inner s policy) operator same e =
    let one : s ≡ operator = cc in
    let sound : IsVertex st.role st.node (inner operator policy) =
    subst (λ (t : VertexText). IsVertex st.role st.node t) (same ∙ ap (λ (u : Spec). inner u policy) one) st.sound in
    let width = inputs_are law plan is v st in
    let few = few_inputs operator st.node.width sound.inputs in
    let low = sound.inputs.least_of in
    record {
      within = inside;
      names = inputs_read st.node;
      vertex = st.vertex ∙ ap (λ (t : VertexText). vertex_at st.node t (source_list plan v)) (same ∙ ap (λ (u : Spec). inner u policy) one);
      sound = sound.sound.0;
      least = omega (arith, width, few.0);
      fewest = omega (arith, width, low);
      most = omega (arith, width, few.1);
    }
by_text law plan is v inside st (sink file) operator same e = cc

pub is_operator : VerticesByNumber → (plan : PlanText) → IsPlan plan → (v : ℕ) (operator : Spec) → spec_of plan.job v ≡ Some operator → IsOperatorAt plan v operator
is_operator law plan is v operator e = ⊎_elim here past (cases_lt v (length plan.job.graph))
  where
    here : v < length plan.job.graph → IsOperatorAt plan v operator
    here inside =
        let st = stands law plan is v inside in
        let said : spec_of_vertex st.text ≡ Some operator = sym (ap (option_and_then spec_of_vertex) st.text_is) ∙ e in
        by_text law plan is v inside st st.text operator refl said

    past : length plan.job.graph ≤ v → IsOperatorAt plan v operator
    past far =
        let none : slice_get plan.job.vertices v ≡ None = slice_get_past plan.job.vertices v (omega (arith, far, is.job.vertices)) in
        let both : None ≡ Some operator = sym (ap (option_and_then spec_of_vertex) none) ∙ e in
        cc

-- ---- snapshots

pub frame_is : (plan : PlanText) (v n : ℕ) (operator : Spec) → spec_of plan.job v ≡ Some operator
    → frame_of plan v n ≡ frame_after v operator (inputs_at plan v) (accepted plan v n)
unfolding frame_of
frame_is plan v n operator e =
    ap (λ (o : Option Spec). option_map_or (λ s. frame_after v s (inputs_at plan v) (accepted plan v n)) o no_frame) e

-- as many elements arrive at an operator as it takes
pub mlen_is : (plan : PlanText) (v : ℕ) (operator : Spec) → IsOperatorAt plan v operator → mlen (vertices_of plan) v ≡ length (merged (vertices_of plan) v)
mlen_is plan v operator o = ap (λ (x : Vertex). mlen_of x (vertices_of plan) v) o.vertex

pub out_is : (plan : PlanText) (v n : ℕ) (operator : Spec) (o : IsOperatorAt plan v operator)
    → length (output (operator_of operator) (inputs_at plan v) (accepted plan v n)) ≡ out (vertices_of plan) v n
out_is plan v n operator o =
    ap (λ (x : Vertex). length (output (operator_of operator) (length (reads x)) (accepted plan v n))) o.vertex
    ∙ sym (ap (λ (x : Vertex). out_of x (vertices_of plan) v n) o.vertex)

pub frames_are_meant : VerticesByNumber → FramesAreMeant
unfolding frame_after
frames_are_meant law plan is v n operator e h =
    let o = is_operator law plan is v operator e in
    let made : IsOfMeaning plan v n operator (frame_after v operator (inputs_at plan v) (accepted plan v n)) = record {
      vertex = refl;
      taken = length-take-le n (merged (vertices_of plan) v) (omega (arith, h, mlen_is plan v operator o));
      out = out_is plan v n operator o;
      op = refl;
      width = refl;
      pos = refl;
    } in
    subst (IsOfMeaning plan v n operator) (sym (frame_is plan v n operator e)) made
