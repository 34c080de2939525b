-- What the laws of frames say of a plan's snapshots.
use Rattle.std.proofs.Common.{◌≡◌, ℕ, ◌+◌, ◌-◌, ◌<◌, true, false, List, length, replicate, Option, Some, None, refl, sym, ap, ap₂, ◌∙◌, subst, arith, ⊎_elim}
use Rattle.std.proofs.lemmas.Bool.{cases_lt, true≢false}
use Rattle.std.proofs.Math.ListN.{get_or-append}
use Rattle.std.proofs.lemmas.List.{get_or-map, get_or_past, length-map}
use Rattle.std.proofs.lemmas.List.FromFn.{get_or-range_with_len, length-range_with_len}
use Rattle.std.specs.List.{range_with_len}
use Rattle.std.specs.Prelude.{IsSome, slice_index}
use Rattle.ss_codec.specs.declared.frame.Frame.{Frame}
use Rattle.ss_expr.specs.declared.stream_operator.Spec.{Spec}
use Rattle.ss_frames.specs.First.{first_frame}
use Rattle.ss_frames.specs.Frames.{frame_of, padded}
use Rattle.ss_frames.specs.Laws.{FirstFrames, FramesAreMeant, FramesHaveCodes, InputsAreOfNodes, PlanNumbersAreMeant, WithinIsMayAccept}
use Rattle.ss_frames.specs.Plans.{AreOfPlan, plan_numbers}
use Rattle.ss_frames.specs.Within.{AreKept, IsOfMeaning, IsWithin}
use Rattle.ss_job.specs.JobText.{spec_of}
use Rattle.ss_plan.specs.Limit.{IsPlan}
use Rattle.ss_meaning.specs.Meaning.{Vertex, reads}
use Rattle.ss_meaning.specs.Meaning.{vertex as meant_vertex}
use Rattle.ss_meaning.specs.Positions as position
use Rattle.ss_meaning.specs.Positions.{positions}
use Rattle.ss_plan.specs.Plan.{PlanText, vertices_of}
use Rattle.ss_state.specs.Joint.{MayAccept}
use Rattle.ss_state.specs.Numbers.{JobNumbers, VertexNumbers, IsOperator, IsStream, is_inner, no_vertex, vertex}
use Rattle.ss_water.specs.Graph.{is_sink}
use Rattle.ss_water.specs.declared.node.Kind.{Kind}
use Rattle.ss_water.specs.declared.node.Kind.TheVariants.{Source, Inner, Sink}
use Rattle.ss_vault.specs.Facts.{IsCoded, SnapshotFacts}

inner_gives : (k : Kind) → is_inner k ≡ true → is_sink k ≡ false
inner_gives Source h = refl
inner_gives Inner h = refl
inner_gives Sink h = absurd cc

pub gives : (job : JobNumbers) (v : ℕ) → IsOperator job v → IsStream job v
gives job v operator = (operator.0, inner_gives (vertex job v).kind operator.1)

in_job : (job : JobNumbers) (v : ℕ) → is_inner (vertex job v).kind ≡ true → v < length job.vertices
in_job job v inner = ⊎_elim
    (λ within. within)
    (λ past. absurd (true≢false (sym inner ∙ ap (λ (x : VertexNumbers). is_inner x.kind) (get_or_past job.vertices v no_vertex past))))
    (cases_lt v (length job.vertices))

some_spec : (o : Option Spec) → IsSome o → (s : Spec) × (o ≡ Some s)
some_spec None h = absurd cc
some_spec (Some s) h = (s, refl)

-- the positions of a snapshot, by input
positions_at : (job : List Vertex) (v n i : ℕ) → i < length (reads (meant_vertex job v)) → slice_index (padded (positions job v n)) i ≡ position.pos job v n i
positions_at job v n i within =
    let count : ℕ = length (reads (meant_vertex job v)) in
    let range = length-range_with_len 0 count in
    let long = length-map (range_with_len 0 count) (position.pos job v n) in
    get_or-append (positions job v n) (replicate (8 - length (positions job v n)) 0) 0 i (omega (arith, within, range, long))
    ∙ get_or-map (position.pos job v n) (range_with_len 0 count) i 0 0 (omega (arith, within, range))
    ∙ ap (position.pos job v n) (get_or-range_with_len 0 count i 0 within ∙ (let e : 0 + i ≡ i = omega arith in e))

pub snapshot_facts : PlanNumbersAreMeant → InputsAreOfNodes → FirstFrames → FramesAreMeant → FramesHaveCodes → WithinIsMayAccept
    → (plan : PlanText) → IsPlan plan → SnapshotFacts plan
snapshot_facts are_meant inputs firsts frames_meant codes within_law plan is = record {
  coded = coded;
  operator = λ f snap. is_operator f.v snap.operator;
  accepted = λ f snap. (within_law plan is f.v f.n (gives job f.v (is_operator f.v snap.operator))).0 snap.within;
  snapshot = λ v n operator accepted kept.
      let x = coded v n operator accepted in
      let f : Frame = frame_of plan v n in
      record {
        operator = subst (λ (i : ℕ). IsSome (spec_of plan.job i)) (sym x.of_vertex) ((of_plan.operators v).0 operator.1);
        frame = sym (ap₂ (frame_of plan) x.of_vertex x.number);
        within = subst (λ (i : ℕ). IsWithin plan i f.n) (sym x.of_vertex)
            (subst (λ (k : ℕ). IsWithin plan v k) (sym x.number) (within v n operator accepted));
        kept = subst (λ (i : ℕ). AreKept plan i f.n) (sym x.of_vertex) (subst (λ (k : ℕ). AreKept plan v k) (sym x.number) kept);
      };
  first = λ v operator node has at. firsts plan is v operator has ∙ ap (first_frame v operator) (inputs plan is v node at);
}
  where
    job : JobNumbers
    job = plan_numbers plan

    of_plan : AreOfPlan plan (plan_numbers plan)
    of_plan = are_meant plan is

    is_operator : (v : ℕ) → IsSome (spec_of plan.job v) → IsOperator (plan_numbers plan) v
    is_operator v some = let inner = (of_plan.operators v).1 some in (in_job (plan_numbers plan) v inner, inner)

    within : (v n : ℕ) → IsOperator (plan_numbers plan) v → MayAccept (plan_numbers plan).max_elements (vertex (plan_numbers plan) v) n → IsWithin plan v n
    within v n operator accepted = (within_law plan is v n (gives (plan_numbers plan) v operator)).1 accepted

    coded : (v n : ℕ) → IsOperator (plan_numbers plan) v → MayAccept (plan_numbers plan).max_elements (vertex (plan_numbers plan) v) n → IsCoded plan v n (frame_of plan v n)
    coded v n operator accepted =
        let some = (of_plan.operators v).0 operator.1 in
        let spec = some_spec (spec_of plan.job v) some in
        let inside : IsWithin plan v n = within v n operator accepted in
        let code = codes plan is v n some inside in
        let f : IsOfMeaning plan v n spec.0 (frame_of plan v n) = frames_meant plan is v n spec.0 spec.1 inside.taken in
        let there = operator.0 in
        let count = of_plan.count in
        let x = of_plan.meant v (omega (arith, there, count)) in
        record {
          is_frame = code.0;
          few = code.1;
          of_vertex = f.vertex;
          number = f.taken;
          read = λ i below.
              let inputs = ap length x.inputs in
              ap (λ (p : List ℕ). slice_index p i) f.pos ∙ positions_at (vertices_of plan) v n i (omega (arith, below, inputs)) ∙ sym (x.pos operator.1 n i);
          given = f.out ∙ sym (x.out (inner_gives (vertex (plan_numbers plan) v).kind operator.1) n accepted.within);
        }
