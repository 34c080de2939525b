-- An operator's snapshot, and going on from it.
use Rattle.std.proofs.Common.{◌≡◌, ℕ, zero, suc, ◌+◌, ◌-◌, ◌*◌, ◌^◌, ◌<◌, ◌≤◌, List, [], ◌∷◌, length, get_or, take, drop, replicate, All, Option, Some, None, option_map, Ok, IsSome, IsSomeAnd, refl, sym, ap, ◌∙◌, subst, arith, take-append-drop, append-nil}
use Rattle.std.proofs.Math.Nat.{mul-le-mul}
use Rattle.std.proofs.lemmas.List.{get_or-map, get_or-take, take_at, length-take-le}
use Rattle.std.proofs.lemmas.List.FromFn.{get_or-map-range_with_len, length-map-range_with_len}
use Rattle.std.proofs.lemmas.List.Sums.{sum_by-le}
use Rattle.std.specs.List.{slice_get, sum}
use Rattle.std.specs.Option.{option_map_or}
use Rattle.ss_codec.specs.Frame.{IsFrame}
use Rattle.ss_codec.specs.declared.frame.Frame.{Frame}
use Rattle.ss_elem.specs.Validity.{top}
use Rattle.ss_elem.specs.declared.element.Element.{Element}
use Rattle.ss_elem.specs.declared.element.Element.TheVariants.{Row, Cti, End}
use Rattle.ss_expr.specs.Operators.{operator_of}
use Rattle.ss_expr.specs.declared.stream_operator.Spec.{Spec}
use Rattle.ss_frames.specs.Frames.{accepted, inputs_at, op_number, padded, frame_after, frame_of, no_frame}
use Rattle.ss_frames.specs.Laws.{EntriesAreFew, FramesHaveCodes}
use Rattle.ss_frames.specs.Snapshot.{IsSnapshot}
use Rattle.ss_frames.specs.Within.{IsWithin, AreKept, AreFew, entries_at}
use Rattle.ss_image.specs.Images.{image_of}
use Rattle.ss_job.specs.JobText.{spec_of}
use Rattle.ss_meaning.specs.Bound.{bound}
use Rattle.ss_meaning.specs.Emit.{output}
use Rattle.ss_meaning.specs.Entries.{Entries, NoEntries, WindowEntries, JoinRows, SessionEntries, entries_after, entry_count}
use Rattle.ss_meaning.specs.Inputs.{bounds, counts, least_bound}
use Rattle.ss_meaning.specs.Jobs.{IsBefore, Takes}
use Rattle.ss_meaning.specs.Laws.{MeaningIsWhole, MeaningIsEarly, ArrivalsFollow, PositionsAddUp, LowIsTheLeastBound}
use Rattle.ss_meaning.specs.Low.{low}
use Rattle.ss_meaning.specs.Meaning.{reads, vertex, meaning, merged}
use Rattle.ss_meaning.specs.Merge.{Arrival, from_input}
use Rattle.ss_meaning.specs.Positions.{mlen, pos, positions, out}
use Rattle.ss_merge.specs.Merging.{MergerState, merger_after, first_inputs}
use Rattle.ss_oper.specs.Laws.{MayArriveAt, ImagesAreReadAgain}
use Rattle.ss_oper.specs.Standing.{OperState, CountFew, remembered}
use Rattle.ss_plan.specs.Limit.{IsPlan}
use Rattle.ss_plan.specs.Plan.{PlanText, vertices_of}
use Rattle.ss_vertex.specs.Laws.{SnapshotsFit}
use Rattle.ss_vertex.specs.Calls.{entries_in, operator_in, running_in}
use Rattle.ss_vertex.specs.Arriving.{last_given}
use Rattle.ss_vertex.specs.Inst.{OperatorState}
use Rattle.ss_vertex.specs.Standing.{Stands, operator_after}
use Rattle.ss_vertex.proofs.Arrives.{came_at, lists_read, lists_count, whole_lists, input_within, holds_of, mlen_is, out_is}
use Rattle.ss_vertex.proofs.Operators as operators
use Rattle.ss_vertex.proofs.Operators.{Operator}

-- within the limit an operator has accepted few elements

pub few_accepted : PositionsAddUp → (plan : PlanText) → IsPlan plan → (v n : ℕ) (s : Spec) → Operator plan v s → IsWithin plan v n
    → n ≤ 8 * 131072
few_accepted law plan is_plan v n s o h =
    let J = vertices_of plan in
    let most : ℕ = plan.job.max_elements in
    let w : ℕ = inputs_at plan v in
    let few : w ≤ 8 = subst (λ k. k ≤ 8) (sym o.inputs) o.few in
    let count : length (positions J v n) ≡ w = length-map-range_with_len (pos J v n) 0 w in
    let each : All (λ m. m ≤ most) (positions J v n) =
    λ i d k.
    let inside : i < w = omega (arith, k, count) in
    subst (λ m. m ≤ most) (sym (get_or-map-range_with_len (pos J v n) 0 w i i d inside (omega arith))) (h.pos i inside) in
    let below : sum (positions J v n) ≤ length (positions J v n) * most = sum_by-le (λ m. m) most (positions J v n) each in
    let limit : most ≤ 131072 = is_plan.job.max_elements.most_of in
    let one : length (positions J v n) * most ≤ 8 * 131072 = mul-le-mul {n₁ = length (positions J v n)} {m₁ = most} {n₂ = 8} {m₂ = 131072} (omega arith) limit in
    let taken = h.taken in
    let all = mlen_is plan v s o in
    let adds : sum (positions J v n) ≡ n = law J v n (omega arith) in
    omega arith

pub accepted_count : (plan : PlanText) (v n : ℕ) (s : Spec) → Operator plan v s → n ≤ mlen (vertices_of plan) v → length (accepted plan v n) ≡ n
accepted_count plan v n s o h =
    length-take-le n (merged (vertices_of plan) v) (subst (λ m. n ≤ m) (mlen_is plan v s o) h)

-- it remembers few entries, and these count few rows

few_entries : (es : Entries) → AreFew es → entry_count es < 2 ^ 32
few_entries NoEntries h = omega arith
few_entries (WindowEntries es) h = let few = h.0 in omega arith
few_entries (JoinRows left right) h = omega arith
few_entries (SessionEntries es) h = let few = h.0 in omega arith

few_rows : (es : Entries) → AreFew es → CountFew es
few_rows NoEntries h = tt
few_rows (WindowEntries es) h = h.1
few_rows (JoinRows left right) h = tt
few_rows (SessionEntries es) h = h.1

pub few_held : EntriesAreFew → (plan : PlanText) → IsPlan plan → (v n : ℕ) (s : Spec) → spec_of plan.job v ≡ Some s → IsWithin plan v n
    → entry_count (entries_at plan v n s) < 2 ^ 32
few_held law plan is_plan v n s spec h = few_entries (entries_at plan v n s) (law plan is_plan v n s spec h)

pub few_counted : EntriesAreFew → (plan : PlanText) → IsPlan plan → (v n : ℕ) (s : Spec) → spec_of plan.job v ≡ Some s → IsWithin plan v n
    → CountFew (entries_at plan v n s)
few_counted law plan is_plan v n s spec h = few_rows (entries_at plan v n s) (law plan is_plan v n s spec h)

-- what it has accepted leaves room for the ends of windows

earlier : (s t : ℕ) (x : Element) → s ≤ t → IsBefore s x → IsBefore t x
earlier s t (Row row) h k = (omega arith, omega arith)
earlier s t (Cti time) h k = omega arith
earlier s t End h k = tt

accepted_early : MeaningIsWhole → MeaningIsEarly → ArrivalsFollow → (plan : PlanText) (v : ℕ) (s : Spec) → Operator plan v s → (i : ℕ) (y : Arrival)
    → slice_get (merged (vertices_of plan) v) i ≡ Some y → IsBefore (2 ^ 62 + 2 ^ 52) y.element
accepted_early whole_law early follow plan v s o i y at =
    let J = vertices_of plan in
    let ins = reads (vertex J v) in
    let lists = lists_read plan v in
    let c = (came_at follow lists (whole_lists whole_law plan v s o) i y at).0 in
    let within : y.input < length lists = input_within lists y c in
    let count = lists_count plan v in
    let inside : y.input < length ins = omega arith in
    let u : ℕ = get_or ins y.input 0 in
    let below : u < v = o.earlier y.input 0 inside in
    let vertices = o.inside in
    let few = o.job.few in
    let times : All (IsBefore (2 ^ 62 + 2 ^ 47 * u)) (get_or lists y.input []) =
    subst (All (IsBefore (2 ^ 62 + 2 ^ 47 * u))) (sym (get_or-map (meaning J) ins y.input 0 [] inside)) (early J o.job u (omega arith)) in
    earlier (2 ^ 62 + 2 ^ 47 * u) (2 ^ 62 + 2 ^ 52) y.element (omega arith)
    (holds_of (IsBefore (2 ^ 62 + 2 ^ 47 * u)) (get_or lists y.input []) c.before c.behind y.element c.from times)

may_arrive : MeaningIsWhole → MeaningIsEarly → ArrivalsFollow → (plan : PlanText) (v n : ℕ) (s : Spec) → Operator plan v s → AreKept plan v n
    → All MayArriveAt (accepted plan v n)
may_arrive whole_law early follow plan v n s o kept i d k =
    let all = merged (vertices_of plan) v in
    let y : Arrival = get_or (take n all) i d in
    record {
      kept = kept i d k;
      early = accepted_early whole_law early follow plan v s o i y (taken_at all n i d k);
    }
  where
    taken_at : (xs : List Arrival) (n i : ℕ) (d : Arrival) → i < length (take n xs) → slice_get xs i ≡ Some (get_or (take n xs) i d)
    taken_at xs zero i d h = absurd (omega arith)
    taken_at [] (suc n) i d h = absurd (omega arith)
    taken_at (x ∷ xs) (suc n) zero d h = refl
    taken_at (x ∷ xs) (suc n) (suc i) d h = taken_at xs n i d (omega arith)

-- so its image is read again

pub entries_again : ImagesAreReadAgain → MeaningIsWhole → MeaningIsEarly → ArrivalsFollow → PositionsAddUp → EntriesAreFew
    → (plan : PlanText) → IsPlan plan → (v n : ℕ) (s : Spec) → Operator plan v s → spec_of plan.job v ≡ Some s
    → IsWithin plan v n → AreKept plan v n
    → remembered s (bounds (inputs_at plan v) (accepted plan v n)) (image_of (entries_at plan v n s)) ≡ Ok (entries_at plan v n s)
entries_again again whole_law early follow adds few plan is_plan v n s o spec within kept =
    let kind = operator_of s in
    let lists = lists_read plan v in
    let p = accepted plan v n in
    let all = merged (vertices_of plan) v in
    let n_few : n ≤ 8 * 131072 = few_accepted adds plan is_plan v n s o within in
    let count = accepted_count plan v n s o within.taken in
    let law = again s lists p (drop n all) o.computable in
    let P : ℕ → Type 0 = λ w. Takes kind w → entry_count (entries_after kind w p) < 2 ^ 32 → remembered s (bounds w p) (image_of (entries_after kind w p)) ≡ Ok (entries_after kind w p) in
    let there : P (length lists) =
    λ takes held. law takes (whole_lists whole_law plan v s o) (sym (take-append-drop n all)) (may_arrive whole_law early follow plan v n s o kept) (omega arith) held in
    subst P (lists_count plan v) there o.takes (few_held few plan is_plan v n s spec within)

-- a frame and its parts

pub frame_is : (plan : PlanText) (v n : ℕ) (s : Spec) → spec_of plan.job v ≡ Some s
    → frame_of plan v n ≡ frame_after v s (inputs_at plan v) (accepted plan v n)
unfolding frame_of
frame_is plan v n s e = ap (λ (o : Option Spec). option_map_or (λ (t : Spec). frame_after v t (inputs_at plan v) (accepted plan v n)) o no_frame) e

pub after_n : (v : ℕ) (s : Spec) (w : ℕ) (p : List Arrival) → (frame_after v s w p).n ≡ length p
unfolding frame_after
after_n v s w p = refl

after_out : (v : ℕ) (s : Spec) (w : ℕ) (p : List Arrival) → (frame_after v s w p).out ≡ length (output (operator_of s) w p)
unfolding frame_after
after_out v s w p = refl

after_width : (v : ℕ) (s : Spec) (w : ℕ) (p : List Arrival) → (frame_after v s w p).width ≡ w
unfolding frame_after
after_width v s w p = refl

after_pos : (v : ℕ) (s : Spec) (w : ℕ) (p : List Arrival) → (frame_after v s w p).pos ≡ padded (counts w p)
unfolding frame_after
after_pos v s w p = refl

after_bounds : (v : ℕ) (s : Spec) (w : ℕ) (p : List Arrival) → (frame_after v s w p).bounds ≡ padded (bounds w p)
unfolding frame_after
after_bounds v s w p = refl

after_image : (v : ℕ) (s : Spec) (w : ℕ) (p : List Arrival) → (frame_after v s w p).image ≡ image_of (entries_after (operator_of s) w p)
unfolding frame_after
after_image v s w p = refl

pub after_v : (v : ℕ) (s : Spec) (w : ℕ) (p : List Arrival) → (frame_after v s w p).v ≡ v
unfolding frame_after
after_v v s w p = refl

after_op : (v : ℕ) (s : Spec) (w : ℕ) (p : List Arrival) → (frame_after v s w p).op ≡ op_number s
unfolding frame_after
after_op v s w p = refl

abbrev frame_with : ℕ → ℕ → ℕ → ℕ → ℕ → List ℕ → List ℕ → List ℕ → Frame
frame_with v n out op width pos bounds image =
    record { v = v; n = n; out = out; op = op; width = width; pos = pos; bounds = bounds; image = image }

frame_same : (f g : Frame) → f.v ≡ g.v → f.n ≡ g.n → f.out ≡ g.out → f.op ≡ g.op → f.width ≡ g.width → f.pos ≡ g.pos
    → f.bounds ≡ g.bounds → f.image ≡ g.image → f ≡ g
frame_same f g a b c d e h i j =
    ap (λ v. frame_with v f.n f.out f.op f.width f.pos f.bounds f.image) a
    ∙ ap (λ n. frame_with g.v n f.out f.op f.width f.pos f.bounds f.image) b
    ∙ ap (λ o. frame_with g.v g.n o f.op f.width f.pos f.bounds f.image) c
    ∙ ap (λ o. frame_with g.v g.n g.out o f.width f.pos f.bounds f.image) d
    ∙ ap (λ w. frame_with g.v g.n g.out g.op w f.pos f.bounds f.image) e
    ∙ ap (λ (ps : List ℕ). frame_with g.v g.n g.out g.op g.width ps f.bounds f.image) h
    ∙ ap (λ (bs : List ℕ). frame_with g.v g.n g.out g.op g.width g.pos bs f.image) i
    ∙ ap (frame_with g.v g.n g.out g.op g.width g.pos g.bounds) j

pub frame_parts : (v : ℕ) (s : Spec) (w : ℕ) (p : List Arrival) (f : Frame) → f.v ≡ v → f.n ≡ length p → f.out ≡ length (output (operator_of s) w p)
    → f.op ≡ op_number s → f.width ≡ w → f.pos ≡ padded (counts w p) → f.bounds ≡ padded (bounds w p)
    → f.image ≡ image_of (entries_after (operator_of s) w p) → f ≡ frame_after v s w p
frame_parts v s w p f a b c d e g h i =
    frame_same f (frame_after v s w p) (a ∙ sym (after_v v s w p)) (b ∙ sym (after_n v s w p)) (c ∙ sym (after_out v s w p))
    (d ∙ sym (after_op v s w p)) (e ∙ sym (after_width v s w p)) (g ∙ sym (after_pos v s w p)) (h ∙ sym (after_bounds v s w p))
    (i ∙ sym (after_image v s w p))

first_padded : (xs : List ℕ) (w : ℕ) → length xs ≡ w → take w (padded xs) ≡ xs
first_padded xs w e = take_at xs (replicate (8 - length xs) 0) w e

abbrev merger_of : List ℕ → List ℕ → MergerState
merger_of bs ps = record { bounds = bs; positions = ps }

merger_parts : (b p c q : List ℕ) → b ≡ c → p ≡ q → merger_of b p ≡ merger_of c q
merger_parts b p c q e g = ap (λ (bs : List ℕ). merger_of bs p) e ∙ ap (merger_of c) g

abbrev state_of : Spec → Entries → MergerState → ℕ → OperatorState
state_of s es m b = record { merger = m; oper = record { spec = s; low = b; entries = es } }

operator_parts : (s : Spec) (es : Entries) (m k : MergerState) (b c : ℕ) → m ≡ k → b ≡ c → state_of s es m b ≡ state_of s es k c
operator_parts s es m k b c e g = ap (λ (x : MergerState). state_of s es x b) e ∙ ap (state_of s es k) g

-- an instance that goes on from a snapshot stands

pub goes_on_entries : ImagesAreReadAgain → MeaningIsWhole → MeaningIsEarly → ArrivalsFollow → PositionsAddUp → EntriesAreFew
    → (plan : PlanText) → IsPlan plan → (v : ℕ) (s : Spec) → Operator plan v s → spec_of plan.job v ≡ Some s
    → (f : Frame) → f.v ≡ v → IsSnapshot plan f → entries_in f s ≡ Ok (entries_at plan v f.n s)
goes_on_entries again whole_law early follow adds few plan is_plan v s o spec f same h =
    let w : ℕ = inputs_at plan v in
    let p = accepted plan v f.n in
    let g : Frame = frame_after v s w p in
    let is : f ≡ g = h.frame ∙ ap (λ u. frame_of plan u f.n) same ∙ frame_is plan v f.n s spec in
    let within : IsWithin plan v f.n = subst (λ u. IsWithin plan u f.n) same h.within in
    let kept : AreKept plan v f.n = subst (λ u. AreKept plan u f.n) same h.kept in
    let width : f.width ≡ w = ap (λ (q : Frame). q.width) is ∙ after_width v s w p in
    let bs : f.bounds ≡ padded (bounds w p) = ap (λ (q : Frame). q.bounds) is ∙ after_bounds v s w p in
    let image : f.image ≡ image_of (entries_at plan v f.n s) = ap (λ (q : Frame). q.image) is ∙ after_image v s w p in
    let first : take f.width f.bounds ≡ bounds w p =
    ap (λ k. take k f.bounds) width ∙ ap (take w) bs ∙ first_padded (bounds w p) w (length-map-range_with_len (λ i. bound (from_input i p)) 0 w) in
    ap (λ (bs : List ℕ). remembered s bs f.image) first
    ∙ ap (remembered s (bounds w p)) image
    ∙ entries_again again whole_law early follow adds few plan is_plan v f.n s o spec within kept

pub goes_on_stands : LowIsTheLeastBound → (plan : PlanText) (v : ℕ) (s : Spec) → Operator plan v s → spec_of plan.job v ≡ Some s
    → (f : Frame) → f.v ≡ v → IsSnapshot plan f → Stands plan v (running_in f s (entries_at plan v f.n s))
goes_on_stands least plan v s o spec f same h =
    let w : ℕ = inputs_at plan v in
    let p = accepted plan v f.n in
    let g : Frame = frame_after v s w p in
    let is : f ≡ g = h.frame ∙ ap (λ u. frame_of plan u f.n) same ∙ frame_is plan v f.n s spec in
    let width : f.width ≡ w = ap (λ (q : Frame). q.width) is ∙ after_width v s w p in
    let bs : f.bounds ≡ padded (bounds w p) = ap (λ (q : Frame). q.bounds) is ∙ after_bounds v s w p in
    let ps : f.pos ≡ padded (counts w p) = ap (λ (q : Frame). q.pos) is ∙ after_pos v s w p in
    let first : take f.width f.bounds ≡ bounds w p =
    ap (λ k. take k f.bounds) width ∙ ap (take w) bs ∙ first_padded (bounds w p) w (length-map-range_with_len (λ i. bound (from_input i p)) 0 w) in
    let second : take f.width f.pos ≡ counts w p =
    ap (λ k. take k f.pos) width ∙ ap (take w) ps ∙ first_padded (counts w p) w (length-map-range_with_len (λ i. length (from_input i p)) 0 w) in
    let bound_is : least_bound (take f.width f.bounds) ≡ low w p = ap least_bound first ∙ sym (least w p) in
    let merger : first_inputs f.width f.bounds f.pos ≡ merger_after w p = merger_parts (take f.width f.bounds) (take f.width f.pos) (bounds w p) (counts w p) first second in
    let given : f.out ≡ out (vertices_of plan) v f.n = ap (λ (q : Frame). q.out) is ∙ after_out v s w p ∙ sym (out_is plan v f.n s o) in
    record {
      within = subst (λ u. IsWithin plan u f.n) same h.within;
      kept = subst (λ u. AreKept plan u f.n) same h.kept;
      operator = ap (λ (k : OperatorState). Some k) (operator_parts s (entries_at plan v f.n s) (first_inputs f.width f.bounds f.pos) (merger_after w p) (least_bound (take f.width f.bounds)) (low w p) merger bound_is)
          ∙ sym (ap (option_map (operator_after w p)) spec);
      left = (last_given (vertices_of plan) v f.n, sym (append-nil (last_given (vertices_of plan) v f.n)));
      next = omega arith;
    }

-- a snapshot fits its vertex

pub a_spec : (o : Option Spec) → IsSome o → (s : Spec) × (o ≡ Some s)
a_spec None h = cc
a_spec (Some s) h = (s, refl)

any_default : (xs : List ℕ) (i d e : ℕ) → i < length xs → get_or xs i d ≡ get_or xs i e
any_default [] i d e h = absurd (omega arith)
any_default (x ∷ xs) zero d e h = refl
any_default (x ∷ xs) (suc i) d e h = any_default xs i d e (omega arith)

first_below : (f : Frame) → IsFrame f → All (λ b. b ≤ top) (take f.width f.bounds)
first_below f h i d k =
    let eight = h.bounds.eight in
    let few = h.code.width.1 in
    let count : length (take f.width f.bounds) ≡ f.width = length-take-le f.width f.bounds (omega arith) in
    let inside : i < f.width = omega arith in
    let same : get_or (take f.width f.bounds) i d ≡ get_or f.bounds i 0 =
    get_or-take f.width f.bounds i d inside ∙ any_default f.bounds i d 0 (omega arith) in
    subst (λ b. b ≤ top) (sym same) (h.code.bounds i inside)

pub snapshots_fit : FramesHaveCodes → SnapshotsFit
snapshots_fit law plan f is_plan h =
    let there = a_spec (spec_of plan.job f.v) h.operator in
    let s : Spec = there.0 in
    let spec : spec_of plan.job f.v ≡ Some s = there.1 in
    let w : ℕ = inputs_at plan f.v in
    let p = accepted plan f.v f.n in
    let is : f ≡ frame_after f.v s w p = h.frame ∙ frame_is plan f.v f.n s spec in
    let op : f.op ≡ op_number s = ap (λ (q : Frame). q.op) is ∙ after_op f.v s w p in
    let frame : IsFrame f = subst IsFrame (sym h.frame) (law plan is_plan f.v f.n h.operator h.within).0 in (
      record {
        vertex = refl;
        op = subst (λ (o : Option Spec). IsSomeAnd o (λ t. f.op ≡ op_number t)) (sym spec) op;
        width = ap (λ (q : Frame). q.width) is ∙ after_width f.v s w p;
      },
      first_below f frame,
    )

-- going on from any frame

pub from_frame : (f : Frame) (s : Spec) (n : ℕ) (merger : MergerState) (oper : OperState) (bytes : List ℕ)
    → merger ≡ first_inputs f.width f.bounds f.pos → oper.spec ≡ s → oper.low ≡ least_bound merger.bounds
    → remembered s merger.bounds bytes ≡ Ok oper.entries → bytes ≡ f.image
    → (entries : Entries) × (entries_in f s ≡ Ok entries) × (operators.state_of merger oper ≡ operator_in f s entries)
from_frame f s n merger oper bytes at spec low_is says same =
    let low : oper.low ≡ least_bound (take f.width f.bounds) = low_is ∙ ap (λ (m : MergerState). least_bound m.bounds) at in (
      oper.entries,
      ap (remembered s (take f.width f.bounds)) (sym same)
          ∙ ap (λ (m : MergerState). remembered s m.bounds bytes) (sym at)
          ∙ says,
      ap (λ (m : MergerState). operators.state_of m oper) at
          ∙ ap (operators.state_of (first_inputs f.width f.bounds f.pos))
          (operators.oper_is oper (operators.oper_of s (least_bound (take f.width f.bounds)) oper.entries) spec low refl),
    )
