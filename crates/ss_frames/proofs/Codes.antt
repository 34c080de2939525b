-- A snapshot within its job's limit has a code.
use Rattle.std.proofs.Common.{◌≡◌, ℕ, zero, suc, ◌-◌, ◌^◌, ◌<◌, ◌≤◌, List, [], ◌∷◌, ◌++◌, length, get_or, take, drop, map, filter, Option, Some, None, IsSome, refl, sym, ap, ◌∙◌, subst, ⊎_elim, arith, take-append-drop, All}
use Rattle.std.specs.Prelude.{replicate, slice_index}
use Rattle.std.specs.List.{AllByRecursion, range_with_len}
use Rattle.std.proofs.lemmas.Bool.{cases_lt}
use Rattle.std.proofs.lemmas.List.{length-append, length-replicate, length-map, map-append, get_or_append_left, get_or-append_right, get_or-map}
use Rattle.std.proofs.lemmas.List.Elements.{filter-append, recursion_from_All}
use Rattle.std.proofs.lemmas.List.FromFn.{length-map-range_with_len, get_or-map-range_with_len}
use Rattle.ss_codec.specs.Frame.{AreEntries, IsFrame, frame_bytes}
use Rattle.ss_codec.specs.Laws.{FramesHaveLengths}
use Rattle.ss_elem.specs.Validity.{top, Whole}
use Rattle.ss_elem.specs.declared.element.Element.{Element}
use Rattle.ss_elem.specs.declared.element.Element.TheVariants.{Row, Cti, End}
use Rattle.ss_expr.specs.Operators.{operator_of}
use Rattle.ss_expr.specs.declared.stream_operator.Spec.{Spec}
use Rattle.ss_expr.specs.declared.stream_operator.Spec.TheVariants as spec
use Rattle.ss_image.specs.Images.{image_of}
use Rattle.ss_image.specs.Laws.{WindowImagesHaveLengths, JoinImagesAreShort, SessionImagesHaveLengths}
use Rattle.ss_job.specs.JobText.{spec_of}
use Rattle.ss_meaning.specs.Bound.{bound, bound_past}
use Rattle.ss_meaning.specs.Entries.{Entries, NoEntries, WindowEntries, JoinRows, SessionEntries}
use Rattle.ss_meaning.specs.Jobs.{IsBefore, IsJob, MayStand}
use Rattle.ss_meaning.specs.Laws.{MeaningIsWhole, MergeKeepsEachInput}
use Rattle.ss_meaning.specs.Meaning.{Vertex, Inner, reads, meaning, merged}
use Rattle.ss_meaning.specs.Merge.{Arrival, is_from, from_input, merge}
use Rattle.ss_meaning.specs.Positions.{out, pos}
use Rattle.ss_plan.specs.Laws.{PlansMeanJobs, VerticesByNumber}
use Rattle.ss_plan.specs.Limit.{IsPlan}
use Rattle.ss_plan.specs.Plan.{PlanText, vertices_of}
use Rattle.ss_frames.specs.Frames.{op_number, padded, frame_after, accepted, inputs_at}
use Rattle.ss_frames.specs.Laws.{EntriesAreFew, FramesHaveCodes}
use Rattle.ss_frames.specs.Within.{IsWithin, AreFew, entries_at}
use Rattle.ss_frames.proofs.Operators.{IsOperatorAt, is_operator, frame_is, out_is}

-- ---- numbers for the inputs, and zeros behind

get_or-zeros : (n i : ℕ) → get_or {A = ℕ} (replicate n 0) i 0 ≡ 0
get_or-zeros zero i = refl
get_or-zeros (suc n) zero = refl
get_or-zeros (suc n) (suc i) = get_or-zeros n i

pub are_entries : (width : ℕ) (f : ℕ → ℕ) → width ≤ 8 → ((k : ℕ) → k < width → f k < 2 ^ 64)
    → AreEntries width (padded (map f (range_with_len 0 width)))
are_entries width f h fit = record { eight = eight; zeros = zeros; fit = fits }
  where
    count : length (map f (range_with_len 0 width)) ≡ width
    count = length-map-range_with_len f 0 width

    eight : length (padded (map f (range_with_len 0 width))) ≡ 8
    eight =
        let ys = map f (range_with_len 0 width) in
        omega (arith, h, count, length-append ys (replicate (8 - length ys) 0), length-replicate {A = ℕ} (8 - length ys) 0)

    zeros : (k : ℕ) → width ≤ k → slice_index (padded (map f (range_with_len 0 width))) k ≡ 0
    zeros k far =
        let ys = map f (range_with_len 0 width) in
        get_or-append_right ys (replicate (8 - length ys) 0) width k 0 count far ∙ get_or-zeros (8 - length ys) (k - width)

    fits : (k : ℕ) → slice_index (padded (map f (range_with_len 0 width))) k < 2 ^ 64
    fits k = ⊎_elim near far (cases_lt k width)
      where
        near : k < width → slice_index (padded (map f (range_with_len 0 width))) k < 2 ^ 64
        near inside =
            let ys = map f (range_with_len 0 width) in
            let is : slice_index (padded ys) k ≡ f k =
            get_or_append_left ys (replicate (8 - length ys) 0) 0 k (omega (arith, inside, count))
            ∙ get_or-map-range_with_len f 0 width k k 0 inside (omega arith) in
            subst (λ n. n < 2 ^ 64) (sym is) (fit k inside)

        far : width ≤ k → slice_index (padded (map f (range_with_len 0 width))) k < 2 ^ 64
        far past = subst (λ n. n < 2 ^ 64) (sym (zeros k past)) (omega arith)

pub entry_at : (width : ℕ) (f : ℕ → ℕ) (k : ℕ) → k < width → slice_index (padded (map f (range_with_len 0 width))) k ≡ f k
entry_at width f k inside =
    let ys = map f (range_with_len 0 width) in
    get_or_append_left ys (replicate (8 - length ys) 0) 0 k (omega (arith, inside, length-map-range_with_len f 0 width))
    ∙ get_or-map-range_with_len f 0 width k k 0 inside (omega arith)

-- ---- bounds are at most top

bound_low : (xs : List Element) (before : ℕ) → before ≤ top → AllByRecursion (IsBefore (2 ^ 63)) xs → bound_past before xs ≤ top
bound_low [] before h all = h
bound_low (Row row ∷ xs) before h all = bound_low xs before h all.1
bound_low (Cti time ∷ xs) before h all = let early = all.0 in bound_low xs time (omega (arith, early)) all.1
bound_low (End ∷ xs) before h all = bound_low xs top (omega arith) all.1

front_all : (P : Element → Type 0) (xs ys : List Element) → All P (xs ++ ys) → All P xs
front_all P xs ys all i d h =
    subst P (get_or_append_left xs ys d i h) (all i d (omega (arith, h, length-append xs ys)))

-- what came from an input of a front is a front of what came from it
pub from_front : (input n : ℕ) (p : List Arrival) → from_input input (take n p) ++ from_input input (drop n p) ≡ from_input input p
from_front input n p =
    sym (
    ap (from_input input) (sym (take-append-drop n p))
    ∙ ap (map (λ (x : Arrival). x.element)) (filter-append (is_from input) (take n p) (drop n p))
    ∙ map-append (λ (x : Arrival). x.element) (filter (is_from input) (take n p)) (filter (is_from input) (drop n p))
    )

-- what an operator reads is whole, and early

pub record JobLaws : Type 0 where
  pub means : PlansMeanJobs
  pub vertices : VerticesByNumber
  pub whole : MeaningIsWhole
  pub keeps : MergeKeepsEachInput

pub record AreInputs (job : List Vertex) (names : List ℕ) : Type 0 where
  pub whole : All Whole (map (meaning job) names)
  pub early : (input : ℕ) → input < length names → All (IsBefore (2 ^ 63)) (get_or (map (meaning job) names) input [])

are_inputs : MeaningIsWhole → (job : List Vertex) → IsJob job → (names : List ℕ) → All (λ u. u < length job) names → AreInputs job names
are_inputs law job is names below = record { whole = whole; early = early }
  where
    whole : All Whole (map (meaning job) names)
    whole i d h =
        let inside : i < length names = omega (arith, h, length-map names (meaning job)) in
        subst Whole (sym (get_or-map (meaning job) names i 0 d inside)) (law job is (get_or names i 0) (below i 0 inside)).0

    early : (input : ℕ) → input < length names → All (IsBefore (2 ^ 63)) (get_or (map (meaning job) names) input [])
    early i inside =
        subst (All (IsBefore (2 ^ 63))) (sym (get_or-map (meaning job) names i 0 [] inside)) (law job is (get_or names i 0) (below i 0 inside)).1

inputs_below : JobLaws → (plan : PlanText) → IsPlan plan → (v : ℕ) (operator : Spec) → (o : IsOperatorAt plan v operator)
    → All (λ u. u < length (vertices_of plan)) o.names
inputs_below laws plan is v operator o i d h =
    let job = vertices_of plan in
    let count = (laws.vertices plan is.job).count in
    let within : v < length job = let inside = o.within in omega (arith, inside, count) in
    let stands : MayStand v (Inner (operator_of operator) o.names) =
    subst (MayStand v) o.vertex ((laws.means plan is.job is.lists).each v within) in
    let below = stands.1 i d h in
    omega (arith, below, within)

pub operator_inputs : JobLaws → (plan : PlanText) → IsPlan plan → (v : ℕ) (operator : Spec) → (o : IsOperatorAt plan v operator)
    → AreInputs (vertices_of plan) o.names
operator_inputs laws plan is v operator o =
    are_inputs laws.whole (vertices_of plan) (laws.means plan is.job is.lists) o.names (inputs_below laws plan is v operator o)

pub merged_is : (plan : PlanText) (v : ℕ) (operator : Spec) (o : IsOperatorAt plan v operator)
    → merged (vertices_of plan) v ≡ merge (map (meaning (vertices_of plan)) o.names)
merged_is plan v operator o = ap (λ (x : Vertex). merge (map (meaning (vertices_of plan)) (reads x))) o.vertex

pub inputs_count : (plan : PlanText) (v : ℕ) (operator : Spec) (o : IsOperatorAt plan v operator) → inputs_at plan v ≡ length o.names
inputs_count plan v operator o = ap (λ (x : Vertex). length (reads x)) o.vertex

-- what came from an input, after the first n
pub came_early : JobLaws → (plan : PlanText) → IsPlan plan → (v n : ℕ) (operator : Spec) → IsOperatorAt plan v operator
    → (input : ℕ) → input < inputs_at plan v → All (IsBefore (2 ^ 63)) (from_input input (accepted plan v n))
came_early laws plan is v n operator o input h =
    let job = vertices_of plan in
    let inputs = operator_inputs laws plan is v operator o in
    let all : from_input input (merged job v) ≡ get_or (map (meaning job) o.names) input [] =
    ap (from_input input) (merged_is plan v operator o) ∙ laws.keeps (map (meaning job) o.names) inputs.whole input in
    let early : All (IsBefore (2 ^ 63)) (from_input input (merged job v)) =
    subst (All (IsBefore (2 ^ 63))) (sym all) (inputs.early input (omega (arith, h, inputs_count plan v operator o))) in
    front_all (IsBefore (2 ^ 63)) (from_input input (accepted plan v n)) (from_input input (drop n (merged job v)))
    (subst (All (IsBefore (2 ^ 63))) (sym (from_front input n (merged job v))) early)

bound_at : JobLaws → (plan : PlanText) → IsPlan plan → (v n : ℕ) (operator : Spec) → IsOperatorAt plan v operator
    → (input : ℕ) → input < inputs_at plan v → bound (from_input input (accepted plan v n)) ≤ top
bound_at laws plan is v n operator o input h =
    let xs = from_input input (accepted plan v n) in
    bound_low xs 0 (omega arith) (recursion_from_All (IsBefore (2 ^ 63)) xs (came_early laws plan is v n operator o input h))

-- ---- the image

pub record LengthLaws : Type 0 where
  pub window : WindowImagesHaveLengths
  pub join : JoinImagesAreShort
  pub session : SessionImagesHaveLengths
  pub frame : FramesHaveLengths

image_short : LengthLaws → (entries : Entries) → AreFew entries → length (image_of entries) < 2 ^ 31
image_short laws NoEntries few = omega arith
image_short laws (WindowEntries es) few = let short = few.0 in omega (arith, laws.window es, short)
image_short laws (JoinRows left right) few = omega (arith, laws.join left right, few)
image_short laws (SessionEntries es) few = let short = few.0 in omega (arith, laws.session es, short)

op_is : (operator : Spec) → (1 ≤ op_number operator) × (op_number operator ≤ 6)
op_is (spec.Select test a b c d) = (omega arith, omega arith)
op_is spec.Union = (omega arith, omega arith)
op_is (spec.Window size hop agg of) = (omega arith, omega arith)
op_is spec.Join = (omega arith, omega arith)
op_is (spec.Session gap agg of) = (omega arith, omega arith)
op_is spec.Except = (omega arith, omega arith)

-- ---- the code

frame_after_is : JobLaws → LengthLaws → (plan : PlanText) → IsPlan plan → (v n : ℕ) (operator : Spec)
    → IsOperatorAt plan v operator → IsWithin plan v n → AreFew (entries_at plan v n operator)
    → IsFrame (frame_after v operator (inputs_at plan v) (accepted plan v n))
unfolding frame_after
frame_after_is laws lengths plan is v n operator o within few =
    let width = inputs_at plan v in
    let p = accepted plan v n in
    let most : plan.job.max_elements ≤ 131072 = is.job.max_elements.most_of in
    let given : out (vertices_of plan) v n ≤ plan.job.max_elements = within.out in
    let short = image_short lengths (entries_at plan v n operator) few in
    let top_bounds : (k : ℕ) → k < width → bound (from_input k p) ≤ top = bound_at laws plan is v n operator o in
    let count : (k : ℕ) → k < width → length (from_input k p) < 2 ^ 64 =
    λ k h. let taken : pos (vertices_of plan) v n k ≤ plan.job.max_elements = within.pos k h in omega (arith, taken, most) in
    record {
      code = record {
        op = op_is operator;
        width = (o.least, o.most);
        bounds = λ k h. subst (λ b. b ≤ top) (sym (entry_at width (λ i. bound (from_input i p)) k h)) (top_bounds k h);
        image = omega (arith, short);
      };
      out = omega (arith, out_is plan v n operator o, given, most);
      pos = are_entries width (λ i. length (from_input i p)) o.most count;
      bounds = are_entries width (λ i. bound (from_input i p)) o.most (λ k h. let b = top_bounds k h in omega (arith, b));
    }

frame_short : LengthLaws → (plan : PlanText) (v n : ℕ) (operator : Spec) → IsOperatorAt plan v operator → AreFew (entries_at plan v n operator)
    → length (frame_bytes (frame_after v operator (inputs_at plan v) (accepted plan v n))) < 2 ^ 32
unfolding frame_after
frame_short lengths plan v n operator o few =
    let short = image_short lengths (entries_at plan v n operator) few in
    let most = o.most in
    omega (arith, short, most, lengths.frame (frame_after v operator (inputs_at plan v) (accepted plan v n)))

pub some_of : {A : Type 0} (o : Option A) → IsSome o → (x : A) × (o ≡ Some x)
some_of (Some x) h = (x, refl)
some_of None h = cc

pub frames_have_codes : JobLaws → LengthLaws → EntriesAreFew → FramesHaveCodes
frames_have_codes laws lengths few plan is v n some within =
    let found = some_of (spec_of plan.job v) some in
    let operator = found.0 in
    let e = found.1 in
    let o = is_operator laws.vertices plan is v operator e in
    let entries = few plan is v n operator e within in
    let same = sym (frame_is plan v n operator e) in (
      subst IsFrame same (frame_after_is laws lengths plan is v n operator o within entries),
      subst (λ f. length (frame_bytes f) < 2 ^ 32) same (frame_short lengths plan v n operator o entries),
    )
