-- What arrives at an operator behind its first n elements.
use Rattle.std.proofs.Common.{◌≡◌, ℕ, zero, suc, ◌+◌, ◌^◌, ◌<◌, ◌≤◌, Bool, true, false, cond, List, [], ◌∷◌, ◌++◌, length, get_or, take, drop, map, filter, All, Option, Some, None, option_map, IsSome, IsSomeAnd, refl, sym, ap, ◌∙◌, subst, arith, ◌⊎◌, ⊎_elim, take-append-drop, length-append}
use Rattle.std.proofs.lemmas.List.{length-map, get_or-map, drop_more, take_more, get_or_past, get_or_at}
use Rattle.std.proofs.lemmas.List.Elements.{All-map, All-from_recursion, recursion_from_All}
use Rattle.std.proofs.lemmas.List.FromFn.{get_or-map-range_with_len}
use Rattle.std.proofs.lemmas.Bool.{cases_lt, eqb-true}
use Rattle.std.proofs.lemmas.Option.{slice_get_within, get_or_from_slice_get}
use Rattle.std.specs.List.{slice_get, AllByRecursion}
use Rattle.std.specs.Option.{option_map_or}
use Rattle.ss_elem.specs.Rows.{IsKept}
use Rattle.ss_elem.specs.Validity.{Whole, next_bound}
use Rattle.ss_elem.specs.declared.element.Element.{Element}
use Rattle.ss_expr.specs.Operators.{operator_of}
use Rattle.ss_expr.specs.declared.stream_operator.Spec.{Spec}
use Rattle.ss_frames.specs.Frames.{accepted, inputs_at}
use Rattle.ss_frames.specs.Within.{IsWithin, AreKept}
use Rattle.ss_meaning.specs.Bound.{bound}
use Rattle.ss_meaning.specs.Emit.{emit, output}
use Rattle.ss_meaning.specs.Inputs.{bounds, counts, next_input}
use Rattle.ss_meaning.specs.Jobs.{IsBefore}
use Rattle.ss_meaning.specs.Laws.{MeaningIsWhole, ArrivalsFollow, ArrivalsMayFollow, LowNeverFalls, NextInputArrives, OutputGrowsByEmit}
use Rattle.ss_meaning.specs.Low.{low}
use Rattle.ss_meaning.specs.Meaning.{Vertex, Inner, reads, vertex, meaning, merged}
use Rattle.ss_meaning.specs.Merge.{Arrival, merge, from_input, is_from}
use Rattle.ss_meaning.specs.Positions.{mlen, mlen_of, pos, out, out_of}
use Rattle.ss_merge.specs.Merging.{arriving}
use Rattle.ss_plan.specs.Plan.{PlanText, vertices_of}
use Rattle.ss_vertex.specs.Arriving.{wanted_by, taken_by, given_at, given_by}
use Rattle.ss_vertex.specs.Calls.{IsWantedAt}
use Rattle.ss_vertex.proofs.Operators.{Operator}

-- the streams that a vertex reads
abbrev pub lists_read : PlanText → ℕ → List (List Element)
lists_read plan v = map (meaning (vertices_of plan)) (reads (vertex (vertices_of plan) v))

pub lists_count : (plan : PlanText) (v : ℕ) → length (lists_read plan v) ≡ inputs_at plan v
lists_count plan v = length-map (reads (vertex (vertices_of plan) v)) (meaning (vertices_of plan))

pub whole_lists : MeaningIsWhole → (plan : PlanText) (v : ℕ) (s : Spec) → Operator plan v s → All Whole (lists_read plan v)
whole_lists law plan v s o =
    let J = vertices_of plan in
    let inside = o.inside in
    All-map Whole (meaning J) (reads (vertex J v))
    (λ i d k. let below = o.earlier i d k in (law J o.job (get_or (reads (vertex J v)) i d) (omega arith)).0)

-- the element under an index came from an input, and stands in its list
pub record Came (lists : List (List Element)) (x : Arrival) : Type 0 where
  pub before : List Element
  pub behind : List Element
  pub from : get_or lists x.input [] ≡ before ++ x.element ∷ behind

pub split_at : (xs : List Arrival) (i : ℕ) (x : Arrival) → slice_get xs i ≡ Some x → xs ≡ take i xs ++ x ∷ drop (i + 1) xs
split_at xs i x e =
    let within = slice_get_within xs i x e in
    sym (take-append-drop i xs)
    ∙ ap (λ (back : List Arrival). take i xs ++ back)
    (drop_more xs i x within ∙ ap (λ (y : Arrival). y ∷ drop (i + 1) xs) (get_or_from_slice_get xs i x x e))

pub more_at : (xs : List Arrival) (i : ℕ) (x : Arrival) → slice_get xs i ≡ Some x → take (i + 1) xs ≡ take i xs ++ x ∷ []
more_at xs i x e =
    take_more xs i x (slice_get_within xs i x e)
    ∙ ap (λ (y : Arrival). take i xs ++ y ∷ []) (get_or_from_slice_get xs i x x e)

within_by : (lists : List (List Element)) (x : Arrival) → Came lists x → (x.input < length lists) ⊎ (length lists ≤ x.input) → x.input < length lists
within_by lists x c o = ⊎_elim (λ (h : x.input < length lists). h) (λ (h : length lists ≤ x.input). absurd (none h)) o
  where
    none : length lists ≤ x.input → ⊥
    none h =
        let past : get_or lists x.input [] ≡ [] = get_or_past lists x.input [] h in
        let count = ap length (sym past ∙ c.from) in
        omega (arith, count, length-append c.before (x.element ∷ c.behind))

pub input_within : (lists : List (List Element)) (x : Arrival) → Came lists x → x.input < length lists
input_within lists x c = within_by lists x c (cases_lt x.input (length lists))

pub came_at : ArrivalsFollow → (lists : List (List Element)) → All Whole lists → (i : ℕ) (x : Arrival) → slice_get (merge lists) i ≡ Some x
    → (c : Came lists x) × (length c.before ≡ length (from_input x.input (take i (merge lists))))
came_at law lists whole i x e =
    let follows = law lists whole (take i (merge lists)) (drop (i + 1) (merge lists)) x (split_at (merge lists) i x e) in
    (record { before = from_input x.input (take i (merge lists)); behind = follows.0; from = follows.1 }, refl)

pub element_at : (before : List Element) (x : Element) (behind : List Element) → slice_get (before ++ x ∷ behind) (length before) ≡ Some x
element_at [] x behind = refl
element_at (y ∷ ys) x behind = element_at ys x behind

-- what holds of each element of a stream holds of one that came from it
pub holds_of : (P : Element → Type 0) (xs before behind : List Element) (x : Element) → xs ≡ before ++ x ∷ behind → All P xs → P x
holds_of P xs before behind x e all =
    let place : length before < length (before ++ x ∷ behind) = omega (arith, length-append before (x ∷ behind)) in
    let there : All P (before ++ x ∷ behind) = subst (All P) e all in
    subst P (get_or_at before x behind x (length before) refl) (there (length before) x place)

-- the element that arrives at an operator behind its first n is x
pub record Arriving (plan : PlanText) (v n : ℕ) (x : Element) : Type 0 where
  pub input : ℕ
  pub at : slice_get (merged (vertices_of plan) v) n ≡ Some (arriving input x)
  pub within : input < inputs_at plan v
  pub before : List Element
  pub behind : List Element
  pub from : meaning (vertices_of plan) (get_or (reads (vertex (vertices_of plan) v)) input 0) ≡ before ++ x ∷ behind
  pub source : get_or (reads (vertex (vertices_of plan) v)) input 0 < v
  pub below : pos (vertices_of plan) v n input < plan.job.max_elements

abbrev IsPlaceOf : PlanText → Vertex → Element → ℕ × ℕ → Type 0
IsPlaceOf plan z x place =
    (slice_get (taken_by z (vertices_of plan) place.0) place.1 ≡ Some x) × (place.1 < plan.job.max_elements)

found : (plan : PlanText) (v n : ℕ) (z : Vertex) (x : Element) (o : Option Arrival)
    → IsSomeAnd (option_map (λ (y : Arrival). (y.input, pos (vertices_of plan) v n y.input)) o) (IsPlaceOf plan z x)
    → (y : Arrival) × (o ≡ Some y) × (IsPlaceOf plan z x (y.input, pos (vertices_of plan) v n y.input))
found plan v n z x None h = absurd h
found plan v n z x (Some y) h = (y, refl, h)

pub arrives : ArrivalsFollow → MeaningIsWhole → (plan : PlanText) (v n : ℕ) (s : Spec) (x : Element) → Operator plan v s
    → IsWantedAt plan v n x → Arriving plan v n x
arrives follow whole_law plan v n s x o h =
    let J = vertices_of plan in
    let ins = reads (vertex J v) in
    let lists = lists_read plan v in
    let z : Vertex = Inner (operator_of s) ins in
    let P : Vertex → Type 0 = λ z. IsSomeAnd (wanted_by z J v n) (IsPlaceOf plan z x) in
    let there = found plan v n z x (slice_get (merged J v) n) (subst P o.is h) in
    let y : Arrival = there.0 in
    let at : slice_get (merged J v) n ≡ Some y = there.1 in
    let whole = whole_lists whole_law plan v s o in
    let c = came_at follow lists whole n y at in
    let within : y.input < length lists = input_within lists y c.0 in
    let count = lists_count plan v in
    let inside : y.input < length ins = omega arith in
    let list : meaning J (get_or ins y.input 0) ≡ c.0.before ++ y.element ∷ c.0.behind =
    sym (get_or-map (meaning J) ins y.input 0 [] inside) ∙ c.0.from in
    let first : slice_get (meaning J (get_or ins y.input 0)) (pos J v n y.input) ≡ Some x = there.2.0 in
    let second : slice_get (meaning J (get_or ins y.input 0)) (pos J v n y.input) ≡ Some y.element =
    ap (λ (xs : List Element). slice_get xs (pos J v n y.input)) list
    ∙ ap (slice_get (c.0.before ++ y.element ∷ c.0.behind)) (sym c.1)
    ∙ element_at c.0.before y.element c.0.behind in
    let same : y.element ≡ x = cc in
    record {
      input = y.input;
      at = subst (λ (e : Element). slice_get (merged J v) n ≡ Some (arriving y.input e)) same at;
      within = inside;
      before = c.0.before;
      behind = c.0.behind;
      from = subst (λ (e : Element). meaning J (get_or ins y.input 0) ≡ c.0.before ++ e ∷ c.0.behind) same list;
      source = o.earlier y.input 0 inside;
      below = there.2.1;
    }

pub arrives_early : MeaningIsWhole → (plan : PlanText) (v n : ℕ) (s : Spec) (x : Element) → Operator plan v s → Arriving plan v n x → IsBefore (2 ^ 63) x
arrives_early law plan v n s x o a =
    let J = vertices_of plan in
    let u : ℕ = get_or (reads (vertex J v)) a.input 0 in
    let below : u < v = a.source in
    let inside = o.inside in
    holds_of (IsBefore (2 ^ 63)) (meaning J u) a.before a.behind x a.from (law J o.job u (omega arith)).1

pub arrives_more : (plan : PlanText) (v n : ℕ) (x : Element) → (a : Arriving plan v n x) → accepted plan v (n + 1) ≡ accepted plan v n ++ arriving a.input x ∷ []
arrives_more plan v n x a = more_at (merged (vertices_of plan) v) n (arriving a.input x) a.at

pub arrives_rising : LowNeverFalls → MeaningIsWhole → (plan : PlanText) (v n : ℕ) (s : Spec) (x : Element) → Operator plan v s → (a : Arriving plan v n x)
    → low (inputs_at plan v) (accepted plan v n) ≤ low (inputs_at plan v) (accepted plan v n ++ arriving a.input x ∷ [])
arrives_rising law whole_law plan v n s x o a =
    let lists = lists_read plan v in
    subst (λ (q : List Arrival). low (inputs_at plan v) (accepted plan v n) ≤ low (inputs_at plan v) q) (arrives_more plan v n x a)
    (subst (λ w. low w (accepted plan v n) ≤ low w (accepted plan v (n + 1))) (lists_count plan v)
    (law lists (whole_lists whole_law plan v s o) n (n + 1) (omega arith)))

pub arrives_follow : ArrivalsMayFollow → MeaningIsWhole → (plan : PlanText) (v n : ℕ) (s : Spec) (x : Element) → Operator plan v s → (a : Arriving plan v n x)
    → next_bound (bound (from_input a.input (accepted plan v n))) x
    ≡ Some (bound (from_input a.input (accepted plan v n ++ arriving a.input x ∷ [])))
arrives_follow law whole_law plan v n s x o a =
    let lists = lists_read plan v in
    law lists (whole_lists whole_law plan v s o) (accepted plan v n) (drop (n + 1) (merge lists)) (arriving a.input x)
    (split_at (merge lists) n (arriving a.input x) a.at)

pub arrives_following : ArrivalsMayFollow → MeaningIsWhole → (plan : PlanText) (v n : ℕ) (s : Spec) (x : Element) → Operator plan v s → (a : Arriving plan v n x)
    → IsSome (next_bound (bound (from_input a.input (accepted plan v n))) x)
arrives_following law whole_law plan v n s x o a =
    subst IsSome (sym (arrives_follow law whole_law plan v n s x o a)) refl

pub arrives_next : NextInputArrives → MeaningIsWhole → (plan : PlanText) (v n : ℕ) (s : Spec) → Operator plan v s
    → next_input (bounds (inputs_at plan v) (accepted plan v n)) ≡ option_map (λ (x : Arrival). x.input) (slice_get (merged (vertices_of plan) v) n)
arrives_next law whole_law plan v n s o =
    let lists = lists_read plan v in
    let all = merge lists in
    subst (λ w. next_input (bounds w (take n all)) ≡ option_map (λ (x : Arrival). x.input) (slice_get all n)) (lists_count plan v)
    (law lists (whole_lists whole_law plan v s o) (take n all) (drop n all) (sym (take-append-drop n all))
    ∙ ap (option_map (λ (x : Arrival). x.input)) (first_behind all n))
  where
    first_behind : (xs : List Arrival) (n : ℕ) → slice_get (drop n xs) 0 ≡ slice_get xs n
    first_behind xs zero = refl
    first_behind [] (suc n) = refl
    first_behind (x ∷ xs) (suc n) = first_behind xs n

-- the numbers under an input

pub bound_under : (width : ℕ) (p : List Arrival) (i : ℕ) → i < width → get_or (bounds width p) i 0 ≡ bound (from_input i p)
bound_under width p i h = get_or-map-range_with_len (λ input. bound (from_input input p)) 0 width i i 0 h (omega arith)

pub count_under : (width : ℕ) (p : List Arrival) (i : ℕ) → i < width → get_or (counts width p) i 0 ≡ length (from_input i p)
count_under width p i h = get_or-map-range_with_len (λ input. length (from_input input p)) 0 width i i 0 h (omega arith)

-- one more arrival adds at most one to what came from an input, and nothing to what came from another

filtered_more : (i : ℕ) (p : List Arrival) (x : Arrival) → length (from_input i (p ++ x ∷ [])) ≡ length (from_input i p) + cond (is_from i x) 1 0
filtered_more i [] x = by_test (is_from i x)
  where
    by_test : (b : Bool) → length (map (λ (y : Arrival). y.element) (cond b (x ∷ []) [])) ≡ 0 + cond b 1 0
    by_test true = refl
    by_test false = refl
filtered_more i (y ∷ p) x = by_test (is_from i y) (filtered_more i p x)
  where
    by_test : (b : Bool) → length (from_input i (p ++ x ∷ [])) ≡ length (from_input i p) + cond (is_from i x) 1 0
        → length (map (λ (y : Arrival). y.element) (cond b (y ∷ filter (is_from i) (p ++ x ∷ [])) (filter (is_from i) (p ++ x ∷ []))))
        ≡ length (map (λ (y : Arrival). y.element) (cond b (y ∷ filter (is_from i) p) (filter (is_from i) p))) + cond (is_from i x) 1 0
    by_test true e = omega (arith, e)
    by_test false e = e

-- what an operator has given, and what it gives

pub mlen_is : (plan : PlanText) (v : ℕ) (s : Spec) → Operator plan v s → mlen (vertices_of plan) v ≡ length (merged (vertices_of plan) v)
mlen_is plan v s o = ap (λ (z : Vertex). mlen_of z (vertices_of plan) v) o.is

pub out_is : (plan : PlanText) (v n : ℕ) (s : Spec) → Operator plan v s
    → out (vertices_of plan) v n ≡ length (output (operator_of s) (inputs_at plan v) (accepted plan v n))
out_is plan v n s o = ap (λ (z : Vertex). out_of z (vertices_of plan) v n) o.is

pub given_is : (plan : PlanText) (v n : ℕ) (s : Spec) (x : Element) → Operator plan v s → (a : Arriving plan v n x)
    → given_at (vertices_of plan) v n ≡ emit (operator_of s) (inputs_at plan v) (accepted plan v n) (arriving a.input x)
given_is plan v n s x o a =
    let J = vertices_of plan in
    ap (λ (z : Vertex). given_by z J v n) o.is
    ∙ ap (λ (q : Option Arrival). option_map_or (emit (operator_of s) (inputs_at plan v) (accepted plan v n)) q []) a.at

pub out_next : OutputGrowsByEmit → (plan : PlanText) (v n : ℕ) (s : Spec) (x : Element) → Operator plan v s → (a : Arriving plan v n x)
    → out (vertices_of plan) v (n + 1)
    ≡ out (vertices_of plan) v n + length (emit (operator_of s) (inputs_at plan v) (accepted plan v n) (arriving a.input x))
out_next law plan v n s x o a =
    let kind = operator_of s in
    let w = inputs_at plan v in
    let p = accepted plan v n in
    let y = arriving a.input x in
    out_is plan v (n + 1) s o
    ∙ ap (λ (q : List Arrival). length (output kind w q)) (arrives_more plan v n x a)
    ∙ ap length (law kind w p y)
    ∙ length-append (output kind w p) (emit kind w p y)
    ∙ ap (λ m. m + length (emit kind w p y)) (sym (out_is plan v n s o))

pub reached_next : (plan : PlanText) (v n : ℕ) (s : Spec) (x : Element) → Operator plan v s → Arriving plan v n x
    → n + 1 ≤ mlen (vertices_of plan) v
reached_next plan v n s x o a =
    let within = slice_get_within (merged (vertices_of plan) v) n (arriving a.input x) a.at in
    let all = mlen_is plan v s o in
    omega arith

pub pos_next : (plan : PlanText) (v n : ℕ) (x : Element) → (a : Arriving plan v n x) → (input : ℕ)
    → pos (vertices_of plan) v (n + 1) input ≡ pos (vertices_of plan) v n input + cond (is_from input (arriving a.input x)) 1 0
pos_next plan v n x a input =
    ap (λ (q : List Arrival). length (from_input input q)) (arrives_more plan v n x a)
    ∙ filtered_more input (accepted plan v n) (arriving a.input x)

pub within_next : (plan : PlanText) (v n : ℕ) (s : Spec) (x : Element) → Operator plan v s → Arriving plan v n x → IsWithin plan v n
    → out (vertices_of plan) v (n + 1) ≤ plan.job.max_elements → IsWithin plan v (n + 1)
within_next plan v n s x o a h most = record { taken = reached_next plan v n s x o a; out = most; pos = each }
  where
    by_test : (input : ℕ) (b : Bool) → is_from input (arriving a.input x) ≡ b → input < inputs_at plan v
        → pos (vertices_of plan) v n input + cond b 1 0 ≤ plan.job.max_elements
    by_test input true e k =
        let same : a.input ≡ input = eqb-true a.input input e in
        let below : pos (vertices_of plan) v n input < plan.job.max_elements = subst (λ i. pos (vertices_of plan) v n i < plan.job.max_elements) same a.below in
        omega arith
    by_test input false e k = let low = h.pos input k in omega arith

    each : (input : ℕ) → input < inputs_at plan v → pos (vertices_of plan) v (n + 1) input ≤ plan.job.max_elements
    each input k =
        let next = pos_next plan v n x a input in
        let test = by_test input (is_from input (arriving a.input x)) refl k in
        omega arith

all_more : (P : Arrival → Type 0) (p : List Arrival) (y : Arrival) → All P p → P y → All P (p ++ y ∷ [])
all_more P p y h k =
    All-from_recursion P (p ++ y ∷ []) (each_more p (recursion_from_All P p h))
  where
    each_more : (q : List Arrival) → AllByRecursion P q → AllByRecursion P (q ++ y ∷ [])
    each_more [] e = (k, tt)
    each_more (z ∷ q) e = (e.0, each_more q e.1)

pub kept_next : (plan : PlanText) (v n : ℕ) (x : Element) → Arriving plan v n x → AreKept plan v n → IsKept x → AreKept plan v (n + 1)
kept_next plan v n x a h k =
    let P : Arrival → Type 0 = λ y. IsKept y.element in
    subst (All P) (sym (arrives_more plan v n x a)) (all_more P (accepted plan v n) (arriving a.input x) h k)
