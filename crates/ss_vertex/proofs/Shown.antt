-- The outputs left are those of the vertex's stream, under their numbers.
use Rattle.std.proofs.Common.{◌≡◌, ℕ, zero, suc, ◌+◌, ◌<◌, false, List, [], ◌∷◌, ◌++◌, length, take, drop, map, Option, Some, refl, sym, ap, ◌∙◌, arith, append_assoc, length-append, take-append-drop}
use Rattle.std.proofs.lemmas.List.{drop_more, length-take-le}
use Rattle.std.proofs.lemmas.Option.{slice_get_within, get_or_from_slice_get}
use Rattle.std.specs.List.{slice_get}
use Rattle.std.specs.Option.{option_to_list, option_map_or}
use Rattle.ss_elem.specs.declared.element.Element.{Element}
use Rattle.ss_meaning.specs.Emit.{Kind, emit, output}
use Rattle.ss_meaning.specs.Jobs.{IsJob}
use Rattle.ss_meaning.specs.Laws.{OutputGrowsByEmit, OutputOnlyGrows}
use Rattle.ss_meaning.specs.Meaning.{Vertex, Source, Inner, Sink, reads, vertex, stream, meaning, merged}
use Rattle.ss_meaning.specs.Merge.{Arrival, merge}
use Rattle.ss_meaning.specs.Positions.{mlen, mlen_of, out, out_of}
use Rattle.ss_plan.specs.Limit.{IsPlan}
use Rattle.ss_plan.specs.Plan.{PlanText, vertices_of}
use Rattle.ss_state.specs.NumbersOfMeaning.{GivesStream, kind_of}
use Rattle.ss_vertex.specs.Arriving.{given_at, given_by, last_given}
use Rattle.ss_vertex.specs.Inst.{Running}
use Rattle.ss_vertex.specs.Known.{Known}
use Rattle.ss_vertex.specs.Standing.{Stands}
use Rattle.ss_vertex.proofs.Arrives.{split_at, element_at}
use Rattle.ss_vertex.proofs.Streams.{found_at, out_given}
use Rattle.ss_water.specs.Graph.{is_sink}

-- what is given at an element stands in the stream, behind what was given before
record Stream (all given : List Element) (before : ℕ) : Type 0 where
  front : List Element
  rest : List Element
  is : all ≡ front ++ (given ++ rest)
  count : length front ≡ before

list_stream : (list : List Element) (m : ℕ) → m < length list → Stream list (option_to_list (slice_get list m)) m
list_stream list m h =
    let there = found_at list m h in
    let x : Element = there.0 in
    let at : slice_get list m ≡ Some x = there.1 in
    record {
      front = take m list;
      rest = drop (m + 1) list;
      is = sym (take-append-drop m list)
          ∙ ap (λ (back : List Element). take m list ++ back)
          (drop_more list m x h ∙ ap (λ (y : Element). y ∷ drop (m + 1) list) (get_or_from_slice_get list m x x at)
          ∙ ap (λ (o : Option Element). option_to_list o ++ drop (m + 1) list) (sym at));
      count = length-take-le m list (omega arith);
    }

merge_stream : OutputGrowsByEmit → OutputOnlyGrows → (kind : Kind) (w : ℕ) (all : List Arrival) (m : ℕ) → m < length all
    → Stream (output kind w all) (option_map_or (emit kind w (take m all)) (slice_get all m) []) (length (output kind w (take m all)))
merge_stream grows prefix kind w all m h =
    let there = found_at all m h in
    let y : Arrival = there.0 in
    let at : slice_get all m ≡ Some y = there.1 in
    let p : List Arrival = take m all in
    let longer = prefix kind w (p ++ y ∷ []) (drop (m + 1) all) in
    record {
      front = output kind w p;
      rest = longer.0;
      is = ap (output kind w) (split_at all m y at ∙ sym (append_assoc p (y ∷ []) (drop (m + 1) all)))
          ∙ longer.1
          ∙ ap (λ (xs : List Element). xs ++ longer.0) (grows kind w p y)
          ∙ append_assoc (output kind w p) (emit kind w p y) longer.0
          ∙ ap (λ (o : Option Arrival). output kind w p ++ (option_map_or (emit kind w p) o [] ++ longer.0)) (sym at);
      count = refl;
    }

stream_for : OutputGrowsByEmit → OutputOnlyGrows → (z : Vertex) (J : List Vertex) (v m : ℕ) → is_sink (kind_of z) ≡ false
    → meaning J v ≡ stream z (map (meaning J) (reads z)) → merged J v ≡ merge (map (meaning J) (reads z)) → m < mlen_of z J v
    → Stream (meaning J v) (given_by z J v m) (out_of z J v m)
stream_for grows prefix (Source list) J v m gives is all h =
    let same = ap length is in
    let there = list_stream list m (omega arith) in
    record { front = there.front; rest = there.rest; is = is ∙ there.is; count = there.count }
stream_for grows prefix (Inner kind ins) J v m gives is all h =
    let there = merge_stream grows prefix kind (length ins) (merged J v) m h in
    record { front = there.front; rest = there.rest; is = is ∙ ap (output kind (length ins)) (sym all) ∙ there.is; count = there.count }
stream_for grows prefix (Sink u) J v m gives is all h = cc

place_left : (all given : List Element) (before : ℕ) → Stream all given before → (part left : List Element) (next : ℕ) (x : Element)
    → given ≡ part ++ left → next + length left ≡ before + length given → slice_get left 0 ≡ Some x → slice_get all next ≡ Some x
place_left all given before s part [] next x e count first = cc
place_left all given before s part (y ∷ ys) next x e count first =
    let same : y ≡ x = cc in
    let total : length given ≡ length part + length (y ∷ ys) = ap length e ∙ length-append part (y ∷ ys) in
    let front = s.count in
    let both : length (s.front ++ part) ≡ length s.front + length part = length-append s.front part in
    let place : length (s.front ++ part) ≡ next = omega arith in
    let is : all ≡ (s.front ++ part) ++ y ∷ (ys ++ s.rest) =
    s.is
    ∙ ap (λ (xs : List Element). s.front ++ (xs ++ s.rest)) e
    ∙ ap (λ (xs : List Element). s.front ++ xs) (append_assoc part (y ∷ ys) s.rest)
    ∙ sym (append_assoc s.front part (y ∷ (ys ++ s.rest))) in
    ap (λ (xs : List Element). slice_get xs next) is
    ∙ ap (slice_get ((s.front ++ part) ++ y ∷ (ys ++ s.rest))) (sym place)
    ∙ element_at (s.front ++ part) y (ys ++ s.rest)
    ∙ ap (λ (z : Element). Some z) same

shown_by : Known → (plan : PlanText) → IsPlan plan → (v : ℕ) → GivesStream (vertices_of plan) v → (n : ℕ) (up : Running) (x : Element)
    → up.n ≡ n → Stands plan v up → slice_get up.left 0 ≡ Some x → slice_get (meaning (vertices_of plan) v) up.next ≡ Some x
shown_by known plan is_plan v gives zero up x e h first =
    let none : last_given (vertices_of plan) v up.n ≡ [] = ap (last_given (vertices_of plan) v) e in
    let all : h.left.0 ++ up.left ≡ [] = sym h.left.1 ∙ none in
    let count = ap length all in
    let inside = slice_get_within up.left 0 x first in
    absurd (omega (arith, count, length-append h.left.0 up.left, inside))
shown_by known plan is_plan v gives (suc m) up x e h first =
    let J = vertices_of plan in
    let job : IsJob J = known.jobs plan is_plan.job is_plan.lists in
    let taken = h.within.taken in
    let below : m < mlen J v = omega arith in
    let is_given : last_given J v up.n ≡ given_at J v m = ap (last_given J v) e in
    let here = h.next in
    let more : out J v (m + 1) ≡ out J v m + length (given_at J v m) = out_given known.streams known.grows J job v m gives below in
    let place : m + 1 ≡ up.n = omega arith in
    let there : out J v up.n ≡ out J v m + length (given_at J v m) = ap (out J v) (sym place) ∙ more in
    place_left (meaning J v) (given_at J v m) (out J v m)
    (stream_for known.grows known.prefix (vertex J v) J v m gives.1 (known.streams J job v gives.0) refl below)
    h.left.0 up.left up.next x (sym is_given ∙ h.left.1) (here ∙ there) first

pub shown : Known → (plan : PlanText) → IsPlan plan → (v : ℕ) → GivesStream (vertices_of plan) v → (up : Running) (x : Element)
    → Stands plan v up → slice_get up.left 0 ≡ Some x → slice_get (meaning (vertices_of plan) v) up.next ≡ Some x
shown known plan is_plan v gives up x h first = shown_by known plan is_plan v gives up.n up x refl h first
