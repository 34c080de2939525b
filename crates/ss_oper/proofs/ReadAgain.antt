-- The images of what windows and joins remember are read again.
use Rattle.std.proofs.Common.{◌≡◌, ℕ, ◌+◌, ◌-◌, ◌*◌, nat_lt, nat_le, ◌&&◌, get_or, take, drop, Some, None, take-append-drop, append_assoc, ◌^◌, ◌<◌, ◌≤◌, Bool, true, false, cond, List, [], ◌∷◌, ◌++◌, length, map, filter, All, Ok, refl, sym, ap, ◌∙◌, subst, arith}
use Rattle.std.proofs.lemmas.List.{drop_more}
use Rattle.std.proofs.lemmas.List.Elements.{All-from_recursion, recursion_from_All}
use Rattle.std.specs.List.{AllByRecursion}
use Rattle.ss_elem.specs.Validity.{top, Whole, next_bound}
use Rattle.ss_elem.specs.declared.element.Event.{Event}
use Rattle.ss_elem.specs.declared.element.Element.{Element}
use Rattle.ss_elem.specs.declared.element.Element.TheVariants.{Row, Cti, End}
use Rattle.ss_expr.specs.Operators.{operator_of, HasWholeHops, HasGap}
use Rattle.ss_expr.specs.declared.stream_operator.Agg.{Agg}
use Rattle.ss_expr.specs.declared.stream_operator.Field.{Field}
use Rattle.ss_expr.specs.declared.stream_operator.Spec.TheVariants as spec
use Rattle.ss_image.specs.Images.{image_of}
use Rattle.ss_join.specs.ImageLaws.{IsTaken}
use Rattle.ss_join.specs.ImageLaws as join
use Rattle.ss_join.specs.States.{Sides}
use Rattle.ss_meaning.specs.Bound.{row_of, rows, bound}
use Rattle.ss_meaning.specs.Emit.{Except}
use Rattle.ss_meaning.specs.Entries.{entries_after, entry_count, window_entries, open_sessions, join_side, alone_side}
use Rattle.ss_meaning.specs.Except.{is_alone}
use Rattle.ss_meaning.specs.Inputs.{bounds}
use Rattle.ss_meaning.specs.Laws.{ArrivalsMayFollow}
use Rattle.ss_meaning.specs.Low.{low}
use Rattle.ss_meaning.specs.Merge.{Arrival, merge, from_input, is_from}
use Rattle.ss_oper.specs.Laws.{MayArriveAt, ImagesAreReadAgain}
use Rattle.ss_oper.specs.Standing.{remembered, as_window, as_join, as_sessions}
use Rattle.ss_session.specs.ImageLaws as session
use Rattle.ss_session.specs.States as sessions
use Rattle.ss_window.specs.ImageLaws.{IsKept}
use Rattle.ss_window.specs.ImageLaws as window
use Rattle.ss_window.specs.States.{State, Settings, window_of}

each_joined : (size : ℕ) (xs ys : List Event) → AllByRecursion (IsKept size) xs → AllByRecursion (IsKept size) ys
    → AllByRecursion (IsKept size) (xs ++ ys)
each_joined size [] ys h k = k
each_joined size (x ∷ xs) ys h k = (h.0, each_joined size xs ys h.1 k)

kept_row : (size input : ℕ) (x : Element) → size ≤ 2 ^ 46 → MayArriveAt (record { input = input; element = x })
    → AllByRecursion (IsKept size) (row_of x)
kept_row size input (Row row) h k =
    let early : row.start < 2 ^ 62 + 2 ^ 52 = k.early.0 in
    (record { ends = omega arith; is_kept = k.kept }, tt)
kept_row size input (Cti time) h k = tt
kept_row size input End h k = tt

kept_rows : (size : ℕ) (p : List Arrival) → size ≤ 2 ^ 46 → AllByRecursion MayArriveAt p
    → AllByRecursion (IsKept size) (rows (from_input 0 p))
kept_rows size [] h k = tt
kept_rows size (x ∷ p) h k = by_test (is_from 0 x) (kept_rows size p h k.1)
  where
    by_test : (b : Bool) → AllByRecursion (IsKept size) (rows (from_input 0 p))
        → AllByRecursion (IsKept size) (rows (map (λ (y : Arrival). y.element) (cond b (x ∷ filter (is_from 0) p) (filter (is_from 0) p))))
    by_test true rest = each_joined size (row_of x.element) (rows (from_input 0 p)) (kept_row size x.input x.element h k.0) rest
    by_test false rest = rest

window_again : window.StatesAreReadAgain → (size hop : ℕ) (agg : Agg) (of : Field) (p : List Arrival) → HasWholeHops size hop
    → All MayArriveAt p → length p ≤ 2 ^ 62 → entry_count (entries_after (operator_of (spec.Window size hop agg of)) 1 p) < 2 ^ 32
    → remembered (spec.Window size hop agg of) (bounds 1 p) (image_of (entries_after (operator_of (spec.Window size hop agg of)) 1 p))
    ≡ Ok (entries_after (operator_of (spec.Window size hop agg of)) 1 p)
window_again law size hop agg of p hops kept few count =
    let settings : Settings = record { size = size; hop = hop; agg = agg; field = of } in
    let state : State = record { settings = settings; entries = window_entries (window_of settings) (rows (from_input 0 p)) (low 1 p) } in
    let long : size ≤ 64 * hop = hops.most_size in
    let short : hop ≤ 2 ^ 40 = hops.most_hop in
    let each : All (IsKept size) (rows (from_input 0 p)) =
    All-from_recursion (IsKept size) (rows (from_input 0 p)) (kept_rows size p (omega arith) (recursion_from_All MayArriveAt p kept)) in
    ap as_window (law state p hops refl each few count)

-- ---- what a join remembers

-- the element may follow somewhere
Follows : Arrival → Type 0
Follows x = (b : ℕ) × ((c : ℕ) × (next_bound b x.element ≡ Some c))

all_follow : ArrivalsMayFollow → (lists : List (List Element)) (p rest : List Arrival) → All Whole lists → merge lists ≡ p ++ rest → All Follows p
unfolding Follows
all_follow law lists p rest whole split i d h =
    let x = get_or p i d in
    let cut : p ≡ take i p ++ x ∷ drop (i + 1) p =
    sym (take-append-drop i p) ∙ ap (λ (back : List Arrival). take i p ++ back) (drop_more p i d h) in
    let here : merge lists ≡ take i p ++ x ∷ (drop (i + 1) p ++ rest) =
    split ∙ ap (λ (front : List Arrival). front ++ rest) cut ∙ append_assoc (take i p) (x ∷ drop (i + 1) p) rest in
    (bound (from_input x.input (take i p)), (bound (from_input x.input (take i p ++ x ∷ [])), law lists whole (take i p) (drop (i + 1) p ++ rest) x here))

-- a row leaves the bound as it was
same_bound : (t : Bool) (b c : ℕ) → cond t (Some b) None ≡ Some c → cond t (Some b) None ≡ Some b
same_bound true b c e = refl
same_bound false b c e = cc

taken_row : (input : ℕ) (x : Element) → MayArriveAt (record { input = input; element = x }) → Follows (record { input = input; element = x })
    → AllByRecursion IsTaken (row_of x)
unfolding Follows
taken_row input (Row row) k (b, (c, e)) =
    (record { follows = (b, same_bound (nat_lt b top && nat_lt row.end top && nat_lt row.start row.end && nat_le b row.start) b c e); is_kept = k.kept }, tt)
taken_row input (Cti time) k f = tt
taken_row input End k f = tt

both_taken : (xs ys : List Event) → AllByRecursion IsTaken xs → AllByRecursion IsTaken ys → AllByRecursion IsTaken (xs ++ ys)
both_taken [] ys h k = k
both_taken (x ∷ xs) ys h k = (h.0, both_taken xs ys h.1 k)

taken_rows : (input : ℕ) (p : List Arrival) → AllByRecursion MayArriveAt p → AllByRecursion Follows p
    → AllByRecursion IsTaken (rows (from_input input p))
taken_rows input [] k f = tt
taken_rows input (x ∷ p) k f = by_test (is_from input x) (taken_rows input p k.1 f.1)
  where
    by_test : (b : Bool) → AllByRecursion IsTaken (rows (from_input input p))
        → AllByRecursion IsTaken (rows (map (λ (y : Arrival). y.element) (cond b (x ∷ filter (is_from input) p) (filter (is_from input) p))))
    by_test true rest = both_taken (row_of x.element) (rows (from_input input p)) (taken_row x.input x.element k.0 f.0) rest
    by_test false rest = rest

taken_above : (above : Event → Bool) (xs : List Event) → AllByRecursion IsTaken xs → AllByRecursion IsTaken (filter above xs)
taken_above above [] h = tt
taken_above above (x ∷ xs) h = by_test (above x) (taken_above above xs h.1)
  where
    by_test : (b : Bool) → AllByRecursion IsTaken (filter above xs) → AllByRecursion IsTaken (cond b (x ∷ filter above xs) (filter above xs))
    by_test true rest = (h.0, rest)
    by_test false rest = rest

taken_side : (input : ℕ) (p : List Arrival) → All MayArriveAt p → All Follows p → All IsTaken (join_side input p)
taken_side input p k f =
    let above : Event → Bool = λ row. nat_lt (bound (from_input (1 - input) p)) row.end in
    All-from_recursion IsTaken (join_side input p)
    (taken_above above (rows (from_input input p))
    (taken_rows input p (recursion_from_All MayArriveAt p k) (recursion_from_All Follows p f)))

join_again : join.StatesAreReadAgain → (p : List Arrival) → All MayArriveAt p → All Follows p → entry_count (entries_after (operator_of spec.Join) 2 p) < 2 ^ 32
    → remembered spec.Join (bounds 2 p) (image_of (entries_after (operator_of spec.Join) 2 p)) ≡ Ok (entries_after (operator_of spec.Join) 2 p)
join_again law p kept follow count =
    let sides : Sides = record { left = join_side 0 p; right = join_side 1 p } in
    ap as_join (law sides p (bounds 2 p) refl (record { left = refl; right = refl }) (taken_side 0 p kept follow) (taken_side 1 p kept follow) count)

-- a join by absence remembers rows of its inputs too
except_again : join.StatesAreReadAgainAs Except → (p : List Arrival) → All MayArriveAt p → All Follows p → entry_count (entries_after (operator_of spec.Except) 2 p) < 2 ^ 32
    → remembered spec.Except (bounds 2 p) (image_of (entries_after (operator_of spec.Except) 2 p)) ≡ Ok (entries_after (operator_of spec.Except) 2 p)
except_again law p kept follow count =
    let lefts = rows (from_input 0 p) in
    let rights = rows (from_input 1 p) in
    let sides : Sides = record { left = alone_side p; right = join_side 1 p } in
    let alone_taken : All IsTaken (alone_side p) =
    All-from_recursion IsTaken (alone_side p)
    (taken_above (λ (row : Event). nat_lt (bound (from_input 1 p)) row.end) (filter (is_alone rights) lefts)
    (taken_above (is_alone rights) lefts (taken_rows 0 p (recursion_from_All MayArriveAt p kept) (recursion_from_All Follows p follow)))) in
    ap as_join (law sides p (bounds 2 p) refl (record { left = refl; right = refl }) alone_taken (taken_side 1 p kept follow) count)

-- what a session window remembers

early_row : (input : ℕ) (x : Element) → MayArriveAt (record { input = input; element = x }) → AllByRecursion session.IsKept (row_of x)
early_row input (Row row) k =
    let early : row.start < 2 ^ 62 + 2 ^ 52 = k.early.0 in
    (record { early = omega (arith, early); is_kept = k.kept }, tt)
early_row input (Cti time) k = tt
early_row input End k = tt

both_early : (xs ys : List Event) → AllByRecursion session.IsKept xs → AllByRecursion session.IsKept ys → AllByRecursion session.IsKept (xs ++ ys)
both_early [] ys h k = k
both_early (x ∷ xs) ys h k = (h.0, both_early xs ys h.1 k)

early_rows : (p : List Arrival) → AllByRecursion MayArriveAt p → AllByRecursion session.IsKept (rows (from_input 0 p))
early_rows [] k = tt
early_rows (x ∷ p) k = by_test (is_from 0 x) (early_rows p k.1)
  where
    by_test : (b : Bool) → AllByRecursion session.IsKept (rows (from_input 0 p))
        → AllByRecursion session.IsKept (rows (map (λ (y : Arrival). y.element) (cond b (x ∷ filter (is_from 0) p) (filter (is_from 0) p))))
    by_test true rest = both_early (row_of x.element) (rows (from_input 0 p)) (early_row x.input x.element k.0) rest
    by_test false rest = rest

session_again : session.StatesAreReadAgain → (gap : ℕ) (agg : Agg) (of : Field) (p : List Arrival) → HasGap gap
    → All MayArriveAt p → length p ≤ 2 ^ 62 → entry_count (entries_after (operator_of (spec.Session gap agg of)) 1 p) < 2 ^ 32
    → remembered (spec.Session gap agg of) (bounds 1 p) (image_of (entries_after (operator_of (spec.Session gap agg of)) 1 p))
    ≡ Ok (entries_after (operator_of (spec.Session gap agg of)) 1 p)
session_again law gap agg of p is_gap kept few count =
    let settings : sessions.Settings = record { gap = gap; agg = agg; field = of } in
    let state : sessions.State = record { settings = settings; entries = open_sessions (sessions.window_of settings) (rows (from_input 0 p)) (low 1 p) } in
    let each : All session.IsKept (rows (from_input 0 p)) =
    All-from_recursion session.IsKept (rows (from_input 0 p)) (early_rows p (recursion_from_All MayArriveAt p kept)) in
    ap as_sessions (law state p is_gap refl each few count)

pub images_again : ArrivalsMayFollow → window.StatesAreReadAgain → join.StatesAreReadAgain → join.StatesAreReadAgainAs Except → session.StatesAreReadAgain → ImagesAreReadAgain
images_again follows windows joins excepts sessions (spec.Select test a b c d) lists p rest computable takes whole split kept few count = refl
images_again follows windows joins excepts sessions spec.Union lists p rest computable takes whole split kept few count = refl
images_again follows windows joins excepts sessions (spec.Window size hop agg of) lists p rest computable takes whole split kept few count =
    let s = spec.Window size hop agg of in
    let kind = operator_of s in
    subst (λ w. entry_count (entries_after kind w p) < 2 ^ 32 → remembered s (bounds w p) (image_of (entries_after kind w p)) ≡ Ok (entries_after kind w p))
    (sym takes.0) (window_again windows size hop agg of p computable kept few) count
images_again follows windows joins excepts sessions spec.Join lists p rest computable takes whole split kept few count =
    let kind = operator_of spec.Join in
    subst (λ w. entry_count (entries_after kind w p) < 2 ^ 32 → remembered spec.Join (bounds w p) (image_of (entries_after kind w p)) ≡ Ok (entries_after kind w p))
    (sym takes) (join_again joins p kept (all_follow follows lists p rest whole split)) count
images_again follows windows joins excepts sessions (spec.Session gap agg of) lists p rest computable takes whole split kept few count =
    let s = spec.Session gap agg of in
    let kind = operator_of s in
    subst (λ w. entry_count (entries_after kind w p) < 2 ^ 32 → remembered s (bounds w p) (image_of (entries_after kind w p)) ≡ Ok (entries_after kind w p))
    (sym takes.0) (session_again sessions gap agg of p computable kept few) count
images_again follows windows joins excepts sessions spec.Except lists p rest computable takes whole split kept few count =
    let kind = operator_of spec.Except in
    subst (λ w. entry_count (entries_after kind w p) < 2 ^ 32 → remembered spec.Except (bounds w p) (image_of (entries_after kind w p)) ≡ Ok (entries_after kind w p))
    (sym takes) (except_again excepts p kept (all_follow follows lists p rest whole split)) count
