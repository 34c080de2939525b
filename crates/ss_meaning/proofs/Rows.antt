-- Which rows an operator gives: each starts at or above Low, has a span, and ends below a limit.
use Rattle.std.proofs.Common.{◌≡◌, ℕ, zero, suc, ◌+◌, ◌-◌, ◌*◌, ◌/◌, ◌^◌, ◌<◌, ◌≤◌, ◌==◌, Bool, true, false, cond, ◌&&◌, nat_lt, List, [], ◌∷◌, ◌++◌, map, filter, flat_map, Some, refl, inl, inr, ◌⊎◌, arith, ltb-true, mul-le-mul_left}
use Rattle.std.proofs.lemmas.Bool.{and_parts}
use Rattle.std.proofs.Math.Nat.{div-mul-le_self}
use Rattle.std.proofs.lemmas.Nat.{le-div}
use Rattle.std.specs.List.{AllByRecursion}
use Rattle.ss_elem.specs.Validity.{bound_from}
use Rattle.ss_elem.specs.declared.element.Event.{Event}
use Rattle.ss_elem.specs.declared.element.Element.{Element}
use Rattle.ss_elem.specs.declared.element.Element.TheVariants.{Row, Cti, End}
use Rattle.ss_meaning.specs.Bound.{bound_after, bound, row_of, rows}
use Rattle.ss_meaning.specs.Merge.{Arrival, from_input}
use Rattle.ss_meaning.specs.Low.{low}
use Rattle.ss_meaning.specs.Window.{Window, multiples, ends_of, window_ends, window_keys, window_row, window_rows}
use Rattle.ss_meaning.specs.Join.{matches, joined, joined_from, join_rows}
use Rattle.ss_meaning.specs.Emit.{Kind, Select, Union, Hopping, Join, Session, Except, Selection, revalued, rows_at}
use Rattle.ss_meaning.specs.Jobs.{IsBefore, Takes}
use Rattle.ss_meaning.proofs.Each.{each-map, each-filter, each-flat_map, each_weaker, each_given}
use Rattle.ss_meaning.proofs.GivenRows.{IsGiven, rising_above}
use Rattle.ss_meaning.proofs.SessionRows.{session_given}
use Rattle.ss_meaning.proofs.ExceptRows.{left_given}
use Rattle.ss_meaning.proofs.Steps.{Follows, bound_from-first}
use Rattle.ss_meaning.proofs.Lows.{AllValid, IsEarly, low-le, from_input-early}

-- the rows among elements

each-row_of : (P : Element → Type 0) (x : Element) → P x → AllByRecursion (λ (row : Event). P (Row row)) (row_of x)
each-row_of P (Row row) h = (h, tt)
each-row_of P (Cti time) h = tt
each-row_of P End h = tt

pub each-rows : (P : Element → Type 0) (xs : List Element) → AllByRecursion P xs → AllByRecursion (λ (row : Event). P (Row row)) (rows xs)
each-rows P xs h = each-flat_map P (λ (row : Event). P (Row row)) row_of (each-row_of P) xs h

abbrev HasSpan : Element → Type 0
HasSpan (Row row) = row.start < row.end
HasSpan (Cti time) = Unit {0}
HasSpan End = Unit {0}

follows_span : (b : ℕ) (x : Element) → Follows b x → HasSpan x
follows_span b (Row row) h = h.2
follows_span b (Cti time) h = tt
follows_span b End h = tt

each-span : (b c : ℕ) (xs : List Element) → bound_from b xs ≡ Some c → AllByRecursion HasSpan xs
each-span b c [] h = tt
each-span b c (x ∷ xs) h =
    let first = bound_from-first b c x xs h in
    (follows_span b x first.0, each-span (bound_after b x) c xs first.1)

-- the row at hand, which follows at a bound above Low
row_given : (q b time limit : ℕ) (x : Element) → q ≤ b → Follows b x → IsBefore time x → time ≤ limit → AllByRecursion (IsGiven q limit) (row_of x)
row_given q b time limit (Row row) h f early k = ((omega (arith, f.1), f.2, omega (arith, early.1)), tt)
row_given q b time limit (Cti t) h f early k = tt
row_given q b time limit End h f early k = tt

-- select

select_given : (select : Selection) (q limit : ℕ) (rs : List Event) → AllByRecursion (IsGiven q limit) rs → AllByRecursion (IsGiven q limit) (map (revalued select) (filter select.test rs))
select_given select q limit rs h =
    each-map (IsGiven q limit) (revalued select) (filter select.test rs) (each-filter (IsGiven q limit) select.test rs h)

-- window

pub multiple-le : (hop number most : ℕ) → number ≤ most / hop → 1 ≤ hop → hop * number ≤ most
multiple-le hop number most h k =
    let up : hop * number ≤ hop * (most / hop) = mul-le-mul_left hop h in
    omega arith

multiples-le : (hop number count most : ℕ) → 1 ≤ hop → number + count ≤ most / hop + 1 → AllByRecursion (λ w. w ≤ most) (multiples hop number count)
multiples-le hop number zero most h k = tt
multiples-le hop number (suc count) most h k =
    (multiple-le hop number most (omega arith) h, multiples-le hop (number + 1) count most h (omega arith))

quotients : (hop low high : ℕ) → low / hop ≤ high / hop → low / hop + 1 + (high / hop - low / hop) ≤ high / hop + 1
quotients hop low high h = omega arith

quotient-le : (hop low high : ℕ) → 1 ≤ hop → low ≤ high → low / hop ≤ high / hop
quotient-le hop low high h k =
    let down = div-mul-le_self low hop in
    le-div (low / hop) high hop (omega arith) (omega arith)

ends_of-le : (window : Window) (row : Event) → 1 ≤ window.hop → AllByRecursion (λ w. w ≤ row.start + window.size) (ends_of window row)
ends_of-le window row h =
    let from = row.start / window.hop in
    let to = (row.start + window.size) / window.hop in
    multiples-le window.hop (from + 1) (to - from) (row.start + window.size) h
    (quotients window.hop row.start (row.start + window.size) (quotient-le window.hop row.start (row.start + window.size) h (omega arith)))

-- the ends of a window whose rows all start before a time
ends_given : (window : Window) (seen : List Event) (q q' time limit : ℕ) → 1 ≤ window.hop → time + (window.size + window.hop) ≤ limit
    → AllByRecursion (λ (row : Event). row.start < time) seen → AllByRecursion (λ w. (q < w) × (w + window.hop < limit)) (window_ends window seen q q')
ends_given window seen q q' time limit h k early =
    let P : ℕ → Type 0 = λ w. w + window.hop < limit in
    let candidates = flat_map (ends_of window) seen in
    let below : AllByRecursion P candidates =
    each-flat_map (λ (row : Event). row.start < time) P (ends_of window)
    (λ row e. each_weaker (λ w. w ≤ row.start + window.size) P (λ w l. omega arith) (ends_of window row) (ends_of-le window row h)) seen early in
    rising_above q q' candidates P below

window_given : (window : Window) (seen : List Event) (q q' time limit : ℕ) → 1 ≤ window.hop → time + (window.size + window.hop) ≤ limit
    → AllByRecursion (λ (row : Event). row.start < time) seen → AllByRecursion (IsGiven q limit) (window_rows window seen q q')
window_given window seen q q' time limit h k early =
    each-flat_map (λ w. (q < w) × (w + window.hop < limit)) (IsGiven q limit) (λ w. map (window_row window seen w) (window_keys window seen w))
    (λ w at. each-map (IsGiven q limit) (window_row window seen w) (window_keys window seen w)
    (each_given (λ key. IsGiven q limit (window_row window seen w key)) (λ key. (omega (arith, at.0), omega arith, at.1)) (window_keys window seen w)))
    (window_ends window seen q q') (ends_given window seen q q' time limit h k early)

-- join

joined_given : (q limit : ℕ) (left right : Event) → (q ≤ left.start) ⊎ (q ≤ right.start) → (left.end < limit) ⊎ (right.end < limit)
    → left.start < left.end → right.start < right.end → left.start < right.end → right.start < left.end → IsGiven q limit (joined left right)
joined_given q limit left right starts window_ends l r lr rl = (omega arith, omega arith, omega arith)

matching : (q limit input : ℕ) (x y : Event) → IsGiven q limit x → y.start < y.end → matches x y ≡ true → IsGiven q limit (joined_from input x y)
matching q limit input x y given span same = by_input (input == 0)
  where
    parts : (x.start < y.end) × (y.start < x.end)
    parts =
        let t = and_parts (x.key == y.key && nat_lt x.start y.end) (nat_lt y.start x.end) same in
        let u = and_parts (x.key == y.key) (nat_lt x.start y.end) t.0 in
        (ltb-true x.start y.end u.1, ltb-true y.start x.end t.1)

    by_input : (b : Bool) → IsGiven q limit (cond b (joined x y) (joined y x))
    by_input true = joined_given q limit x y (inl given.0) (inl given.2) given.1 span parts.0 parts.1
    by_input false = joined_given q limit y x (inr given.0) (inr given.2) span given.1 parts.1 parts.0

kept_joins : (q limit input : ℕ) (x y : Event) (ys : List Event) (b : Bool) → matches x y ≡ b → IsGiven q limit x → y.start < y.end
    → AllByRecursion (IsGiven q limit) (map (joined_from input x) ys) → AllByRecursion (IsGiven q limit) (map (joined_from input x) (cond b (y ∷ ys) ys))
kept_joins q limit input x y ys true e given span rest = (matching q limit input x y given span e, rest)
kept_joins q limit input x y ys false e given span rest = rest

join_given : (q limit input : ℕ) (x : Event) (earlier : List Event) → IsGiven q limit x → AllByRecursion (λ (y : Event). y.start < y.end) earlier
    → AllByRecursion (IsGiven q limit) (join_rows input x earlier)
join_given q limit input x [] given h = tt
join_given q limit input x (y ∷ ys) given h =
    kept_joins q limit input x y (filter (matches x) ys) (matches x y) refl given h.0 (join_given q limit input x ys given h.1)

-- any operator

-- what is known where x arrives after p: x follows in its input, which is at a bound that Low isn't above
pub record Arrives (inputs time : ℕ) (p : List Arrival) (x : Arrival) : Type 0 where
  pub within : x.input < inputs
  pub follows : Follows (bound (from_input x.input p)) x.element
  pub above : low inputs p ≤ bound (from_input x.input p)
  pub valid : AllValid inputs p
  pub early : IsEarly time x
  pub all_early : AllByRecursion (IsEarly time) p

starts_early : (time : ℕ) (x : Element) → IsBefore time x → AllByRecursion (λ (row : Event). row.start < time) (row_of x)
starts_early time (Row row) h = (h.0, tt)
starts_early time (Cti t) h = tt
starts_early time End h = tt

seen_early : (time : ℕ) (xs : List Element) → AllByRecursion (IsBefore time) xs → AllByRecursion (λ (row : Event). row.start < time) (rows xs)
seen_early time xs h = each-flat_map (IsBefore time) (λ (row : Event). row.start < time) row_of (starts_early time) xs h

ends_early : (time limit : ℕ) → time + 1 ≤ limit → (x : Element) → IsBefore time x → AllByRecursion (λ (row : Event). row.end + 1 < limit) (row_of x)
ends_early time limit k (Row row) h = (omega (arith, h.1), tt)
ends_early time limit k (Cti t) h = tt
ends_early time limit k End h = tt

spans_of : (inputs : ℕ) (p : List Arrival) (input : ℕ) → AllValid inputs p → input < inputs → AllByRecursion (λ (y : Event). y.start < y.end) (rows (from_input input p))
spans_of inputs p input valid within =
    let known = valid input within in
    each-rows HasSpan (from_input input p) (each-span 0 known.0 (from_input input p) known.1)

at_hand : (inputs time limit : ℕ) (p : List Arrival) (x : Arrival) → Arrives inputs time p x → time ≤ limit → AllByRecursion (IsGiven (low inputs p) limit) (row_of x.element)
at_hand inputs time limit p x h k = row_given (low inputs p) (bound (from_input x.input p)) time limit x.element h.above h.follows h.early k

pub rows_given : (kind : Kind) (inputs time limit : ℕ) (p : List Arrival) (x : Arrival) → Takes kind inputs → time + 2 ^ 47 ≤ limit
    → Arrives inputs time p x → AllByRecursion (IsGiven (low inputs p) limit) (rows_at kind inputs p x)
rows_given (Select select) inputs time limit p x takes k h = select_given select (low inputs p) limit (row_of x.element) (at_hand inputs time limit p x h (omega arith))
rows_given Union inputs time limit p x takes k h = at_hand inputs time limit p x h (omega arith)
rows_given (Hopping window) inputs time limit p x takes k h =
    window_given window (rows (from_input 0 p)) (low inputs p) (low inputs (p ++ x ∷ [])) time limit takes.1 (omega (arith, takes.2))
    (seen_early time (from_input 0 p) (from_input-early time 0 p h.all_early))
rows_given Join inputs time limit p x takes k h =
    each-flat_map (IsGiven (low inputs p) limit) (IsGiven (low inputs p) limit) (λ (row : Event). join_rows x.input row (rows (from_input (1 - x.input) p)))
    (λ row given. join_given (low inputs p) limit x.input row (rows (from_input (1 - x.input) p)) given
    (spans_of inputs p (1 - x.input) h.valid (omega arith)))
    (row_of x.element) (at_hand inputs time limit p x h (omega arith))
rows_given (Session window) inputs time limit p x takes k h =
    session_given window (rows (from_input 0 p)) (low inputs p) (low inputs (p ++ x ∷ [])) time limit (omega (arith, takes.1))
    (seen_early time (from_input 0 p) (from_input-early time 0 p h.all_early))
rows_given Except inputs time limit p x takes k h =
    let q = low inputs p in
    left_given q limit p x (low-le inputs p 1 (omega (arith, takes)))
    (each_weaker (IsGiven q time) (λ (row : Event). (q ≤ row.end) × (row.end + 1 < limit)) (λ row given. (omega (arith, given.0, given.1), omega (arith, given.2))) (row_of x.element)
    (at_hand inputs time time p x h (omega arith)))
    (each-flat_map (IsBefore time) (λ (row : Event). row.end + 1 < limit) row_of (ends_early time limit (omega arith)) (from_input 0 p) (from_input-early time 0 p h.all_early))
