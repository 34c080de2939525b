-- A merger's state before any element, and after one more.
use Rattle.std.proofs.Common.{◌≡◌, ℕ, zero, suc, ◌+◌, ◌<◌, ◌≤◌, Bool, true, false, cond, nat_lt, ◌&&◌, List, [], ◌∷◌, ◌++◌, length, get_or, take, set, map, replicate, Some, None, IsSome, refl, sym, ap, ◌∙◌, arith, ltb-true}
use Rattle.std.proofs.Math.Seq.{take-set-lt}
use Rattle.std.proofs.lemmas.List.{take-replicate, get_or-take, length-set}
use Rattle.std.proofs.lemmas.List.Elements.{All-set}
use Rattle.std.proofs.lemmas.Bool.{and_parts}
use Rattle.std.specs.List.{range_with_len}
use Rattle.ss_elem.specs.Validity.{top, next_bound}
use Rattle.ss_elem.specs.declared.element.Element.{Element}
use Rattle.ss_elem.specs.declared.element.Element.TheVariants.{Row, Cti, End}
use Rattle.ss_meaning.specs.Bound.{bound_after}
use Rattle.ss_meaning.specs.Inputs.{bounds, counts}
use Rattle.ss_meaning.specs.Laws.{BoundsAfterArrival, CountsAfterArrival}
use Rattle.ss_merge.specs.Merging.{MergerState, IsMergerState, merger_after, StandsAfterNext, accepted, arriving, first_inputs}

abbrev none : ℕ → ℕ
none i = 0

zeros : (n a : ℕ) → map none (range_with_len a n) ≡ replicate n 0
zeros zero a = refl
zeros (suc n) a = ap (λ (ns : List ℕ). 0 ∷ ns) (zeros n (a + 1))

pub before_any : (width : ℕ) → width ≤ 8 → first_inputs width (replicate 8 0) (replicate 8 0) ≡ merger_after width []
before_any width h =
    let e : take width (replicate 8 0) ≡ bounds width [] = take-replicate width 8 0 h ∙ sym (zeros width 0) in
    ap (λ (ns : List ℕ). record { bounds = ns; positions = ns }) e

pub seen_step : (width : ℕ) (bs ps : List ℕ) (i b n : ℕ) → i < width
    → first_inputs width (set bs i b) (set ps i n) ≡ record { bounds = set (take width bs) i b; positions = set (take width ps) i n }
seen_step width bs ps i b n h =
    let e = take-set-lt width bs i b h in
    let f = take-set-lt width ps i n h in
    cc

pub accepts : (width : ℕ) (bs ps : List ℕ) (i : ℕ) (x : Element) → i < width
    → first_inputs width (set bs i (bound_after (get_or bs i 0) x)) (set ps i (get_or ps i 0 + 1)) ≡ accepted (first_inputs width bs ps) i x
accepts width bs ps i x h =
    let b : get_or (take width bs) i 0 ≡ get_or bs i 0 = get_or-take width bs i 0 h in
    let n : get_or (take width ps) i 0 ≡ get_or ps i 0 = get_or-take width ps i 0 h in
    seen_step width bs ps i (bound_after (get_or bs i 0) x) (get_or ps i 0 + 1) h
    ∙ cc

-- a bound stays at or below that of an end

pub bound_stays_by : (t : Bool) (a b : ℕ) → IsSome (cond t (Some a) None) → (t ≡ true → b ≤ top) → b ≤ top
bound_stays_by true a b h k = k refl
bound_stays_by false a b h k = cc

pub bound_stays : (b : ℕ) (x : Element) → b ≤ top → IsSome (next_bound b x) → bound_after b x ≤ top
bound_stays b (Row row) h may = h
bound_stays b (Cti time) h may =
    bound_stays_by (nat_lt b time && nat_lt time top) time time may
    (λ e. let below : time < top = ltb-true time top (and_parts (nat_lt b time) (nat_lt time top) e).1 in omega arith)
bound_stays b End h may = omega arith

pub stays_state : (state : MergerState) (i : ℕ) (x : Element) → IsMergerState state → i < length state.bounds
    → IsSome (next_bound (get_or state.bounds i 0) x) → IsMergerState (accepted state i x)
stays_state state i x h within may =
    let value : ℕ = bound_after (get_or state.bounds i 0) x in
    let low : value ≤ top = bound_stays (get_or state.bounds i 0) x (h.bounds i 0 within) may in
    let same = length-set state.bounds i value in
    let same_positions = length-set state.positions i (get_or state.positions i 0 + 1) in
    let some = h.some in
    let few = h.few in
    let positions = h.positions in
    record {
      some = omega arith;
      few = omega arith;
      positions = same_positions ∙ positions ∙ sym same;
      bounds = All-set (λ b. b ≤ top) state.bounds i value low h.bounds;
    }

-- the laws of bounds and counts, of a state that is where a merge stands
pub stands_next : BoundsAfterArrival → CountsAfterArrival → (old : MergerState) (i : ℕ) (x : Element) → i < length old.bounds
    → StandsAfterNext old (accepted old i x) i x
stands_next bounds_law counts_law old i x within p stands =
    let width : ℕ = length old.bounds in
    let y = arriving i x in
    let b : old.bounds ≡ bounds width p = ap (λ (s : MergerState). s.bounds) stands in
    let n : old.positions ≡ counts width p = ap (λ (s : MergerState). s.positions) stands in
    let bs : bounds width (p ++ y ∷ []) ≡ set old.bounds i (bound_after (get_or old.bounds i 0) x) =
    bounds_law width p y within ∙ ap (λ (l : List ℕ). set l i (bound_after (get_or l i 0) x)) (sym b) in
    let ns : counts width (p ++ y ∷ []) ≡ set old.positions i (get_or old.positions i 0 + 1) =
    counts_law width p y within ∙ ap (λ (l : List ℕ). set l i (get_or l i 0 + 1)) (sym n) in
    let same : length (set old.bounds i (bound_after (get_or old.bounds i 0) x)) ≡ width =
    length-set old.bounds i (bound_after (get_or old.bounds i 0) x) in
    let e : accepted old i x ≡ merger_after width (p ++ y ∷ []) = cc in
    e ∙ ap (λ w. merger_after w (p ++ y ∷ [])) (sym same)
