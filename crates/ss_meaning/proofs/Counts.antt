-- The counts of the inputs add up.
use Rattle.std.proofs.Common.{◌≡◌, ℕ, zero, suc, ◌+◌, ◌<◌, ◌≤◌, List, [], ◌∷◌, length, take, drop, map, sum_by, refl, sym, ◌∙◌, subst, ⊎_elim, arith, eq-eqb, ne_eqb, take-append-drop, length-take-le}
use Rattle.std.proofs.lemmas.Bool.{cases_eq}
use Rattle.std.proofs.lemmas.List.{length-map}
use Rattle.std.proofs.lemmas.List.Sums.{sum-map, sum_by-cons}
use Rattle.std.specs.List.{AllByRecursion, range_with_len}
use Rattle.ss_meaning.specs.Merge.{Arrival, from_input}
use Rattle.ss_meaning.specs.Meaning.{reads, vertex, meaning, merged}
use Rattle.ss_meaning.specs.Positions.{pos}
use Rattle.ss_meaning.specs.Laws.{PositionsAddUp}
use Rattle.ss_meaning.proofs.Each.{each_first}
use Rattle.ss_meaning.proofs.Merging.{merge-input}

count_from : List Arrival → ℕ → ℕ
count_from p input = length (from_input input p)

count_from-own : (x : Arrival) (p : List Arrival) (input : ℕ) → x.input ≡ input → count_from (x ∷ p) input ≡ suc (count_from p input)
unfolding count_from
count_from-own x p input e = let t = eq-eqb x.input input e in rw t

count_from-other : (x : Arrival) (p : List Arrival) (input : ℕ) → (x.input ≡ input → ⊥) → count_from (x ∷ p) input ≡ count_from p input
unfolding count_from
count_from-other x p input e = let t = ne_eqb x.input input e in rw t

-- the counts of so many inputs, from one on
counted : List Arrival → ℕ → ℕ → ℕ
counted p first inputs = sum_by (count_from p) (range_with_len first inputs)

counted-suc : (p : List Arrival) (first inputs : ℕ) → counted p first (suc inputs) ≡ count_from p first + counted p (first + 1) inputs
unfolding counted
counted-suc p first inputs = sum_by-cons (count_from p) first (range_with_len (first + 1) inputs)

counted-other : (x : Arrival) (p : List Arrival) (first inputs : ℕ) → x.input < first → counted (x ∷ p) first inputs ≡ counted p first inputs
unfolding counted
counted-other x p first zero h = refl
counted-other x p first (suc inputs) h =
    let here = count_from-other x p first (λ e. omega arith) in
    let there = counted-other x p (first + 1) inputs (omega arith) in
    omega (arith, here, there, counted-suc (x ∷ p) first inputs, counted-suc p first inputs)

counted-own : (x : Arrival) (p : List Arrival) (first inputs : ℕ) → first ≤ x.input → x.input < first + inputs → counted (x ∷ p) first inputs ≡ suc (counted p first inputs)
counted-own x p first zero h k = absurd (omega arith)
counted-own x p first (suc inputs) h k = ⊎_elim mine (others (counted-own x p (first + 1) inputs)) (cases_eq x.input first)
  where
    mine : x.input ≡ first → counted (x ∷ p) first (suc inputs) ≡ suc (counted p first (suc inputs))
    mine e =
        let here = count_from-own x p first e in
        let there = counted-other x p (first + 1) inputs (omega arith) in
        omega (arith, here, there, counted-suc (x ∷ p) first inputs, counted-suc p first inputs)

    others : (first + 1 ≤ x.input → x.input < (first + 1) + inputs → counted (x ∷ p) (first + 1) inputs ≡ suc (counted p (first + 1) inputs))
        → (x.input ≡ first → ⊥) → counted (x ∷ p) first (suc inputs) ≡ suc (counted p first (suc inputs))
    others rest e =
        let here = count_from-other x p first e in
        let there = rest (omega arith) (omega arith) in
        omega (arith, here, there, counted-suc (x ∷ p) first inputs, counted-suc p first inputs)

counted-nil : (first inputs : ℕ) → counted [] first inputs ≡ 0
unfolding counted count_from
counted-nil first zero = refl
counted-nil first (suc inputs) =
    let there = counted-nil (first + 1) inputs in
    omega (arith, there, counted-suc [] first inputs)

add_up : (inputs : ℕ) (p : List Arrival) → AllByRecursion (λ (x : Arrival). x.input < 0 + inputs) p → counted p 0 inputs ≡ length p
add_up inputs [] h = counted-nil 0 inputs
add_up inputs (x ∷ p) h =
    let here = counted-own x p 0 inputs (omega arith) h.0 in
    let rest = add_up inputs p h.1 in
    omega (arith, here, rest)

first_from : (inputs n : ℕ) (all : List Arrival) → AllByRecursion (λ (x : Arrival). x.input < 0 + inputs) all → AllByRecursion (λ (x : Arrival). x.input < 0 + inputs) (take n all)
first_from inputs n all h =
    let P : Arrival → Type 0 = λ x. x.input < 0 + inputs in
    each_first P (take n all) (drop n all) (subst (λ (xs : List Arrival). AllByRecursion P xs) (sym (take-append-drop n all)) h)

pub positions_add_up : PositionsAddUp
unfolding counted count_from
positions_add_up job v n h =
    let names = reads (vertex job v) in
    let all = merged job v in
    let e : length (map (meaning job) names) ≡ length names = length-map names (meaning job) in
    let from = subst (λ (inputs : ℕ). AllByRecursion (λ (x : Arrival). x.input < 0 + inputs) all) e (merge-input (map (meaning job) names)) in
    sum-map (pos job v n) (range_with_len 0 (length names))
    ∙ add_up (length names) (take n all) (first_from (length names) n all from)
    ∙ length-take-le n all h
