-- Positions and outputs of a vertex, and the greatest of some numbers.
use Rattle.std.proofs.Common.{◌≡◌, ℕ, zero, suc, ◌+◌, ◌<◌, ◌≤◌, Bool, true, false, cond, nat_eq, List, [], ◌∷◌, length, take, get_or, refl, ap, ◌∙◌, arith, eq-eqb, ne_eqb}
use Rattle.std.proofs.lemmas.List.{take_all}
use Rattle.ss_state.specs.Numbers.{VertexNumbers, count_of, sum_of, mlen, pos, out, size, wanted_input}
use Rattle.ss_state.specs.Laws.{PositionsNeverFall, OutNeverFalls}

count_le : (i : ℕ) (m n : ℕ) (xs : List ℕ) → m ≤ n → count_of i (take m xs) ≤ count_of i (take n xs)
count_le i zero n xs h = omega arith
count_le i (suc m) zero xs h = absurd (omega arith)
count_le i (suc m) (suc n) [] h = omega arith
count_le i (suc m) (suc n) (x ∷ xs) h = by_test (nat_eq x i) (count_le i m n xs (omega arith))
  where
    by_test : (b : Bool) → count_of i (take m xs) ≤ count_of i (take n xs)
        → cond b (count_of i (take m xs) + 1) (count_of i (take m xs)) ≤ cond b (count_of i (take n xs) + 1) (count_of i (take n xs))
    by_test true k = omega arith
    by_test false k = k

pub positions_never_fall : PositionsNeverFall
unfolding pos
positions_never_fall x m n i h = count_le i m n x.arrivals h

total_le : (m n : ℕ) (xs : List ℕ) → m ≤ n → sum_of (take m xs) ≤ sum_of (take n xs)
total_le zero n xs h = omega arith
total_le (suc m) zero xs h = absurd (omega arith)
total_le (suc m) (suc n) [] h = omega arith
total_le (suc m) (suc n) (x ∷ xs) h = let rest = total_le m n xs (omega arith) in omega arith

pub out_never_falls : OutNeverFalls
unfolding out
out_never_falls x m n h = total_le m n x.given h

pub pos_zero : (x : VertexNumbers) (i : ℕ) → pos x 0 i ≡ 0
unfolding pos
pos_zero x i = refl

pub out_zero : (x : VertexNumbers) → out x 0 ≡ 0
unfolding out
out_zero x = refl

count_next : (i n : ℕ) (xs : List ℕ) → n < length xs → count_of i (take (suc n) xs) ≡ cond (nat_eq (get_or xs n 0) i) (count_of i (take n xs) + 1) (count_of i (take n xs))
count_next i n [] h = absurd (omega arith)
count_next i zero (x ∷ xs) h = refl
count_next i (suc n) (x ∷ xs) h = by_tests (nat_eq x i) (nat_eq (get_or xs n 0) i) (count_next i n xs (omega arith))
  where
    by_tests : (b c : Bool) → count_of i (take (suc n) xs) ≡ cond c (count_of i (take n xs) + 1) (count_of i (take n xs))
        → cond b (count_of i (take (suc n) xs) + 1) (count_of i (take (suc n) xs))
        ≡ cond c (cond b (count_of i (take n xs) + 1) (count_of i (take n xs)) + 1) (cond b (count_of i (take n xs) + 1) (count_of i (take n xs)))
    by_tests true true e = omega arith
    by_tests true false e = omega arith
    by_tests false true e = e
    by_tests false false e = e

pub pos_next_same : (x : VertexNumbers) (n : ℕ) → n < mlen x → pos x (n + 1) (wanted_input x n) ≡ pos x n (wanted_input x n) + 1
unfolding pos wanted_input
pos_next_same x n h =
    let test = eq-eqb (get_or x.arrivals n 0) (get_or x.arrivals n 0) refl in
    let more : n + 1 ≡ suc n = omega arith in
    ap (λ k. count_of (get_or x.arrivals n 0) (take k x.arrivals)) more
    ∙ count_next (get_or x.arrivals n 0) n x.arrivals h
    ∙ ap (λ b. cond b (count_of (get_or x.arrivals n 0) (take n x.arrivals) + 1) (count_of (get_or x.arrivals n 0) (take n x.arrivals))) test

pub pos_next_other : (x : VertexNumbers) (n i : ℕ) → n < mlen x → (wanted_input x n ≡ i → ⊥) → pos x (n + 1) i ≡ pos x n i
unfolding pos wanted_input
pos_next_other x n i h other =
    let test = ne_eqb (get_or x.arrivals n 0) i other in
    let more : n + 1 ≡ suc n = omega arith in
    ap (λ k. count_of i (take k x.arrivals)) more
    ∙ count_next i n x.arrivals h ∙ ap (λ b. cond b (count_of i (take n x.arrivals) + 1) (count_of i (take n x.arrivals))) test

pub out_le_size : (x : VertexNumbers) (n : ℕ) → out x n ≤ size x
unfolding out size
out_le_size x n = total_take n x.given
  where
    total_take : (n : ℕ) (xs : List ℕ) → sum_of (take n xs) ≤ sum_of xs
    total_take zero xs = omega arith
    total_take (suc n) [] = omega arith
    total_take (suc n) (x ∷ xs) = let rest = total_take n xs in omega arith

pub out_whole : (x : VertexNumbers) → length x.given ≡ length x.arrivals → out x (mlen x) ≡ size x
unfolding out size
out_whole x e = ap sum_of (take_all (length x.arrivals) x.given (omega arith))

count_at_most : (i n : ℕ) (xs : List ℕ) → count_of i (take n xs) ≤ n
count_at_most i zero xs = omega arith
count_at_most i (suc n) [] = omega arith
count_at_most i (suc n) (x ∷ xs) = by_test (nat_eq x i) (count_at_most i n xs)
  where
    by_test : (b : Bool) → count_of i (take n xs) ≤ n → cond b (count_of i (take n xs) + 1) (count_of i (take n xs)) ≤ suc n
    by_test true h = omega arith
    by_test false h = omega arith

pub pos_le : (x : VertexNumbers) (n i : ℕ) → pos x n i ≤ n
unfolding pos
pos_le x n i = count_at_most i n x.arrivals
