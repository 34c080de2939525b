-- Positions and outputs of a vertex.
use Rattle.std.proofs.Common.{◌≡◌, ℕ, zero, suc, ◌+◌, ◌<◌, ◌≤◌, Bool, true, false, cond, nat_eq, List, [], ◌∷◌, length, take, get_or, refl, ap, ◌∙◌, arith, eq-eqb}
use Rattle.std.proofs.lemmas.List.{take_all}
use Rattle.ss_state.specs.Numbers.{VertexNumbers, count_of, sum_of, mlen, pos, out, size, wanted_input}

pub out_whole : (x : VertexNumbers) → length x.given ≡ length x.arrivals → out x (mlen x) ≡ size x
unfolding out size
out_whole x e = ap sum_of (take_all (length x.arrivals) x.given (omega arith))

sum_take : (n : ℕ) (xs : List ℕ) → sum_of (take n xs) ≤ sum_of xs
sum_take zero xs = omega arith
sum_take (suc n) [] = omega arith
sum_take (suc n) (x ∷ xs) = let rest = sum_take n xs in omega arith

pub out_le_size : (x : VertexNumbers) (n : ℕ) → out x n ≤ size x
unfolding out size
out_le_size x n = sum_take n x.given

count_next : (i n : ℕ) (xs : List ℕ) → n < length xs → get_or xs n 0 ≡ i → count_of i (take (suc n) xs) ≡ count_of i (take n xs) + 1
count_next i n [] h e = absurd (omega arith)
count_next i zero (x ∷ xs) h e = ap (λ b. cond b 1 0) (eq-eqb x i e)
count_next i (suc n) (x ∷ xs) h e = by_test (nat_eq x i) (count_next i n xs (omega arith) e)
  where
    by_test : (b : Bool) → count_of i (take (suc n) xs) ≡ count_of i (take n xs) + 1
        → cond b (count_of i (take (suc n) xs) + 1) (count_of i (take (suc n) xs)) ≡ cond b (count_of i (take n xs) + 1) (count_of i (take n xs)) + 1
    by_test true k = omega arith
    by_test false k = k

-- one element more of its input is behind the wanted one
pub pos_next : (x : VertexNumbers) (n : ℕ) → n < mlen x → pos x (n + 1) (wanted_input x n) ≡ pos x n (wanted_input x n) + 1
unfolding pos wanted_input
pos_next x n h =
    let more : n + 1 ≡ suc n = omega arith in
    ap (λ k. count_of (get_or x.arrivals n 0) (take k x.arrivals)) more ∙ count_next (get_or x.arrivals n 0) n x.arrivals h refl
