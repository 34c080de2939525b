-- A list of held slots whose first one goes behind the others.
use Rattle.std.proofs.Common.{◌≡◌, ◌≢◌, ℕ, ◌+◌, ◌<◌, eqb, not, cond, List, [], ◌∷◌, ◌++◌, length, get_or, take, drop, refl, sym, ap, ◌∙◌, arith, eq-eqb, ne_eqb}
use Rattle.std.specs.List.{position_or_len}
use Rattle.std.proofs.lemmas.List.Sums.{sum_by-append, sum_by-cons}
use mathlib.Core.Logic.{dite}
use mathlib.Core.List.{map-append}
use native.Mathlib.Decide.{ℕ_discrete}
use Rattle.atomic_table.specs.Table.{turned}
use Rattle.ss_turns.specs.View.{times}
use Rattle.ss_turns.specs.Fits.{emptied}
use Rattle.ss_turns.proofs.Counting.{times_else}

abbrev pub rotated : List ℕ → List ℕ
rotated xs = drop 1 xs ++ take 1 xs

pub emptied_rotated : {T : Type 0} (xs : List ℕ) → turned (emptied {T = T} xs) ≡ emptied (rotated xs)
emptied_rotated [] = refl
emptied_rotated (x ∷ xs) = sym (map-append (λ k. (k, _)) xs (x ∷ []))

pub times_rotated : (k : ℕ) (xs : List ℕ) → times k (rotated xs) ≡ times k xs
times_rotated k [] = refl
times_rotated k (x ∷ xs) =
    let f : ℕ → ℕ = λ y. cond (eqb y k) 1 0 in
    let apart = sum_by-append f xs (x ∷ []) in let first = sum_by-cons f x xs in let last = sum_by-cons f x [] in omega arith

-- where k stands is not changed by what comes after it
place_kept : (k : ℕ) (xs ys : List ℕ) → 0 < times k xs → position_or_len (λ x. eqb x k) (xs ++ ys) ≡ position_or_len (λ x. eqb x k) xs
place_kept k [] ys some = absurd (omega arith)
place_kept k (x ∷ xs) ys some = dite (ℕ_discrete x k)
    (λ same. let yes = eq-eqb x k same in ap (λ b. cond (not b) (1 + position_or_len (λ y. eqb y k) (xs ++ ys)) 0) yes ∙ sym (ap (λ b. cond (not b) (1 + position_or_len (λ y. eqb y k) xs) 0) yes))
    (λ other. let e = times_else k x xs other in ap (λ n. cond (not (eqb x k)) (1 + n) 0) (place_kept k xs ys (omega arith)))

pub nearer : (k : ℕ) (xs : List ℕ) (d : ℕ) → 0 < times k xs → get_or xs 0 d ≢ k → position_or_len (λ x. eqb x k) (rotated xs) < position_or_len (λ x. eqb x k) xs
nearer k [] d some other = absurd (omega arith)
nearer k (x ∷ xs) d some other =
    let e = times_else k x xs other in
    let after : position_or_len (λ y. eqb y k) (x ∷ xs) ≡ 1 + position_or_len (λ y. eqb y k) xs = ap (λ b. cond (not b) (1 + position_or_len (λ y. eqb y k) xs) 0) (ne_eqb x k other) in
    let same = place_kept k xs (x ∷ []) (omega arith) in omega arith

pub first_is : (k : ℕ) (xs : List ℕ) (d : ℕ) → 0 < times k xs → get_or xs 0 d ≡ k → xs ≡ k ∷ drop 1 xs
first_is k [] d some same = absurd (omega arith)
first_is k (x ∷ xs) d some same = ap (λ y. y ∷ xs) same

pub some_held : (k : ℕ) (xs : List ℕ) → 0 < times k xs → 0 < length xs
some_held k [] some = absurd (omega arith)
some_held k (x ∷ xs) some = omega arith
