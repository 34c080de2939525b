-- Numbers written one after another in front of zeros.
use Rattle.std.proofs.Common.{◌≡◌, ℕ, suc, ◌+◌, ◌-◌, ◌<◌, ◌≤◌, List, [], ◌∷◌, ◌++◌, length, get_or, take, set, replicate, sym, ap, ◌∙◌, arith, append_assoc}
use Rattle.std.proofs.lemmas.List.{take_more, set_at, length-take-le, take_all}
use Rattle.ss_frames.specs.Frames.{padded}

-- the first so many are written
abbrev pub written : List ℕ → ℕ → List ℕ
written ns i = take i ns ++ replicate (8 - i) 0

pub one_more_written : (ns : List ℕ) (i : ℕ) → i < length ns → length ns ≤ 8 → set (written ns i) i (get_or ns i 0) ≡ written ns (i + 1)
one_more_written ns i h few =
    let zeros : 8 - i ≡ suc (8 - (i + 1)) = omega arith in
    ap (λ k. set (take i ns ++ replicate k 0) i (get_or ns i 0)) zeros
    ∙ set_at (take i ns) 0 (replicate (8 - (i + 1)) 0) (get_or ns i 0) i (length-take-le i ns (omega arith))
    ∙ sym (append_assoc (take i ns) (get_or ns i 0 ∷ []) (replicate (8 - (i + 1)) 0))
    ∙ ap (λ (front : List ℕ). front ++ replicate (8 - (i + 1)) 0) (sym (take_more ns i 0 h))

pub all_written : (ns : List ℕ) (i : ℕ) → i ≡ length ns → written ns i ≡ padded ns
all_written ns i e =
    ap (λ (front : List ℕ). front ++ replicate (8 - i) 0) (take_all i ns (omega arith))
    ∙ ap (λ k. ns ++ replicate (8 - k) 0) e
