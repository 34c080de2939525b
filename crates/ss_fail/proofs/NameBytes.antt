-- The bytes of a name that is made of a text.
use Rattle.std.proofs.Common.{◌≡◌, ℕ, ◌<◌, ◌≤◌, List, ◌++◌, length, take, drop, replicate, sym, ap, ◌∙◌}
use Rattle.std.proofs.Math.Seq.{take-append_seam}
use Rattle.std.proofs.lemmas.List.{drop-replicate}
use Rattle.ss_fail.specs.Name.{padded, IsKept}

-- a text that is written over the front of 32 zeros is kept
pub kept-text : (text : List ℕ) → 0 < length text → length text ≤ 32 → IsKept (text ++ drop (length text) (replicate 32 0)) (length text)
kept-text text some few =
    let front : take (length text) (text ++ drop (length text) (replicate 32 0)) ≡ text = take-append_seam text (drop (length text) (replicate 32 0)) in
    record {
      some = some;
      few = few;
      zeros = ap (λ (zeros : List ℕ). text ++ zeros) (drop-replicate (length text) 32 0) ∙ ap padded (sym front);
    }
