-- The bounds before any element.
use Rattle.std.proofs.Common.{◌≡◌, ℕ, zero, suc, ◌+◌, ◌≤◌, List, [], ◌∷◌, length, take, map, replicate, refl, sym, ap, ◌∙◌}
use Rattle.std.proofs.lemmas.List.{take-replicate}
use Rattle.std.specs.List.{range_with_len}
use Rattle.std.proofs.lemmas.List.FromFn.{length-map-range_with_len}
use Rattle.ss_meaning.specs.Bound.{bound}
use Rattle.ss_meaning.specs.Inputs.{bounds}
use Rattle.ss_meaning.specs.Merge.{Arrival, from_input}

abbrev none : ℕ → ℕ
none i = 0

zeros : (n a : ℕ) → map none (range_with_len a n) ≡ replicate n 0
zeros zero a = refl
zeros (suc n) a = ap (λ (ns : List ℕ). 0 ∷ ns) (zeros n (a + 1))

pub no_bounds : (width : ℕ) → width ≤ 8 → take width (replicate 8 0) ≡ bounds width []
no_bounds width h = take-replicate width 8 0 h ∙ sym (zeros width 0)

pub bounds_count : (width : ℕ) (p : List Arrival) → length (bounds width p) ≡ width
bounds_count width p = length-map-range_with_len (λ input. bound (from_input input p)) 0 width
