-- The newest of rising snapshots is the last one.
use Rattle.std.proofs.Common.{◌≡◌, ◌∙◌, ℕ, suc, ◌-◌, ◌≤◌, List, [], ◌∷◌, Some, length, map, sym, ap, subst, arith}
use Rattle.std.specs.Prelude.{slice_get, option_map}
use Rattle.std.proofs.lemmas.List.{length-map}
use Rattle.std.proofs.lemmas.Option.{slice_get-map}
use Rattle.ss_state.specs.Joint.{Rises}
use Rattle.ss_state.specs.Rule.{last_snap}
use Rattle.ss_water.specs.declared.snap_row.SnapRow.{SnapRow}

record IsNewest (m n : ℕ) (ns : List ℕ) : Type 0 where
  is : n ≡ last_snap (m ∷ ns)
  above : m ≤ n

same_of : (m n : ℕ) → Some m ≡ Some n → m ≡ n
same_of m n e = cc

last_is : (m n : ℕ) (ns : List ℕ) → Rises (m ∷ ns) → slice_get (m ∷ ns) (length ns) ≡ Some n → IsNewest m n ns
last_is m n [] rises e =
    let same = same_of m n e in
    record { is = omega (arith, same); above = omega (arith, same) }
last_is m n (k ∷ ns) rises e =
    let behind = last_is k n ns rises.1 e in
    let more = rises.0.0 in
    let is = behind.is in
    let above = behind.above in
    record { is = omega (arith, more, is, above); above = omega (arith, more, above) }

newest_of : (ns : List ℕ) (n : ℕ) → Rises ns → slice_get ns (length ns - 1) ≡ Some n → n ≡ last_snap ns
newest_of [] n rises e = absurd cc
newest_of (m ∷ ns) n rises e =
    let same : suc (length ns) - 1 ≡ length ns = omega arith in
    (last_is m n ns rises (subst (λ (i : ℕ). slice_get (m ∷ ns) i ≡ Some n) same e)).is

pub newest_is : (snaps : List SnapRow) (ns : List ℕ) (snap : SnapRow) → map (λ (s : SnapRow). s.n) snaps ≡ ns → Rises ns
    → Some snap ≡ slice_get snaps (length snaps - 1) → snap.n ≡ last_snap ns
newest_is snaps ns snap are rises last =
    let many : length snaps ≡ length ns = sym (length-map snaps (λ (s : SnapRow). s.n)) ∙ ap length are in
    newest_of ns snap.n rises
    (ap (λ (xs : List ℕ). slice_get xs (length ns - 1)) (sym are)
    ∙ slice_get-map (λ (s : SnapRow). s.n) snaps (length ns - 1)
    ∙ ap (λ (i : ℕ). option_map (λ (s : SnapRow). s.n) (slice_get snaps (i - 1))) (sym many)
    ∙ ap (option_map (λ (s : SnapRow). s.n)) (sym last))
