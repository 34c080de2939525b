use Rattle.std.proofs.Common.{◌≡◌, ◌≤◌, ◌<◌, false, nat_le, ℕ, true, arith}
use Rattle.std.proofs.lemmas.Bool.Decides.{nat_tests}
use Rattle.std.proofs.lemmas.List.Filters.{FiltersInPlace-more_no, FiltersInPlace-more_set}
use Rattle.ss_vault.proofs.numbers.drop_below.Goals as goal
use Rattle.ss_vault.proofs.numbers.drop_below.Goals.{then-snap-low, else-snap-low}

le_true : (m n : ℕ) → m ≤ n → nat_le m n ≡ true
le_true m n h = grind (arith, nat_tests)

le_false : (m n : ℕ) → n < m → nat_le m n ≡ false
le_false m n h = grind (arith, nat_tests)

pub loop-place-preserved : goal.loop-place-preserved
loop-place-preserved c =
    elim c.if-snap-low.branch [
      | then-snap-low w ↦ rw (w.snaps-is, w.kept-is)
          (FiltersInPlace-more_set c.loop-place.invariant (omega arith) (le_true c.args.low c.index-snap.result.now.n w.if-snap-low.true) c.index-snap.ensures)
      | else-snap-low w ↦ rw (w.snaps-is, w.kept-is)
          (FiltersInPlace-more_no c.loop-place.invariant (omega arith) (le_false c.args.low c.index-snap.result.now.n w.if-snap-low.false) c.index-snap.ensures)
    ]
