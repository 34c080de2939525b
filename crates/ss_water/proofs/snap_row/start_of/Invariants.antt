use Rattle.std.proofs.Common.{ℕ, ◌<◌, ◌≤◌}
use Rattle.ss_water.specs.Starts.{out_at}
use Rattle.ss_water.proofs.snap_row.start_of.Given as goal

-- what is found among the snapshots passed, if they have one, and that none behind it would do
abbrev pub invariant-loop-place : goal.invariant-loop-place
invariant-loop-place l = record {
  found : (k : ℕ) → k < l.place → out_at l.rows k ≤ l.dur → (l.start < l.place) × (out_at l.rows l.start ≤ l.dur);
  last : (k : ℕ) → l.start < k → k < l.place → l.dur < out_at l.rows k;
}
