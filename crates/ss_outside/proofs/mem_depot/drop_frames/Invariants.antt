-- Every frame from number n on stays, and each turn takes one frame away.
use Rattle.std.proofs.Common.{◌≡◌, ◌≤◌, ℕ, length}
use Rattle.ss_outside.specs.MemDepot.{frame_in}
use Rattle.ss_outside.proofs.mem_depot.drop_frames.Given as goal

abbrev pub invariant-loop-frames : goal.invariant-loop-frames
invariant-loop-frames l = (m : ℕ) → l.n ≤ m → frame_in l.frames m ≡ frame_in l.initial.frames m

abbrev pub decreases-loop-frames : goal.decreases-loop-frames
decreases-loop-frames l = length l.frames.entries
