use Rattle.std.proofs.Common.{◌≡◌, ◌+◌, ◌-◌, ◌*◌}
use Rattle.ss_codec.proofs.Bounds.{bound_fault}
use Rattle.ss_codec.proofs.frame_reader.check_bounds.Given as goal

-- the bounds that are left have the first fault of all
abbrev pub invariant-loop-k : goal.invariant-loop-k
invariant-loop-k l = bound_fault (l.width - l.k) (31 + 16 * l.k) l.bytes ≡ bound_fault l.width 31 l.bytes
