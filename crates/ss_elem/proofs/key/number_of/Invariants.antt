use Rattle.std.proofs.Common.{◌≡◌, ◌+◌, ◌*◌, ◌-◌, ◌^◌, drop}
use Rattle.ss_elem.specs.Key.{weight}
use Rattle.ss_elem.proofs.key.number_of.Given as goal

-- the number so far is the front of the whole
abbrev pub invariant-loop-place : goal.invariant-loop-place
invariant-loop-place l = l.number * 256 ^ (16 - l.place) + weight (16 - l.place) (drop l.place l.bytes) ≡ weight 16 l.bytes
