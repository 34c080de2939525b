use Rattle.std.proofs.Common.{◌≡◌, true, take}
use Rattle.std.specs.List.{list_all}
use Rattle.ss_elem.specs.Key.{is_key_byte}
use Rattle.ss_elem.proofs.key.first_bad_byte.Given as goal

-- all bytes passed may stand in a key
abbrev pub invariant-loop-at : goal.invariant-loop-at
invariant-loop-at l = list_all is_key_byte (take l.at l.bytes) ≡ true
