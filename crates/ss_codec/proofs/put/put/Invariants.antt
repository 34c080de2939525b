use Rattle.std.proofs.Common.{◌≡◌, ◌++◌, take}
use Rattle.ss_codec.specs.Joined.{joined}
use Rattle.ss_codec.proofs.put.put.Given as goal

-- the texts passed are appended
abbrev pub invariant-loop-text : goal.invariant-loop-text
invariant-loop-text l = l.out.items ≡ l.fn.out.items ++ joined (take l.text-index l.texts)
