use Rattle.std.proofs.Common.{◌≡◌, ◌++◌, take}
use Rattle.ss_gen.specs.Texts.{texts_joined}
use Rattle.ss_gen.proofs.put.put.Given as goal

-- the texts passed are appended
abbrev pub invariant-loop-text : goal.invariant-loop-text
invariant-loop-text l = l.out.items ≡ l.fn.out.items ++ texts_joined (take l.text-index l.texts)
