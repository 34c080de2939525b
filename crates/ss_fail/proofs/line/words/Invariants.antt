use Rattle.std.proofs.Common.{◌≡◌, take}
use Rattle.std.specs.Prelude.{filter, map}
use Rattle.ss_fail.specs.Lines.{has_bytes}
use Rattle.ss_fail.proofs.line.words.Given as goal

-- the words so far are those of the texts passed
abbrev pub invariant-loop-text : goal.invariant-loop-text
invariant-loop-text l = map (λ word. word.now) l.words.items ≡ filter has_bytes (map (λ text. text.now) (take l.text-index l.text-items))
