use Rattle.std.proofs.Common.{◌≡◌, ◌+◌, ◌++◌, drop}
use Rattle.std.specs.Prelude.{map}
use Rattle.std.specs.Str.Lines.{lines_of_parts}
use Rattle.ss_fail.specs.Lines.{said_lines}
use Rattle.ss_fail.specs.SaidLine.{said}
use Rattle.ss_fail.proofs.said_lines.lines_in.Given as goal

-- the lines found and those that are left are all
abbrev pub invariant-loop-place : goal.invariant-loop-place
invariant-loop-place l =
    map said l.said.items ++ said_lines (l.place + 1) (lines_of_parts (drop l.place (map (λ part. part.now) l.parts)))
    ≡ said_lines 1 (lines_of_parts (map (λ part. part.now) l.parts))
