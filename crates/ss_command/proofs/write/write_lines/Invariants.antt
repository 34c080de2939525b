use Rattle.std.proofs.Common.{take}
use Rattle.ss_command.specs.Puts.{WentWhole, lines_to}
use Rattle.ss_command.proofs.write.write_lines.Given as goal

-- the lines of the elements passed are put
abbrev pub invariant-loop-element : goal.invariant-loop-element
invariant-loop-element g l =
    WentWhole (g.O.Outputs.told l.fn.outputs) (g.O.Outputs.told l.outputs) (lines_to l.file (take l.element-index l.list))
