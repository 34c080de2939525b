use Rattle.std.proofs.Common.{◌≡◌}
use Rattle.ss_command.specs.Output.{vertex_lines}
use Rattle.ss_command.proofs.check.lines_of.Given as goal

abbrev pub invariant-loop-v : goal.invariant-loop-v
invariant-loop-v l = l.text.items ≡ vertex_lines l.job l.v
