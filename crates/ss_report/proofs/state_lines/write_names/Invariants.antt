use Rattle.std.proofs.Common.{◌≡◌, ◌++◌, take}
use Rattle.ss_report.specs.StateText.{names_text}
use Rattle.ss_report.proofs.state_lines.write_names.Given as goal

-- the names of the vertices passed are appended
abbrev pub invariant-loop-v : goal.invariant-loop-v
invariant-loop-v l = l.out.items ≡ l.fn.out.items ++ names_text l.roles (take l.v-index l.vertices)
