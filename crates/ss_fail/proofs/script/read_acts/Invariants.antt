use Rattle.std.proofs.Common.{◌≡◌, drop}
use Rattle.std.specs.Prelude.{map}
use Rattle.ss_fail.specs.Acts.{act_line}
use Rattle.ss_fail.specs.Lines.{values_of}
use Rattle.ss_fail.specs.SaidLine.{said}
use Rattle.ss_fail.proofs.Values.{with_front}
use Rattle.ss_fail.proofs.script.read_acts.Given as goal

-- what was read and what is still read are all
abbrev pub invariant-loop-line : goal.invariant-loop-line
invariant-loop-line l =
    with_front l.acts.items (values_of (act_line l.roles) (map said (drop l.line-index l.lines))) ≡ values_of (act_line l.roles) (map said l.lines)
