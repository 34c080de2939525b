use Rattle.std.proofs.Common.{◌≡◌, drop}
use Rattle.std.specs.Prelude.{map}
use Rattle.ss_fail.specs.Acts.{trigger_line}
use Rattle.ss_fail.specs.Lines.{values_of}
use Rattle.ss_fail.specs.SaidLine.{said}
use Rattle.ss_fail.proofs.Values.{with_front}
use Rattle.ss_fail.proofs.script.read_triggers.Given as goal

-- what was read and what is still read are all
abbrev pub invariant-loop-line : goal.invariant-loop-line
invariant-loop-line l =
    with_front l.triggers.items (values_of (trigger_line l.roles) (map said (drop l.line-index l.lines))) ≡ values_of (trigger_line l.roles) (map said l.lines)
