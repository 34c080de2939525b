-- What schedules and failure files say.
use Rattle.std.specs.Prelude.{ℕ, List, Result}
use Rattle.ss_fail.specs.declared.act.Act.{Act}
use Rattle.ss_fail.specs.declared.fault.ScriptFault.{ScriptFault}
use Rattle.ss_fail.specs.declared.role.Role.{Role}
use Rattle.ss_fail.specs.declared.trigger.Trigger.{Trigger}
use Rattle.ss_fail.specs.Acts.{act_line, trigger_line}
use Rattle.ss_fail.specs.Lines.{script_of}

-- the acts that a schedule says, or its first fault
unfoldable pub acts_of : List Role → List ℕ → Result (List Act) ScriptFault
acts_of roles bytes = script_of (act_line roles) bytes

-- the triggers that a failure file says, or its first fault
unfoldable pub triggers_of : List Role → List ℕ → Result (List Trigger) ScriptFault
triggers_of roles bytes = script_of (trigger_line roles) bytes
