-- The lines of traces: an act as a schedule writes it, and what came of it.
use Rattle.std.specs.Prelude.{ℕ, ◌<◌, List, ◌++◌, codes, length}
use Rattle.std.specs.Fmt.{decimal}
use Rattle.ss_fail.specs.declared.act.Act.{Act}
use Rattle.ss_fail.specs.declared.act.Act.TheVariants.{Read, Write, Snap, Crash, Load, Lose}
use Rattle.ss_fail.specs.declared.act.Act.TheVariants.{Flush, Take, Collect, Trim, Pass}
use Rattle.ss_fail.specs.declared.outcome.Outcome.{Outcome}
use Rattle.ss_fail.specs.declared.outcome.Outcome.TheVariants as outcome
use Rattle.ss_fail.specs.declared.role.Role.{Role}
use Rattle.ss_report.specs.StateText.{name_of}

-- a word, and a vertex's name
abbrev pub name_text : List ℕ → List Role → ℕ → List ℕ
name_text word roles v = word ++ name_of roles v

-- and a number behind them
abbrev pub numbered_text : List ℕ → List Role → ℕ → ℕ → List ℕ
numbered_text word roles v number = word ++ name_of roles v ++ codes " " ++ decimal number

-- an act's line of a schedule, without a newline
abbrev pub act_text : List Role → Act → List ℕ
act_text roles (Read v r) = numbered_text (codes "read ") roles v r
act_text roles (Write v r) = numbered_text (codes "write ") roles v r
act_text roles (Snap v r) = numbered_text (codes "snap ") roles v r
act_text roles (Crash v r) = numbered_text (codes "crash ") roles v r
act_text roles (Load v r) = numbered_text (codes "load ") roles v r
act_text roles (Lose v) = name_text (codes "lose ") roles v
act_text roles (Flush v count) = numbered_text (codes "flush ") roles v count
act_text roles (Take k) = name_text (codes "take ") roles k
act_text roles (Collect v) = name_text (codes "collect ") roles v
act_text roles (Trim v) = name_text (codes "trim ") roles v
act_text roles Pass = codes "pass"

abbrev pub pair_text : List ℕ → ℕ → ℕ → List ℕ
pair_text word first second = word ++ decimal first ++ codes " " ++ decimal second

abbrev pub outcome_text : Outcome → List ℕ
outcome_text outcome.Down = codes "down"
outcome_text (outcome.Pending left) = codes "pending " ++ decimal left
outcome_text outcome.Ended = codes "ended"
outcome_text (outcome.Got input n) = pair_text (codes "got ") input n
outcome_text (outcome.Gone input n) = pair_text (codes "gone ") input n
outcome_text (outcome.Wait input n) = pair_text (codes "wait ") input n
outcome_text (outcome.Gap end) = codes "gap " ++ decimal end
outcome_text outcome.Idle = codes "idle"
outcome_text (outcome.Stored n) = codes "stored " ++ decimal n
outcome_text (outcome.Known n) = codes "known " ++ decimal n
outcome_text (outcome.Old n) = codes "old " ++ decimal n
outcome_text (outcome.Kept n) = codes "kept " ++ decimal n
outcome_text outcome.Crashed = codes "crashed"
outcome_text outcome.Up = codes "up"
outcome_text (outcome.Loaded n) = codes "loaded " ++ decimal n
outcome_text (outcome.Lost count) = codes "lost " ++ decimal count
outcome_text (outcome.Flushed count) = codes "flushed " ++ decimal count
outcome_text (outcome.PassDue since) = codes "pass_due " ++ decimal since
outcome_text (outcome.Apart from dur) = pair_text (codes "apart ") from dur
outcome_text (outcome.Took n) = codes "took " ++ decimal n
outcome_text (outcome.WaitDur dur) = codes "wait " ++ decimal dur
outcome_text (outcome.Base n) = codes "base " ++ decimal n
outcome_text (outcome.Low n) = codes "low " ++ decimal n
outcome_text (outcome.Mark n) = codes "mark " ++ decimal n
outcome_text outcome.Passed = codes "passed"

-- a line of a trace, with its newline
abbrev pub trace_text : List Role → Act → Outcome → List ℕ
trace_text roles act outcome = act_text roles act ++ codes ": " ++ outcome_text outcome ++ codes "\n"

-- the vertices of an act have roles
abbrev pub IsActOf : List Role → Act → Type 0
IsActOf roles (Read v r) = v < length roles
IsActOf roles (Write v r) = v < length roles
IsActOf roles (Snap v r) = v < length roles
IsActOf roles (Crash v r) = v < length roles
IsActOf roles (Load v r) = v < length roles
IsActOf roles (Lose v) = v < length roles
IsActOf roles (Flush v count) = v < length roles
IsActOf roles (Take k) = k < length roles
IsActOf roles (Collect v) = v < length roles
IsActOf roles (Trim v) = v < length roles
IsActOf roles Pass = Unit {0}
