-- The text of each cause.
use Rattle.std.specs.Prelude.{ℕ, ℤ, List, ◌++◌, codes}
use Rattle.std.specs.Fmt.{decimal, signed_decimal}
use Rattle.ss_events.specs.declared.fault.EventWhy.{EventWhy}
use Rattle.ss_events.specs.declared.fault.EventWhy.TheVariants as event
use Rattle.ss_fail.specs.declared.fault.ScriptWhy.{ScriptWhy}
use Rattle.ss_fail.specs.declared.fault.ScriptWhy.TheVariants as script
use Rattle.ss_job.specs.Format.{key_of}
use Rattle.ss_job.specs.declared.fault.JobWhy.{JobWhy}
use Rattle.ss_job.specs.declared.fault.JobWhy.TheVariants.{NotToml, MissingField, WrongKind, UnknownField, BadName}
use Rattle.ss_job.specs.declared.fault.JobWhy.TheVariants.{RepeatedName, RepeatedFile, BadOp, BadWord, LaterInput}
use Rattle.ss_job.specs.declared.fault.JobWhy.TheVariants.{SinkAsInput, WrongInputCount, BadRange, BadExpr, Unread}
use Rattle.ss_job.specs.declared.fault.JobWhy.TheVariants.{NoSink, TooManyVertices}

-- a number that is out of its range
abbrev pub range_text : List ℕ → ℤ → ℤ → ℤ → List ℕ
range_text key got least most =
    key ++ codes " is " ++ signed_decimal got
    ++ codes ", not " ++ signed_decimal least ++ codes " to " ++ signed_decimal most

-- why bytes say no job
abbrev pub job_why : JobWhy → List ℕ
job_why NotToml = codes "not a TOML document"
job_why (MissingField field) = codes "missing " ++ key_of field
job_why (WrongKind field) = codes "wrong kind of " ++ key_of field
job_why UnknownField = codes "unknown field"
job_why BadName = codes "bad name"
job_why RepeatedName = codes "repeated name"
job_why RepeatedFile = codes "repeated file"
job_why BadOp = codes "unknown op"
job_why (BadWord field) = codes "bad " ++ key_of field
job_why LaterInput = codes "input names no earlier vertex"
job_why SinkAsInput = codes "input is a sink"
job_why WrongInputCount = codes "wrong number of inputs"
job_why (BadRange field got least most) = range_text (key_of field) got least most
job_why (BadExpr field at) = codes "bad expression " ++ key_of field ++ codes " at " ++ decimal at
job_why Unread = codes "nothing reads this vertex"
job_why NoSink = codes "no sink"
job_why TooManyVertices = codes "too many vertices"

-- why a row of an event file is refused
abbrev pub event_why : EventWhy → List ℕ
event_why event.TooManyRows = codes "too many rows"
event_why event.AfterEnd = codes "row after end"
event_why event.BadKind = codes "bad kind"
event_why event.BadCount = codes "bad number of fields"
event_why event.BadNumber = codes "bad number"
event_why event.BadKey = codes "bad key"
event_why event.EmptySpan = codes "empty span"
event_why (event.EarlyEvent start bound) =
    codes "event starts at " ++ decimal start ++ codes ", before " ++ decimal bound
event_why (event.BackwardCti time bound) = codes "cti goes back from " ++ decimal bound ++ codes " to " ++ decimal time

-- why a line of a script is refused
abbrev pub script_why : ScriptWhy → List ℕ
script_why script.BadWord = codes "bad word"
script_why script.BadCount = codes "bad number of words"
script_why script.UnknownName = codes "unknown name"
script_why script.BadNumber = codes "bad number"
script_why script.NoReplica = codes "no such replica"
