-- The line of each fault, with its newline.
use Rattle.std.specs.Prelude.{ℕ, Bool, true, false, List, ◌++◌, Option, Some, None, codes}
use Rattle.std.specs.Fmt.{decimal}
use Rattle.ss_report.specs.WhyText.{job_why, event_why, script_why}
use Rattle.ss_report.specs.declared.fault.Fault.{Fault}
use Rattle.ss_report.specs.declared.fault.Fault.TheVariants.{Usage, Job, Events, Inputs}
use Rattle.ss_report.specs.declared.fault.Fault.TheVariants.{Store, Output, Script, Full, Memory, Damaged}

-- what stands before the cause of a job's fault, which is at a vertex or not
abbrev pub job_head : Option ℕ → List ℕ
job_head None = codes "streamscope: job: "
job_head (Some vertex) = codes "streamscope: job: vertex " ++ decimal vertex ++ codes ": "

-- a fault of a job
abbrev pub job_text : Option ℕ → List ℕ → List ℕ
job_text vertex why = job_head vertex ++ why ++ codes "\n"

-- a row of a file that is refused
abbrev pub events_text : List ℕ → ℕ → List ℕ → List ℕ
events_text file row why =
    codes "streamscope: events " ++ file ++ codes ": row " ++ decimal row ++ codes ": " ++ why ++ codes "\n"

-- a file that could not be read
abbrev pub unread_text : List ℕ → List ℕ
unread_text file = codes "streamscope: cannot read " ++ file ++ codes "\n"

-- a line of a script that is refused
abbrev pub script_text : List ℕ → ℕ → List ℕ → List ℕ
script_text file line why =
    codes "streamscope: script " ++ file ++ codes ": line " ++ decimal line ++ codes ": " ++ why ++ codes "\n"

-- a stream that is too long
abbrev pub full_text : List ℕ → ℕ → List ℕ
full_text name most = codes "streamscope: stream " ++ name ++ codes " passes " ++ decimal most ++ codes " elements\n"

-- bytes of the store that aren't what was stored
abbrev pub damaged_text : List ℕ → ℕ → List ℕ
damaged_text name n = codes "streamscope: stored bytes damaged: " ++ (name ++ (codes " " ++ (decimal n ++ codes "\n")))

-- what a fault is told by
abbrev pub fault_text : Fault → List ℕ
fault_text Usage =
    codes "usage: streamscope check|plain|play|run|gen SUBJECT"
    ++ codes " [--workers N] [--failures F] [--schedule F] [--trace F]\n"
fault_text (Job fault) = job_text fault.vertex (job_why fault.why)
fault_text (Events file fault) = events_text file.now fault.row (event_why fault.why)
fault_text (Inputs file) = unread_text file.now
fault_text Store = codes "streamscope: store fault\n"
fault_text Output = codes "streamscope: output fault\n"
fault_text (Script file fault) = script_text file.now fault.line (script_why fault.why)
fault_text (Full name most) = full_text name.now most
fault_text (Damaged name n) = damaged_text name.now n
fault_text Memory = codes "streamscope: out of memory\n"

-- whether the line names nothing, so that it is always the same
abbrev pub is_fixed : Fault → Bool
is_fixed Usage = true
is_fixed Store = true
is_fixed Output = true
is_fixed Memory = true
is_fixed _ = false
