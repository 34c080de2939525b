-- The texts at a few values, without their newlines where a cause stands alone.
use Rattle.std.proofs.Common.{◌≡◌, ◌^◌, ◌-◌, List, [], ◌∷◌, replicate, true, Some, None, pos, negsuc, codes, refl}
use Rattle.std.specs.Fmt.{digits}
use Rattle.ss_events.specs.declared.fault.EventWhy.TheVariants as event
use Rattle.ss_fail.specs.declared.role.Role.{Role}
use Rattle.ss_job.specs.declared.fault.JobWhy.TheVariants as job
use Rattle.ss_job.specs.declared.field_name.FieldName.TheVariants.{Where, Size, Hop, Every}
use Rattle.ss_job.specs.declared.op.Op.TheVariants.{Source, Window, Sink}
use Rattle.ss_report.specs.FaultText.{events_text, job_text}
use Rattle.ss_report.specs.StateText.{state_text}
use Rattle.ss_report.specs.WhyText.{job_why, event_why}
use Rattle.ss_report.specs.declared.state_row.StateRow.TheVariants as row
use Rattle.ss_water.specs.declared.node.Kind.TheVariants as kind

pub job_why-expression : job_why (job.BadExpr Where 0) ≡ codes "bad expression where at 0"
unfolding digits
job_why-expression = refl

pub job_why-range : job_why (job.BadRange Size (pos 25) (pos 10) (pos 640)) ≡ codes "size is 25, not 10 to 640"
unfolding digits
job_why-range = refl

pub job_why-below_zero : job_why (job.BadRange Hop (negsuc 4) (pos 1) (pos (2 ^ 40))) ≡ codes "hop is -5, not 1 to 1099511627776"
unfolding digits
job_why-below_zero = refl

-- the least number of a TOML document
pub job_why-least : job_why (job.BadRange Every (negsuc (2 ^ 63 - 1)) (pos 1) (pos 131072)) ≡ codes "every is -9223372036854775808, not 1 to 131072"
unfolding digits
job_why-least = refl

pub event_why-early : event_why (event.EarlyEvent 9 10) ≡ codes "event starts at 9, before 10"
unfolding digits
event_why-early = refl

pub event_why-backward : event_why (event.BackwardCti 5 10) ≡ codes "cti goes back from 10 to 5"
unfolding digits
event_why-backward = refl

pub events_text-early : events_text (codes "in.csv") 2 (event_why (event.EarlyEvent 9 10)) ≡ codes "streamscope: events in.csv: row 2: event starts at 9, before 10\n"
unfolding digits
events_text-early = refl

pub job_text-later_input : job_text (Some 0) (job_why job.LaterInput) ≡ codes "streamscope: job: vertex 0: input names no earlier vertex\n"
unfolding digits
job_text-later_input = refl

pub job_text-no_sink : job_text None (job_why job.NoSink) ≡ codes "streamscope: job: no sink\n"
job_text-no_sink = refl

-- a source `in`, a window `w` and a sink `out`
abbrev pub roles : List Role
roles =
    record { name = codes "in"; kind = kind.Source; replicas = 1 }
    ∷ record { name = codes "w"; kind = kind.Inner; replicas = 1 }
    ∷ record { name = codes "out"; kind = kind.Sink; replicas = 1 }
    ∷ []

pub state_text-source : state_text roles (row.Vertex 0 Source (replicate 8 0) 0) ≡ codes "0 in source\n"
unfolding digits
state_text-source = refl

pub state_text-window : state_text roles (row.Vertex 1 Window (replicate 8 0) 1) ≡ codes "1 w window in\n"
unfolding digits
state_text-window = refl

pub state_text-sink : state_text roles (row.Vertex 2 Sink (1 ∷ replicate 7 0) 1) ≡ codes "2 out sink w\n"
unfolding digits
state_text-sink = refl

pub state_text-checked : state_text roles (row.Checked 3) ≡ codes "ok 3\n"
unfolding digits
state_text-checked = refl

pub state_text-summary : state_text roles (row.Summary 2 3) ≡ codes "sink out 3\n"
unfolding digits
state_text-summary = refl

pub state_text-done : state_text roles row.Done ≡ codes "done\n"
state_text-done = refl

pub state_text-stream : state_text roles (row.Source 0 1 3 2 4 true 5) ≡ codes "stream in base 1 dur 3 from 2 end 4 torn yes mark 5\n"
unfolding digits
state_text-stream = refl

pub state_text-up : state_text roles (row.Up 1 0 9 8 7) ≡ codes "inst w 0 up n 9 next 8 left 7\n"
unfolding digits
state_text-up = refl

pub state_text-down : state_text roles (row.Down 1 1) ≡ codes "inst w 1 down\n"
unfolding digits
state_text-down = refl

pub state_text-taken : state_text roles (row.Sink 2 6) ≡ codes "sink out taken 6\n"
unfolding digits
state_text-taken = refl

pub state_text-journal : state_text roles (row.Journal 3 2) ≡ codes "journal 3 since 2\n"
unfolding digits
state_text-journal = refl
