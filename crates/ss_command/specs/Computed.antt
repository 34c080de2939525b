-- The streams of a plan, as they are computed and put.
use Rattle.std.specs.Prelude.{◌≡◌, ⊤, ◌⊎◌, ℕ, List, [], Result, Ok, Err, get_or}
use Rattle.ss_elem.specs.declared.element.Element.{Element}
use Rattle.ss_outside.specs.Told.{OutputsTold}
use Rattle.ss_plan.specs.Limit.{IsFirst, IsLongAmong}
use Rattle.ss_plan.specs.Plan.{PlanText}
use Rattle.ss_plan.specs.Streams.{every}
use Rattle.ss_report.specs.declared.fault.Fault.{Fault}
use Rattle.ss_report.specs.declared.fault.Fault.TheVariants.{Memory}
use Rattle.ss_command.specs.Order.{too_long}
use Rattle.ss_command.specs.Output.{Streams, puts_of, sink_lines}
use Rattle.ss_command.specs.Puts.{Went, WentWhole, StopsInPuts}
use Rattle.ss_command.specs.Refusal.{Refusal, refusal_of}

-- the list under each number
abbrev pub list_at : List (List Element) → Streams
list_at lists v = get_or lists v []

-- no stream is too long
abbrev pub StreamsFit : PlanText → Type 0
StreamsFit plan = (v : ℕ) → IsLongAmong every plan v → ⊥

-- the first stream that is too long is told, or want of memory
abbrev pub StopsInStreams : PlanText → Refusal → Type 0
StopsInStreams plan refusal =
    ((v : ℕ) × IsFirst (IsLongAmong every plan) v × (refusal ≡ too_long plan.job v)) ⊎ (refusal ≡ refusal_of Memory)

-- how it ends that the streams of a plan are computed and then put
abbrev pub PutsStreams : PlanText → OutputsTold → OutputsTold → Result ⊤ Fault → Type 0
PutsStreams plan old new (Ok _) = StreamsFit plan × WentWhole old new (puts_of (sink_lines plan))
PutsStreams plan old new (Err fault) =
    (StopsInStreams plan (refusal_of fault) × Went old new [])
    ⊎ (StreamsFit plan × StopsInPuts old new (puts_of (sink_lines plan)) (refusal_of fault))
