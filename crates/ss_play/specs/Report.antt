-- The report on a schedule that was played: the lines of its acts, and the state that they left.
use Rattle.std.specs.Prelude.{ℕ, zero, suc, ◌+◌, List, [], ◌∷◌, ◌++◌, codes, length, map, Option, Some, None}
use Rattle.std.specs.Fmt.{decimal}
use Rattle.std.specs.List.{flat_map}
use Rattle.ss_fail.specs.declared.role.Role.{Role}
use Rattle.ss_frames.specs.Plans.{plan_numbers}
use Rattle.ss_plan.specs.Plan.{PlanText}
use Rattle.ss_report.specs.StateText.{name_of, stream_text, mark_text, snaps_line_end, inst_text, up_text}
use Rattle.ss_report.specs.StateText.{journal_text}
use Rattle.ss_report.specs.TraceText.{trace_text}
use Rattle.ss_state.specs.Numbers.{VertexNumbers, vertex}
use Rattle.ss_state.specs.State.{InstNumbers, State, next, tail_at, insts_at, durable_at}
use Rattle.ss_state.specs.Step.{Made}
use Rattle.ss_vault.specs.Sound.{snap_at}
use Rattle.ss_water.specs.declared.node.Kind.{Kind}
use Rattle.ss_water.specs.declared.node.Kind.TheVariants.{Source, Inner, Sink}

-- the lines of the acts that were made
abbrev pub trace_lines : List Role → List Made → List ℕ
trace_lines roles made = flat_map (λ m. trace_text roles m.act m.outcome) made

-- what is stored of vertex v's stream, and what its tail shows
abbrev pub stream_start : PlanText → State → ℕ → List ℕ
stream_start plan s v =
    let row = durable_at s v in
    let tail = tail_at s v in
    stream_text plan.job.roles v row.base row.dur tail.from tail.end tail.torn

-- how far a replica is
abbrev pub replica_line : List Role → VertexNumbers → ℕ → ℕ → Option InstNumbers → List ℕ
replica_line roles x v r None = inst_text roles v r ++ codes " down\n"
replica_line roles x v r (Some up) = inst_text roles v r ++ up_text up.n (next x up) up.left

-- the same of these replicas, the first of which has number r
abbrev pub replica_lines : List Role → VertexNumbers → ℕ → ℕ → List (Option InstNumbers) → List ℕ
replica_lines roles x v r [] = []
replica_lines roles x v r (inst ∷ insts) = replica_line roles x v r inst ++ replica_lines roles x v (r + 1) insts

-- all replicas of vertex v
abbrev pub replicas_text : PlanText → State → ℕ → List ℕ
replicas_text plan s v = replica_lines plan.job.roles (vertex (plan_numbers plan) v) v 0 (insts_at s v)

-- how many lines a sink has put
abbrev pub sink_line : List Role → ℕ → ℕ → List ℕ
sink_line roles k taken = codes "sink " ++ name_of roles k ++ codes " taken " ++ decimal taken ++ codes "\n"

-- the lines of vertex v, which is of this kind
abbrev pub lines_of_kind : Kind → PlanText → State → ℕ → List ℕ
lines_of_kind Source plan s v = stream_start plan s v ++ mark_text (durable_at s v).mark ++ replicas_text plan s v
lines_of_kind Inner plan s v =
    stream_start plan s v ++ snaps_line_end (map (snap_at plan v) (durable_at s v).snaps) ++ replicas_text plan s v
lines_of_kind Sink plan s v = sink_line plan.job.roles v (durable_at s v).taken

abbrev pub state_lines : PlanText → State → ℕ → List ℕ
state_lines plan s v = lines_of_kind (vertex (plan_numbers plan) v).kind plan s v

-- the lines of the first vertices
abbrev pub lines_below : PlanText → State → ℕ → List ℕ
lines_below plan s zero = []
lines_below plan s (suc v) = lines_below plan s v ++ state_lines plan s v

-- the state: a group of lines for each vertex, and the journal
abbrev pub table_text : PlanText → State → List ℕ
table_text plan s =
    lines_below plan s (length (plan_numbers plan).vertices)
    ++ journal_text (length s.vault.journal) s.vault.ledger.since

abbrev pub report_text : PlanText → List Made → State → List ℕ
report_text plan made s = trace_lines plan.job.roles made ++ table_text plan s
