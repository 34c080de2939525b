-- The lines of a vertex, by what is told of the parts of a running job that is joint.
use Rattle.std.proofs.Common.{◌≡◌, ℕ, ◌+◌, ◌≤◌, List, [], ◌++◌, length, take, false, Some, sym, ap, ◌∙◌, append_assoc, add-one, arith}
use Rattle.std.proofs.lemmas.List.{take_all}
use Rattle.ss_engine.specs.Plays.{made_of}
use Rattle.ss_fail.specs.declared.act.Act.{Act}
use Rattle.ss_fail.specs.declared.outcome.Outcome.{Outcome}
use Rattle.ss_report.specs.ReadAgain.{whole_trace}
use Rattle.ss_report.specs.StateText.{journal_text}
use Rattle.ss_state.specs.Step.{Made}
use Rattle.ss_vertex.specs.Inst.{InstState, inst_numbers}
use Rattle.ss_engine.specs.Joint.{Joint}
use Rattle.ss_engine.specs.Told.{PlantTold, inst_of, state_of}
use Rattle.ss_fail.specs.declared.role.Role.{Role}
use Rattle.ss_frames.specs.Plans.{plan_numbers}
use Rattle.ss_plan.specs.Plan.{PlanText}
use Rattle.ss_state.specs.Numbers.{vertex}
use Rattle.ss_state.specs.State.{State, insts_at}
use Rattle.ss_vault.specs.Told.{VaultTold, numbers_of}
use Rattle.ss_play.specs.Report.{lines_below, replica_line, replica_lines, replicas_text, report_text, state_lines, trace_lines}
use Rattle.ss_play.specs.Roles.{IsRoleOf, IsVertexOf}
use Rattle.ss_water.specs.Graph.{is_sink}
use Rattle.ss_play.proofs.Plants.{inst_is, inst_within}
use Rattle.ss_play.proofs.ReportLines.{replica_more, trace_is}

-- ---- replicas

abbrev lines_before : PlantTold → ℕ → ℕ → List ℕ
lines_before p v r =
    replica_lines p.plan.job.roles (vertex (plan_numbers p.plan) v) v 0 (take r (insts_at (state_of p) v))

-- the line of one more replica
pub replica_step : (p : PlantTold) → Joint p → (v : ℕ) → IsVertexOf p.plan v → (plan : PlanText) → plan ≡ p.plan → (r : ℕ) (inst : InstState)
    → inst_of p v r ≡ Some inst → (start now next : List ℕ) → now ≡ start ++ lines_before p v r
    → next ≡ now ++ replica_line plan.job.roles (vertex (plan_numbers plan) v) v r (inst_numbers inst) → next ≡ start ++ lines_before p v (r + 1)
replica_step p joint v is plan same r inst found start now next before line =
    line
    ∙ ap (λ (text : PlanText). now ++ replica_line text.job.roles (vertex (plan_numbers text) v) v r (inst_numbers inst)) same
    ∙ ap (λ (t : List ℕ). t ++ replica_line p.plan.job.roles (vertex (plan_numbers p.plan) v) v r (inst_numbers inst)) before
    ∙ replica_more p.plan.job.roles (vertex (plan_numbers p.plan) v) v r (insts_at (state_of p) v) (inst_numbers inst) start
    (inst_within p joint v r inst is.numbered found) (inst_is p joint v r inst is.numbered found)

pub replicas_end : (p : PlantTold) → Joint p → (v r replicas : ℕ) → (vertex (plan_numbers p.plan) v).replicas ≡ replicas → replicas ≤ r
    → (start now : List ℕ) → now ≡ start ++ lines_before p v r → now ≡ start ++ replicas_text p.plan (state_of p) v
replicas_end p joint v r replicas many le start now before =
    let all = joint.numbers.replicas v in
    before ∙ ap (λ insts. start ++ replica_lines p.plan.job.roles (vertex (plan_numbers p.plan) v) v 0 insts)
    (take_all r (insts_at (state_of p) v) (omega (arith, all, many, le)))

-- a vertex that gives a stream has the replicas of its role
pub stream_replicas : (plan : PlanText) (v : ℕ) (role : Role) → IsRoleOf plan v role → is_sink (vertex (plan_numbers plan) v).kind ≡ false
    → (vertex (plan_numbers plan) v).replicas ≡ role.replicas
stream_replicas plan v role is stream = is.replicas (ap is_sink (sym is.kind) ∙ stream)

-- ---- all vertices

pub lines_more : (plan : PlanText) (s : State) (v : ℕ) (start now next : List ℕ) → now ≡ start ++ lines_below plan s v
    → next ≡ now ++ state_lines plan s v → next ≡ start ++ lines_below plan s (v + 1)
lines_more plan s v start now next before line =
    line
    ∙ ap (λ (t : List ℕ). t ++ state_lines plan s v) before
    ∙ append_assoc start (lines_below plan s v) (state_lines plan s v)
    ∙ sym (ap (λ (n : ℕ). start ++ lines_below plan s n) (add-one v))

-- ---- the report

pub report_is : (p : PlantTold) (plan : PlanText) (made : List Made) (vault : VaultTold) → plan ≡ p.plan → vault ≡ p.vault
    → (b c d : List ℕ) → b ≡ trace_lines plan.job.roles made
    → c ≡ b ++ lines_below p.plan (state_of p) (length (plan_numbers p.plan).vertices)
    → d ≡ c ++ journal_text (length (numbers_of vault).journal) (numbers_of vault).ledger.since
    → d ≡ report_text p.plan made (state_of p)
report_is p plan made vault same_plan same_vault b c d first second third =
    let lines : List ℕ = lines_below p.plan (state_of p) (length (plan_numbers p.plan).vertices) in
    let trace : b ≡ trace_lines p.plan.job.roles made = first ∙ ap (λ (text : PlanText). trace_lines text.job.roles made) same_plan in
    third
    ∙ ap (λ (told : VaultTold). c ++ journal_text (length (numbers_of told).journal) (numbers_of told).ledger.since) same_vault
    ∙ ap (λ (t : List ℕ). t ++ journal_text (length (numbers_of p.vault).journal) (numbers_of p.vault).ledger.since)
    (second ∙ ap (λ (t : List ℕ). t ++ lines) trace)
    ∙ append_assoc (trace_lines p.plan.job.roles made) lines (journal_text (length (numbers_of p.vault).journal) (numbers_of p.vault).ledger.since)

-- the lines of pairs of act and outcome
pub trace_text_is : (plan : PlanText) (roles : List Role) (pairs : List (Act × Outcome)) (made : List Made) (a b : List ℕ)
    → roles ≡ plan.job.roles → made_of pairs ≡ made → a ≡ [] → b ≡ a ++ whole_trace roles pairs → b ≡ trace_lines plan.job.roles made
trace_text_is plan roles pairs made a b same_roles same_made none line =
    line ∙ ap (λ (t : List ℕ). t ++ whole_trace roles pairs) none ∙ sym (trace_is roles pairs)
    ∙ ap (λ (rs : List Role). trace_lines rs (made_of pairs)) same_roles ∙ ap (trace_lines plan.job.roles) same_made
