-- The lines of a report, one behind another.
use Rattle.std.proofs.Common.{◌≡◌, ℕ, ◌+◌, ◌<◌, true, false, List, [], ◌∷◌, ◌++◌, length, get_or, take, Option, Some, None, IfSome}
use Rattle.std.proofs.Common.{refl, sym, ap, ◌∙◌, subst, arith, append_assoc}
use Rattle.std.specs.Prelude.{codes, is_some, option_map}
use Rattle.std.specs.Option.{option_map_or}
use Rattle.std.proofs.lemmas.List.{append-nil, length-take-le, take_more}
use Rattle.std.proofs.lemmas.List.Folds.{flat_map-map}
use Rattle.ss_engine.specs.Plays.{made_of}
use Rattle.ss_fail.specs.declared.act.Act.{Act}
use Rattle.ss_fail.specs.declared.outcome.Outcome.{Outcome}
use Rattle.ss_fail.specs.declared.role.Role.{Role}
use Rattle.ss_frames.specs.Plans.{limits_of, plan_numbers, policies_of}
use Rattle.ss_plan.specs.Limit.{IsPlan}
use Rattle.ss_plan.specs.Plan.{PlanText}
use Rattle.ss_report.specs.ReadAgain.{whole_trace}
use Rattle.ss_report.specs.StateText.{inst_text, state_text, up_text}
use Rattle.ss_report.specs.TraceText.{trace_text}
use Rattle.ss_report.specs.declared.state_row.StateRow.TheVariants as line
use Rattle.ss_state.specs.Numbers.{VertexNumbers, vertex}
use Rattle.ss_state.specs.State.{InstNumbers, next}
use Rattle.ss_vertex.specs.Inst.{InstState, Running, inst_numbers, is_up, left_of, n_of, next_of, running_numbers}
use Rattle.ss_vertex.specs.Laws.{InstancesAreNumbered, IsNumbered}
use Rattle.ss_acts.specs.Parts.{IsReplicaOf}
use Rattle.ss_play.specs.Report.{replica_line, replica_lines, trace_lines}

-- ---- the trace

pub trace_is : (roles : List Role) (pairs : List (Act × Outcome)) → trace_lines roles (made_of pairs) ≡ whole_trace roles pairs
trace_is roles pairs = flat_map-map (λ m. trace_text roles m.act m.outcome) (λ pair. record { act = pair.0; outcome = pair.1 }) pairs

-- ---- replicas

lines_append : (roles : List Role) (x : VertexNumbers) (v r : ℕ) (xs ys : List (Option InstNumbers))
    → replica_lines roles x v r (xs ++ ys) ≡ replica_lines roles x v r xs ++ replica_lines roles x v (r + length xs) ys
lines_append roles x v r [] ys = ap (λ (n : ℕ). replica_lines roles x v n ys) (let e : r ≡ r + 0 = omega arith in e)
lines_append roles x v r (inst ∷ xs) ys =
    ap (λ (t : List ℕ). replica_line roles x v r inst ++ t)
    (lines_append roles x v (r + 1) xs ys
    ∙ ap (λ (n : ℕ). replica_lines roles x v (r + 1) xs ++ replica_lines roles x v n ys)
    (let e : (r + 1) + length xs ≡ r + length (inst ∷ xs) = omega arith in e))
    ∙ sym (append_assoc (replica_line roles x v r inst) (replica_lines roles x v (r + 1) xs)
    (replica_lines roles x v (r + length (inst ∷ xs)) ys))

-- the line of replica r behind those of the first r
pub replica_more : (roles : List Role) (x : VertexNumbers) (v r : ℕ) (insts : List (Option InstNumbers)) (inst : Option InstNumbers)
    (before : List ℕ) → r < length insts → get_or insts r None ≡ inst
    → before ++ replica_lines roles x v 0 (take r insts) ++ replica_line roles x v r inst
    ≡ before ++ replica_lines roles x v 0 (take (r + 1) insts)
replica_more roles x v r insts inst before h e =
    append_assoc before (replica_lines roles x v 0 (take r insts)) (replica_line roles x v r inst)
    ∙ ap (λ (t : List ℕ). before ++ t)
    (sym (ap (replica_lines roles x v 0) (take_more insts r None h)
    ∙ lines_append roles x v 0 (take r insts) (get_or insts r None ∷ [])
    ∙ ap (λ (t : List ℕ). replica_lines roles x v 0 (take r insts) ++ t)
    (append-nil (replica_line roles x v (0 + length (take r insts)) (get_or insts r None))
    ∙ ap (λ (n : ℕ). replica_line roles x v n (get_or insts r None))
    (let k : length (take r insts) ≡ r = length-take-le r insts (omega (arith, h)) in
    let f : 0 + length (take r insts) ≡ r = omega (arith, k) in f)
    ∙ ap (replica_line roles x v r) e)))

-- the line of one that is up, and of one that is down
running_line : (roles : List Role) (x : VertexNumbers) (v r : ℕ) (running : Option Running) → is_some running ≡ true
    → IfSome running (λ up. up.next ≡ next x (running_numbers up))
    → state_text roles (line.Up v r (option_map_or (λ up. up.n) running 0) (option_map_or (λ up. up.next) running 0)
    (option_map_or (λ up. length up.left) running 0))
    ≡ replica_line roles x v r (option_map running_numbers running)
running_line roles x v r None e is = absurd cc
running_line roles x v r (Some up) e is =
    ap (λ (n : ℕ). inst_text roles v r ++ up_text up.n n (length up.left)) is

pub up_line : (roles : List Role) (x : VertexNumbers) (v r : ℕ) (inst : InstState) → is_up inst ≡ true
    → IfSome inst.running (λ up. up.next ≡ next x (running_numbers up))
    → state_text roles (line.Up v r (n_of inst) (next_of inst) (left_of inst)) ≡ replica_line roles x v r (inst_numbers inst)
up_line roles x v r inst e is = running_line roles x v r inst.running e is

down_of : (roles : List Role) (x : VertexNumbers) (v r : ℕ) (running : Option Running) → is_some running ≡ false
    → state_text roles (line.Down v r) ≡ replica_line roles x v r (option_map running_numbers running)
down_of roles x v r None e = refl
down_of roles x v r (Some up) e = absurd cc

pub down_line : (roles : List Role) (x : VertexNumbers) (v r : ℕ) (inst : InstState) → is_up inst ≡ false
    → state_text roles (line.Down v r) ≡ replica_line roles x v r (inst_numbers inst)
down_line roles x v r inst e = down_of roles x v r inst.running e

-- an instance that stands has the numbers that its vertex has in the plan
pub numbered : InstancesAreNumbered → (plan : PlanText) → IsPlan plan → (v : ℕ) (inst : InstState) → IsReplicaOf plan v inst
    → IsNumbered plan (vertex (plan_numbers plan) v) inst
unfolding plan_numbers
numbered law plan is v inst replica =
    subst (λ (w : ℕ). IsNumbered plan (vertex (plan_numbers plan) w) inst) replica.vertex
    (law plan (policies_of plan.job) (limits_of plan.job) inst is replica.stands)

-- the same where the roles are those of the plan's job
pub up_told : (plan : PlanText) (roles : List Role) (x : VertexNumbers) (v r n following left : ℕ) (inst : InstState)
    → roles ≡ plan.job.roles → n ≡ n_of inst → following ≡ next_of inst → left ≡ left_of inst → is_up inst ≡ true → IsNumbered plan x inst
    → state_text roles (line.Up v r n following left) ≡ replica_line plan.job.roles x v r (inst_numbers inst)
up_told plan roles x v r n following left inst same n_is next_is left_is up is =
    ap (λ (rs : List Role). inst_text rs v r ++ up_text n following left) same
    ∙ ap (λ (m : ℕ). inst_text plan.job.roles v r ++ up_text m following left) n_is
    ∙ ap (λ (m : ℕ). inst_text plan.job.roles v r ++ up_text (n_of inst) m left) next_is
    ∙ ap (λ (m : ℕ). inst_text plan.job.roles v r ++ up_text (n_of inst) (next_of inst) m) left_is
    ∙ up_line plan.job.roles x v r inst up is.next

pub down_told : (plan : PlanText) (roles : List Role) (x : VertexNumbers) (v r : ℕ) (inst : InstState) → roles ≡ plan.job.roles
    → is_up inst ≡ false → state_text roles (line.Down v r) ≡ replica_line plan.job.roles x v r (inst_numbers inst)
down_told plan roles x v r inst same down =
    ap (λ (rs : List Role). inst_text rs v r ++ codes " down\n") same ∙ down_line plan.job.roles x v r inst down
