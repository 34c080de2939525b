-- What a snapshot leaves of the vault.
use Rattle.std.proofs.Common.{◌≡◌, ℕ, ◌<◌, nat_lt, Bool, true, false, Option, Some, None, Ok, option_map, length, refl, sym, ap, ◌∙◌, subst, arith, if◌then◌else◌}
use Rattle.std.proofs.lemmas.Bool.{lt-ltb}
use Rattle.std.specs.Option.{option_map_or}
use Rattle.std.specs.Prelude.{is_some}
use Rattle.ss_acts.specs.Calls.{Snaps}
use Rattle.ss_acts.specs.Parts.{vertex_of}
use Rattle.ss_acts.specs.Readings.{snapping}
use Rattle.ss_acts.specs.Told.{keep_outcome}
use Rattle.ss_acts.proofs.Goings.{goes_on, stays}
use Rattle.ss_fail.specs.declared.outcome.Outcome.{Outcome}
use Rattle.ss_fail.specs.declared.outcome.Outcome.TheVariants as outcome
use Rattle.ss_frames.specs.Plans.{plan_numbers}
use Rattle.ss_plan.specs.Plan.{PlanText}
use Rattle.ss_state.specs.Acts.{VaultStep, keep, snap_act, snap_inner}
use Rattle.ss_state.specs.Journal.{enter, is_one_of}
use Rattle.ss_state.specs.LowWater.{low}
use Rattle.ss_state.specs.Numbers.{JobNumbers, is_inner, vertex}
use Rattle.ss_state.specs.State.{InstNumbers, VaultNumbers, row_at}
use Rattle.ss_state.specs.declared.entry.Entry.TheVariants as entry
use Rattle.ss_vault.specs.Answers.{entry_of_keep, keep_answer}
use Rattle.ss_vault.specs.Calls.{Keeps}
use Rattle.ss_vault.specs.Told.{VaultTold, numbers_of}
use Rattle.ss_vault.specs.declared.answers.Keep.{Keep}
use Rattle.ss_vault.specs.declared.answers.Keep.TheVariants as kept
use Rattle.ss_vertex.specs.Calls.{IsSnapFault}
use Rattle.ss_vertex.specs.declared.fault.SnapFault.{SnapFault}
use Rattle.ss_vertex.specs.declared.fault.SnapFault.TheVariants as snapped
use Rattle.ss_vertex.specs.Inst.{InstState, Running, inst_numbers, is_up, left_of, n_of, running_numbers}

abbrev left : VaultNumbers → Outcome → VaultStep
left vault told = record { vault = vault; outcome = told }

-- the answer and the step, by the tests that they are made of
abbrev answered : Bool → Bool → ℕ → Keep
answered known old mark = if known then kept.Known else (if old then kept.Old mark else kept.Kept)

abbrev stepped : Bool → Bool → JobNumbers → ℕ → ℕ → ℕ → VaultNumbers → VaultStep
stepped known old job v n mark vault =
    if known then left vault (outcome.Known n)
    else (if old then left vault (outcome.Old mark) else left (enter job vault (Some (entry.Kept v n))) (outcome.Kept n))

abbrev left_by : JobNumbers → ℕ → ℕ → VaultNumbers → Keep → VaultStep
left_by job v n vault answer = left (enter job vault (entry_of_keep v n answer)) (keep_outcome n answer)

by_tests : (known old : Bool) (job : JobNumbers) (v n mark : ℕ) (vault : VaultNumbers)
    → stepped known old job v n mark vault ≡ left_by job v n vault (answered known old mark)
by_tests true old job v n mark vault = refl
by_tests false true job v n mark vault = refl
by_tests false false job v n mark vault = refl

keep_is : (job : JobNumbers) (v n : ℕ) (vault : VaultNumbers) → keep job v n vault ≡ left_by job v n vault (keep_answer job vault.ledger v n)
unfolding keep
keep_is job v n vault =
    let row = row_at vault.ledger v in
    by_tests (is_one_of n row.snaps) (nat_lt n (low (vertex job v) row)) job v n (low (vertex job v) row) vault

-- an operator's replica, or a source's

abbrev kinded : Bool → JobNumbers → ℕ → Option InstNumbers → VaultNumbers → VaultStep
kinded operator job v inst vault = if operator then snap_inner job v inst vault else left vault outcome.Idle

snap_is : (job : JobNumbers) (v : ℕ) (inst : Option InstNumbers) (vault : VaultNumbers)
    → snap_act job v inst vault ≡ kinded (is_inner (vertex job v).kind) job v inst vault
unfolding snap_act
snap_is job v inst vault = refl

pub idle : (plan : PlanText) (inst : InstState) (s : VaultTold) → is_inner (vertex_of plan inst.v).kind ≡ false
    → Snaps plan inst s (Ok outcome.Idle) s
idle plan inst s source = (
  snap_is (plan_numbers plan) inst.v (inst_numbers inst) (numbers_of s)
      ∙ ap (λ (b : Bool). kinded b (plan_numbers plan) inst.v (inst_numbers inst) (numbers_of s)) source,
  stays s,
)

inner_is : (plan : PlanText) (inst : InstState) (s : VaultTold) → is_inner (vertex_of plan inst.v).kind ≡ true
    → snapping plan inst s ≡ snap_inner (plan_numbers plan) inst.v (inst_numbers inst) (numbers_of s)
inner_is plan inst s operator =
    snap_is (plan_numbers plan) inst.v (inst_numbers inst) (numbers_of s)
    ∙ ap (λ (b : Bool). kinded b (plan_numbers plan) inst.v (inst_numbers inst) (numbers_of s)) operator

down_is : (job : JobNumbers) (v : ℕ) (running : Option Running) (vault : VaultNumbers) → is_some running ≡ false
    → snap_inner job v (option_map running_numbers running) vault ≡ left vault outcome.Down
down_is job v None vault down = refl
down_is job v (Some up) vault down = absurd cc

pub down : (plan : PlanText) (inst : InstState) (s : VaultTold) → is_inner (vertex_of plan inst.v).kind ≡ true → is_up inst ≡ false
    → Snaps plan inst s (Ok outcome.Down) s
down plan inst s operator is_down =
    (inner_is plan inst s operator ∙ down_is (plan_numbers plan) inst.v inst.running (numbers_of s) is_down, stays s)

abbrev pended : Bool → JobNumbers → ℕ → ℕ → ℕ → VaultNumbers → VaultStep
pended some job v n count vault = if some then left vault (outcome.Pending count) else keep job v n vault

up_is : (job : JobNumbers) (v : ℕ) (running : Option Running) (vault : VaultNumbers) → is_some running ≡ true
    → snap_inner job v (option_map running_numbers running) vault
    ≡ pended (nat_lt 0 (option_map_or (λ up. length up.left) running 0)) job v (option_map_or (λ up. up.n) running 0)
    (option_map_or (λ up. length up.left) running 0) vault
up_is job v None vault up = absurd cc
up_is job v (Some r) vault up = refl

-- outputs are left
pub is_pending : (inst : InstState) (f : SnapFault) (count : ℕ) → f ≡ snapped.Pending count → IsSnapFault inst f → (count ≡ left_of inst) × (0 < count)
is_pending inst f count is fault = subst (IsSnapFault inst) is fault

pub pending : (plan : PlanText) (inst : InstState) (s : VaultTold) (count : ℕ) → is_inner (vertex_of plan inst.v).kind ≡ true → is_up inst ≡ true
    → count ≡ left_of inst → 0 < count → Snaps plan inst s (Ok (outcome.Pending count)) s
pending plan inst s count operator up is some = (
  inner_is plan inst s operator
      ∙ up_is (plan_numbers plan) inst.v inst.running (numbers_of s) up
      ∙ ap (λ (b : Bool). pended b (plan_numbers plan) inst.v (n_of inst) (left_of inst) (numbers_of s)) (lt-ltb 0 (left_of inst) (omega (arith, is, some)))
      ∙ ap (λ (k : ℕ). left (numbers_of s) (outcome.Pending k)) (sym is),
  stays s,
)

-- the vault is asked
pub snaps : (plan : PlanText) (inst : InstState) (s u : VaultTold) (n : ℕ) (answer : Keep) → is_inner (vertex_of plan inst.v).kind ≡ true
    → is_up inst ≡ true → left_of inst ≡ 0 → n ≡ n_of inst → Keeps plan inst.v n s (Ok answer) u
    → Snaps plan inst s (Ok (keep_outcome n answer)) u
snaps plan inst s u n answer operator up none is made = (
  inner_is plan inst s operator
      ∙ up_is (plan_numbers plan) inst.v inst.running (numbers_of s) up
      ∙ ap (λ (k : ℕ). pended (nat_lt 0 k) (plan_numbers plan) inst.v (n_of inst) k (numbers_of s)) none
      ∙ ap (λ (k : ℕ). keep (plan_numbers plan) inst.v k (numbers_of s)) (sym is)
      ∙ keep_is (plan_numbers plan) inst.v n (numbers_of s)
      ∙ ap (λ (a : Keep). left_by (plan_numbers plan) inst.v n (numbers_of s) a) (sym made.0)
      ∙ ap (λ (x : VaultNumbers). left x (keep_outcome n answer)) (sym made.1.numbers),
  goes_on plan s u (entry_of_keep inst.v n answer) made.1,
)
