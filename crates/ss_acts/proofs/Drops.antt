-- What a collect, a trim and a pass leave of the vault.
use Rattle.std.proofs.Common.{◌≡◌, ℕ, Bool, true, false, Option, Some, None, Ok, Err, refl, sym, ap, ◌∙◌, subst, if◌then◌else◌}
use Rattle.std.specs.Prelude.{IsSome}
use Rattle.ss_acts.specs.Calls.{CollectsStream, PassesAll, TrimsVertex}
use Rattle.ss_acts.specs.Faults.{FailsToDrop, FailsToPass, of_vault}
use Rattle.ss_acts.specs.Leaves.{HasPlaceNow}
use Rattle.ss_acts.specs.Parts.{vertex_of}
use Rattle.ss_acts.specs.Told.{trim_outcome}
use Rattle.ss_acts.proofs.Goings.{goes_on}
use Rattle.ss_fail.specs.declared.outcome.Outcome.{Outcome}
use Rattle.ss_fail.specs.declared.outcome.Outcome.TheVariants as outcome
use Rattle.ss_frames.specs.Plans.{plan_numbers}
use Rattle.ss_outside.specs.Depot.{DepotTold}
use Rattle.ss_outside.specs.Faults.{Rose}
use Rattle.ss_outside.specs.Told.{OutputsTold}
use Rattle.ss_plan.specs.Plan.{PlanText}
use Rattle.ss_state.specs.Acts.{VaultStep, collect_act, pass_act, trim_act}
use Rattle.ss_state.specs.Journal.{all_halves, enter}
use Rattle.ss_state.specs.LowWater.{low, need}
use Rattle.ss_state.specs.Numbers.{JobNumbers, VertexNumbers, is_inner, vertex}
use Rattle.ss_state.specs.State.{LedgerRow, VaultNumbers, row_at}
use Rattle.ss_state.specs.declared.entry.Entry.{Entry}
use Rattle.ss_state.specs.declared.entry.Entry.TheVariants as entry
use Rattle.ss_vault.specs.Answers.{trim_answer}
use Rattle.ss_vault.specs.Calls.{Collects, Enters, KeepsAllButPlaces, Passes, Trims}
use Rattle.ss_vault.specs.Counts.{NoneFell, counts_told}
use Rattle.ss_vault.specs.Told.{VaultTold, counts_of, numbers_of}
use Rattle.ss_vault.specs.declared.counts.Counts.{Counts}
use Rattle.ss_vault.specs.declared.fault.VaultFault.{VaultFault}
use Rattle.ss_vault.specs.declared.fault.VaultFault.TheVariants as fault

-- ---- from a vault of which a place was reserved back to what it was before

same_counts : (s m : VaultTold) → KeepsAllButPlaces s m → counts_of m ≡ counts_of s
same_counts s m same =
    ap (λ (o : OutputsTold). counts_told o m.depot) same.outputs ∙ ap (λ (d : DepotTold). counts_told s.outputs d) same.depot

enters_from : (plan : PlanText) (s m u : VaultTold) (e : Option Entry) (halt : Option VaultFault) → KeepsAllButPlaces s m
    → Enters plan m e halt u → Enters plan s e halt u
enters_from plan s m u e halt same enters = record {
  going = sym same.halted ∙ enters.going;
  numbers = enters.numbers ∙ ap (λ (n : VaultNumbers). enter (plan_numbers plan) n e) same.numbers;
  halted = enters.halted;
  started = enters.started ∙ same.started;
  counts = subst (λ (c : Counts). NoneFell c (counts_of u)) (same_counts s m same) enters.counts;
}

rose_from : (s m : VaultTold) (n : ℕ) → KeepsAllButPlaces s m → Rose m.depot.faults n → Rose s.depot.faults n
rose_from s m n same rose = subst (λ (d : DepotTold). Rose d.faults n) same.depot rose

no_cause : (halted : Option VaultFault) → halted ≡ None → IsSome halted → ⊥
no_cause None going is = cc
no_cause (Some f) going is = cc

not_halted : (s : VaultTold) → s.halted ≡ None → IsSome s.halted → ⊥
not_halted s going halted = no_cause s.halted going halted

-- ---- a collect and a trim

abbrev left : VaultNumbers → Outcome → VaultStep
left vault told = record { vault = vault; outcome = told }

fails_by : (plan : PlanText) (s m u : VaultTold) (f : VaultFault) → HasPlaceNow s m → Collects plan 0 m (Err f) u
    → FailsToDrop plan s (of_vault f) u
fails_by plan s m u (fault.Store count) ready made =
    let stops = made.1 in (
      tt,
      (
        stops.0,
        rose_from s m u.depot.faults ready.same stops.1,
        enters_from plan s m u None (Some (fault.Store count)) ready.same stops.2,
      ),
    )
fails_by plan s m u (fault.Output count) ready made = absurd made.0
fails_by plan s m u (fault.Damaged v n) ready made = absurd made.0
fails_by plan s m u fault.Halted ready made = absurd (not_halted m (ready.same.halted ∙ ready.going) made.1.0)
fails_by plan s m u fault.Memory ready made = absurd made.0

collect_is : (job : JobNumbers) (v : ℕ) (vault : VaultNumbers)
    → collect_act job v vault ≡ left (enter job vault (Some (entry.Collected v))) (outcome.Base (need job vault.ledger v))
unfolding collect_act
collect_is job v vault = refl

-- a collect is made
pub collects : (plan : PlanText) (v n : ℕ) (s m u : VaultTold) → HasPlaceNow s m → Collects plan v m (Ok n) u
    → CollectsStream plan v s (Ok (outcome.Base n)) u
collects plan v n s m u ready made =
    let job : JobNumbers = plan_numbers plan in
    let enters = enters_from plan s m u (Some (entry.Collected v)) None ready.same made.1 in
    let is : n ≡ need job (numbers_of s).ledger v = made.0 ∙ ap (λ (k : VaultNumbers). need job k.ledger v) ready.same.numbers in (
      collect_is job v (numbers_of s)
          ∙ ap (λ (b : ℕ). left (enter job (numbers_of s) (Some (entry.Collected v))) (outcome.Base b)) (sym is)
          ∙ ap (λ (k : VaultNumbers). left k (outcome.Base n)) (sym enters.numbers),
      goes_on plan s u (Some (entry.Collected v)) enters,
    )

-- or isn't
pub collect_fails : (plan : PlanText) (v : ℕ) (s m u : VaultTold) (f : VaultFault) → HasPlaceNow s m → Collects plan v m (Err f) u
    → FailsToDrop plan s (of_vault f) u
collect_fails plan v s m u f ready made = fails_by plan s m u f ready made

told_by : (inner : Bool) (low dur : ℕ)
    → (if inner then outcome.Low low else outcome.Mark dur) ≡ trim_outcome inner (if inner then low else dur)
told_by true low dur = refl
told_by false low dur = refl

trim_is : (job : JobNumbers) (v : ℕ) (vault : VaultNumbers)
    → trim_act job v vault
    ≡ left (enter job vault (Some (entry.Trimmed v))) (trim_outcome (is_inner (vertex job v).kind) (trim_answer job vault.ledger v))
unfolding trim_act
trim_is job v vault =
    let x : VertexNumbers = vertex job v in
    let row : LedgerRow = row_at vault.ledger v in
    ap (λ (o : Outcome). left (enter job vault (Some (entry.Trimmed v))) o) (told_by (is_inner x.kind) (low x row) row.dur)

-- a trim is made
pub trims : (plan : PlanText) (v n : ℕ) (s m u : VaultTold) → HasPlaceNow s m → Trims plan v m (Ok n) u
    → TrimsVertex plan v s (Ok (trim_outcome (is_inner (vertex_of plan v).kind) n)) u
trims plan v n s m u ready made =
    let job : JobNumbers = plan_numbers plan in
    let inner : Bool = is_inner (vertex_of plan v).kind in
    let enters = enters_from plan s m u (Some (entry.Trimmed v)) None ready.same made.1 in
    let is : n ≡ trim_answer job (numbers_of s).ledger v = made.0 ∙ ap (λ (k : VaultNumbers). trim_answer job k.ledger v) ready.same.numbers in (
      trim_is job v (numbers_of s)
          ∙ ap (λ (k : ℕ). left (enter job (numbers_of s) (Some (entry.Trimmed v))) (trim_outcome inner k)) (sym is)
          ∙ ap (λ (k : VaultNumbers). left k (trim_outcome inner n)) (sym enters.numbers),
      goes_on plan s u (Some (entry.Trimmed v)) enters,
    )

pub trim_fails : (plan : PlanText) (v : ℕ) (s m u : VaultTold) (f : VaultFault) → HasPlaceNow s m → Trims plan v m (Err f) u
    → FailsToDrop plan s (of_vault f) u
trim_fails plan v s m u f ready made = fails_by plan s m u f ready made

-- ---- a pass

pass_is : (job : JobNumbers) (vault : VaultNumbers)
    → pass_act job vault ≡ left (enter job vault (Some (entry.Pass (all_halves job)))) outcome.Passed
unfolding pass_act
pass_is job vault = refl

pub passes : (plan : PlanText) (s m u : VaultTold) → HasPlaceNow s m → Passes plan m (Ok tt) u → PassesAll plan s (Ok outcome.Passed) u
passes plan s m u ready made =
    let job : JobNumbers = plan_numbers plan in
    let whole : Option Entry = Some (entry.Pass (all_halves job)) in
    let enters = enters_from plan s m u whole None ready.same made in (
      pass_is job (numbers_of s) ∙ ap (λ (k : VaultNumbers). left k outcome.Passed) (sym enters.numbers),
      goes_on plan s u whole enters,
    )

pub pass_fails : (plan : PlanText) (s m u : VaultTold) (f : VaultFault) → HasPlaceNow s m → Passes plan m (Err f) u
    → FailsToPass plan s (of_vault f) u
pass_fails plan s m u (fault.Store count) ready made =
    let stops = made.2 in (
      made.0,
      made.1,
      (
        stops.0,
        rose_from s m u.depot.faults ready.same stops.1,
        enters_from plan s m u (Some (entry.Pass made.0)) (Some (fault.Store count)) ready.same stops.2,
      ),
    )
pass_fails plan s m u (fault.Output count) ready made = absurd made
pass_fails plan s m u (fault.Damaged v n) ready made = absurd made
pass_fails plan s m u fault.Halted ready made = absurd (not_halted m (ready.same.halted ∙ ready.going) made.0)
pass_fails plan s m u fault.Memory ready made = absurd made
