-- What a flush leaves of the tail and of the vault.
use Rattle.std.proofs.Common.{◌≡◌, ℕ, ◌+◌, ◌-◌, max, nat_lt, ◌≤◌, Bool, true, false, Result, Ok, Err, length, refl, sym, ap, ◌∙◌, subst, arith, if◌then◌else◌}
use Rattle.ss_acts.specs.Calls.{FlushesTail}
use Rattle.ss_acts.specs.Faults.{of_vault}
use Rattle.ss_acts.specs.Parts.{IsTailOf}
use Rattle.ss_acts.specs.Told.{dur_told, flush_outcome, tail_flushed}
use Rattle.ss_acts.proofs.Goings.{goes_on}
use Rattle.ss_fail.specs.declared.outcome.Outcome.{Outcome}
use Rattle.ss_fail.specs.declared.outcome.Outcome.TheVariants as outcome
use Rattle.ss_frames.specs.Plans.{plan_numbers}
use Rattle.ss_meaning.specs.Meaning.{meaning}
use Rattle.ss_plan.specs.Plan.{PlanText, vertices_of}
use Rattle.ss_state.specs.Acts.{TailAndVaultStep, flush_act, flushed_dur, flushed_tail, flush_entry}
use Rattle.ss_state.specs.Journal.{enter}
use Rattle.ss_state.specs.Numbers.{IsStream, JobNumbers}
use Rattle.ss_state.specs.State.{TailNumbers, VaultNumbers, row_at}
use Rattle.ss_state.specs.Tails.{batch_from, batch_len, restarted}
use Rattle.ss_tail.specs.Held.{TailHeld}
use Rattle.ss_vault.specs.Answers.{entry_of_flush, flush_answer}
use Rattle.ss_vault.specs.Calls.{Flushes}
use Rattle.ss_vault.specs.Facts.{PlanFacts}
use Rattle.ss_vault.specs.Sound.{Sound}
use Rattle.ss_vault.specs.Told.{VaultTold, durable_of, numbers_of}
use Rattle.ss_vault.specs.declared.answers.Flush.{Flush}
use Rattle.ss_vault.specs.declared.answers.Flush.TheVariants as flush
use Rattle.ss_vault.specs.declared.fault.VaultFault.{VaultFault}
use Rattle.ss_vault.specs.declared.fault.VaultFault.TheVariants as fault

abbrev left : TailNumbers → VaultNumbers → Outcome → TailAndVaultStep
left tail vault told = record { tail = tail; vault = vault; outcome = told }

-- the answer and the step, by the tests that they are made of
abbrev answered : Bool → Bool → ℕ → ℕ → ℕ → ℕ → Flush
answered past apart since from dur to =
    if past then flush.PassDue since else (if apart then flush.Apart from dur else flush.Flushed (max dur to - dur) (max dur to))

abbrev stepped : Bool → Bool → JobNumbers → ℕ → ℕ → TailNumbers → VaultNumbers → TailAndVaultStep
stepped past apart job v most tail vault =
    let row = row_at vault.ledger v in
    let count = flushed_dur tail most row - row.dur in
    if past then left tail vault (outcome.PassDue vault.ledger.since)
    else (if apart then left (restarted tail row.dur) vault (outcome.Apart (batch_from tail) row.dur)
    else left (flushed_tail tail most row) (enter job vault (flush_entry v count)) (outcome.Flushed count))

abbrev left_by : JobNumbers → ℕ → TailHeld → VaultNumbers → Flush → TailAndVaultStep
left_by job v tail vault answer =
    left (tail_flushed tail (row_at vault.ledger v).base answer).numbers (enter job vault (entry_of_flush v answer)) (flush_outcome answer)

by_tests : (past apart : Bool) (job : JobNumbers) (v most : ℕ) (tail : TailHeld) (vault : VaultNumbers)
    → stepped past apart job v most tail.numbers vault
    ≡ left_by job v tail vault
    (answered past apart vault.ledger.since (batch_from tail.numbers) (row_at vault.ledger v).dur (batch_from tail.numbers + batch_len tail.numbers most))
by_tests true apart job v most tail vault = refl
by_tests false true job v most tail vault = refl
by_tests false false job v most tail vault = refl

step_is : (job : JobNumbers) (v most : ℕ) (tail : TailHeld) (vault : VaultNumbers)
    → flush_act job v most tail.numbers vault
    ≡ left_by job v tail vault (flush_answer job vault.ledger v (batch_from tail.numbers) (batch_len tail.numbers most))
unfolding flush_act
step_is job v most tail vault =
    by_tests (nat_lt job.collect_every (vault.ledger.since + batch_len tail.numbers most))
    (nat_lt (row_at vault.ledger v).dur (batch_from tail.numbers)) job v most tail vault

-- what the vault answered of a batch of the tail
pub made_at : (plan : PlanText) (v from len count : ℕ) (tail : TailHeld) (s u : VaultTold) (result : Result Flush VaultFault)
    → from ≡ batch_from tail.numbers → len ≡ batch_len tail.numbers count → Flushes plan v from len s result u
    → Flushes plan v (batch_from tail.numbers) (batch_len tail.numbers count) s result u
made_at plan v from len count tail s u result is_from is_len made =
    subst (λ (n : ℕ). Flushes plan v (batch_from tail.numbers) n s result u) is_len
    (subst (λ (n : ℕ). Flushes plan v n len s result u) is_from made)

-- the flush is made
pub flushes : (plan : PlanText) (v count : ℕ) (tail rest : TailHeld) (s u : VaultTold) (answer : Flush)
    → Flushes plan v (batch_from tail.numbers) (batch_len tail.numbers count) s (Ok answer) u
    → rest ≡ tail_flushed tail (durable_of s v).base answer → FlushesTail plan v count tail s (Ok (flush_outcome answer)) rest u
flushes plan v count tail rest s u answer made told = (
  step_is (plan_numbers plan) v count tail (numbers_of s)
      ∙ ap (λ (a : Flush). left_by (plan_numbers plan) v tail (numbers_of s) a) (sym made.0)
      ∙ ap (λ (t : TailHeld). left t.numbers (enter (plan_numbers plan) (numbers_of s) (entry_of_flush v answer)) (flush_outcome answer)) (sym told)
      ∙ ap (λ (n : VaultNumbers). left rest.numbers n (flush_outcome answer)) (sym made.1.numbers),
  goes_on plan s u (entry_of_flush v answer) made.1,
)

-- or isn't
pub fails : (plan : PlanText) (v count : ℕ) (tail : TailHeld) (s u : VaultTold) (f : VaultFault)
    → Flushes plan v (batch_from tail.numbers) (batch_len tail.numbers count) s (Err f) u → FlushesTail plan v count tail s (Err (of_vault f)) tail u
fails plan v count tail s u (fault.Store n) made = (made, refl)
fails plan v count tail s u (fault.Output n) made = absurd made
fails plan v count tail s u (fault.Damaged w n) made = absurd made
fails plan v count tail s u fault.Halted made = (made, refl)
fails plan v count tail s u fault.Memory made = (made, refl)

-- what is told is no more than the stream has and may have

told_by : (past apart : Bool) (since from dur to most : ℕ) → dur ≤ most → to ≤ most → dur_told (answered past apart since from dur to) ≤ most
told_by true apart since from dur to most stored reached = omega arith
told_by false true since from dur to most stored reached = stored
told_by false false since from dur to most stored reached = omega arith

pub told_within : (job : JobNumbers) (vault : VaultNumbers) (v from count most : ℕ) (answer : Flush) → answer ≡ flush_answer job vault.ledger v from count
    → (row_at vault.ledger v).dur ≤ most → from + count ≤ most → dur_told answer ≤ most
told_within job vault v from count most answer is stored reached =
    subst (λ (a : Flush). dur_told a ≤ most) (sym is)
    (told_by (nat_lt job.collect_every (vault.ledger.since + count)) (nat_lt (row_at vault.ledger v).dur from) vault.ledger.since from
    (row_at vault.ledger v).dur (from + count) most stored reached)

-- where a batch ends
pub batch_end : (plan : PlanText) (v count : ℕ) (tail : TailHeld) → IsTailOf plan v tail
    → (batch_from tail.numbers + batch_len tail.numbers count ≤ length (meaning (vertices_of plan) v))
    × (batch_from tail.numbers + batch_len tail.numbers count ≤ plan.job.max_elements)
batch_end plan v count tail stands =
    let numbered = stands.numbered in
    let end = stands.end in
    let seen = stands.seen in
    let end_within = stands.end_within in
    let seen_within = stands.seen_within in
    (omega (arith, numbered, end, seen), omega (arith, numbered, end_within, seen_within))

-- what is stored of a stream is no more than it has and may have
pub stored_within : (plan : PlanText) → PlanFacts plan → (s : VaultTold) (v : ℕ) → Sound plan s → IsStream (plan_numbers plan) v
    → ((durable_of s v).dur ≤ length (meaning (vertices_of plan) v)) × ((durable_of s v).dur ≤ plan.job.max_elements)
stored_within plan facts s v sound stream =
    let stored = (sound.numbers.stands.row v).dur in
    let size = facts.size v stream in
    let most = facts.most in
    (omega (arith, stored, size), omega (arith, stored, most))
