-- What a take leaves of the vault, and of the outputs.
use Rattle.std.proofs.Common.{◌≡◌, ◌≢◌, ℕ, ◌+◌, ◌==◌, nat_le, Bool, true, false, List, Some, Result, Ok, Err, refl, sym, ap, ◌∙◌, if◌then◌else◌, arith}
use Rattle.std.proofs.lemmas.Bool.Decides.{nat_tests}
use Rattle.std.proofs.lemmas.List.{get_or-set_same}
use Rattle.std.proofs.lemmas.Slice.Eq.{bytes_eq-Decides}
use Rattle.std.specs.Prelude.{bytes_eq}
use Rattle.ss_acts.specs.Calls.{TakesLine}
use Rattle.ss_acts.specs.Faults.{of_vault}
use Rattle.ss_acts.specs.Leaves.{PutsToNoOther, PutsToTakers, sink_failed}
use Rattle.ss_acts.specs.Told.{take_outcome}
use Rattle.ss_acts.proofs.Goings.{goes_on}
use Rattle.ss_elem.specs.Line.{line_of}
use Rattle.ss_fail.specs.declared.outcome.Outcome.{Outcome}
use Rattle.ss_fail.specs.declared.outcome.Outcome.TheVariants as outcome
use Rattle.ss_frames.specs.Plans.{plan_numbers}
use Rattle.ss_outside.specs.Told.{OutputsTold, Puts}
use Rattle.ss_outside.specs.declared.outputs.PutFault.{PutFault}
use Rattle.ss_outside.specs.declared.outputs.PutFault.TheVariants as put
use Rattle.ss_plan.specs.Plan.{PlanText}
use Rattle.ss_state.specs.Acts.{VaultStep, take_act}
use Rattle.ss_state.specs.Journal.{change, enter}
use Rattle.ss_state.specs.Numbers.{IsSink, JobNumbers, input, size, vertex}
use Rattle.ss_state.specs.State.{LedgerRow, VaultNumbers, empty_row, row_at}
use Rattle.ss_state.specs.declared.entry.Entry.TheVariants as entry
use Rattle.ss_vault.specs.Answers.{entry_of_take, take_answer}
use Rattle.ss_vault.specs.Calls.{Delivers, PutsLine, Takes}
use Rattle.ss_vault.specs.Sound.{Sound, sink_file}
use Rattle.ss_vault.specs.Told.{VaultTold, durable_of, numbers_of}
use Rattle.ss_vault.specs.declared.answers.Take.{Take}
use Rattle.ss_vault.specs.declared.answers.Take.TheVariants as take
use Rattle.ss_vault.specs.declared.fault.VaultFault.{VaultFault}
use Rattle.ss_vault.specs.declared.fault.VaultFault.TheVariants as fault

abbrev left : VaultNumbers → Outcome → VaultStep
left vault told = record { vault = vault; outcome = told }

-- the answer and the step, by the tests that they are made of
abbrev answered : Bool → Bool → ℕ → ℕ → Take
answered ended none taken dur = if ended then take.Ended else (if none then take.NotYet dur else take.Took taken)

abbrev stepped : Bool → Bool → JobNumbers → ℕ → ℕ → VaultNumbers → VaultStep
stepped ended none job k taken vault =
    if ended then left vault outcome.Ended
    else (if none then left vault (outcome.WaitDur taken) else left (enter job vault (Some (entry.Took k))) (outcome.Took taken))

abbrev left_by : JobNumbers → ℕ → VaultNumbers → Take → VaultStep
left_by job k vault answer = left (enter job vault (entry_of_take k answer)) (take_outcome answer)

by_tests : (ended none : Bool) (job : JobNumbers) (k taken dur : ℕ) (vault : VaultNumbers) → (none ≡ true → taken ≡ dur)
    → stepped ended none job k taken vault ≡ left_by job k vault (answered ended none taken dur)
by_tests true none job k taken dur vault same = refl
by_tests false true job k taken dur vault same = ap (λ (n : ℕ). left vault (outcome.WaitDur n)) (same refl)
by_tests false false job k taken dur vault same = refl

same_number : (m n : ℕ) → (m == n) ≡ true → m ≡ n
same_number m n h = grind (arith, nat_tests)

step_is : (job : JobNumbers) (k : ℕ) (vault : VaultNumbers) → take_act job k vault ≡ left_by job k vault (take_answer job vault.ledger k)
unfolding take_act
step_is job k vault =
    let u : ℕ = input (vertex job k) 0 in
    let taken : ℕ = (row_at vault.ledger k).taken in
    let dur : ℕ = (row_at vault.ledger u).dur in
    by_tests (nat_le (size (vertex job u)) taken) (taken == dur) job k taken dur vault (same_number taken dur)

-- the take is made, or isn't
pub takes : (plan : PlanText) (k : ℕ) (s u : VaultTold) (answer : Take) → Takes plan k s (Ok answer) u
    → TakesLine plan k s (Ok (take_outcome answer)) u
takes plan k s u answer made = (
  step_is (plan_numbers plan) k (numbers_of s)
      ∙ ap (λ (a : Take). left_by (plan_numbers plan) k (numbers_of s) a) (sym made.0)
      ∙ ap (λ (n : VaultNumbers). left n (take_outcome answer)) (sym made.1.numbers),
  goes_on plan s u (entry_of_take k answer) made.1,
)

-- ---- which names are put to

other_name : (name file : List ℕ) (b : Bool) → bytes_eq name file ≡ b → name ≢ file → bytes_eq name file ≡ false
other_name name file true same other = absurd (other ((bytes_eq-Decides name file).0 same))
other_name name file false same other = same

puts_alone : (old new : OutputsTold) (file text name : List ℕ) (answer : Result (Unit {0}) PutFault) → Puts old new file text answer → name ≢ file
    → new.put_to name ≡ old.put_to name
puts_alone old new file text name (Ok done) puts other = puts.0.others name (other_name name file (bytes_eq name file) refl other)
puts_alone old new file text name (Err put.Failed) puts other = puts.1.others name (other_name name file (bytes_eq name file) refl other)
puts_alone old new file text name (Err put.Memory) puts other = ap (λ (f : List ℕ → Bool). f name) puts.put_to

-- a line was put: to the sink's file alone
line_alone : (plan : PlanText) (k : ℕ) (s u : VaultTold) (answer : Result (Unit {0}) PutFault) (line : PutsLine plan k s answer u) (name : List ℕ)
    → sink_file plan k ≢ Some name → u.outputs.put_to name ≡ s.outputs.put_to name
line_alone plan k s u answer line name other =
    puts_alone s.outputs u.outputs line.file (line_of line.next) name answer line.puts
    (λ same. other (line.is_file ∙ ap (λ (file : List ℕ). Some file) (sym same)))

-- and the sink took one element more
took_more : (plan : PlanText) (k : ℕ) (s u : VaultTold) → IsSink (plan_numbers plan) k → Sound plan s
    → numbers_of u ≡ enter (plan_numbers plan) (numbers_of s) (Some (entry.Took k)) → (durable_of u k).taken ≡ (durable_of s k).taken + 1
unfolding change
took_more plan k s u sink sound e =
    let row : LedgerRow = durable_of s k in
    let rows = sound.numbers.stands.rows in
    let within = sink.0 in
    ap (λ (n : VaultNumbers). (row_at n.ledger k).taken) e
    ∙ ap (λ (r : LedgerRow). r.taken)
    (get_or-set_same (numbers_of s).ledger.rows k (record row { taken = row.taken + 1 }) empty_row (omega (arith, rows, within)))

took_puts : (plan : PlanText) (k n : ℕ) (s u : VaultTold) → IsSink (plan_numbers plan) k → Sound plan s → Takes plan k s (Ok (take.Took n)) u
    → PutsLine plan k s (Ok tt) u → PutsToTakers plan s u
took_puts plan k n s u sink sound takes line name none =
    let more = took_more plan k s u sink sound takes.1.numbers in
    line_alone plan k s u (Ok tt) line name (λ file. let as_before = none k file in absurd (omega (arith, more, as_before)))

same_puts : (s u : VaultTold) → u.outputs ≡ s.outputs → (name : List ℕ) → u.outputs.put_to name ≡ s.outputs.put_to name
same_puts s u same name = ap (λ (o : OutputsTold). o.put_to name) same

pub puts_made : (plan : PlanText) (k : ℕ) (s u : VaultTold) (answer : Take) → IsSink (plan_numbers plan) k → Sound plan s
    → Takes plan k s (Ok answer) u → Delivers plan k s (Ok answer) u → PutsToTakers plan s u
puts_made plan k s u take.Ended sink sound takes delivers = λ name none. same_puts s u delivers name
puts_made plan k s u (take.NotYet dur) sink sound takes delivers = λ name none. same_puts s u delivers name
puts_made plan k s u (take.Took n) sink sound takes delivers = took_puts plan k n s u sink sound takes delivers

pub puts_met : (plan : PlanText) (k : ℕ) (s u : VaultTold) (f : VaultFault) → Delivers plan k s (Err f) u
    → PutsToNoOther plan (sink_failed (Some k) (of_vault f)) s u
puts_met plan k s u (fault.Store count) delivers = λ name other. same_puts s u delivers name
puts_met plan k s u (fault.Output count) delivers = λ name other. line_alone plan k s u (Err put.Failed) delivers name (other k refl)
puts_met plan k s u (fault.Damaged v n) delivers = λ name other. same_puts s u delivers name
puts_met plan k s u fault.Halted delivers = λ name other. same_puts s u delivers name
puts_met plan k s u fault.Memory delivers = λ name other. ap (λ (f : List ℕ → Bool). f name) delivers.put_to
