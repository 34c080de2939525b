-- What a flush answers.
use Rattle.std.proofs.Common.{◌≡◌, ℕ, ◌+◌, ◌-◌, max, ◌<◌, ◌≤◌, nat_lt, Bool, true, false, None, Result, Ok, Err, List, length, take, drop, sym, ap, ap₂, ◌∙◌, subst, arith, if◌then◌else◌}
use Rattle.std.proofs.lemmas.Bool.Decides.{nat_tests}
use Rattle.std.proofs.lemmas.List.{drop-drop, drop-take, length-drop}
use Rattle.ss_elem.specs.declared.element.Element.{Element}
use Rattle.ss_frames.specs.Plans.{plan_numbers}
use Rattle.ss_meaning.specs.Meaning.{meaning}
use Rattle.ss_plan.specs.Plan.{PlanText, vertices_of}
use Rattle.ss_state.specs.Numbers.{JobNumbers}
use Rattle.ss_state.specs.State.{Ledger, row_at}
use Rattle.ss_vault.specs.Answers.{entry_of_flush, flush_answer}
use Rattle.ss_vault.specs.Calls.{Enters, Flushes}
use Rattle.ss_vault.specs.Sound.{elements_from}
use Rattle.ss_vault.specs.Steps.{AreNext, Stores}
use Rattle.ss_vault.specs.Told.{VaultTold, durable_of, numbers_of}
use Rattle.ss_vault.specs.declared.answers.Flush.{Flush}
use Rattle.ss_vault.specs.declared.answers.Flush.TheVariants as flush
use Rattle.ss_vault.specs.declared.fault.VaultFault.{VaultFault}
use Rattle.ss_vault.specs.declared.fault.VaultFault.TheVariants as fault

lt_no : (m n : ℕ) → n ≤ m → nat_lt m n ≡ false
lt_no m n h = grind (arith, nat_tests)

lt_yes : (m n : ℕ) → m < n → nat_lt m n ≡ true
lt_yes m n h = grind (arith, nat_tests)

abbrev choice : Bool → Bool → ℕ → ℕ → ℕ → ℕ → Flush
choice past apart since from dur count =
    if past then flush.PassDue since
    else (if apart then flush.Apart from dur else flush.Flushed (max dur (from + count) - dur) (max dur (from + count)))

-- no pass is due
pub none_is_due : (job : JobNumbers) (l : Ledger) (count : ℕ) → l.since + count ≤ job.collect_every → nat_lt job.collect_every (l.since + count) ≡ false
none_is_due job l count few = lt_no job.collect_every (l.since + count) few

pub flush_apart : (job : JobNumbers) (l : Ledger) (v from count : ℕ) → nat_lt job.collect_every (l.since + count) ≡ false → (row_at l v).dur < from
    → flush.Apart from (row_at l v).dur ≡ flush_answer job l v from count
flush_apart job l v from count none_due apart =
    sym (ap₂ (λ (a b : Bool). choice a b l.since from (row_at l v).dur count) none_due (lt_yes (row_at l v).dur from apart))

pub flush_some : (job : JobNumbers) (l : Ledger) (v from count : ℕ) → nat_lt job.collect_every (l.since + count) ≡ false → from ≤ (row_at l v).dur
    → flush.Flushed (max (row_at l v).dur (from + count) - (row_at l v).dur) (max (row_at l v).dur (from + count)) ≡ flush_answer job l v from count
flush_some job l v from count none_due next =
    sym (ap₂ (λ (a b : Bool). choice a b l.since from (row_at l v).dur count) none_due (lt_no (row_at l v).dur from next))

pub flush_known : (job : JobNumbers) (l : Ledger) (v from count : ℕ) → nat_lt job.collect_every (l.since + count) ≡ false → from ≤ (row_at l v).dur
    → count ≤ (row_at l v).dur - from → flush.Flushed 0 (row_at l v).dur ≡ flush_answer job l v from count
flush_known job l v from count none_due next known =
    let dur : ℕ = (row_at l v).dur in
    let none : 0 ≡ max dur (from + count) - dur = omega (arith, next, known) in
    let same : dur ≡ max dur (from + count) = omega (arith, next, known) in
    ap₂ (λ (a b : ℕ). flush.Flushed a b) none same ∙ flush_some job l v from count none_due next

pub flush_more : (job : JobNumbers) (l : Ledger) (v from count more : ℕ) → nat_lt job.collect_every (l.since + count) ≡ false → from ≤ (row_at l v).dur
    → more + ((row_at l v).dur - from) ≡ count → flush.Flushed more ((row_at l v).dur + more) ≡ flush_answer job l v from count
flush_more job l v from count more none_due next is =
    let dur : ℕ = (row_at l v).dur in
    let first : more ≡ max dur (from + count) - dur = omega (arith, next, is) in
    let second : dur + more ≡ max dur (from + count) = omega (arith, next, is) in
    ap₂ (λ (a b : ℕ). flush.Flushed a b) first second ∙ flush_some job l v from count none_due next

-- what storing the elements that aren't known comes to
pub flush_stored : (plan : PlanText) (s u : VaultTold) (v from count more : ℕ) (result : Result Flush VaultFault)
    → nat_lt (plan_numbers plan).collect_every ((numbers_of s).ledger.since + count) ≡ false → from ≤ (durable_of s v).dur
    → more + ((durable_of s v).dur - from) ≡ count → Stores plan v more s result u → Flushes plan v from count s result u
flush_stored plan s u v from count more (Ok answer) none_due next is stores =
    let is_more = flush_more (plan_numbers plan) (numbers_of s).ledger v from count more none_due next is in
    (stores.0 ∙ is_more, subst (λ (a : Flush). Enters plan s (entry_of_flush v a) None u) (sym stores.0) stores.1)
flush_stored plan s u v from count more (Err (fault.Store faults)) none_due next is stores =
    let is_more = flush_more (plan_numbers plan) (numbers_of s).ledger v from count more none_due next is in
    (stores.0, more, (durable_of s v).dur + more, sym is_more, stores.1, stores.2)
flush_stored plan s u v from count more (Err (fault.Output faults)) none_due next is stores = absurd stores
flush_stored plan s u v from count more (Err (fault.Damaged w n)) none_due next is stores = absurd stores
flush_stored plan s u v from count more (Err fault.Halted) none_due next is stores = absurd stores
flush_stored plan s u v from count more (Err fault.Memory) none_due next is stores =
    let is_more = flush_more (plan_numbers plan) (numbers_of s).ledger v from count more none_due next is in
    (stores.0, more, (durable_of s v).dur + more, sym is_more, stores.1, stores.2)

-- the elements of a batch that aren't known follow those that are stored
pub batch_next : (plan : PlanText) (s : VaultTold) (v from : ℕ) (batch : List Element) → batch ≡ elements_from plan v from (length batch)
    → from + length batch ≤ (plan_numbers plan).max_elements → from ≤ (durable_of s v).dur → (durable_of s v).dur - from < length batch
    → AreNext plan v s (drop ((durable_of s v).dur - from) batch)
batch_next plan s v from batch is most next known =
    let dur : ℕ = (durable_of s v).dur in
    let xs : List Element = meaning (vertices_of plan) v in
    let k : ℕ = dur - from in
    let m : ℕ = length batch - k in
    let there : from + k ≡ dur = omega (arith, next) in
    let sum : k + m ≡ length batch = omega (arith, known) in
    let long : length (drop k batch) ≡ m = length-drop k batch in
    record {
      elements = ap (drop k) (is ∙ ap (λ (n : ℕ). take n (drop from xs)) (sym sum))
          ∙ drop-take k m (drop from xs)
          ∙ ap (take m) (drop-drop k from xs ∙ ap (λ (n : ℕ). drop n xs) there)
          ∙ ap (λ (n : ℕ). take n (drop dur xs)) (sym long);
      within = omega (arith, long, most, there, sum);
    }
