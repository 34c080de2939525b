-- What reads, keeps and takes answer.
use Rattle.std.proofs.Common.{◌≡◌, ℕ, ◌<◌, ◌≤◌, nat_lt, nat_le, Bool, true, false, Some, sym, ap, ap₂, ◌∙◌, arith, if◌then◌else◌}
use Rattle.std.specs.Prelude.{slice_get}
use Rattle.std.proofs.lemmas.Bool.Decides.{nat_tests}
use Rattle.std.proofs.lemmas.Option.{get_or_from_slice_get}
use Rattle.ss_elem.specs.declared.element.Element.{Element}
use Rattle.ss_elem.specs.declared.element.Element.TheVariants.{End}
use Rattle.ss_frames.specs.Plans.{plan_numbers}
use Rattle.ss_meaning.specs.Meaning.{meaning}
use Rattle.ss_plan.specs.Plan.{PlanText, vertices_of}
use Rattle.ss_state.specs.Journal.{is_one_of}
use Rattle.ss_state.specs.LowWater.{low}
use Rattle.ss_state.specs.Numbers.{IsOperator, vertex}
use Rattle.ss_state.specs.State.{Ledger, row_at}
use Rattle.ss_vault.specs.Answers.{element_at, keep_answer, read_answer}
use Rattle.ss_vault.specs.Facts.{SnapshotFacts}
use Rattle.ss_vault.specs.NumbersHeld.{greatest_within, snaps_held}
use Rattle.ss_vault.specs.Sound.{Sound}
use Rattle.ss_vault.specs.Told.{VaultTold, durable_of, numbers_of}
use Rattle.ss_vault.specs.declared.answers.Keep.TheVariants as keep
use Rattle.ss_vault.specs.declared.answers.Read.TheVariants as read
use Rattle.ss_vault.proofs.Starts.{low_is, sound_within}

lt_no : (m n : ℕ) → n ≤ m → nat_lt m n ≡ false
lt_no m n h = grind (arith, nat_tests)

lt_yes : (m n : ℕ) → m < n → nat_lt m n ≡ true
lt_yes m n h = grind (arith, nat_tests)

le_no : (m n : ℕ) → n < m → nat_le m n ≡ false
le_no m n h = grind (arith, nat_tests)

-- an element that is stored
pub read_due : (plan : PlanText) (l : Ledger) (v n : ℕ) → (row_at l v).base ≤ n → n < (row_at l v).dur
    → read_answer plan l v n ≡ read.Item (element_at plan v n)
read_due plan l v n least below =
    ap₂ (λ (a b : Bool). if a then read.Gone (row_at l v).base else (if b then read.NotYet (row_at l v).dur else read.Item (element_at plan v n)))
    (lt_no n (row_at l v).base least) (le_no (row_at l v).dur n below)

pub read_item : (plan : PlanText) (l : Ledger) (v n : ℕ) (x : Element) → (row_at l v).base ≤ n → n < (row_at l v).dur
    → slice_get (meaning (vertices_of plan) v) n ≡ Some x → read.Item x ≡ read_answer plan l v n
read_item plan l v n x least below is_item =
    ap (λ (y : Element). read.Item y) (sym (get_or_from_slice_get (meaning (vertices_of plan) v) n x End is_item))
    ∙ sym (read_due plan l v n least below)

-- a snapshot that isn't stored, below the low-water mark or not
pub low_found : (plan : PlanText) → SnapshotFacts plan → (s : VaultTold) (v : ℕ) → Sound plan s → IsOperator (plan_numbers plan) v
    → greatest_within (snaps_held s.held v) (durable_of s v).dur ≡ low (vertex (plan_numbers plan) v) (durable_of s v)
low_found plan snaps s v sound operator =
    sound_within plan snaps s v (durable_of s v).dur sound operator ∙ sym (low_is (vertex (plan_numbers plan) v) (durable_of s v) operator.1)

pub keep_old : (plan : PlanText) (s : VaultTold) (v n mark : ℕ) → is_one_of n (durable_of s v).snaps ≡ false
    → mark ≡ low (vertex (plan_numbers plan) v) (durable_of s v) → n < mark
    → keep.Old mark ≡ keep_answer (plan_numbers plan) (numbers_of s).ledger v n
keep_old plan s v n mark new is below =
    let m : ℕ = low (vertex (plan_numbers plan) v) (durable_of s v) in
    ap (λ (k : ℕ). keep.Old k) is
    ∙ sym (ap₂ (λ (a b : Bool). if a then keep.Known else (if b then keep.Old m else keep.Kept)) new (lt_yes n m (omega (arith, is, below))))

pub keep_due : (plan : PlanText) (s : VaultTold) (v n mark : ℕ) → is_one_of n (durable_of s v).snaps ≡ false
    → mark ≡ low (vertex (plan_numbers plan) v) (durable_of s v) → mark ≤ n
    → keep_answer (plan_numbers plan) (numbers_of s).ledger v n ≡ keep.Kept
keep_due plan s v n mark new is above =
    let m : ℕ = low (vertex (plan_numbers plan) v) (durable_of s v) in
    ap₂ (λ (a b : Bool). if a then keep.Known else (if b then keep.Old m else keep.Kept)) new (lt_no n m (omega (arith, is, above)))
