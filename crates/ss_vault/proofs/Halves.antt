-- What the halves of a pass leave, where the journal isn't told of them yet.
use Rattle.std.proofs.Common.{◌≡◌, ℕ, ◌<◌, ◌≤◌, ◌==◌, true, false, Bool, Option, Some, None, List, [], ◌∷◌, ◌++◌, filter, length, set, nat_le, sym, ap, ◌∙◌, subst, arith, ⊎_elim, if◌then◌else◌}
use Rattle.std.proofs.lemmas.Bool.{cases_lt}
use Rattle.std.proofs.lemmas.List.{get_or-set_same, get_or_past, length-set}
use Rattle.ss_frames.specs.Plans.{plan_numbers}
use Rattle.ss_outside.specs.Depot.{DepotTold, Fails, Leaves, cut_to, without_frames_below}
use Rattle.ss_plan.specs.Plan.{PlanText}
use Rattle.ss_state.specs.Journal.{change, enter}
use Rattle.ss_state.specs.LowWater.{low, low_at, need}
use Rattle.ss_state.specs.Numbers.{JobNumbers, IsOperator, IsStream, is_inner, vertex}
use Rattle.ss_state.specs.State.{Ledger, LedgerRow, VaultNumbers, empty_row, put_row, row_at}
use Rattle.ss_state.specs.declared.entry.Entry.{Entry}
use Rattle.ss_state.specs.declared.entry.Entry.TheVariants as entry
use Rattle.ss_vault.specs.Answers.{trim_answer}
use Rattle.ss_vault.specs.Counts.{NoneFell}
use Rattle.ss_vault.specs.Facts.{CollectionFacts, PlanFacts, RunFacts, SnapshotFacts}
use Rattle.ss_vault.specs.NumbersHeld.{IsSameBesidesLedger, NumbersHeld, dropped, lifted, marked, snaps_from_number, snaps_held}
use Rattle.ss_vault.specs.Sound.{IsCounted, Sound}
use Rattle.ss_vault.specs.Steps.{Changes, FailsToDrop, IsSoundBesides, with_journal}
use Rattle.ss_vault.specs.Told.{VaultTold, counts_of, durable_of, numbers_of}
use Rattle.ss_vault.specs.declared.fault.VaultFault.{VaultFault}
use Rattle.ss_vault.specs.declared.fault.VaultFault.TheVariants as fault
use Rattle.ss_vault.proofs.Collected.{collected_sound, dropped_sound, marked_sound}
use Rattle.ss_vault.proofs.Looking.{none_fell, store_failed}
use Rattle.ss_vault.proofs.Moved.{counted_going}

-- ---- the ledger behind a half

lifted_is : (job : JobNumbers) (l : Ledger) (v n : ℕ) → n ≡ need job l v → lifted l v n ≡ change job l (entry.Collected v)
unfolding change
lifted_is job l v n e = ap (lifted l v) e

dropped_is : (job : JobNumbers) (l : Ledger) (v n : ℕ) → is_inner (vertex job v).kind ≡ true → n ≡ low_at job l v → dropped l v n ≡ change job l (entry.Trimmed v)
unfolding change
dropped_is job l v n inner e =
    let row : LedgerRow = row_at l v in
    ap (dropped l v) e
    ∙ ap (put_row l v) (sym (ap (λ (b : Bool). if b then record row { snaps = filter (λ (m : ℕ). nat_le (low (vertex job v) row) m) row.snaps } else record row { mark = row.dur }) inner))

marked_is : (job : JobNumbers) (l : Ledger) (v : ℕ) → is_inner (vertex job v).kind ≡ false → marked l v ≡ change job l (entry.Trimmed v)
unfolding change
marked_is job l v source =
    let row : LedgerRow = row_at l v in
    ap (put_row l v) (sym (ap (λ (b : Bool). if b then record row { snaps = filter (λ (m : ℕ). nat_le (low (vertex job v) row) m) row.snaps } else record row { mark = row.dur }) source))

entered : (job : JobNumbers) (n m : VaultNumbers) (e : Entry) (journal : List Entry) → m.ledger ≡ change job n.ledger e
    → record m { journal = journal ++ e ∷ [] } ≡ enter job (record n { journal = journal }) (Some e)
entered job n m e journal is = ap (λ (l : Ledger). let x : VaultNumbers = record { ledger = l; journal = journal ++ e ∷ [] } in x) is

still_counted : (plan : PlanText) (s u : VaultTold) (journal : List Entry) → Sound plan (with_journal s journal) → u.halted ≡ None → u.started ≡ s.started
    → NoneFell (counts_of s) (counts_of u) → IsCounted u.halted u.started (counts_of u)
still_counted plan s u journal sound on started fell =
    subst (λ (h : Option VaultFault). IsCounted h u.started (counts_of u)) (sym on)
    (subst (λ c. IsCounted None c (counts_of u)) (sym started) (counted_going s.halted s.started (counts_of s) (counts_of u) sound.counted fell))

-- ---- halves that were made

pub collected_half : RunFacts → (plan : PlanText) → PlanFacts plan → (s u : VaultTold) (v n : ℕ) → s.halted ≡ None → IsStream (plan_numbers plan) v
    → n ≡ need (plan_numbers plan) (numbers_of s).ledger v → (durable_of s v).base ≤ n
    → (numbers_of u).ledger ≡ lifted (numbers_of s).ledger v n → IsSameBesidesLedger s.held u.held → u.held.snaps ≡ s.held.snaps
    → Leaves s.depot u.depot (cut_to v n s.depot.contents) → u.halted ≡ None → u.started ≡ s.started → u.outputs ≡ s.outputs
    → Changes plan s (Some (entry.Collected v)) None u
collected_half runs plan facts s u v n going stream is_need least is besides snaps leaves on started outputs =
    let job : JobNumbers = plan_numbers plan in
    let changed : (numbers_of u).ledger ≡ change job (numbers_of s).ledger (entry.Collected v) = is ∙ lifted_is job (numbers_of s).ledger v n is_need in
    let fell = none_fell s u outputs leaves.faults leaves.shorts in
    record {
      ledger = changed;
      journal = besides.journal;
      places = besides.places;
      halted = on;
      started = started;
      counts = fell;
      sound = λ journal sound.
          collected_sound runs plan facts (with_journal s journal) (with_journal u (journal ++ entry.Collected v ∷ [])) v n sound going stream is_need least
          (entered job (numbers_of s) (numbers_of u) (entry.Collected v) journal changed) snaps besides.ended leaves.contents outputs on
          (still_counted plan s u journal sound on started fell);
    }

pub dropped_half : RunFacts → (plan : PlanText) → PlanFacts plan → SnapshotFacts plan → (s u : VaultTold) (v n : ℕ) → s.halted ≡ None
    → IsOperator (plan_numbers plan) v → IsStream (plan_numbers plan) v → n ≡ low_at (plan_numbers plan) (numbers_of s).ledger v
    → (numbers_of u).ledger ≡ dropped (numbers_of s).ledger v n → IsSameBesidesLedger s.held u.held
    → ((w : ℕ) → snaps_held u.held w ≡ (if w == v then snaps_from_number n (snaps_held s.held v) else snaps_held s.held w))
    → Leaves s.depot u.depot (without_frames_below v n s.depot.contents) → u.halted ≡ None → u.started ≡ s.started → u.outputs ≡ s.outputs
    → Changes plan s (Some (entry.Trimmed v)) None u
dropped_half runs plan facts snaps_facts s u v n going operator stream is_low is besides snaps leaves on started outputs =
    let job : JobNumbers = plan_numbers plan in
    let changed : (numbers_of u).ledger ≡ change job (numbers_of s).ledger (entry.Trimmed v) = is ∙ dropped_is job (numbers_of s).ledger v n operator.1 is_low in
    let fell = none_fell s u outputs leaves.faults leaves.shorts in
    record {
      ledger = changed;
      journal = besides.journal;
      places = besides.places;
      halted = on;
      started = started;
      counts = fell;
      sound = λ journal sound.
          dropped_sound runs plan facts snaps_facts (with_journal s journal) (with_journal u (journal ++ entry.Trimmed v ∷ [])) v n sound going operator stream is_low
          (entered job (numbers_of s) (numbers_of u) (entry.Trimmed v) journal changed) snaps besides.ended leaves.contents outputs on
          (still_counted plan s u journal sound on started fell);
    }

pub marked_half : RunFacts → (plan : PlanText) → PlanFacts plan → (s u : VaultTold) (v : ℕ) → s.halted ≡ None → IsStream (plan_numbers plan) v
    → is_inner (vertex (plan_numbers plan) v).kind ≡ false
    → (numbers_of u).ledger ≡ marked (numbers_of s).ledger v → IsSameBesidesLedger s.held u.held → u.held.snaps ≡ s.held.snaps
    → u.depot ≡ s.depot → u.halted ≡ None → u.started ≡ s.started → u.outputs ≡ s.outputs
    → Changes plan s (Some (entry.Trimmed v)) None u
marked_half runs plan facts s u v going stream source is besides snaps depot on started outputs =
    let job : JobNumbers = plan_numbers plan in
    let changed : (numbers_of u).ledger ≡ change job (numbers_of s).ledger (entry.Trimmed v) = is ∙ marked_is job (numbers_of s).ledger v source in
    let faults : s.depot.faults ≡ u.depot.faults = ap (λ (d : DepotTold). d.faults) (sym depot) in
    let shorts : s.depot.shorts ≡ u.depot.shorts = ap (λ (d : DepotTold). d.shorts) (sym depot) in
    let fell = none_fell s u outputs (omega (arith, faults)) (omega (arith, shorts)) in
    record {
      ledger = changed;
      journal = besides.journal;
      places = besides.places;
      halted = on;
      started = started;
      counts = fell;
      sound = λ journal sound.
          marked_sound runs plan facts (with_journal s journal) (with_journal u (journal ++ entry.Trimmed v ∷ [])) v sound going stream source
          (entered job (numbers_of s) (numbers_of u) (entry.Trimmed v) journal changed) snaps besides.ended (ap (λ (d : DepotTold). d.contents) depot) outputs on
          (still_counted plan s u journal sound on started fell);
    }

-- ---- a half that failed

pub failed_half : (plan : PlanText) (s u : VaultTold) (count : ℕ) → s.halted ≡ None → u.held ≡ s.held → u.halted ≡ Some (fault.Store count)
    → u.started ≡ s.started → u.outputs ≡ s.outputs → count ≡ u.depot.faults → Fails s.depot u.depot → FailsToDrop plan s (fault.Store count) u
failed_half plan s u count going held on started outputs is fails = (
  is,
  fails.1,
  record {
    ledger = ap (λ (h : NumbersHeld). h.numbers.ledger) held;
    journal = ap (λ (h : NumbersHeld). h.numbers.journal) held;
    places = ap (λ (h : NumbersHeld). h.places) held;
    halted = on;
    started = started;
    counts = none_fell s u outputs fails.0.faults (let e = fails.0.shorts in omega (arith, e));
    sound = λ journal sound. (store_failed plan (with_journal s journal) (with_journal u journal) count sound going
        (record {
          numbers = ap (λ (h : NumbersHeld). let n : VaultNumbers = record h.numbers { journal = journal } in n) held;
          snaps = ap (λ (h : NumbersHeld). h.snaps) held;
          ended = ap (λ (h : NumbersHeld). h.ended) held;
          started = started;
          outputs = outputs;
        }) on is fails).0;
  },
)

-- what a collect asks of the depot
pub base_below : CollectionFacts → (plan : PlanText) → PlanFacts plan → (s : VaultTold) (v n : ℕ) → IsSoundBesides plan s → IsStream (plan_numbers plan) v
    → n ≡ need (plan_numbers plan) (numbers_of s).ledger v → (durable_of s v).base ≤ n
base_below laws plan facts s v n sound stream is =
    let there = (laws.elements (plan_numbers plan) (numbers_of (with_journal s sound.0)) v facts.numbers sound.1.numbers stream).0 in omega (arith, there, is)

-- ---- what a trim answers

pub trims_low : (job : JobNumbers) (l : Ledger) (v : ℕ) → is_inner (vertex job v).kind ≡ true → low_at job l v ≡ trim_answer job l v
trims_low job l v inner = sym (ap (λ (b : Bool). if b then low_at job l v else (row_at l v).dur) inner)

pub trims_mark : (job : JobNumbers) (l : Ledger) (v : ℕ) → is_inner (vertex job v).kind ≡ false → (row_at l v).dur ≡ trim_answer job l v
trims_mark job l v source = sym (ap (λ (b : Bool). if b then low_at job l v else (row_at l v).dur) source)

-- a mark changes no dur
pub marked_dur : (l m : Ledger) (v : ℕ) → m ≡ marked l v → (row_at m v).dur ≡ (row_at l v).dur
marked_dur l m v e = ap (λ (x : Ledger). (row_at x v).dur) e ∙ by_place
  where
    by_place : (row_at (marked l v) v).dur ≡ (row_at l v).dur
    by_place = ⊎_elim
        (λ (within : v < length l.rows). ap (λ (r : LedgerRow). r.dur) (get_or-set_same l.rows v (record (row_at l v) { mark = (row_at l v).dur }) empty_row within))
        (λ (past : length l.rows ≤ v). ap (λ (r : LedgerRow). r.dur)
        (get_or_past (set l.rows v (record (row_at l v) { mark = (row_at l v).dur })) v empty_row
        (omega (arith, past, length-set l.rows v (record (row_at l v) { mark = (row_at l v).dur }))) ∙ sym (get_or_past l.rows v empty_row past)))
        (cases_lt v (length l.rows))
