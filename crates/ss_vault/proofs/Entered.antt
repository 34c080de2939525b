-- A vault that was changed already, and is then told of the change by an entry.
use Rattle.std.proofs.Common.{◌≡◌, ℕ, ◌<◌, ◌≤◌, nat_lt, Bool, true, false, Option, Some, None, Ok, Err, List, [], ◌∷◌, ◌++◌, get_or, refl, sym, ap, ap₂, ◌∙◌, subst, arith, if◌then◌else◌}
use Rattle.std.proofs.lemmas.Bool.Decides.{nat_tests}
use Rattle.ss_frames.specs.Plans.{plan_numbers}
use Rattle.ss_outside.specs.Told.{OutputsTold}
use Rattle.ss_plan.specs.Plan.{PlanText}
use Rattle.ss_state.specs.Acts.{pass_act}
use Rattle.ss_state.specs.Joint.{IsSound}
use Rattle.ss_state.specs.Journal.{all_halves, change, enter, pass_order, passed, passed_over}
use Rattle.ss_state.specs.Laws.{IsPassed}
use Rattle.ss_state.specs.Numbers.{JobNumbers}
use Rattle.ss_state.specs.State.{Ledger, LedgerRow, VaultNumbers, row_at}
use Rattle.ss_state.specs.declared.entry.Entry.{Entry}
use Rattle.ss_state.specs.declared.entry.Entry.TheVariants as entry
use Rattle.ss_water.specs.declared.snap_row.SnapRow.{SnapRow}
use Rattle.ss_vault.specs.Calls.{Enters, HasCollected, HasWhatIsNeeded, IsOfDrop, Passes, Stops}
use Rattle.ss_vault.specs.Facts.{CollectionFacts, PlanFacts, RunFacts}
use Rattle.ss_vault.specs.NumbersHeld.{NumbersHeld, snaps_held}
use Rattle.ss_vault.specs.Sound.{HasFiles, HoldsRecords, HoldsSnapshots, Sound, takes_no_more}
use Rattle.ss_vault.specs.Steps.{Changes, FailsToDrop, PassesOver, with_journal}
use Rattle.ss_vault.specs.Told.{VaultTold, numbers_of}
use Rattle.ss_vault.specs.declared.fault.VaultFault.{VaultFault}
use Rattle.ss_vault.specs.declared.fault.VaultFault.TheVariants as fault
use Rattle.ss_vault.proofs.Moved.{moved, same_contents}
use Rattle.ss_vault.proofs.Passed.{over_since}

-- ---- nothing that is needed is gone

pub has_needed : CollectionFacts → (plan : PlanText) → PlanFacts plan → (u : VaultTold) → Sound plan u → HasWhatIsNeeded plan u
has_needed laws plan facts u sound =
    let job : JobNumbers = plan_numbers plan in
    record {
      needed = λ v stream. (laws.elements job (numbers_of u) v facts.numbers sound.numbers stream).0;
      required = λ v stream. (laws.elements job (numbers_of u) v facts.numbers sound.numbers stream).1;
      snapshots = λ v n operator kept. laws.snapshots job (numbers_of u) v n facts.numbers sound.numbers operator kept;
      mark = λ v stream source. laws.mark job (numbers_of u) v facts.numbers sound.numbers stream source;
    }

-- ---- an entry in place of a change

pub entered_sound : (plan : PlanText) (m : VaultTold) (h : NumbersHeld) (journal : List Entry) → Sound plan (with_journal m journal)
    → h.numbers.ledger ≡ (numbers_of m).ledger → h.numbers.journal ≡ journal → h.snaps ≡ m.held.snaps → h.ended ≡ m.held.ended
    → Sound plan (record m { held = h })
entered_sound plan m h journal sound ledger is snaps ended =
    let numbers : h.numbers ≡ record (numbers_of m) { journal = journal } =
    ap₂ (λ (l : Ledger) (j : List Entry). let n : VaultNumbers = record { ledger = l; journal = j } in n) ledger is in
    moved plan (with_journal m journal) (record m { held = h }) sound numbers snaps ended (same_contents m.depot.contents m.depot.contents refl)
    (subst (λ (l : Ledger). HasFiles plan l m.halted m.outputs) (sym ledger) sound.delivered.files)
    sound.counted

pub entered : (plan : PlanText) (s m : VaultTold) (h : NumbersHeld) (e : Entry) → s.halted ≡ None → Changes plan s (Some e) None m
    → h.numbers.ledger ≡ (numbers_of m).ledger → h.numbers.journal ≡ (numbers_of m).journal ++ e ∷ [] → h.snaps ≡ m.held.snaps → h.ended ≡ m.held.ended
    → Sound plan s → Sound plan (record m { held = h }) × Enters plan s (Some e) None (record m { held = h })
entered plan s m h e going changes ledger journal snaps ended sound =
    let behind : h.numbers.journal ≡ (numbers_of s).journal ++ e ∷ [] = journal ∙ ap (λ (j : List Entry). j ++ e ∷ []) changes.journal in (
      entered_sound plan m h ((numbers_of s).journal ++ e ∷ []) (changes.sound (numbers_of s).journal sound) ledger behind snaps ended,
      record {
        going = going;
        numbers = ap₂ (λ (l : Ledger) (j : List Entry). let n : VaultNumbers = record { ledger = l; journal = j } in n) (ledger ∙ changes.ledger) behind;
        halted = changes.halted;
        started = changes.started;
        counts = changes.counts;
      },
    )

-- a half that failed
pub failed : (plan : PlanText) (s u : VaultTold) (f : VaultFault) → s.halted ≡ None → FailsToDrop plan s f u → Sound plan s
    → Sound plan u × IsOfDrop f × Stops plan s None f u
failed plan s u (fault.Store count) going fails sound = (
  subst (λ (j : List Entry). Sound plan (with_journal u j)) (sym fails.2.journal) (fails.2.sound (numbers_of s).journal sound),
  tt,
  (
    fails.0,
    fails.1,
    record {
      going = going;
      numbers = ap₂ (λ (l : Ledger) (j : List Entry). let n : VaultNumbers = record { ledger = l; journal = j } in n) fails.2.ledger fails.2.journal;
      halted = fails.2.halted;
      started = fails.2.started;
      counts = fails.2.counts;
    },
  ),
)
failed plan s u (fault.Output count) going fails sound = absurd fails
failed plan s u (fault.Damaged v n) going fails sound = absurd fails
failed plan s u fault.Halted going fails sound = absurd fails
failed plan s u fault.Memory going fails sound = absurd fails

-- ---- a ledger that counts otherwise

files_since : (plan : PlanText) (l : Ledger) (x : ℕ) (h : Option VaultFault) (o : OutputsTold) → HasFiles plan l h o → HasFiles plan (record l { since = x }) h o
files_since plan l x None o f = record { sinks = f.sinks; others = f.others }
files_since plan l x (Some (fault.Store count)) o f = record { sinks = f.sinks; others = f.others }
files_since plan l x (Some (fault.Output count)) o f = record {
  k = f.k;
  is_sink = f.is_sink;
  next = f.next;
  count = f.count;
  is_next = f.is_next;
  files = record { sinks = f.files.sinks; others = f.files.others };
}
files_since plan l x (Some (fault.Damaged v n)) o f = record { sinks = f.sinks; others = f.others }
files_since plan l x (Some fault.Halted) o f = absurd f
files_since plan l x (Some fault.Memory) o f = absurd f

-- the numbers changed, but of the ledger no row
counted_sound : (plan : PlanText) (m : VaultTold) (h : NumbersHeld) (journal : List Entry) (x : ℕ) → Sound plan (with_journal m journal)
    → IsSound (plan_numbers plan) h.numbers → h.numbers.ledger ≡ record (numbers_of m).ledger { since = x }
    → h.snaps ≡ m.held.snaps → h.ended ≡ m.held.ended → Sound plan (record m { held = h })
counted_sound plan m h journal x sound numbers ledger snaps ended =
    let job : JobNumbers = plan_numbers plan in
    let row : (v : ℕ) → row_at h.numbers.ledger v ≡ row_at (numbers_of m).ledger v = λ v. ap (λ (l : Ledger). row_at l v) ledger in
    record {
      numbers = numbers;
      records = λ v. subst (λ (r : LedgerRow). HoldsRecords plan v r m.depot.contents) (sym (row v)) (sound.records v);
      snapshots = λ v. subst (λ (k : List (List SnapRow)). HoldsSnapshots plan v (row_at h.numbers.ledger v) (get_or k v []) m.depot.contents) (sym snaps)
          (subst (λ (r : LedgerRow). HoldsSnapshots plan v r (snaps_held m.held v) m.depot.contents) (sym (row v)) (sound.snapshots v));
      delivered = record {
        ended = λ k within. subst (λ (b : List Bool). get_or b k true ≡ takes_no_more job h.numbers.ledger k) (sym ended)
            (subst (λ (l : Ledger). get_or m.held.ended k true ≡ takes_no_more job l k) (sym ledger) (sound.delivered.ended k within));
        files = subst (λ (l : Ledger). HasFiles plan l m.halted m.outputs) (sym ledger) (files_since plan (numbers_of m).ledger x m.halted m.outputs sound.delivered.files);
      };
      counted = sound.counted;
    }

-- ---- a pass and its entry

lt_no : (n : ℕ) → nat_lt n n ≡ false
lt_no n = grind (arith, nat_tests)

lt_yes : (m n : ℕ) → m < n → nat_lt m n ≡ true
lt_yes m n h = grind (arith, nat_tests)

passed_is : (job : JobNumbers) (l : Ledger) (halves : ℕ) → change job l (entry.Pass halves) ≡ passed job l halves
unfolding change
passed_is job l halves = refl

-- the ledger of a pass, where it counts so
pass_ledger : (job : JobNumbers) (l m : Ledger) (halves x : ℕ) → m ≡ passed_over job l (pass_order job) halves
    → x ≡ (if nat_lt halves (all_halves job) then l.since else 0) → record m { since = x } ≡ change job l (entry.Pass halves)
pass_ledger job l m halves x is counts =
    ap₂ (λ (k : Ledger) (n : ℕ). let r : Ledger = record k { since = n } in r) is counts ∙ sym (passed_is job l halves)

pass_entered : RunFacts → (plan : PlanText) → PlanFacts plan → (s m : VaultTold) (h : NumbersHeld) (halves x : ℕ) (stop : Option VaultFault)
    → s.halted ≡ None → PassesOver plan (pass_order (plan_numbers plan)) s halves stop m → halves ≤ all_halves (plan_numbers plan)
    → x ≡ (if nat_lt halves (all_halves (plan_numbers plan)) then (numbers_of s).ledger.since else 0)
    → h.numbers.ledger ≡ record (numbers_of m).ledger { since = x } → h.numbers.journal ≡ (numbers_of m).journal ++ entry.Pass halves ∷ []
    → h.snaps ≡ m.held.snaps → h.ended ≡ m.held.ended → Sound plan s
    → Sound plan (record m { held = h }) × Enters plan s (Some (entry.Pass halves)) stop (record m { held = h })
pass_entered runs plan facts s m h halves x stop going passes few counts ledger journal snaps ended sound =
    let job : JobNumbers = plan_numbers plan in
    let is : h.numbers ≡ enter job (numbers_of s) (Some (entry.Pass halves)) =
    ap₂ (λ (l : Ledger) (j : List Entry). let n : VaultNumbers = record { ledger = l; journal = j } in n)
    (ledger ∙ pass_ledger job (numbers_of s).ledger (numbers_of m).ledger halves x passes.ledger counts)
    (journal ∙ ap (λ (j : List Entry). j ++ entry.Pass halves ∷ []) passes.journal) in
    let numbers : IsSound job h.numbers = subst (λ (n : VaultNumbers). IsSound job n) (sym is)
    (runs.entries job (numbers_of s) (entry.Pass halves) facts.numbers sound.numbers few tt) in (
      counted_sound plan m h passes.sound.0 x passes.sound.1 numbers ledger snaps ended,
      record {
        going = going;
        numbers = is;
        halted = passes.halted;
        started = passes.started;
        counts = passes.counts;
      },
    )

-- a whole pass
pub passed_all : RunFacts → (plan : PlanText) → PlanFacts plan → (s m : VaultTold) (h : NumbersHeld) (halves : ℕ) → s.halted ≡ None
    → PassesOver plan (pass_order (plan_numbers plan)) s halves None m → h.numbers.ledger ≡ record (numbers_of m).ledger { since = 0 }
    → h.numbers.journal ≡ (numbers_of m).journal ++ entry.Pass halves ∷ [] → h.snaps ≡ m.held.snaps → h.ended ≡ m.held.ended → Sound plan s
    → Sound plan (record m { held = h }) × Passes plan s (Ok tt) (record m { held = h })
passed_all runs plan facts s m h halves going passes ledger journal snaps ended sound =
    let job : JobNumbers = plan_numbers plan in
    let all : halves ≡ all_halves job = passes.stops in
    let counts : 0 ≡ (if nat_lt halves (all_halves job) then (numbers_of s).ledger.since else 0) =
    sym (ap (λ (k : ℕ). if nat_lt k (all_halves job) then (numbers_of s).ledger.since else 0) all
    ∙ ap (λ (b : Bool). if b then (numbers_of s).ledger.since else 0) (lt_no (all_halves job))) in
    let both = pass_entered runs plan facts s m h halves 0 None going passes (omega (arith, all)) counts ledger journal snaps ended sound in
    (both.0, subst (λ (k : ℕ). Enters plan s (Some (entry.Pass k)) None (record m { held = h })) all both.1)

-- one that stopped early
pub passed_some : RunFacts → (plan : PlanText) → PlanFacts plan → (s m : VaultTold) (h : NumbersHeld) (halves : ℕ) (f : VaultFault) → s.halted ≡ None
    → PassesOver plan (pass_order (plan_numbers plan)) s halves (Some f) m → h.numbers.ledger ≡ (numbers_of m).ledger
    → h.numbers.journal ≡ (numbers_of m).journal ++ entry.Pass halves ∷ [] → h.snaps ≡ m.held.snaps → h.ended ≡ m.held.ended → Sound plan s
    → Sound plan (record m { held = h }) × Passes plan s (Err f) (record m { held = h })
passed_some runs plan facts s m h halves (fault.Store count) going passes ledger journal snaps ended sound =
    let job : JobNumbers = plan_numbers plan in
    let less = passes.stops.0 in
    let since : (numbers_of m).ledger.since ≡ (numbers_of s).ledger.since =
    ap (λ (l : Ledger). l.since) passes.ledger ∙ over_since job (numbers_of s).ledger (pass_order job) halves in
    let counts : (numbers_of m).ledger.since ≡ (if nat_lt halves (all_halves job) then (numbers_of s).ledger.since else 0) =
    since ∙ sym (ap (λ (b : Bool). if b then (numbers_of s).ledger.since else 0) (lt_yes halves (all_halves job) less)) in
    let both = pass_entered runs plan facts s m h halves (numbers_of m).ledger.since (Some (fault.Store count)) going passes (omega (arith, less)) counts ledger journal snaps ended sound in
    (both.0, (halves, less, (passes.stops.1, passes.stops.2, both.1)))
passed_some runs plan facts s m h halves (fault.Output count) going passes ledger journal snaps ended sound = absurd passes.stops
passed_some runs plan facts s m h halves (fault.Damaged v n) going passes ledger journal snaps ended sound = absurd passes.stops
passed_some runs plan facts s m h halves fault.Halted going passes ledger journal snaps ended sound = absurd passes.stops
passed_some runs plan facts s m h halves fault.Memory going passes ledger journal snaps ended sound = absurd passes.stops

-- what a whole pass leaves
act_is : (job : JobNumbers) (n : VaultNumbers) → (pass_act job n).vault ≡ enter job n (Some (entry.Pass (all_halves job)))
unfolding pass_act
act_is job n = refl

pub has_collected : CollectionFacts → (plan : PlanText) → PlanFacts plan → (s u : VaultTold) → Sound plan s → Passes plan s (Ok tt) u → HasCollected plan s u
has_collected laws plan facts s u sound passes =
    let job : JobNumbers = plan_numbers plan in
    let all = laws.passed job (numbers_of s) facts.numbers sound.numbers in
    let is : (pass_act job (numbers_of s)).vault ≡ numbers_of u = act_is job (numbers_of s) ∙ sym passes.numbers in
    record {
      streams = λ v stream. subst (λ (n : VaultNumbers). IsPassed job (numbers_of s).ledger n.ledger v) is (all.0 v stream);
      sinks = λ k sink. subst (λ (n : VaultNumbers). row_at n.ledger k ≡ row_at (numbers_of s).ledger k) is (all.1 k sink);
      since = subst (λ (n : VaultNumbers). n.ledger.since ≡ 0) is all.2;
    }
