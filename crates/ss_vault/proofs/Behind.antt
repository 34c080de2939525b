-- A call behind another, which left the numbers as they were.
use Rattle.std.proofs.Common.{◌≡◌, ℕ, true, false, Option, Some, None, Result, Ok, Err, refl, ap, ◌∙◌, subst, arith}
use Rattle.std.specs.Prelude.{is_some, slice_get}
use Rattle.ss_elem.specs.Line.{line_of}
use Rattle.ss_frames.specs.Plans.{plan_numbers}
use Rattle.ss_outside.specs.Told.{KeepsOutputs, OutputsTold, Puts}
use Rattle.ss_outside.specs.declared.outputs.PutFault.{PutFault}
use Rattle.ss_outside.specs.declared.outputs.PutFault.TheVariants as put
use Rattle.ss_plan.specs.Plan.{PlanText}
use Rattle.ss_state.specs.Acts.{flush_entry}
use Rattle.ss_state.specs.Journal.{enter}
use Rattle.ss_state.specs.Numbers.{input, vertex}
use Rattle.ss_state.specs.State.{VaultNumbers, row_at}
use Rattle.ss_state.specs.declared.entry.Entry.{Entry}
use Rattle.ss_vault.specs.Answers.{entry_of_flush, entry_of_keep, entry_of_take, flush_answer, keep_answer, take_answer}
use Rattle.ss_vault.specs.Calls.{Delivers, Enters, Flushes, Keeps, StoresSome, IsOfPut, OnlyWhere, PutsLine, Stops, Takes}
use Rattle.ss_vault.specs.Sound.{stream_put}
use Rattle.ss_vault.specs.Told.{VaultTold, counts_of, numbers_of}
use Rattle.ss_vault.specs.declared.answers.Flush.{Flush}
use Rattle.ss_vault.specs.declared.answers.Flush.TheVariants as flush_variant
use Rattle.ss_vault.specs.declared.answers.Keep.{Keep}
use Rattle.ss_vault.specs.declared.answers.Keep.TheVariants as keep_variant
use Rattle.ss_vault.specs.declared.answers.Take.{Take}
use Rattle.ss_vault.specs.declared.answers.Take.TheVariants as take_variant
use Rattle.ss_vault.specs.declared.fault.VaultFault.{VaultFault}
use Rattle.ss_vault.specs.declared.fault.VaultFault.TheVariants as fault
use Rattle.ss_vault.proofs.Moved.{fell_on, rose_on}

pub none_of : {A : Type 0} (o : Option A) → is_some o ≡ false → o ≡ None
none_of None h = refl
none_of (Some x) h = absurd cc

pub same_enters : (plan : PlanText) (s : VaultTold) → s.halted ≡ None → Enters plan s None None s
same_enters plan s going = record {
  going = going;
  numbers = refl;
  halted = going;
  started = refl;
  counts = record { faults = omega arith; output_faults = omega arith; shorts = omega arith };
}

pub enters_behind : (plan : PlanText) (s m u : VaultTold) (entry : Option Entry) (halt : Option VaultFault) → Enters plan s None None m → Enters plan m entry halt u
    → Enters plan s entry halt u
enters_behind plan s m u entry halt first second = record {
  going = first.going;
  numbers = second.numbers ∙ ap (λ (n : VaultNumbers). enter (plan_numbers plan) n entry) first.numbers;
  halted = second.halted;
  started = second.started ∙ first.started;
  counts = fell_on (counts_of s) (counts_of m) (counts_of u) first.counts second.counts;
}

pub stops_behind : (plan : PlanText) (s m u : VaultTold) (entry : Option Entry) (f : VaultFault) → Enters plan s None None m → Stops plan m entry f u
    → Stops plan s entry f u
stops_behind plan s m u entry (fault.Store count) first stops = (
  stops.0,
  rose_on s.depot.faults m.depot.faults u.depot.faults first.counts.faults stops.1,
  enters_behind plan s m u entry (Some (fault.Store count)) first stops.2,
)
stops_behind plan s m u entry (fault.Output count) first stops = (
  stops.0,
  rose_on s.outputs.faults m.outputs.faults u.outputs.faults first.counts.output_faults stops.1,
  enters_behind plan s m u entry (Some (fault.Output count)) first stops.2,
)
stops_behind plan s m u entry (fault.Damaged v n) first stops = (
  rose_on s.depot.shorts m.depot.shorts u.depot.shorts first.counts.shorts stops.0,
  enters_behind plan s m u entry (Some (fault.Damaged v n)) first stops.1,
)
stops_behind plan s m u entry fault.Memory first stops = enters_behind plan s m u entry None first stops
stops_behind plan s m u entry fault.Halted first stops =
    let some : is_some m.halted ≡ true = stops.0 in
    let none : is_some m.halted ≡ false = ap (λ (h : Option VaultFault). is_some h) first.halted in
    absurd (cc (some, none))

some_behind : (plan : PlanText) (v from count : ℕ) (s m u : VaultTold) (f : VaultFault) → Enters plan s None None m
    → StoresSome plan v from count m f u → StoresSome plan v from count s f u
some_behind plan v from count s m u f first stores = (
  stores.0,
  stores.1,
  stores.2,
  subst (λ (n : VaultNumbers). flush_answer (plan_numbers plan) n.ledger v from count ≡ flush_variant.Flushed stores.1 stores.2) first.numbers stores.3,
  stores.4,
  stops_behind plan s m u (flush_entry v stores.0) f first stores.5,
)

pub flushes_behind : (plan : PlanText) (v from count : ℕ) (s m u : VaultTold) (r : Result Flush VaultFault) → Enters plan s None None m
    → Flushes plan v from count m r u → Flushes plan v from count s r u
flushes_behind plan v from count s m u (Ok answer) first flushes = (
  flushes.0 ∙ ap (λ (n : VaultNumbers). flush_answer (plan_numbers plan) n.ledger v from count) first.numbers,
  enters_behind plan s m u (entry_of_flush v answer) None first flushes.1,
)
flushes_behind plan v from count s m u (Err (fault.Store faults)) first flushes = some_behind plan v from count s m u (fault.Store faults) first flushes
flushes_behind plan v from count s m u (Err fault.Memory) first flushes = some_behind plan v from count s m u fault.Memory first flushes
flushes_behind plan v from count s m u (Err (fault.Output faults)) first flushes = absurd flushes
flushes_behind plan v from count s m u (Err (fault.Damaged w n)) first flushes = absurd flushes
flushes_behind plan v from count s m u (Err fault.Halted) first flushes =
    let some : is_some m.halted ≡ true = flushes.0 in
    let none : is_some m.halted ≡ false = ap (λ (h : Option VaultFault). is_some h) first.halted in
    absurd (cc (some, none))

pub keeps_behind : (plan : PlanText) (v n : ℕ) (s m u : VaultTold) (r : Result Keep VaultFault) → Enters plan s None None m
    → Keeps plan v n m r u → Keeps plan v n s r u
keeps_behind plan v n s m u (Ok answer) first keeps = (
  keeps.0 ∙ ap (λ (x : VaultNumbers). keep_answer (plan_numbers plan) x.ledger v n) first.numbers,
  enters_behind plan s m u (entry_of_keep v n answer) None first keeps.1,
)
keeps_behind plan v n s m u (Err f) first keeps = (
  keeps.0,
  subst (λ (x : VaultNumbers). OnlyWhere (keep_answer (plan_numbers plan) x.ledger v n ≡ keep_variant.Kept) f) first.numbers keeps.1,
  stops_behind plan s m u None f first keeps.2,
)

pub takes_behind : (plan : PlanText) (k : ℕ) (s m u : VaultTold) (r : Result Take VaultFault) → Enters plan s None None m
    → Takes plan k m r u → Takes plan k s r u
takes_behind plan k s m u (Ok answer) first takes = (
  takes.0 ∙ ap (λ (n : VaultNumbers). take_answer (plan_numbers plan) n.ledger k) first.numbers,
  enters_behind plan s m u (entry_of_take k answer) None first takes.1,
)
takes_behind plan k s m u (Err f) first takes = (
  subst (λ (n : VaultNumbers). IsOfPut (input (vertex (plan_numbers plan) k) 0) (row_at n.ledger k).taken f) first.numbers takes.0,
  subst (λ (n : VaultNumbers). OnlyWhere (take_answer (plan_numbers plan) n.ledger k ≡ take_variant.Took (row_at n.ledger k).taken) f) first.numbers takes.1,
  stops_behind plan s m u None f first takes.2,
)

line_behind : (plan : PlanText) (k : ℕ) (s m u : VaultTold) (answer : Result (Unit {0}) PutFault) → m.outputs ≡ s.outputs → numbers_of m ≡ numbers_of s
    → PutsLine plan k m answer u → PutsLine plan k s answer u
line_behind plan k s m u answer same numbers line = record {
  file = line.file;
  is_file = line.is_file;
  next = line.next;
  is_next = subst (λ (n : VaultNumbers). slice_get (stream_put plan k) (row_at n.ledger k).taken ≡ Some line.next) numbers line.is_next;
  puts = subst (λ (o : OutputsTold). Puts o u.outputs line.file (line_of line.next) answer) same line.puts;
}

pub delivers_behind : (plan : PlanText) (k : ℕ) (s m u : VaultTold) (r : Result Take VaultFault) → m.outputs ≡ s.outputs → numbers_of m ≡ numbers_of s
    → Delivers plan k m r u → Delivers plan k s r u
delivers_behind plan k s m u (Ok take_variant.Ended) same numbers d = d ∙ same
delivers_behind plan k s m u (Ok (take_variant.NotYet dur)) same numbers d = d ∙ same
delivers_behind plan k s m u (Ok (take_variant.Took n)) same numbers d = line_behind plan k s m u (Ok tt) same numbers d
delivers_behind plan k s m u (Err (fault.Store count)) same numbers d = d ∙ same
delivers_behind plan k s m u (Err (fault.Output count)) same numbers d = line_behind plan k s m u (Err put.Failed) same numbers d
delivers_behind plan k s m u (Err (fault.Damaged v n)) same numbers d = d ∙ same
delivers_behind plan k s m u (Err fault.Halted) same numbers d = d ∙ same
delivers_behind plan k s m u (Err fault.Memory) same numbers d =
    subst (λ (o : OutputsTold). KeepsOutputs o u.outputs) same d
