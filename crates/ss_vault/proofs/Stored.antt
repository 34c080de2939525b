-- What a vault comes to that was to store elements.
use Rattle.std.proofs.Common.{◌≡◌, ◌≢◌, ℕ, zero, suc, ◌+◌, ◌-◌, ◌<◌, ◌≤◌, Bool, Option, Some, None, Ok, Err, List, [], ◌++◌, length, take, drop, sym, ap, ◌∙◌, subst, arith, ⊎_elim, if◌then◌else◌, All}
use Rattle.std.specs.Prelude.{IsSome}
use Rattle.std.proofs.lemmas.Bool.{cases_eq, eq-eqb, ne_eqb}
use Rattle.std.proofs.lemmas.List.{append-nil, length-drop, length-take, take-take}
use Rattle.ss_codec.specs.Record.{HasRecord}
use Rattle.ss_elem.specs.declared.element.Element.{Element}
use Rattle.ss_frames.specs.Plans.{plan_numbers}
use Rattle.ss_meaning.specs.Meaning.{meaning}
use Rattle.ss_elem.specs.Validity.{next_bound}
use Rattle.ss_outside.specs.Depot.{Contents, next_number}
use Rattle.ss_outside.specs.Told.{OutputsTold}
use Rattle.ss_plan.specs.Plan.{PlanText, vertices_of}
use Rattle.ss_state.specs.Acts.{flush_entry}
use Rattle.ss_state.specs.Journal.{enter}
use Rattle.ss_state.specs.Numbers.{IsStream}
use Rattle.ss_state.specs.State.{Ledger, VaultNumbers}
use Rattle.ss_state.specs.declared.entry.Entry.TheVariants as entry
use Rattle.ss_vault.specs.Calls.{Enters}
use Rattle.ss_vault.specs.Counts.{NoneFell}
use Rattle.ss_vault.specs.Devices.{Appended, HasMore, StopsAppending}
use Rattle.ss_vault.specs.Facts.{PlanFacts, RunFacts}
use Rattle.ss_vault.specs.Sound.{FilesHave, HasFiles, IsCounted, Sound, elements_from, nothing_behind, records_from}
use Rattle.ss_vault.specs.Steps.{AreNext, Stores, halt_of}
use Rattle.ss_vault.specs.Told.{VaultTold, counts_of, durable_of, numbers_of}
use Rattle.ss_vault.specs.declared.answers.Flush.TheVariants as flush
use Rattle.ss_vault.specs.declared.counts.Counts.{Counts}
use Rattle.ss_vault.specs.declared.fault.VaultFault.{VaultFault}
use Rattle.ss_vault.specs.declared.fault.VaultFault.TheVariants as fault
use Rattle.ss_vault.proofs.Flushed.{chosen_other, flushed_sound}
use Rattle.ss_vault.proofs.Looking.{none_fell}
use Rattle.ss_vault.proofs.Records.{part_all, part_length, records_from-length}
use Rattle.ss_vault.proofs.Wholes.{whole_firsts}
use Rattle.ss_vault.proofs.Moved.{SameContents, counted_going, counted_store, files_going, moved}

-- what was touched: the numbers by one entry, and the depot by so many appends
pub record Touched (plan : PlanText) (s u : VaultTold) (v count : ℕ) (elements : List Element) : Type 0 where
  pub numbers : numbers_of u ≡ enter (plan_numbers plan) (numbers_of s) (flush_entry v count)
  pub snaps : u.held.snaps ≡ s.held.snaps
  pub ended : u.held.ended ≡ s.held.ended
  pub started : u.started ≡ s.started
  pub outputs : u.outputs ≡ s.outputs
  pub appended : Appended s.depot u.depot v (durable_of s v).dur elements count

-- where nothing was appended
none_same : (a b : Contents) (v : ℕ) → HasMore a b v [] → SameContents a b
none_same a b v more = record {
  first = more.first;
  records = λ w. more.records w ∙ ⊎_elim
      (λ (same : w ≡ v). ap (λ (t : Bool). if t then a.records v ++ [] else a.records w) (eq-eqb w v same)
      ∙ append-nil (a.records v) ∙ ap a.records (sym same))
      (λ (other : w ≢ v). chosen_other w v (a.records v ++ []) (a.records w) other)
      (cases_eq w v);
  frames = more.frames;
}

-- so many of the next elements
next_part : (plan : PlanText) (v dur count : ℕ) (elements : List Element) → elements ≡ elements_from plan v dur (length elements) → count ≤ length elements
    → take count elements ≡ elements_from plan v dur count
next_part plan v dur count elements is within =
    ap (take count) is ∙ take-take count (length elements) (drop dur (meaning (vertices_of plan) v)) within

next_within : (plan : PlanText) (v dur count : ℕ) (elements : List Element) → elements ≡ elements_from plan v dur (length elements) → count ≤ length elements
    → 0 < count → dur + count ≤ length (meaning (vertices_of plan) v)
next_within plan v dur count elements is within some =
    let xs : List Element = meaning (vertices_of plan) v in
    let long : length elements ≡ length (take (length elements) (drop dur xs)) = ap length is in
    omega (arith, long, within, some, length-take (length elements) (drop dur xs), length-drop dur xs)

some_entry : (plan : PlanText) (s : VaultTold) (v k : ℕ) → enter (plan_numbers plan) (numbers_of s) (flush_entry v (suc k))
    ≡ enter (plan_numbers plan) (numbers_of s) (Some (entry.Flushed v (suc k)))
some_entry plan s v k =
    let some : suc k ≢ 0 = λ h. absurd (omega (arith, h)) in
    ap (λ (b : Bool). enter (plan_numbers plan) (numbers_of s) (if b then None else Some (entry.Flushed v (suc k)))) (ne_eqb (suc k) 0 some)

pub touched_sound : RunFacts → (plan : PlanText) → PlanFacts plan → (s u : VaultTold) (v count : ℕ) (elements : List Element) → Sound plan s
    → IsStream (plan_numbers plan) v → AreNext plan v s elements → length elements ≤ 64
    → (numbers_of s).ledger.since + length elements ≤ (plan_numbers plan).collect_every → Touched plan s u v count elements
    → ((l : Ledger) (o : OutputsTold) → FilesHave plan l nothing_behind o → HasFiles plan l u.halted o)
    → s.halted ≡ None → IsCounted u.halted s.started (counts_of u) → Sound plan u
touched_sound runs plan facts s u v zero elements sound stream next few since touched files going counted =
    moved plan s u sound touched.numbers touched.snaps touched.ended (none_same s.depot.contents u.depot.contents v touched.appended.contents)
    (files (numbers_of u).ledger u.outputs
    (subst (λ (o : OutputsTold). FilesHave plan (numbers_of u).ledger nothing_behind o) (sym touched.outputs)
    (subst (λ (n : VaultNumbers). FilesHave plan n.ledger nothing_behind s.outputs) (sym touched.numbers) (files_going plan s sound going))))
    (subst (λ (c : Counts). IsCounted u.halted c (counts_of u)) (sym touched.started) counted)
touched_sound runs plan facts s u v (suc k) elements sound stream next few since touched files going counted =
    let dur : ℕ = (durable_of s v).dur in
    let within = touched.appended.within in
    let part : take (suc k) elements ≡ elements_from plan v dur (suc k) = next_part plan v dur (suc k) elements next.elements within in
    flushed_sound runs plan facts s u v (suc k) sound stream (omega (arith, within, few))
    (next_within plan v dur (suc k) elements next.elements within (omega arith))
    (let h = next.within in omega (arith, h, within)) (omega (arith, since, within)) (touched.numbers ∙ some_entry plan s v k) touched.snaps touched.ended
    (subst (λ (xs : List Element). HasMore s.depot.contents u.depot.contents v (records_from v dur xs)) part touched.appended.contents)
    (subst (λ (xs : List Element). All HasRecord xs) part touched.appended.records)
    (files (numbers_of u).ledger u.outputs) touched.outputs going
    (subst (λ (c : Counts). IsCounted u.halted c (counts_of u)) (sym touched.started) counted)

pub touched_fell : (plan : PlanText) (s u : VaultTold) (v count : ℕ) (elements : List Element) → Touched plan s u v count elements
    → NoneFell (counts_of s) (counts_of u)
touched_fell plan s u v count elements touched =
    none_fell s u touched.outputs touched.appended.faults touched.appended.shorts

pub touched_enters : (plan : PlanText) (s u : VaultTold) (v count : ℕ) (elements : List Element) (halt : Option VaultFault) → s.halted ≡ None → u.halted ≡ halt
    → Touched plan s u v count elements → Enters plan s (flush_entry v count) halt u
touched_enters plan s u v count elements halt going on touched = record {
  going = going;
  numbers = touched.numbers;
  halted = on;
  started = touched.started;
  counts = touched_fell plan s u v count elements touched;
}

-- all were stored
pub stored_all : RunFacts → (plan : PlanText) → PlanFacts plan → (s u : VaultTold) (v count : ℕ) (elements : List Element) → Sound plan s
    → IsStream (plan_numbers plan) v → AreNext plan v s elements → length elements ≤ 64
    → (numbers_of s).ledger.since + length elements ≤ (plan_numbers plan).collect_every → Touched plan s u v count elements → s.halted ≡ None → u.halted ≡ None
    → count ≡ length elements
    → Sound plan u × Stores plan v (length elements) s (Ok (flush.Flushed count ((durable_of s v).dur + count))) u
stored_all runs plan facts s u v count elements sound stream next few since touched going on all = (
  touched_sound runs plan facts s u v count elements sound stream next few since touched
      (λ l o have. subst (λ (h : Option VaultFault). HasFiles plan l h o) (sym on) have) going
      (subst (λ (h : Option VaultFault). IsCounted h s.started (counts_of u)) (sym on)
      (counted_going s.halted s.started (counts_of s) (counts_of u) sound.counted (touched_fell plan s u v count elements touched))),
  (
    ap (λ (n : ℕ). flush.Flushed n ((durable_of s v).dur + n)) all,
    subst (λ (n : ℕ). Enters plan s (flush_entry v n) None u) all (touched_enters plan s u v count elements None going on touched),
  ),
)

-- or fewer, before a fault
pub stored_some : RunFacts → (plan : PlanText) → PlanFacts plan → (s u : VaultTold) (v count : ℕ) (elements : List Element) (f : VaultFault) → Sound plan s
    → IsStream (plan_numbers plan) v → AreNext plan v s elements → length elements ≤ 64
    → (numbers_of s).ledger.since + length elements ≤ (plan_numbers plan).collect_every → Touched plan s u v count elements → s.halted ≡ None → u.halted ≡ halt_of f
    → StopsAppending s.depot u.depot count (length elements) (Some f)
    → Sound plan u × Stores plan v (length elements) s (Err f) u
stored_some runs plan facts s u v count elements (fault.Store faults) sound stream next few since touched going on stops = (
  touched_sound runs plan facts s u v count elements sound stream next few since touched
      (λ l o have. subst (λ (h : Option VaultFault). HasFiles plan l h o) (sym on) have) going
      (subst (λ (h : Option VaultFault). IsCounted h s.started (counts_of u)) (sym on)
      (counted_store s.halted s.started (counts_of s) (counts_of u) faults sound.counted (touched_fell plan s u v count elements touched) stops.2)),
  (count, stops.0, (stops.1, stops.2, touched_enters plan s u v count elements (Some (fault.Store faults)) going on touched)),
)
stored_some runs plan facts s u v count elements (fault.Output faults) sound stream next few since touched going on stops = absurd stops
stored_some runs plan facts s u v count elements (fault.Damaged w n) sound stream next few since touched going on stops = absurd stops
stored_some runs plan facts s u v count elements fault.Halted sound stream next few since touched going on stops = absurd stops
stored_some runs plan facts s u v count elements fault.Memory sound stream next few since touched going on stops = (
  touched_sound runs plan facts s u v count elements sound stream next few since touched
      (λ l o have. subst (λ (h : Option VaultFault). HasFiles plan l h o) (sym on) have) going
      (subst (λ (h : Option VaultFault). IsCounted h s.started (counts_of u)) (sym on)
      (counted_going s.halted s.started (counts_of s) (counts_of u) sound.counted (touched_fell plan s u v count elements touched))),
  (count, stops, touched_enters plan s u v count elements None going on touched),
)

-- ---- what an append of the next elements asks

pub next_is : (plan : PlanText) → PlanFacts plan → (s : VaultTold) (v : ℕ) → Sound plan s → IsStream (plan_numbers plan) v
    → (durable_of s v).dur ≡ next_number s.depot.contents v
next_is plan facts s v sound stream =
    let xs : List Element = meaning (vertices_of plan) v in
    let base : ℕ = (durable_of s v).base in
    let dur : ℕ = (durable_of s v).dur in
    let row = sound.numbers.stands.row v in
    let within = row.dur in
    let least = row.base in
    let size = facts.size v stream in
    let held = sound.records v in
    let first = held.first in
    let long : length (s.depot.contents.records v) ≡ dur - base =
    ap length held.records ∙ records_from-length v base (elements_from plan v base (dur - base))
    ∙ part_length xs base (dur - base) (omega (arith, within, least, size)) in
    omega (arith, first, long, least)

pub next_firsts : (plan : PlanText) → PlanFacts plan → (s : VaultTold) (v : ℕ) (elements : List Element) → IsStream (plan_numbers plan) v
    → AreNext plan v s elements → All (λ x. IsSome (next_bound 0 x)) elements
next_firsts plan facts s v elements stream next =
    subst (λ (xs : List Element). All (λ x. IsSome (next_bound 0 x)) xs) (sym next.elements)
    (part_all (λ x. IsSome (next_bound 0 x)) (meaning (vertices_of plan) v) (durable_of s v).dur (length elements)
    (whole_firsts (meaning (vertices_of plan) v) (facts.whole v stream)))
