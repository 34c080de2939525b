-- A vault in which elements were stored.
use Rattle.std.proofs.Common.{◌≡◌, ◌≢◌, ℕ, suc, ◌+◌, ◌*◌, ◌<◌, ◌≤◌, ◌==◌, ◌||◌, not, nat_le, IfSome, sum_by, Bool, true, Some, None, List, [], ◌∷◌, ◌++◌, length, get_or, take, map, refl, sym, ap, ◌∙◌, subst, arith, ⊎_elim, if◌then◌else◌, All}
use Rattle.std.specs.Prelude.{slice_get}
use Rattle.std.proofs.Math.Nat.{mul-le-mul_left, mul-le-mul_right}
use Rattle.std.proofs.lemmas.Bool.{cases_eq, cases_lt, eq-eqb, ne_eqb}
use Rattle.std.proofs.lemmas.List.Sums.{sum_by-cons}
use Rattle.ss_codec.specs.Frame.{frame_bytes}
use Rattle.ss_codec.specs.Record.{HasRecord}
use Rattle.ss_elem.specs.Line.{text_of}
use Rattle.ss_elem.specs.declared.element.Element.{Element}
use Rattle.ss_frames.specs.Frames.{frame_of}
use Rattle.ss_frames.specs.Plans.{plan_numbers}
use Rattle.ss_meaning.specs.Meaning.{meaning}
use Rattle.ss_outside.specs.Depot.{Contents}
use Rattle.ss_outside.specs.Told.{OutputsTold}
use Rattle.ss_plan.specs.Plan.{PlanText, vertices_of}
use Rattle.ss_state.specs.Joint.{IsSound}
use Rattle.ss_state.specs.Journal.{enter, flushed, is_one_of, MayFlush}
use Rattle.ss_state.specs.Numbers.{JobNumbers, IsStream, vertex, input, size}
use Rattle.ss_state.specs.State.{LedgerRow, Ledger, VaultNumbers, empty_row, row_at}
use Rattle.ss_state.specs.declared.entry.Entry.TheVariants as entry
use Rattle.ss_water.specs.Graph.{is_sink}
use Rattle.ss_water.specs.declared.snap_row.SnapRow.{SnapRow}
use Rattle.ss_vault.specs.Devices.{HasMore}
use Rattle.ss_vault.specs.Facts.{PlanFacts, RunFacts}
use Rattle.ss_vault.specs.NumbersHeld.{all_stored, snaps_held}
use Rattle.ss_vault.specs.Sound.{FilesHave, HasFiles, HoldsRecords, HoldsSnapshots, IsCounted, Sound, elements_from, nothing_behind, records_from, snap_at, stream_put, takes_no_more}
use Rattle.ss_vault.specs.Told.{VaultTold, numbers_of, durable_of, counts_of}
use Rattle.ss_vault.proofs.Changes.{flushed_is, flushed_same, flushed_other}
use Rattle.ss_vault.proofs.Moved.{files_going}
use Rattle.ss_vault.proofs.Records.{part_has, records_join}

-- a choice by a test that two numbers are the same
pub chosen_same : {A : Type 0} (v : ℕ) (x y : A) → (if v == v then x else y) ≡ x
chosen_same v x y = rw (eq-eqb v v refl) refl

pub chosen_other : {A : Type 0} (w v : ℕ) (x y : A) → w ≢ v → (if w == v then x else y) ≡ y
chosen_other w v x y other = rw (ne_eqb w v other) refl

-- the records of a stream whose elements were stored
same_records : (plan : PlanText) (v count : ℕ) (row : LedgerRow) (old new : Contents)
    → row.base ≤ row.dur → row.dur ≤ length (meaning (vertices_of plan) v) → HoldsRecords plan v row old
    → HasMore old new v (records_from v row.dur (elements_from plan v row.dur count))
    → ((n : ℕ) (x : Element) → row.dur ≤ n → n < row.dur + count → slice_get (meaning (vertices_of plan) v) n ≡ Some x → HasRecord x)
    → HoldsRecords plan v (record row { dur = row.dur + count }) new
same_records plan v count row old new base dur held more have = record {
  first = more.first v ∙ held.first;
  each = λ n x least below is_item. ⊎_elim
      (λ before. held.each n x least before is_item)
      (λ behind. have n x behind below is_item)
      (cases_lt n row.dur);
  records = more.records v
      ∙ chosen_same v (old.records v ++ records_from v row.dur (elements_from plan v row.dur count)) (old.records v)
      ∙ ap (λ (front : List (List ℕ)). front ++ records_from v row.dur (elements_from plan v row.dur count)) held.records
      ∙ records_join v (meaning (vertices_of plan) v) row.base row.dur count base dur;
}

other_records : (plan : PlanText) (v w : ℕ) (row : LedgerRow) (old new : Contents) (records : List (List ℕ)) → w ≢ v
    → HasMore old new v records → HoldsRecords plan w row old → HoldsRecords plan w row new
other_records plan v w row old new records other more held = record {
  first = more.first w ∙ held.first;
  each = held.each;
  records = more.records w ∙ chosen_other w v (old.records v ++ records) (old.records w) other ∙ held.records;
}

-- what a ledger's rows say besides their dur
pub record SameBesides (old new : Ledger) : Type 0 where
  pub snaps : (w : ℕ) → (row_at new w).snaps ≡ (row_at old w).snaps
  pub taken : (w : ℕ) → (row_at new w).taken ≡ (row_at old w).taken

pub flushed_besides : (l m : Ledger) (v count : ℕ) → v < length l.rows → m ≡ flushed l v count → SameBesides l m
flushed_besides l m v count within e =
    let row : (w : ℕ) → ((row_at m w).snaps ≡ (row_at l w).snaps) × ((row_at m w).taken ≡ (row_at l w).taken) = λ w. ⊎_elim
    (λ (same : w ≡ v).
    let at : row_at m w ≡ record (row_at l v) { dur = (row_at l v).dur + count } = ap (row_at m) same ∙ flushed_same l m v count within e in
    let here : row_at l w ≡ row_at l v = ap (row_at l) same in (
      ap (λ (r : LedgerRow). r.snaps) at ∙ sym (ap (λ (r : LedgerRow). r.snaps) here),
      ap (λ (r : LedgerRow). r.taken) at ∙ sym (ap (λ (r : LedgerRow). r.taken) here),
    ))
    (λ (other : w ≢ v).
    let at = flushed_other l m v w count other e in
    (ap (λ (r : LedgerRow). r.snaps) at, ap (λ (r : LedgerRow). r.taken) at))
    (cases_eq w v) in
    record { snaps = λ w. (row w).0; taken = λ w. (row w).1 }

-- what doesn't speak of dur
pub besides_snapshots : (plan : PlanText) (l m : Ledger) (snaps : List SnapRow) (old new : Contents) (v : ℕ) → SameBesides l m
    → ((n : ℕ) → new.frames v n ≡ old.frames v n) → HoldsSnapshots plan v (row_at l v) snaps old → HoldsSnapshots plan v (row_at m v) snaps new
besides_snapshots plan l m snaps old new v same frames held = record {
  frames = λ n. frames n ∙ held.frames n
      ∙ ap (λ (k : List ℕ). if is_one_of n k then Some (frame_bytes (frame_of plan v n)) else None) (sym (same.snaps v));
  told = held.told ∙ ap (map (snap_at plan v)) (sym (same.snaps v));
  kept = λ n h. held.kept n (sym (ap (is_one_of n) (same.snaps v)) ∙ h);
}

pub besides_ended : (job : JobNumbers) (l m : Ledger) (k : ℕ) → SameBesides l m → takes_no_more job m k ≡ takes_no_more job l k
besides_ended job l m k same =
    ap (λ (t : ℕ). not (is_sink (vertex job k).kind) || nat_le (size (vertex job (input (vertex job k) 0))) t) (same.taken k)

pub taken_files : (plan : PlanText) (l m : Ledger) (outputs : OutputsTold) → ((k : ℕ) → (row_at m k).taken ≡ (row_at l k).taken)
    → FilesHave plan l nothing_behind outputs → FilesHave plan m nothing_behind outputs
taken_files plan l m outputs same files = record {
  sinks = λ k file is_file. subst (λ (t : ℕ). IfSome (outputs.bytes file) (λ bytes. bytes ≡ text_of (take t (stream_put plan k)) ++ []))
      (sym (same k)) (files.sinks k file is_file);
  others = files.others;
}

-- ---- how many elements are stored of all streams

stored_within : (rows : List LedgerRow) (most : ℕ) → ((v : ℕ) → (get_or rows v empty_row).dur ≤ most)
    → sum_by (λ row. row.dur) rows ≤ length rows * most
stored_within [] most each = omega arith
stored_within (row ∷ rows) most each =
    let first = each 0 in
    let rest = stored_within rows most (λ v. each (suc v)) in
    rw (sum_by-cons (λ (r : LedgerRow). r.dur) row rows) (omega (arith, first, rest))

-- what may be stored of all streams of a plan
pub stored_few : (plan : PlanText) → PlanFacts plan → (vault : VaultTold) → Sound plan vault → all_stored (numbers_of vault).ledger ≤ 32 * 131072
stored_few plan facts vault sound =
    let job : JobNumbers = plan_numbers plan in
    let l : Ledger = (numbers_of vault).ledger in
    let within : sum_by (λ row. row.dur) l.rows ≤ length l.rows * job.max_elements =
    stored_within l.rows job.max_elements (λ v. let h = (sound.numbers.stands.row v).dur in omega (arith, h)) in
    let few : length l.rows ≤ 32 = let e = sound.numbers.stands.rows in let h = facts.few in omega (arith, e, h) in
    let most : job.max_elements ≤ 131072 = let e = facts.most in let h = facts.limit in omega (arith, e, h) in
    let product : length l.rows * job.max_elements ≤ 32 * 131072 =
    omega (arith, mul-le-mul_right job.max_elements few, mul-le-mul_left 32 most) in
    omega (arith, within, product)

-- ---- all of it

pub flushed_sound : RunFacts → (plan : PlanText) → PlanFacts plan → (s u : VaultTold) (v count : ℕ) → Sound plan s
    → IsStream (plan_numbers plan) v → count ≤ 64 → (durable_of s v).dur + count ≤ length (meaning (vertices_of plan) v)
    → (durable_of s v).dur + count ≤ (plan_numbers plan).max_elements
    → (numbers_of s).ledger.since + count ≤ (plan_numbers plan).collect_every
    → numbers_of u ≡ enter (plan_numbers plan) (numbers_of s) (Some (entry.Flushed v count))
    → u.held.snaps ≡ s.held.snaps → u.held.ended ≡ s.held.ended
    → HasMore s.depot.contents u.depot.contents v (records_from v (durable_of s v).dur (elements_from plan v (durable_of s v).dur count))
    → All HasRecord (elements_from plan v (durable_of s v).dur count)
    → (FilesHave plan (numbers_of u).ledger nothing_behind u.outputs → HasFiles plan (numbers_of u).ledger u.halted u.outputs)
    → u.outputs ≡ s.outputs → s.halted ≡ None → IsCounted u.halted u.started (counts_of u) → Sound plan u
flushed_sound runs plan facts s u v count sound stream few dur within since e snaps ended more have files outputs going counted =
    let job : JobNumbers = plan_numbers plan in
    let l : Ledger = (numbers_of s).ledger in
    let m : Ledger = (numbers_of u).ledger in
    let rows = sound.numbers.stands.rows in
    let here : v < length l.rows = let h = stream.0 in omega (arith, h, rows) in
    let is_flushed : m ≡ flushed l v count = flushed_is job (numbers_of s) (numbers_of u) v count e in
    let same : SameBesides l m = flushed_besides l m v count here is_flushed in
    let lawful : MayFlush job l v count = record {
      stream = stream;
      few = few;
      within = let k = facts.size v stream in omega (arith, dur, k);
      since = since;
    } in
    let row = sound.numbers.stands.row v in
    let held : HoldsRecords plan v (row_at l v) s.depot.contents = sound.records v in
    record {
      numbers = subst (λ (n : VaultNumbers). IsSound job n) (sym e)
          (runs.entries job (numbers_of s) (entry.Flushed v count) facts.numbers sound.numbers lawful within);
      records = λ w. ⊎_elim
          (λ (is : w ≡ v). subst (λ (x : ℕ). HoldsRecords plan x (row_at m x) u.depot.contents) (sym is)
          (subst (λ (r : LedgerRow). HoldsRecords plan v r u.depot.contents) (sym (flushed_same l m v count here is_flushed))
          (same_records plan v count (row_at l v) s.depot.contents u.depot.contents row.base
          (let k = facts.size v stream in let h = row.dur in omega (arith, k, h)) held more
          (λ n x least below is_item. part_has HasRecord (meaning (vertices_of plan) v) (row_at l v).dur count n x have least below is_item))))
          (λ (other : w ≢ v). subst (λ (r : LedgerRow). HoldsRecords plan w r u.depot.contents) (sym (flushed_other l m v w count other is_flushed))
          (other_records plan v w (row_at l w) s.depot.contents u.depot.contents (records_from v (row_at l v).dur (elements_from plan v (row_at l v).dur count)) other more (sound.records w)))
          (cases_eq w v);
      snapshots = λ w. subst (λ (k : List (List SnapRow)). HoldsSnapshots plan w (row_at m w) (get_or k w []) u.depot.contents) (sym snaps)
          (besides_snapshots plan l m (snaps_held s.held w) s.depot.contents u.depot.contents w same (more.frames w) (sound.snapshots w));
      delivered = record {
        ended = λ k inside. ap (λ (b : List Bool). get_or b k true) ended ∙ sound.delivered.ended k inside ∙ sym (besides_ended job l m k same);
        files = files (subst (λ (o : OutputsTold). FilesHave plan m nothing_behind o) (sym outputs)
            (taken_files plan l m s.outputs same.taken (files_going plan s sound going)));
      };
      counted = counted;
    }
