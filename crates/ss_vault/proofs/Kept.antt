-- A vault in which a snapshot was stored.
use Rattle.std.proofs.Common.{◌≡◌, ◌≢◌, ℕ, ◌<◌, ◌≤◌, ◌==◌, ◌||◌, not, nat_le, nat_lt, Bool, true, false, Option, Some, None, List, [], ◌∷◌, length, get_or, map, refl, sym, ap, ap₂, ◌∙◌, subst, arith, ⊎_elim, if◌then◌else◌}
use Rattle.std.proofs.lemmas.Bool.{cases_eq, eq-eqb, ne_eqb}
use Rattle.std.proofs.lemmas.Bool.Decides.{nat_tests}
use Rattle.ss_codec.specs.Frame.{frame_bytes}
use Rattle.ss_frames.specs.Frames.{frame_of}
use Rattle.ss_frames.specs.Plans.{plan_numbers}
use Rattle.ss_frames.specs.Within.{AreKept}
use Rattle.ss_outside.specs.Depot.{Contents, replaced_at, with_frame}
use Rattle.ss_outside.specs.Told.{OutputsTold}
use Rattle.ss_plan.specs.Plan.{PlanText}
use Rattle.ss_state.specs.Joint.{IsSound, MayAccept}
use Rattle.ss_state.specs.Journal.{MayKeep, enter, is_one_of, kept, put_in}
use Rattle.ss_state.specs.LowWater.{low}
use Rattle.ss_state.specs.Numbers.{JobNumbers, IsOperator, vertex, input, size}
use Rattle.ss_state.specs.State.{LedgerRow, Ledger, VaultNumbers, row_at}
use Rattle.ss_state.specs.declared.entry.Entry.TheVariants as entry
use Rattle.ss_water.specs.Graph.{is_sink}
use Rattle.ss_water.specs.declared.snap_row.SnapRow.{SnapRow}
use Rattle.ss_vault.specs.Answers.{keep_answer}
use Rattle.ss_vault.specs.Facts.{PlanFacts, RunFacts, SnapshotFacts}
use Rattle.ss_vault.specs.NumbersHeld.{put_snap, snaps_held}
use Rattle.ss_vault.specs.Sound.{FilesHave, HasFiles, HoldsRecords, HoldsSnapshots, IsCounted, Sound, nothing_behind, snap_at, stored_frame}
use Rattle.ss_vault.specs.Told.{VaultTold, numbers_of, durable_of, counts_of}
use Rattle.ss_vault.specs.declared.answers.Keep.TheVariants as keep
use Rattle.ss_vault.specs.declared.fault.VaultFault.{VaultFault}
use Rattle.ss_vault.proofs.Changes.{kept_is, kept_same, kept_other}
use Rattle.ss_vault.proofs.Flushed.{chosen_other, chosen_same, taken_files}
use Rattle.ss_vault.proofs.Moved.{files_going}
use Rattle.ss_vault.proofs.Took.{row_records}

-- when a snapshot is to be stored
due : (known old : Bool) (n : ℕ) → (if known then keep.Known else (if old then keep.Old n else keep.Kept)) ≡ keep.Kept
    → (known ≡ false) × (old ≡ false)
due true old n h = absurd cc
due false true n h = absurd cc
due false false n h = (refl, refl)

not_below : (m n : ℕ) → nat_lt m n ≡ false → n ≤ m
not_below m n h = grind (arith, nat_tests)

-- a number put in its place is one of the others
put_is_one : (n k : ℕ) (ns : List ℕ) → is_one_of n (put_in k ns) ≡ ((k == n) || is_one_of n ns)
put_is_one n k [] = refl
put_is_one n k (m ∷ ms) = placed (nat_lt k m) n k m ms (put_is_one n k ms)
  where
    swap : (a b c : Bool) → (a || (b || c)) ≡ (b || (a || c))
    swap true true c = refl
    swap true false c = refl
    swap false true c = refl
    swap false false c = refl

    placed : (b : Bool) (n k m : ℕ) (ms : List ℕ) → is_one_of n (put_in k ms) ≡ ((k == n) || is_one_of n ms)
        → is_one_of n (if b then k ∷ m ∷ ms else m ∷ put_in k ms) ≡ ((k == n) || is_one_of n (m ∷ ms))
    placed true n k m ms h = refl
    placed false n k m ms h = ap (λ (b : Bool). (m == n) || b) h ∙ swap (m == n) (k == n) (is_one_of n ms)

-- snapshots are told in the order of their numbers
told_put : (plan : PlanText) (v k : ℕ) (ns : List ℕ) → (snap_at plan v k).n ≡ k
    → ((n : ℕ) → is_one_of n ns ≡ true → (snap_at plan v n).n ≡ n)
    → put_snap (snap_at plan v k) (map (snap_at plan v) ns) ≡ map (snap_at plan v) (put_in k ns)
told_put plan v k [] is each = refl
told_put plan v k (m ∷ ms) is each =
    let first : (snap_at plan v m).n ≡ m = each m (rw (eq-eqb m m refl) refl) in
    let rest = told_put plan v k ms is (λ n h. each n (or_right (m == n) (is_one_of n ms) h)) in
    ap₂ (λ (a b : ℕ). if nat_lt a b then snap_at plan v k ∷ snap_at plan v m ∷ map (snap_at plan v) ms
    else snap_at plan v m ∷ put_snap (snap_at plan v k) (map (snap_at plan v) ms)) is first
    ∙ ap (λ (others : List SnapRow). if nat_lt k m then snap_at plan v k ∷ snap_at plan v m ∷ map (snap_at plan v) ms else snap_at plan v m ∷ others) rest
    ∙ placed (nat_lt k m)
  where
    or_right : (a b : Bool) → b ≡ true → (a || b) ≡ true
    or_right true b h = refl
    or_right false b h = h

    placed : (b : Bool) → (if b then snap_at plan v k ∷ snap_at plan v m ∷ map (snap_at plan v) ms else snap_at plan v m ∷ map (snap_at plan v) (put_in k ms))
        ≡ map (snap_at plan v) (if b then k ∷ m ∷ ms else m ∷ put_in k ms)
    placed true = refl
    placed false = refl

-- the frame at a number, where one was put
frame_put : (plan : PlanText) (v k n : ℕ) (row : LedgerRow) (had : Option (List ℕ)) → had ≡ stored_frame plan v row n
    → (if n == k then Some (frame_bytes (frame_of plan v k)) else had) ≡ stored_frame plan v (record row { snaps = put_in k row.snaps }) n
frame_put plan v k n row had e = ⊎_elim
    (λ (same : n ≡ k).
    ap (λ (b : Bool). if b then Some (frame_bytes (frame_of plan v k)) else had) (eq-eqb n k same)
    ∙ ap (λ (i : ℕ). Some (frame_bytes (frame_of plan v i))) (sym same)
    ∙ sym (ap (λ (b : Bool). if b then Some (frame_bytes (frame_of plan v n)) else None)
    (put_is_one n k row.snaps ∙ ap (λ (b : Bool). b || is_one_of n row.snaps) (eq-eqb k n (sym same)))))
    (λ (other : n ≢ k).
    ap (λ (b : Bool). if b then Some (frame_bytes (frame_of plan v k)) else had) (ne_eqb n k other)
    ∙ e
    ∙ sym (ap (λ (b : Bool). if b then Some (frame_bytes (frame_of plan v n)) else None)
    (put_is_one n k row.snaps ∙ ap (λ (b : Bool). b || is_one_of n row.snaps) (ne_eqb k n (λ h. other (sym h))))))
    (cases_eq n k)

kept_put : (plan : PlanText) (v k n : ℕ) (ns : List ℕ) → AreKept plan v k → ((m : ℕ) → is_one_of m ns ≡ true → AreKept plan v m)
    → is_one_of n (put_in k ns) ≡ true → AreKept plan v n
kept_put plan v k n ns here each h = ⊎_elim
    (λ (same : k ≡ n). subst (λ (i : ℕ). AreKept plan v i) same here)
    (λ (other : k ≢ n). each n (sym (put_is_one n k ns ∙ ap (λ (b : Bool). b || is_one_of n ns) (ne_eqb k n other)) ∙ h))
    (cases_eq k n)

kept_besides : (l m : Ledger) (v k w : ℕ) → v < length l.rows → m ≡ kept l v k
    → ((row_at m w).base ≡ (row_at l w).base) × ((row_at m w).dur ≡ (row_at l w).dur) × ((row_at m w).taken ≡ (row_at l w).taken)
kept_besides l m v k w within e = ⊎_elim
    (λ (same : w ≡ v).
    let at : row_at m w ≡ record (row_at l v) { snaps = put_in k (row_at l v).snaps } = ap (row_at m) same ∙ kept_same l m v k within e in
    let here : row_at l w ≡ row_at l v = ap (row_at l) same in (
      ap (λ (r : LedgerRow). r.base) at ∙ sym (ap (λ (r : LedgerRow). r.base) here),
      ap (λ (r : LedgerRow). r.dur) at ∙ sym (ap (λ (r : LedgerRow). r.dur) here),
      ap (λ (r : LedgerRow). r.taken) at ∙ sym (ap (λ (r : LedgerRow). r.taken) here),
    ))
    (λ (other : w ≢ v).
    let at = kept_other l m v w k other e in
    (ap (λ (r : LedgerRow). r.base) at, ap (λ (r : LedgerRow). r.dur) at, ap (λ (r : LedgerRow). r.taken) at))
    (cases_eq w v)

-- the stored snapshots say their own numbers
pub numbers_told : (plan : PlanText) → SnapshotFacts plan → (s : VaultTold) (v : ℕ) → Sound plan s → IsOperator (plan_numbers plan) v → (n : ℕ)
    → is_one_of n (durable_of s v).snaps ≡ true → (snap_at plan v n).n ≡ n
numbers_told plan snaps s v sound operator n h = (snaps.coded v n operator ((sound.numbers.stands.row v).snaps n h)).number

pub kept_sound : RunFacts → (plan : PlanText) → PlanFacts plan → SnapshotFacts plan → (s u : VaultTold) (v k : ℕ) (snap : SnapRow) → Sound plan s
    → s.halted ≡ None → IsOperator (plan_numbers plan) v → MayAccept (plan_numbers plan).max_elements (vertex (plan_numbers plan) v) k
    → AreKept plan v k → keep_answer (plan_numbers plan) (numbers_of s).ledger v k ≡ keep.Kept → snap ≡ snap_at plan v k
    → numbers_of u ≡ enter (plan_numbers plan) (numbers_of s) (Some (entry.Kept v k))
    → ((w : ℕ) → snaps_held u.held w ≡ (if w == v then put_snap snap (snaps_held s.held v) else snaps_held s.held w))
    → u.held.ended ≡ s.held.ended → u.depot.contents ≡ with_frame v k (frame_bytes (frame_of plan v k)) s.depot.contents
    → u.outputs ≡ s.outputs → u.halted ≡ None → IsCounted u.halted u.started (counts_of u) → Sound plan u
kept_sound runs plan facts snaps s u v k snap sound going operator accepted have answer is_snap e told ended same outputs on counted =
    let job : JobNumbers = plan_numbers plan in
    let l : Ledger = (numbers_of s).ledger in
    let m : Ledger = (numbers_of u).ledger in
    let rows = sound.numbers.stands.rows in
    let within : v < length l.rows = let h = operator.0 in omega (arith, h, rows) in
    let is_kept : m ≡ kept l v k = kept_is job (numbers_of s) (numbers_of u) v k e in
    let is_due = due (is_one_of k (row_at l v).snaps) (nat_lt k (low (vertex job v) (row_at l v))) (low (vertex job v) (row_at l v)) answer in
    let lawful : MayKeep job l v k = record {
      operator = operator;
      within = accepted.within;
      new = is_due.0;
      above = not_below k (low (vertex job v) (row_at l v)) is_due.1;
    } in
    let besides = λ (w : ℕ). kept_besides l m v k w within is_kept in
    let added : Contents = with_frame v k (frame_bytes (frame_of plan v k)) s.depot.contents in
    let held : HoldsSnapshots plan v (row_at l v) (snaps_held s.held v) s.depot.contents = sound.snapshots v in
    record {
      numbers = subst (λ (n : VaultNumbers). IsSound job n) (sym e)
          (runs.entries job (numbers_of s) (entry.Kept v k) facts.numbers sound.numbers lawful accepted);
      records = λ w. subst (λ (c : Contents). HoldsRecords plan w (row_at m w) c) (sym same)
          (let b = besides w in
          let r = row_records plan w (row_at l w) (row_at m w) s.depot.contents b.0 b.1 (sound.records w) in
          record { first = r.first; each = r.each; records = r.records });
      snapshots = λ w. subst (λ (c : Contents). HoldsSnapshots plan w (row_at m w) (snaps_held u.held w) c) (sym same) (⊎_elim
          (λ (is : w ≡ v). subst (λ (i : ℕ). HoldsSnapshots plan i (row_at m i) (snaps_held u.held i) added) (sym is)
          (subst (λ (r : LedgerRow). HoldsSnapshots plan v r (snaps_held u.held v) added) (sym (kept_same l m v k within is_kept))
          (record {
            frames = λ n. ap (λ (f : ℕ → Option (List ℕ)). f n)
                (chosen_same v (replaced_at k (Some (frame_bytes (frame_of plan v k))) (s.depot.contents.frames v)) (s.depot.contents.frames v))
                ∙ frame_put plan v k n (row_at l v) (s.depot.contents.frames v n) (held.frames n);
            told = told v ∙ chosen_same v (put_snap snap (snaps_held s.held v)) (snaps_held s.held v)
                ∙ ap₂ (λ (x : SnapRow) (xs : List SnapRow). put_snap x xs) is_snap held.told
                ∙ told_put plan v k (row_at l v).snaps (snaps.coded v k operator accepted).number (numbers_told plan snaps s v sound operator);
            kept = λ n h. kept_put plan v k n (row_at l v).snaps have held.kept h;
          })))
          (λ (other : w ≢ v). subst (λ (r : LedgerRow). HoldsSnapshots plan w r (snaps_held u.held w) added) (sym (kept_other l m v w k other is_kept))
          (subst (λ (x : List SnapRow). HoldsSnapshots plan w (row_at l w) x added) (sym (told w ∙ chosen_other w v (put_snap snap (snaps_held s.held v)) (snaps_held s.held w) other))
          (let old = sound.snapshots w in
          record {
            frames = λ n. ap (λ (f : ℕ → Option (List ℕ)). f n)
                (chosen_other w v (replaced_at k (Some (frame_bytes (frame_of plan v k))) (s.depot.contents.frames v)) (s.depot.contents.frames w) other)
                ∙ old.frames n;
            told = old.told;
            kept = old.kept;
          })))
          (cases_eq w v));
      delivered = record {
        ended = λ w inside. ap (λ (b : List Bool). get_or b w true) ended ∙ sound.delivered.ended w inside
            ∙ ap (λ (t : ℕ). not (is_sink (vertex job w).kind) || nat_le (size (vertex job (input (vertex job w) 0))) t) (sym (besides w).2);
        files = subst (λ (h : Option VaultFault). HasFiles plan m h u.outputs) (sym on)
            (subst (λ (o : OutputsTold). FilesHave plan m nothing_behind o) (sym outputs)
            (taken_files plan l m s.outputs (λ w. (besides w).2) (files_going plan s sound going)));
      };
      counted = counted;
    }
