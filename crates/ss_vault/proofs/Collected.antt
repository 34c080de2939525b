-- A vault of which elements or snapshots were dropped that aren't needed.
use Rattle.std.proofs.Common.{◌≡◌, ◌≢◌, ℕ, zero, suc, ◌+◌, ◌-◌, max, ◌<◌, ◌≤◌, ◌==◌, ◌&&◌, ◌||◌, not, cond, filter, nat_le, nat_lt, Bool, true, false, Option, Some, None, List, [], ◌∷◌, length, get_or, set, map, take, drop, refl, sym, ap, ap₂, ◌∙◌, subst, arith, ⊎_elim, if◌then◌else◌}
use Rattle.std.proofs.lemmas.Bool.{cases_eq, eq-eqb}
use Rattle.std.proofs.lemmas.Bool.Decides.{nat_tests}
use Rattle.std.proofs.lemmas.List.{drop-drop}
use Rattle.ss_codec.specs.Frame.{frame_bytes}
use Rattle.ss_elem.specs.declared.element.Element.{Element}
use Rattle.ss_frames.specs.Frames.{frame_of}
use Rattle.ss_frames.specs.Plans.{plan_numbers}
use Rattle.ss_meaning.specs.Meaning.{meaning}
use Rattle.ss_outside.specs.Depot.{Contents, cut_to, without_frames_below}
use Rattle.ss_outside.specs.Told.{OutputsTold}
use Rattle.ss_plan.specs.Plan.{PlanText, vertices_of}
use Rattle.ss_state.specs.Joint.{IsSound}
use Rattle.ss_state.specs.Journal.{IsLawful, change, collected, enter, is_one_of, trimmed, trimmed_row}
use Rattle.ss_state.specs.Laws.{IsWithinLimits}
use Rattle.ss_state.specs.LowWater.{low, low_at, need}
use Rattle.ss_state.specs.Numbers.{JobNumbers, IsOperator, IsStream, is_inner, vertex, input, size}
use Rattle.ss_state.specs.State.{LedgerRow, Ledger, VaultNumbers, row_at}
use Rattle.ss_state.specs.declared.entry.Entry.{Entry}
use Rattle.ss_state.specs.declared.entry.Entry.TheVariants as entry
use Rattle.ss_water.specs.Graph.{is_sink}
use Rattle.ss_water.specs.declared.snap_row.SnapRow.{SnapRow}
use Rattle.ss_vault.specs.Facts.{PlanFacts, RunFacts, SnapshotFacts}
use Rattle.ss_vault.specs.NumbersHeld.{snaps_from_number, snaps_held}
use Rattle.ss_vault.specs.Sound.{FilesHave, HasFiles, HoldsRecords, HoldsSnapshots, IsCounted, Sound, nothing_behind, records_from, snap_at, stored_frame}
use Rattle.ss_vault.specs.Told.{VaultTold, numbers_of, durable_of, counts_of}
use Rattle.ss_vault.specs.declared.fault.VaultFault.{VaultFault}
use Rattle.ss_vault.proofs.Changes.{other_row, rows_of, same_row}
use Rattle.ss_vault.proofs.Flushed.{chosen_other, chosen_same, taken_files}
use Rattle.ss_vault.proofs.Kept.{numbers_told}
use Rattle.ss_vault.proofs.Moved.{files_going}
use Rattle.ss_vault.proofs.Took.{row_records, row_snapshots}

-- ---- the rows of a ledger in which one changed, but for what was taken

abbrev set_of : Ledger → ℕ → LedgerRow → List LedgerRow
set_of l v row = set l.rows v row

-- row v is this, and every other as it was
pub record IsChangedAt (l m : Ledger) (v : ℕ) (new : LedgerRow) : Type 0 where
  pub here : row_at m v ≡ new
  pub others : (w : ℕ) → w ≢ v → row_at m w ≡ row_at l w

changed_at : (l m : Ledger) (v : ℕ) (new : LedgerRow) → v < length l.rows → rows_of m ≡ set_of l v new → IsChangedAt l m v new
changed_at l m v new within e = record {
  here = same_row l m.rows v new within e;
  others = λ w other. other_row l m.rows v w new other e;
}

taken_same : (l m : Ledger) (v : ℕ) (new : LedgerRow) → IsChangedAt l m v new → new.taken ≡ (row_at l v).taken → (w : ℕ) → (row_at m w).taken ≡ (row_at l w).taken
taken_same l m v new changed same w = ⊎_elim
    (λ (is : w ≡ v). ap (λ (i : ℕ). (row_at m i).taken) is ∙ ap (λ (r : LedgerRow). r.taken) changed.here ∙ same ∙ sym (ap (λ (i : ℕ). (row_at l i).taken) is))
    (λ (other : w ≢ v). ap (λ (r : LedgerRow). r.taken) (changed.others w other))
    (cases_eq w v)

-- one entry was made, which changed row v of the ledger, and of the depot and of what is told of snapshots only what
-- belongs to v
pub changed_sound : RunFacts → (plan : PlanText) → PlanFacts plan → (s u : VaultTold) (e : Entry) (v : ℕ) (new : LedgerRow) → Sound plan s
    → s.halted ≡ None → IsLawful (plan_numbers plan) (numbers_of s).ledger e → IsWithinLimits (plan_numbers plan) (numbers_of s).ledger e
    → numbers_of u ≡ enter (plan_numbers plan) (numbers_of s) (Some e) → IsChangedAt (numbers_of s).ledger (numbers_of u).ledger v new
    → new.taken ≡ (durable_of s v).taken
    → HoldsRecords plan v new u.depot.contents
    → ((w : ℕ) → w ≢ v → HoldsRecords plan w (durable_of s w) u.depot.contents)
    → HoldsSnapshots plan v new (snaps_held u.held v) u.depot.contents
    → ((w : ℕ) → w ≢ v → HoldsSnapshots plan w (durable_of s w) (snaps_held u.held w) u.depot.contents)
    → u.held.ended ≡ s.held.ended → u.outputs ≡ s.outputs → u.halted ≡ None → IsCounted u.halted u.started (counts_of u) → Sound plan u
changed_sound runs plan facts s u e v new sound going lawful limits is changed taken records other_records snapshots other_snapshots ended outputs on counted =
    let job : JobNumbers = plan_numbers plan in
    let l : Ledger = (numbers_of s).ledger in
    let m : Ledger = (numbers_of u).ledger in
    let took = taken_same l m v new changed taken in
    record {
      numbers = subst (λ (n : VaultNumbers). IsSound job n) (sym is) (runs.entries job (numbers_of s) e facts.numbers sound.numbers lawful limits);
      records = λ w. ⊎_elim
          (λ (same : w ≡ v). subst (λ (x : ℕ). HoldsRecords plan x (row_at m x) u.depot.contents) (sym same)
          (subst (λ (r : LedgerRow). HoldsRecords plan v r u.depot.contents) (sym changed.here) records))
          (λ (other : w ≢ v). subst (λ (r : LedgerRow). HoldsRecords plan w r u.depot.contents) (sym (changed.others w other)) (other_records w other))
          (cases_eq w v);
      snapshots = λ w. ⊎_elim
          (λ (same : w ≡ v). subst (λ (x : ℕ). HoldsSnapshots plan x (row_at m x) (snaps_held u.held x) u.depot.contents) (sym same)
          (subst (λ (r : LedgerRow). HoldsSnapshots plan v r (snaps_held u.held v) u.depot.contents) (sym changed.here) snapshots))
          (λ (other : w ≢ v). subst (λ (r : LedgerRow). HoldsSnapshots plan w r (snaps_held u.held w) u.depot.contents) (sym (changed.others w other)) (other_snapshots w other))
          (cases_eq w v);
      delivered = record {
        ended = λ w inside. ap (λ (b : List Bool). get_or b w true) ended ∙ sound.delivered.ended w inside
            ∙ ap (λ (t : ℕ). not (is_sink (vertex job w).kind) || nat_le (size (vertex job (input (vertex job w) 0))) t) (sym (took w));
        files = subst (λ (h : Option VaultFault). HasFiles plan m h u.outputs) (sym on)
            (subst (λ (o : OutputsTold). FilesHave plan m nothing_behind o) (sym outputs)
            (taken_files plan l m s.outputs took (files_going plan s sound going)));
      };
      counted = counted;
    }

-- ---- elements dropped

records_from-drop : (v n k : ℕ) (xs : List Element) → drop k (records_from v n xs) ≡ records_from v (n + k) (drop k xs)
records_from-drop v n zero xs = ap (λ (m : ℕ). records_from v m xs) (let e : n ≡ n + 0 = omega arith in e)
records_from-drop v n (suc k) [] = refl
records_from-drop v n (suc k) (x ∷ xs) =
    records_from-drop v (n + 1) k xs ∙ ap (λ (m : ℕ). records_from v m (drop k xs)) (let e : n + 1 + k ≡ n + suc k = omega arith in e)

take_none : (n : ℕ) → take {A = Element} n [] ≡ []
take_none zero = refl
take_none (suc n) = refl

drop-take_less : (k m : ℕ) (xs : List Element) → drop k (take m xs) ≡ take (m - k) (drop k xs)
drop-take_less zero m xs = ap (λ (n : ℕ). take n xs) (let e : m ≡ m - 0 = omega arith in e)
drop-take_less (suc k) zero xs = ap (λ (n : ℕ). take n (drop (suc k) xs)) (let e : 0 ≡ 0 - suc k = omega arith in e)
drop-take_less (suc k) (suc m) [] = sym (take_none (suc m - suc k))
drop-take_less (suc k) (suc m) (x ∷ xs) =
    drop-take_less k m xs ∙ ap (λ (n : ℕ). take n (drop k xs)) (let e : m - k ≡ suc m - suc k = omega arith in e)

-- what is left of the records of a stream from number `base` on, without those below n
records_cut : (v : ℕ) (xs : List Element) (base dur n : ℕ) → base ≤ n
    → drop (n - base) (records_from v base (take (dur - base) (drop base xs))) ≡ records_from v n (take (max dur n - n) (drop n xs))
records_cut v xs base dur n least =
    let there : base + (n - base) ≡ n = omega arith in
    records_from-drop v base (n - base) (take (dur - base) (drop base xs))
    ∙ ap₂ (λ (m : ℕ) (ys : List Element). records_from v m ys) there
    (drop-take_less (n - base) (dur - base) (drop base xs)
    ∙ ap₂ (λ (m : ℕ) (ys : List Element). take m ys) (let e : dur - base - (n - base) ≡ max dur n - n = omega arith in e)
    (drop-drop (n - base) base xs ∙ ap (λ (m : ℕ). drop m xs) (let e : base + (n - base) ≡ n = omega arith in e)))

cut_records : (plan : PlanText) (v n : ℕ) (row : LedgerRow) (c : Contents) → row.base ≤ n → HoldsRecords plan v row c
    → HoldsRecords plan v (record row { base = n; dur = max row.dur n }) (cut_to v n c)
cut_records plan v n row c least held =
    let xs : List Element = meaning (vertices_of plan) v in
    record {
      first = chosen_same v n (c.first v);
      each = λ i x from below is_item. held.each i x (omega (arith, least, from)) (omega (arith, from, below)) is_item;
      records = chosen_same v (drop (n - c.first v) (c.records v)) (c.records v)
          ∙ ap₂ (λ (k : ℕ) (r : List (List ℕ)). drop (n - k) r) held.first held.records
          ∙ records_cut v xs row.base row.dur n least;
    }

other_cut : (plan : PlanText) (v n w : ℕ) (row : LedgerRow) (c : Contents) → w ≢ v → HoldsRecords plan w row c → HoldsRecords plan w row (cut_to v n c)
other_cut plan v n w row c other held = record {
  first = chosen_other w v n (c.first w) other ∙ held.first;
  each = held.each;
  records = chosen_other w v (drop (n - c.first v) (c.records v)) (c.records w) other ∙ held.records;
}

other_contents : (plan : PlanText) (w : ℕ) (row : LedgerRow) (snaps : List SnapRow) (c d : Contents) → ((n : ℕ) → d.frames w n ≡ c.frames w n)
    → HoldsSnapshots plan w row snaps c → HoldsSnapshots plan w row snaps d
other_contents plan w row snaps c d same held = record { frames = λ n. same n ∙ held.frames n; told = held.told; kept = held.kept }

collected_is : (job : JobNumbers) (n m : VaultNumbers) (v : ℕ) → m ≡ enter job n (Some (entry.Collected v)) → m.ledger ≡ collected job n.ledger v
unfolding change
collected_is job n m v e = ap (λ (x : VaultNumbers). x.ledger) e

pub collected_sound : RunFacts → (plan : PlanText) → PlanFacts plan → (s u : VaultTold) (v n : ℕ) → Sound plan s → s.halted ≡ None
    → IsStream (plan_numbers plan) v → n ≡ need (plan_numbers plan) (numbers_of s).ledger v → (durable_of s v).base ≤ n
    → numbers_of u ≡ enter (plan_numbers plan) (numbers_of s) (Some (entry.Collected v)) → u.held.snaps ≡ s.held.snaps → u.held.ended ≡ s.held.ended
    → u.depot.contents ≡ cut_to v n s.depot.contents → u.outputs ≡ s.outputs → u.halted ≡ None → IsCounted u.halted u.started (counts_of u) → Sound plan u
collected_sound runs plan facts s u v n sound going stream is_need least is snaps ended same outputs on counted =
    let job : JobNumbers = plan_numbers plan in
    let l : Ledger = (numbers_of s).ledger in
    let m : Ledger = (numbers_of u).ledger in
    let row : LedgerRow = row_at l v in
    let new : LedgerRow = record row { base = n; dur = max row.dur n } in
    let within : v < length l.rows = let h = stream.0 in let rows = sound.numbers.stands.rows in omega (arith, h, rows) in
    let changed : IsChangedAt l m v new = changed_at l m v new within
    (ap rows_of (collected_is job (numbers_of s) (numbers_of u) v is)
    ∙ ap (λ (k : ℕ). set_of l v (record row { base = k; dur = max row.dur k })) (sym is_need)) in
    changed_sound runs plan facts s u (entry.Collected v) v new sound going stream tt is changed refl
    (subst (λ (c : Contents). HoldsRecords plan v new c) (sym same) (cut_records plan v n row s.depot.contents least (sound.records v)))
    (λ w other. subst (λ (c : Contents). HoldsRecords plan w (row_at l w) c) (sym same) (other_cut plan v n w (row_at l w) s.depot.contents other (sound.records w)))
    (subst (λ (k : List (List SnapRow)). HoldsSnapshots plan v new (get_or k v []) u.depot.contents) (sym snaps)
    (row_snapshots plan v row new (snaps_held s.held v) u.depot.contents refl
    (other_contents plan v row (snaps_held s.held v) s.depot.contents u.depot.contents (λ i. ap (λ (c : Contents). c.frames v i) same) (sound.snapshots v))))
    (λ w other. subst (λ (k : List (List SnapRow)). HoldsSnapshots plan w (row_at l w) (get_or k w []) u.depot.contents) (sym snaps)
    (other_contents plan w (row_at l w) (snaps_held s.held w) s.depot.contents u.depot.contents (λ i. ap (λ (c : Contents). c.frames w i) same) (sound.snapshots w)))
    ended outputs on counted

-- ---- snapshots dropped

boole : (t b r f e : Bool) → f ≡ (b && r) → (e ≡ true → t ≡ b) → cond t (e || f) f ≡ (b && (e || r))
boole true b r f false h k = h
boole false b r f false h k = h
boole t b r f true h k = there t b r f h (k refl)
  where
    there : (t b r f : Bool) → f ≡ (b && r) → t ≡ b → cond t true f ≡ (b && true)
    there true true r f h e = refl
    there false false r f h e = h
    there true false r f h e = absurd cc
    there false true r f h e = absurd cc

same_of : (m n : ℕ) → (m == n) ≡ true → m ≡ n
same_of m n h = grind (arith, nat_tests)

filter_is_one : (mark n : ℕ) (ns : List ℕ) → is_one_of n (filter (λ (m : ℕ). nat_le mark m) ns) ≡ (nat_le mark n && is_one_of n ns)
filter_is_one mark n [] = none (nat_le mark n)
  where
    none : (b : Bool) → false ≡ (b && false)
    none true = refl
    none false = refl
filter_is_one mark n (m ∷ ms) =
    by_test (nat_le mark m)
    ∙ boole (nat_le mark m) (nat_le mark n) (is_one_of n ms) (is_one_of n (filter (λ (i : ℕ). nat_le mark i) ms)) (m == n) (filter_is_one mark n ms)
    (λ e. ap (nat_le mark) (same_of m n e))
  where
    by_test : (t : Bool) → is_one_of n (cond t (m ∷ filter (λ (i : ℕ). nat_le mark i) ms) (filter (λ (i : ℕ). nat_le mark i) ms))
        ≡ cond t ((m == n) || is_one_of n (filter (λ (i : ℕ). nat_le mark i) ms)) (is_one_of n (filter (λ (i : ℕ). nat_le mark i) ms))
    by_test true = refl
    by_test false = refl

and_right : (a b : Bool) → (a && b) ≡ true → b ≡ true
and_right true b h = h
and_right false b h = absurd cc

-- what is told of the snapshots that stay
told_filter : (f : ℕ → SnapRow) (mark : ℕ) (ns : List ℕ) → ((n : ℕ) → is_one_of n ns ≡ true → (f n).n ≡ n)
    → snaps_from_number mark (map f ns) ≡ map f (filter (λ (m : ℕ). nat_le mark m) ns)
told_filter f mark [] each = refl
told_filter f mark (m ∷ ms) each =
    let first : (f m).n ≡ m = each m (ap (λ (b : Bool). b || is_one_of m ms) (eq-eqb m m refl)) in
    ap (λ (n : ℕ). cond (nat_le mark n) (f m ∷ snaps_from_number mark (map f ms)) (snaps_from_number mark (map f ms))) first
    ∙ step (nat_le mark m) (told_filter f mark ms (λ n h. each n (later (m == n) (is_one_of n ms) h)))
  where
    later : (a b : Bool) → b ≡ true → (a || b) ≡ true
    later true b h = refl
    later false b h = h

    step : (b : Bool) → snaps_from_number mark (map f ms) ≡ map f (filter (λ (i : ℕ). nat_le mark i) ms)
        → cond b (f m ∷ snaps_from_number mark (map f ms)) (snaps_from_number mark (map f ms))
        ≡ map f (cond b (m ∷ filter (λ (i : ℕ). nat_le mark i) ms) (filter (λ (i : ℕ). nat_le mark i) ms))
    step true h = ap (λ (xs : List SnapRow). f m ∷ xs) h
    step false h = h

lt_not : (n mark : ℕ) → nat_lt n mark ≡ not (nat_le mark n)
lt_not n mark = grind (arith, nat_tests)

frame_left : (low one : Bool) (bytes : List ℕ) → (if not low then None else (if one then Some bytes else None)) ≡ (if (low && one) then Some bytes else None)
frame_left true one bytes = refl
frame_left false one bytes = refl

frame_filter : (plan : PlanText) (v mark n : ℕ) (row : LedgerRow) (had : Option (List ℕ)) → had ≡ stored_frame plan v row n
    → (if nat_lt n mark then None else had) ≡ stored_frame plan v (record row { snaps = filter (λ (m : ℕ). nat_le mark m) row.snaps }) n
frame_filter plan v mark n row had e =
    ap₂ (λ (b : Bool) (x : Option (List ℕ)). if b then None else x) (lt_not n mark) e
    ∙ frame_left (nat_le mark n) (is_one_of n row.snaps) (frame_bytes (frame_of plan v n))
    ∙ ap (λ (b : Bool). if b then Some (frame_bytes (frame_of plan v n)) else None) (sym (filter_is_one mark n row.snaps))

drop_snapshots : (plan : PlanText) (v mark : ℕ) (row : LedgerRow) (snaps : List SnapRow) (c : Contents)
    → ((n : ℕ) → is_one_of n row.snaps ≡ true → (snap_at plan v n).n ≡ n) → HoldsSnapshots plan v row snaps c
    → HoldsSnapshots plan v (record row { snaps = filter (λ (m : ℕ). nat_le mark m) row.snaps }) (snaps_from_number mark snaps) (without_frames_below v mark c)
drop_snapshots plan v mark row snaps c numbers held = record {
  frames = λ n. ap (λ (f : ℕ → Option (List ℕ)). f n) (chosen_same v (λ m. if nat_lt m mark then None else c.frames v m) (c.frames v))
      ∙ frame_filter plan v mark n row (c.frames v n) (held.frames n);
  told = ap (snaps_from_number mark) held.told ∙ told_filter (snap_at plan v) mark row.snaps numbers;
  kept = λ n h. held.kept n (and_right (nat_le mark n) (is_one_of n row.snaps) (sym (filter_is_one mark n row.snaps) ∙ h));
}

other_frames : (v mark w n : ℕ) (c : Contents) → w ≢ v → (without_frames_below v mark c).frames w n ≡ c.frames w n
other_frames v mark w n c other = ap (λ (f : ℕ → Option (List ℕ)). f n) (chosen_other w v (λ m. if nat_lt m mark then None else c.frames v m) (c.frames w) other)

same_records : (plan : PlanText) (w : ℕ) (a b : LedgerRow) (c d : Contents) → b.base ≡ a.base → b.dur ≡ a.dur → d.first w ≡ c.first w → d.records w ≡ c.records w
    → HoldsRecords plan w a c → HoldsRecords plan w b d
same_records plan w a b c d base dur first records held =
    row_records plan w a b d base dur (record { first = first ∙ held.first; each = held.each; records = records ∙ held.records })

trimmed_is : (job : JobNumbers) (n m : VaultNumbers) (v : ℕ) → m ≡ enter job n (Some (entry.Trimmed v)) → m.ledger ≡ trimmed job n.ledger v
unfolding change
trimmed_is job n m v e = ap (λ (x : VaultNumbers). x.ledger) e

-- an operator's snapshots were dropped below its low-water mark
pub dropped_sound : RunFacts → (plan : PlanText) → PlanFacts plan → SnapshotFacts plan → (s u : VaultTold) (v mark : ℕ) → Sound plan s → s.halted ≡ None
    → IsOperator (plan_numbers plan) v → IsStream (plan_numbers plan) v → mark ≡ low_at (plan_numbers plan) (numbers_of s).ledger v
    → numbers_of u ≡ enter (plan_numbers plan) (numbers_of s) (Some (entry.Trimmed v))
    → ((w : ℕ) → snaps_held u.held w ≡ (if w == v then snaps_from_number mark (snaps_held s.held v) else snaps_held s.held w)) → u.held.ended ≡ s.held.ended
    → u.depot.contents ≡ without_frames_below v mark s.depot.contents → u.outputs ≡ s.outputs → u.halted ≡ None → IsCounted u.halted u.started (counts_of u) → Sound plan u
dropped_sound runs plan facts snaps_facts s u v mark sound going operator stream is_low is snaps ended same outputs on counted =
    let job : JobNumbers = plan_numbers plan in
    let l : Ledger = (numbers_of s).ledger in
    let m : Ledger = (numbers_of u).ledger in
    let row : LedgerRow = row_at l v in
    let new : LedgerRow = record row { snaps = filter (λ (n : ℕ). nat_le mark n) row.snaps } in
    let within : v < length l.rows = let h = stream.0 in let rows = sound.numbers.stands.rows in omega (arith, h, rows) in
    let made : trimmed_row (vertex job v) row ≡ new =
    ap (λ (b : Bool). if b then record row { snaps = filter (λ (n : ℕ). nat_le (low (vertex job v) row) n) row.snaps } else record row { mark = row.dur }) operator.1
    ∙ ap (λ (k : ℕ). record row { snaps = filter (λ (n : ℕ). nat_le k n) row.snaps }) (sym is_low) in
    let changed : IsChangedAt l m v new = changed_at l m v new within
    (ap rows_of (trimmed_is job (numbers_of s) (numbers_of u) v is) ∙ ap (set_of l v) made) in
    changed_sound runs plan facts s u (entry.Trimmed v) v new sound going stream tt is changed refl
    (same_records plan v row new s.depot.contents u.depot.contents refl refl (ap (λ (c : Contents). c.first v) same) (ap (λ (c : Contents). c.records v) same) (sound.records v))
    (λ w other. same_records plan w (row_at l w) (row_at l w) s.depot.contents u.depot.contents refl refl (ap (λ (c : Contents). c.first w) same) (ap (λ (c : Contents). c.records w) same) (sound.records w))
    (subst (λ (k : List SnapRow). HoldsSnapshots plan v new k u.depot.contents)
    (sym (snaps v ∙ chosen_same v (snaps_from_number mark (snaps_held s.held v)) (snaps_held s.held v)))
    (subst (λ (c : Contents). HoldsSnapshots plan v new (snaps_from_number mark (snaps_held s.held v)) c) (sym same)
    (drop_snapshots plan v mark row (snaps_held s.held v) s.depot.contents (numbers_told plan snaps_facts s v sound operator) (sound.snapshots v))))
    (λ w other. subst (λ (k : List SnapRow). HoldsSnapshots plan w (row_at l w) k u.depot.contents)
    (sym (snaps w ∙ chosen_other w v (snaps_from_number mark (snaps_held s.held v)) (snaps_held s.held w) other))
    (other_contents plan w (row_at l w) (snaps_held s.held w) s.depot.contents u.depot.contents
    (λ n. ap (λ (c : Contents). c.frames w n) same ∙ other_frames v mark w n s.depot.contents other) (sound.snapshots w)))
    ended outputs on counted

-- ---- a mark raised

pub marked_sound : RunFacts → (plan : PlanText) → PlanFacts plan → (s u : VaultTold) (v : ℕ) → Sound plan s → s.halted ≡ None
    → IsStream (plan_numbers plan) v → is_inner (vertex (plan_numbers plan) v).kind ≡ false
    → numbers_of u ≡ enter (plan_numbers plan) (numbers_of s) (Some (entry.Trimmed v)) → u.held.snaps ≡ s.held.snaps → u.held.ended ≡ s.held.ended
    → u.depot.contents ≡ s.depot.contents → u.outputs ≡ s.outputs → u.halted ≡ None → IsCounted u.halted u.started (counts_of u) → Sound plan u
marked_sound runs plan facts s u v sound going stream source is snaps ended same outputs on counted =
    let job : JobNumbers = plan_numbers plan in
    let l : Ledger = (numbers_of s).ledger in
    let m : Ledger = (numbers_of u).ledger in
    let row : LedgerRow = row_at l v in
    let new : LedgerRow = record row { mark = row.dur } in
    let within : v < length l.rows = let h = stream.0 in let rows = sound.numbers.stands.rows in omega (arith, h, rows) in
    let made : trimmed_row (vertex job v) row ≡ new =
    ap (λ (b : Bool). if b then record row { snaps = filter (λ (n : ℕ). nat_le (low (vertex job v) row) n) row.snaps } else record row { mark = row.dur }) source in
    let changed : IsChangedAt l m v new = changed_at l m v new within
    (ap rows_of (trimmed_is job (numbers_of s) (numbers_of u) v is) ∙ ap (set_of l v) made) in
    let held = λ (w : ℕ). subst (λ (c : Contents). HoldsRecords plan w (row_at l w) c) (sym same) (sound.records w) in
    let have = λ (w : ℕ). subst (λ (k : List (List SnapRow)). HoldsSnapshots plan w (row_at l w) (get_or k w []) u.depot.contents) (sym snaps)
    (subst (λ (c : Contents). HoldsSnapshots plan w (row_at l w) (snaps_held s.held w) c) (sym same) (sound.snapshots w)) in
    changed_sound runs plan facts s u (entry.Trimmed v) v new sound going stream tt is changed refl
    (row_records plan v row new u.depot.contents refl refl (held v))
    (λ w other. held w)
    (row_snapshots plan v row new (snaps_held u.held v) u.depot.contents refl (have v))
    (λ w other. have w)
    ended outputs on counted
