-- The rows of a vault's numbers, and one of them that changes.
use Rattle.std.proofs.Common.{◌≡◌, ◌≢◌, ℕ, zero, suc, ◌+◌, ◌<◌, ◌≤◌, ◌==◌, ◌||◌, ◌&&◌, nat_le, nat_lt, not, filter, cond, Bool, true, false, Some, None, Result, Ok, Err, Vec, List, [], ◌∷◌, length, get_or, set, map, refl, sym, ap, ap₂, ◌∙◌, subst, arith, ⊎_elim, if◌then◌else◌}
use Rattle.std.specs.List.{list_all, list_any, insert, position, prefix_len, range_with_len}
use Rattle.std.specs.Prelude.{OnOk, slice_index, sum_by, unwrap_or}
use Rattle.std.specs.declared.alloc.AllocError.{AllocError}
use Rattle.std.specs.declared.alloc.Global.{Global}
use Rattle.std.proofs.Math.Seq.{map-set_same}
use Rattle.std.proofs.lemmas.Bool.{cases_eq}
use Rattle.std.proofs.lemmas.List.{ext_get_or, get_or-map, get_or-set_other, get_or-set_same, length-map, length-set, map-set}
use Rattle.std.proofs.lemmas.List.Sums.{get_or-le-sum_by, sum_by-set}
use Rattle.std.proofs.lemmas.List.FromFn.{get_or-range_with_len, length-range_with_len}
use Rattle.std.proofs.lemmas.Bool.Decides.{nat_tests}
use Rattle.std.proofs.lemmas.Option.{slice_get_within}
use Rattle.ss_state.specs.Journal.{put_in}
use Rattle.ss_state.specs.State.{Ledger, LedgerRow, VaultNumbers, empty_row, row_at}
use Rattle.ss_state.specs.declared.entry.Entry.{Entry}
use Rattle.ss_water.specs.Needs.{AreStored, Stored}
use Rattle.ss_water.specs.Starts.{HasStart}
use Rattle.ss_water.specs.declared.snap_row.SnapRow.{SnapRow}
use Rattle.ss_water.specs.declared.node.Node.{Node}
use Rattle.ss_vault.specs.Numbers.{AreNumbers, Columns, numbers_held, row_from, rows_from, snaps_from}
use Rattle.ss_vault.specs.NumbersHeld.{CanRecover, NumbersHeld, ended_held, put_snap, snaps_from_number, snaps_held, stored_of}
use Rattle.ss_vault.proofs.Flushed.{chosen_other, chosen_same}

-- ---- a list of which one place changed

pub at_place : {A B : Type 0} (f : A → B) (xs : List A) (v w : ℕ) (new : A) (y d : B) → v < length xs → f new ≡ y
    → get_or (map f (set xs v new)) w d ≡ (if w == v then y else get_or (map f xs) w d)
at_place {A = A} {B = B} f xs v w new y d within e =
    ap (λ (ys : List B). get_or ys w d) (map-set f xs v new ∙ ap (set (map f xs) v) e) ∙ ⊎_elim
    (λ (same : w ≡ v). subst (λ (i : ℕ). get_or (set (map f xs) v y) i d ≡ (if i == v then y else get_or (map f xs) i d)) (sym same)
    (get_or-set_same (map f xs) v y d (omega (arith, within, length-map xs f)) ∙ sym (chosen_same v y (get_or (map f xs) v d))))
    (λ (other : w ≢ v). get_or-set_other (map f xs) v w y d other ∙ sym (chosen_other w v y (get_or (map f xs) w d) other))
    (cases_eq w v)

-- ---- a row among all

pub rows_length : (c : Columns) → length (rows_from c) ≡ length c.base
rows_length c = length-map (range_with_len 0 (length c.base)) (row_from c) ∙ length-range_with_len 0 (length c.base)

pub held_length : (c : Columns) (since : ℕ) (journal : Vec Entry Global) (h : NumbersHeld) → numbers_held c since journal ≡ h
    → length h.numbers.ledger.rows ≡ length c.base
held_length c since journal h e =
    ap (λ (x : NumbersHeld). length x.numbers.ledger.rows) (sym e) ∙ rows_length c

pub here : (c : Columns) (since : ℕ) (journal : Vec Entry Global) (h : NumbersHeld) (v : ℕ) → numbers_held c since journal ≡ h
    → v < length h.numbers.ledger.rows → v < length c.base
here c since journal h v e within = let l = held_length c since journal h e in omega (arith, l, within)

pub row_is : (c : Columns) (v : ℕ) → v < length c.base → get_or (rows_from c) v empty_row ≡ row_from c v
row_is c v within =
    let n : ℕ = length c.base in
    let first : get_or (range_with_len 0 n) v 0 ≡ v = get_or-range_with_len 0 n v 0 within ∙ (let e : 0 + v ≡ v = omega arith in e) in
    get_or-map (row_from c) (range_with_len 0 n) v 0 empty_row (let k = length-range_with_len 0 n in omega (arith, k, within))
    ∙ ap (row_from c) first

-- the row of a ledger that tells them
pub row_read : (c : Columns) (since : ℕ) (journal : Vec Entry Global) (h : NumbersHeld) (v : ℕ) → numbers_held c since journal ≡ h
    → v < length h.numbers.ledger.rows → row_at h.numbers.ledger v ≡ row_from c v
row_read c since journal h v e within =
    ap (λ (x : NumbersHeld). row_at x.numbers.ledger v) (sym e) ∙ row_is c v (here c since journal h v e within)

-- one row of all changed
pub set_rows : (c d : Columns) (v : ℕ) (new : LedgerRow) → length d.base ≡ length c.base → v < length c.base → row_from d v ≡ new
    → ((w : ℕ) → w ≢ v → row_from d w ≡ row_from c w) → rows_from d ≡ set (rows_from c) v new
set_rows c d v new same within at others =
    ext_get_or empty_row (rows_from d) (set (rows_from c) v new)
    (rows_length d ∙ same ∙ sym (length-set (rows_from c) v new ∙ rows_length c))
    (λ w less.
    let inside : w < length d.base = let k = rows_length d in omega (arith, less, k) in
    let there : v < length (rows_from c) = let k = rows_length c in omega (arith, within, k) in
    row_is d w inside ∙ ⊎_elim
    (λ (is : w ≡ v). ap (row_from d) is ∙ at ∙ sym (ap (λ (i : ℕ). get_or (set (rows_from c) v new) i empty_row) is ∙ get_or-set_same (rows_from c) v new empty_row there))
    (λ (other : w ≢ v). others w other ∙ sym (get_or-set_other (rows_from c) v w new empty_row other ∙ row_is c w (let k = same in omega (arith, inside, k))))
    (cases_eq w v))

-- ---- what a change of one number does to the rows

pub with_base : (c : Columns) (v x : ℕ) → v < length c.base
    → rows_from (record c { base = set c.base v x }) ≡ set (rows_from c) v (record (row_from c v) { base = x })
with_base c v x within =
    set_rows c (record c { base = set c.base v x }) v (record (row_from c v) { base = x }) (length-set c.base v x) within
    (ap (λ (n : ℕ). record (row_from c v) { base = n }) (get_or-set_same c.base v x 0 within))
    (λ w other. ap (λ (n : ℕ). record (row_from c w) { base = n }) (get_or-set_other c.base v w x 0 other))

pub with_dur : (c : Columns) (v x : ℕ) → v < length c.base → length c.dur ≡ length c.base
    → rows_from (record c { dur = set c.dur v x }) ≡ set (rows_from c) v (record (row_from c v) { dur = x })
with_dur c v x within long =
    set_rows c (record c { dur = set c.dur v x }) v (record (row_from c v) { dur = x }) refl within
    (ap (λ (n : ℕ). record (row_from c v) { dur = n }) (get_or-set_same c.dur v x 0 (omega (arith, within, long))))
    (λ w other. ap (λ (n : ℕ). record (row_from c w) { dur = n }) (get_or-set_other c.dur v w x 0 other))

pub with_mark : (c : Columns) (v x : ℕ) → v < length c.base → length c.mark ≡ length c.base
    → rows_from (record c { mark = set c.mark v x }) ≡ set (rows_from c) v (record (row_from c v) { mark = x })
with_mark c v x within long =
    set_rows c (record c { mark = set c.mark v x }) v (record (row_from c v) { mark = x }) refl within
    (ap (λ (n : ℕ). record (row_from c v) { mark = n }) (get_or-set_same c.mark v x 0 (omega (arith, within, long))))
    (λ w other. ap (λ (n : ℕ). record (row_from c w) { mark = n }) (get_or-set_other c.mark v w x 0 other))

pub with_taken : (c : Columns) (v x : ℕ) → v < length c.base → length c.taken ≡ length c.base
    → rows_from (record c { taken = set c.taken v x }) ≡ set (rows_from c) v (record (row_from c v) { taken = x })
with_taken c v x within long =
    set_rows c (record c { taken = set c.taken v x }) v (record (row_from c v) { taken = x }) refl within
    (ap (λ (n : ℕ). record (row_from c v) { taken = n }) (get_or-set_same c.taken v x 0 (omega (arith, within, long))))
    (λ w other. ap (λ (n : ℕ). record (row_from c w) { taken = n }) (get_or-set_other c.taken v w x 0 other))

-- the snapshots of a vertex, where those of one were changed
pub snaps_set : (xs : List (Vec SnapRow Global)) (v w : ℕ) (new : Vec SnapRow Global) → v < length xs
    → get_or (map (λ (s : Vec SnapRow Global). s.items) (set xs v new)) w []
    ≡ (if w == v then new.items else get_or (map (λ (s : Vec SnapRow Global). s.items) xs) w [])
snaps_set xs v w new within =
    at_place (λ (s : Vec SnapRow Global). s.items) xs v w new new.items [] within refl

pub with_snaps : (c : Columns) (v : ℕ) (new : Vec SnapRow Global) → v < length c.base → length c.snaps ≡ length c.base
    → rows_from (record c { snaps = set c.snaps v new })
    ≡ set (rows_from c) v (record (row_from c v) { snaps = map (λ (s : SnapRow). s.n) new.items })
with_snaps c v new within long =
    let inside : v < length c.snaps = omega (arith, within, long) in
    set_rows c (record c { snaps = set c.snaps v new }) v (record (row_from c v) { snaps = map (λ (s : SnapRow). s.n) new.items }) refl within
    (ap (λ (k : List SnapRow). record (row_from c v) { snaps = map (λ (s : SnapRow). s.n) k })
    (snaps_set c.snaps v v new inside ∙ chosen_same v new.items (get_or (snaps_from c) v [])))
    (λ w other. ap (λ (k : List SnapRow). record (row_from c w) { snaps = map (λ (s : SnapRow). s.n) k })
    (snaps_set c.snaps v w new inside ∙ chosen_other w v new.items (get_or (snaps_from c) w []) other))

abbrev pub ledger_with : ℕ → List LedgerRow → Ledger
ledger_with since rows = record { rows = rows; since = since }

-- snapshots put in their place
pub put_numbers : (snap : SnapRow) (snaps : List SnapRow) → map (λ (s : SnapRow). s.n) (put_snap snap snaps) ≡ put_in snap.n (map (λ (s : SnapRow). s.n) snaps)
put_numbers snap [] = refl
put_numbers snap (other ∷ others) = placed (nat_lt snap.n other.n) (put_numbers snap others)
  where
    placed : (b : Bool) → map (λ (s : SnapRow). s.n) (put_snap snap others) ≡ put_in snap.n (map (λ (s : SnapRow). s.n) others)
        → map (λ (s : SnapRow). s.n) (if b then snap ∷ other ∷ others else other ∷ put_snap snap others)
        ≡ (if b then snap.n ∷ other.n ∷ map (λ (s : SnapRow). s.n) others else other.n ∷ put_in snap.n (map (λ (s : SnapRow). s.n) others))
    placed true h = refl
    placed false h = ap (λ (rest : List ℕ). other.n ∷ rest) h

-- tests of snapshots and rows
pub any_map : (n : ℕ) (snaps : List SnapRow) → list_any (λ (m : ℕ). m == n) (map (λ (s : SnapRow). s.n) snaps) ≡ list_any (λ (s : SnapRow). s.n == n) snaps
any_map n [] = refl
any_map n (snap ∷ snaps) = ap (λ (b : Bool). snap.n == n || b) (any_map n snaps)

-- ---- places

pub on_ok : (r : Result (Unit {0}) AllocError) (P Q : Type 0) → (P → Q) → OnOk r P → OnOk r Q
on_ok (Ok x) P Q f h = f h
on_ok (Err e) P Q f h = tt

-- ---- the place of a snapshot

place_len : (n : ℕ) (snaps : List SnapRow) → prefix_len (λ (s : SnapRow). not (nat_lt n s.n)) snaps ≤ length snaps
place_len n [] = omega arith
place_len n (snap ∷ snaps) = step (not (nat_lt n snap.n)) (place_len n snaps)
  where
    step : (b : Bool) → prefix_len (λ (s : SnapRow). not (nat_lt n s.n)) snaps ≤ length snaps
        → cond b (1 + prefix_len (λ (s : SnapRow). not (nat_lt n s.n)) snaps) 0 ≤ length (snap ∷ snaps)
    step true h = omega (arith, h)
    step false h = omega arith

place_is : (b : Bool) (k len : ℕ) → nat_lt k len ≡ b → k ≤ len → unwrap_or (cond b (Some k) None) len ≡ k
place_is true k len e h = refl
place_is false k len e h = not_less k len e h
  where
    not_less : (k len : ℕ) → nat_lt k len ≡ false → k ≤ len → len ≡ k
    not_less k len e h = grind (arith, nat_tests)

pub place_found : (n : ℕ) (snaps : List SnapRow)
    → unwrap_or (position (λ (s : SnapRow). nat_lt n s.n) snaps) (length snaps) ≡ prefix_len (λ (s : SnapRow). not (nat_lt n s.n)) snaps
place_found n snaps =
    place_is (nat_lt (prefix_len (λ (s : SnapRow). not (nat_lt n s.n)) snaps) (length snaps)) (prefix_len (λ (s : SnapRow). not (nat_lt n s.n)) snaps) (length snaps) refl (place_len n snaps)

pub place_within : (n : ℕ) (snaps : List SnapRow) → unwrap_or (position (λ (s : SnapRow). nat_lt n s.n) snaps) (length snaps) ≤ length snaps
place_within n snaps = let e = place_found n snaps in let h = place_len n snaps in omega (arith, e, h)

put_at : (snap : SnapRow) (snaps : List SnapRow)
    → insert snaps (prefix_len (λ (s : SnapRow). not (nat_lt snap.n s.n)) snaps) snap ≡ put_snap snap snaps
put_at snap [] = refl
put_at snap (other ∷ others) = step (nat_lt snap.n other.n) (put_at snap others)
  where
    step : (b : Bool) → insert others (prefix_len (λ (s : SnapRow). not (nat_lt snap.n s.n)) others) snap ≡ put_snap snap others
        → insert (other ∷ others) (cond (not b) (1 + prefix_len (λ (s : SnapRow). not (nat_lt snap.n s.n)) others) 0) snap
        ≡ (if b then snap ∷ other ∷ others else other ∷ put_snap snap others)
    step true h = refl
    step false h =
        let k : ℕ = prefix_len (λ (s : SnapRow). not (nat_lt snap.n s.n)) others in
        let e : 1 + k ≡ suc k = omega arith in
        ap (λ (i : ℕ). insert (other ∷ others) i snap) e
        ∙ ap (λ (rest : List SnapRow). other ∷ rest) h

pub put_placed : (snap : SnapRow) (snaps : List SnapRow)
    → insert snaps (unwrap_or (position (λ (s : SnapRow). nat_lt snap.n s.n) snaps) (length snaps)) snap ≡ put_snap snap snaps
put_placed snap snaps = ap (λ (k : ℕ). insert snaps k snap) (place_found snap.n snaps) ∙ put_at snap snaps

-- ---- whether all have ended

both : (a b : Bool) → (a && b) ≡ true → (a ≡ true) × (b ≡ true)
both true true h = (refl, refl)
both true false h = absurd cc
both false b h = absurd cc

and_true : (a b : Bool) → a ≡ true → b ≡ true → (a && b) ≡ true
and_true true b h k = k
and_true false b h k = absurd cc

ended_each : (xs : List Bool) → list_all (λ (b : Bool). b) xs ≡ true → (k : ℕ) → get_or xs k true ≡ true
ended_each [] h zero = refl
ended_each [] h (suc k) = refl
ended_each (x ∷ xs) h zero = (both x (list_all (λ (b : Bool). b) xs) h).0
ended_each (x ∷ xs) h (suc k) = ended_each xs (both x (list_all (λ (b : Bool). b) xs) h).1 k

each_ended : (xs : List Bool) → ((k : ℕ) → k < length xs → get_or xs k true ≡ true) → list_all (λ (b : Bool). b) xs ≡ true
each_ended [] h = refl
each_ended (x ∷ xs) h =
    and_true x (list_all (λ (b : Bool). b) xs) (h 0 (omega arith)) (each_ended xs (λ k less. h (suc k) (omega (arith, less))))

pub all_ended : (c : Columns) (since : ℕ) (journal : Vec Entry Global) (h : NumbersHeld) (b : Bool) → length c.ended ≡ length c.base
    → numbers_held c since journal ≡ h → b ≡ list_all (λ (e : Bool). e) c.ended
    → (b ≡ true → (k : ℕ) → k < length h.numbers.ledger.rows → ended_held h k ≡ true)
    × (((k : ℕ) → k < length h.numbers.ledger.rows → ended_held h k ≡ true) → b ≡ true)
all_ended c since journal h b same e is =
    let long = held_length c since journal h e in
    let ended : h.ended ≡ c.ended = ap (λ (x : NumbersHeld). x.ended) (sym e) in (
      (λ all k less. ap (λ (xs : List Bool). get_or xs k true) ended ∙ ended_each c.ended (sym is ∙ all) k),
      (λ each. is ∙ each_ended c.ended (λ k less. ap (λ (xs : List Bool). get_or xs k true) (sym ended) ∙ each k (omega (arith, less, long, same)))),
    )

-- the snapshots of a vertex among those of all
pub snaps_read : (xs : List (Vec SnapRow Global)) (v : ℕ) (one : Vec SnapRow Global) (snaps : List SnapRow) → v < length xs
    → one ≡ get_or xs v one → snaps ≡ one.items → snaps ≡ get_or (map (λ (s : Vec SnapRow Global). s.items) xs) v []
snaps_read xs v one snaps within at is =
    is ∙ ap (λ (s : Vec SnapRow Global). s.items) at
    ∙ sym (get_or-map (λ (s : Vec SnapRow Global). s.items) xs v one [] within)

-- ---- a changed row in the ledger

pub changed_rows : (c d : Columns) (since : ℕ) (journal : Vec Entry Global) (h : NumbersHeld) (v : ℕ) (new : LedgerRow) (change : LedgerRow → LedgerRow)
    → numbers_held c since journal ≡ h → v < length h.numbers.ledger.rows → rows_from d ≡ set (rows_from c) v new → new ≡ change (row_from c v)
    → rows_from d ≡ set h.numbers.ledger.rows v (change (row_at h.numbers.ledger v))
changed_rows c d since journal h v new change e within is_set is_new =
    subst (λ (x : NumbersHeld). rows_from d ≡ set x.numbers.ledger.rows v (change (row_at x.numbers.ledger v))) e
    (is_set ∙ ap (set (rows_from c) v) (is_new ∙ ap change (sym (row_is c v (here c since journal h v e within)))))

pub held_since : (c : Columns) (since : ℕ) (journal : Vec Entry Global) (h : NumbersHeld) → numbers_held c since journal ≡ h
    → since ≡ h.numbers.ledger.since
held_since c since journal h e = ap (λ (x : NumbersHeld). x.numbers.ledger.since) e

pub with_base_and_dur : (c : Columns) (v x y : ℕ) → v < length c.base → length c.dur ≡ length c.base
    → rows_from (record c { base = set c.base v x; dur = set c.dur v y }) ≡ set (rows_from c) v (record (row_from c v) { base = x; dur = y })
with_base_and_dur c v x y within long =
    set_rows c (record c { base = set c.base v x; dur = set c.dur v y }) v (record (row_from c v) { base = x; dur = y }) (length-set c.base v x) within
    (ap₂ (λ (m n : ℕ). record (row_from c v) { base = m; dur = n }) (get_or-set_same c.base v x 0 within) (get_or-set_same c.dur v y 0 (omega (arith, within, long))))
    (λ w other. ap₂ (λ (m n : ℕ). record (row_from c w) { base = m; dur = n }) (get_or-set_other c.base v w x 0 other) (get_or-set_other c.dur v w y 0 other))

-- how many elements are stored, where those of one row changed
pub stored_set : (c : Columns) (rows : List LedgerRow) (v : ℕ) (new : LedgerRow) → v < length c.base → rows ≡ set (rows_from c) v new
    → sum_by (λ (r : LedgerRow). r.dur) rows + slice_index c.dur v ≡ sum_by (λ (r : LedgerRow). r.dur) (rows_from c) + new.dur
stored_set c rows v new within is =
    let there : v < length (rows_from c) = let k = rows_length c in omega (arith, k, within) in
    let sums = sum_by-set (λ (r : LedgerRow). r.dur) (rows_from c) v new empty_row there in
    let same : sum_by (λ (r : LedgerRow). r.dur) rows ≡ sum_by (λ (r : LedgerRow). r.dur) (set (rows_from c) v new) = ap (sum_by (λ (r : LedgerRow). r.dur)) is in
    let had : (get_or (rows_from c) v empty_row).dur ≡ slice_index c.dur v = ap (λ (r : LedgerRow). r.dur) (row_is c v within) in
    omega (arith, sums, same, had)

pub stored_one : (c : Columns) (v : ℕ) → v < length c.base → slice_index c.dur v ≤ sum_by (λ (r : LedgerRow). r.dur) (rows_from c)
stored_one c v within =
    let there : v < length (rows_from c) = let k = rows_length c in omega (arith, k, within) in
    let had : (get_or (rows_from c) v empty_row).dur ≡ slice_index c.dur v = ap (λ (r : LedgerRow). r.dur) (row_is c v within) in
    let least = get_or-le-sum_by (λ (r : LedgerRow). r.dur) (rows_from c) v empty_row there in
    omega (arith, had, least)

-- ---- a column of the ledger

pub column : (xs : List ℕ) (n : ℕ) → length xs ≡ n → map (λ (v : ℕ). slice_index xs v) (range_with_len 0 n) ≡ xs
column xs n long =
    let range = length-range_with_len 0 n in
    ext_get_or 0 (map (λ (v : ℕ). slice_index xs v) (range_with_len 0 n)) xs
    (length-map (range_with_len 0 n) (λ (v : ℕ). slice_index xs v) ∙ range ∙ sym long)
    (λ i less.
    let within : i < n = omega (arith, less, range, length-map (range_with_len 0 n) (λ (v : ℕ). slice_index xs v)) in
    get_or-map (λ (v : ℕ). slice_index xs v) (range_with_len 0 n) i 0 0 (omega (arith, within, range))
    ∙ ap (λ (v : ℕ). slice_index xs v) (get_or-range_with_len 0 n i 0 within ∙ (let e : 0 + i ≡ i = omega arith in e)))

pub mapped : (f : LedgerRow → ℕ) (g : ℕ → LedgerRow) (ns : List ℕ) → map f (map g ns) ≡ map (λ (v : ℕ). f (g v)) ns
mapped f g [] = refl
mapped f g (n ∷ ns) = ap (λ (rest : List ℕ). f (g n) ∷ rest) (mapped f g ns)

-- what is stored, as the columns have it
pub stored_is : (c : Columns) (since : ℕ) (journal : Vec Entry Global) (h : NumbersHeld) → AreNumbers c since → numbers_held c since journal ≡ h
    → (s : Stored) → s.rows ≡ snaps_from c → s.dur ≡ c.dur → s.taken ≡ c.taken → s ≡ stored_of h
stored_is c since journal h are e s rows dur taken =
    made s (record { rows = snaps_from c; dur = c.dur; taken = c.taken }) rows dur taken
    ∙ ap₂ (λ (d t : List ℕ). let x : Stored = record { rows = snaps_from c; dur = d; taken = t } in x)
    (sym (mapped (λ (r : LedgerRow). r.dur) (row_from c) (range_with_len 0 (length c.base)) ∙ column c.dur (length c.base) are.dur))
    (sym (mapped (λ (r : LedgerRow). r.taken) (row_from c) (range_with_len 0 (length c.base)) ∙ column c.taken (length c.base) are.taken))
    ∙ ap stored_of e
  where
    with_parts : List (List SnapRow) → List ℕ → List ℕ → Stored
    with_parts rows dur taken = record { rows = rows; dur = dur; taken = taken }

    made : (a b : Stored) → a.rows ≡ b.rows → a.dur ≡ b.dur → a.taken ≡ b.taken → a ≡ b
    made a b p q r = ap (λ (x : List (List SnapRow)). with_parts x a.dur a.taken) p ∙ ap₂ (λ (x y : List ℕ). with_parts b.rows x y) q r

-- a list of which one place changed
pub set_at : {A : Type 0} (xs : List A) (v w : ℕ) (new d : A) → v < length xs
    → get_or (set xs v new) w d ≡ (if w == v then new else get_or xs w d)
set_at {A = A} xs v w new d within = ⊎_elim
    (λ (same : w ≡ v). subst (λ (i : ℕ). get_or (set xs v new) i d ≡ (if i == v then new else get_or xs i d)) (sym same)
    (get_or-set_same xs v new d within ∙ sym (chosen_same v new (get_or xs v d))))
    (λ (other : w ≢ v). get_or-set_other xs v w new d other ∙ sym (chosen_other w v new (get_or xs w d) other))
    (cases_eq w v)

-- ---- snapshots whose places alone changed

pub same_snaps : (xs : List (Vec SnapRow Global)) (v : ℕ) (one new : Vec SnapRow Global) → one ≡ get_or xs v one → new.items ≡ one.items
    → map (λ (s : Vec SnapRow Global). s.items) (set xs v new) ≡ map (λ (s : Vec SnapRow Global). s.items) xs
same_snaps xs v one new is same =
    map-set_same (λ (s : Vec SnapRow Global). s.items) xs v new one (same ∙ ap (λ (s : Vec SnapRow Global). s.items) is)

pub same_rows : (c : Columns) (since : ℕ) (journal : Vec Entry Global) (h : NumbersHeld) (v : ℕ) (one new : Vec SnapRow Global)
    → numbers_held c since journal ≡ h → one ≡ get_or c.snaps v one → new.items ≡ one.items
    → (numbers_held (record c { snaps = set c.snaps v new }) since journal).numbers ≡ h.numbers
same_rows c since journal h v one new e is same =
    ap (λ (snaps : List (List SnapRow)). numbers_with snaps) (same_snaps c.snaps v one new is same)
    ∙ ap (λ (x : NumbersHeld). x.numbers) e
  where
    row_with : List (List SnapRow) → ℕ → LedgerRow
    row_with snaps w = record (row_from c w) { snaps = map (λ (s : SnapRow). s.n) (get_or snaps w []) }

    numbers_with : List (List SnapRow) → VaultNumbers
    numbers_with snaps = record { ledger = ledger_with since (map (row_with snaps) (range_with_len 0 (length c.base))); journal = journal.items }

pub dropped_numbers : (low : ℕ) (snaps : List SnapRow)
    → map (λ (s : SnapRow). s.n) (snaps_from_number low snaps) ≡ filter (λ (m : ℕ). nat_le low m) (map (λ (s : SnapRow). s.n) snaps)
dropped_numbers low [] = refl
dropped_numbers low (snap ∷ snaps) = step (nat_le low snap.n) (dropped_numbers low snaps)
  where
    step : (b : Bool) → map (λ (s : SnapRow). s.n) (snaps_from_number low snaps) ≡ filter (λ (m : ℕ). nat_le low m) (map (λ (s : SnapRow). s.n) snaps)
        → map (λ (s : SnapRow). s.n) (cond b (snap ∷ snaps_from_number low snaps) (snaps_from_number low snaps))
        ≡ cond b (snap.n ∷ filter (λ (m : ℕ). nat_le low m) (map (λ (s : SnapRow). s.n) snaps)) (filter (λ (m : ℕ). nat_le low m) (map (λ (s : SnapRow). s.n) snaps))
    step true h = ap (λ (rest : List ℕ). snap.n ∷ rest) h
    step false h = h

pub are_stored : (c : Columns) (since : ℕ) (journal : Vec Entry Global) (h : NumbersHeld) (nodes : List Node) → AreNumbers c since
    → numbers_held c since journal ≡ h → length nodes ≡ length h.numbers.ledger.rows → CanRecover nodes h → AreStored nodes (stored_of h)
are_stored c since journal h nodes are e count recovered =
    let rows : List LedgerRow = h.numbers.ledger.rows in
    record {
      rows = ap (λ (x : NumbersHeld). length x.snaps) (sym e) ∙ length-map c.snaps (λ (s : Vec SnapRow Global). s.items) ∙ are.snaps
          ∙ sym (held_length c since journal h e) ∙ sym count;
      dur = length-map rows (λ (r : LedgerRow). r.dur) ∙ sym count;
      taken = length-map rows (λ (r : LedgerRow). r.taken) ∙ sym count;
      rise = recovered.rise;
      start = λ w node at inner.
          let within = slice_get_within nodes w node at in
          subst (λ (n : ℕ). HasStart (snaps_held h w) n)
          (sym (get_or-map (λ (r : LedgerRow). r.dur) rows w empty_row 0 (omega (arith, within, count))))
          (recovered.start w node at inner);
    }
