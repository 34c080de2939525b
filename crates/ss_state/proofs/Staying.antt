-- A snapshot that was stored stays until the low-water mark is past it.
use Rattle.ss_state.specs.Joint.{Joint}
use Rattle.std.proofs.Common.{◌≡◌, ℕ, zero, suc, ◌+◌, ◌<◌, ◌≤◌, max, Bool, true, nat_eq, nat_le, List, [], ◌∷◌, length, get_or, set, filter, refl, sym, ◌∙◌, subst, ◌⊎◌, inl, inr, ⊎_elim, arith, le-leb}
use Rattle.std.specs.List.{list_any}
use Rattle.std.proofs.lemmas.Bool.{cases_lt, cases_Bool, leb-false, or_cases, and_parts, eqb-true, false≢true}
use Rattle.std.proofs.lemmas.List.{set_past, get_or-set_same, length-set, length-map}
use Rattle.ss_state.specs.declared.entry.Entry.{Entry}
use Rattle.ss_state.specs.declared.entry.Entry.TheVariants as entry
use Rattle.ss_state.specs.Numbers.{VertexNumbers, JobNumbers, is_inner, vertex, out, IsOperator}
use Rattle.ss_state.specs.State.{LedgerRow, Ledger, empty_row, row_at, first_row, first_ledger, first_snaps, State, durable_at}
use Rattle.ss_state.specs.LowWater.{low, need, start}
use Rattle.ss_state.specs.Journal.{is_one_of, put_in, flushed, kept, took, collected, trimmed, trimmed_row, passed_over, pass_order, change, changes, IsLawful, AreLawful}
use Rattle.ss_state.specs.Laws.{is_kept}
use Rattle.ss_state.proofs.Parts.{joint_parts}
use Rattle.ss_state.proofs.Snapshots.{put_same, put_other, filter_keeps}
use Rattle.ss_state.proofs.Lows.{within_limit, within_in, within_least, low_inner, low_grows, trimmed_inner}
use Rattle.ss_state.proofs.Frames.{each_set}
use Rattle.ss_state.proofs.Starting.{first_stored, first_is_snap}
use Rattle.ss_state.proofs.Marks.{no_sink_of, low_le_start}

-- snapshot n is stored, or lies below the mark
abbrev Stays : VertexNumbers → LedgerRow → ℕ → Type 0
Stays x row n = (is_one_of n row.snaps ≡ true) ⊎ (n < low x row)

-- each snapshot that stays in the row of v before stays in the row after
abbrev Keeps : JobNumbers → ℕ → Ledger → Ledger → Type 0
Keeps job v l new = (n : ℕ) → Stays (vertex job v) (row_at l v) n → Stays (vertex job v) (row_at new v) n

keeps_row : (job : JobNumbers) (v w : ℕ) (l new : Ledger) (row : LedgerRow) → new.rows ≡ set l.rows w row
    → (w ≡ v → (n : ℕ) → Stays (vertex job v) (row_at l w) n → Stays (vertex job v) row n) → Keeps job v l new
keeps_row job v w l new row e here n stays = subst (λ rows. Stays (vertex job v) (get_or rows v empty_row) n) (sym e)
    (⊎_elim
    (λ within. each_set l.rows w row empty_row (λ u x. u ≡ v → Stays (vertex job v) (row_at l u) n → Stays (vertex job v) x n) within
    (λ same. here same n) (λ u differs same old. old) v refl stays)
    (λ past. subst (λ rows. Stays (vertex job v) (get_or rows v empty_row) n) (sym (set_past l.rows w row past)) stays)
    (cases_lt w (length l.rows)))

-- where no snapshot goes and low doesn't fall
stays_more : (x : VertexNumbers) (row new : LedgerRow) → low x row ≤ low x new → ((n : ℕ) → is_one_of n row.snaps ≡ true → is_one_of n new.snaps ≡ true)
    → (n : ℕ) → Stays x row n → Stays x new n
stays_more x row new rise keeps n stays = ⊎_elim (λ stored. inl (keeps n stored)) (λ below. inr (omega arith)) stays

stays_cut : (x : VertexNumbers) (row : LedgerRow) → is_inner x.kind ≡ true → (n : ℕ) → Stays x row n → Stays x (trimmed_row x row) n
stays_cut x row e n stays = subst (λ r. Stays x r n) (sym (trimmed_inner x row e)) (⊎_elim by_stored (λ below. inr (omega (arith, rise))) stays)
  where
    f : ℕ → Bool
    f m = nat_le (low x row) m

    new : LedgerRow
    new = record row { snaps = filter (λ m. nat_le (low x row) m) row.snaps }

    rise : low x row ≤ low x new
    rise = ⊎_elim (λ none. omega (arith, low_inner x row e))
        (λ some.
        let stored : is_one_of (low x row) row.snaps ≡ true = subst (λ m. is_one_of m row.snaps ≡ true) (sym (low_inner x row e)) some in
        let here : is_one_of (low x row) new.snaps ≡ true =
        filter_keeps (λ m. nat_le (low x row) m) (low x row) row.snaps (le-leb (low x row) (low x row) (omega arith)) stored in
        let within = within_least x new.snaps row.dur (low x row) here (subst (λ m. out x m ≤ row.dur) (sym (low_inner x row e)) (within_limit x row.snaps row.dur)) in
        omega (arith, within, low_inner x new e))
        (within_in x row.snaps row.dur)

    by_stored : is_one_of n row.snaps ≡ true → Stays x new n
    by_stored stored = ⊎_elim (λ t. inl (filter_keeps (λ m. nat_le (low x row) m) n row.snaps t stored))
        (λ t. let below = leb-false (low x row) n t in inr (omega (arith, rise))) (cases_Bool (nat_le (low x row) n))

collect_keeps : (job : JobNumbers) (v w : ℕ) (l : Ledger) → Keeps job v l (collected job l w)
collect_keeps job v w l =
    let row = row_at l w in
    let new : LedgerRow = record row { base = need job l w; dur = max row.dur (need job l w) } in
    keeps_row job v w l (collected job l w) new refl
    (λ same. stays_more (vertex job v) row new (low_grows (vertex job v) row new (omega arith) (omega arith) (λ e n i o. i)) (λ n i. i))

trim_keeps : (job : JobNumbers) (v w : ℕ) (l : Ledger) → is_inner (vertex job v).kind ≡ true → Keeps job v l (trimmed job l w)
trim_keeps job v w l e =
    keeps_row job v w l (trimmed job l w) (trimmed_row (vertex job w) (row_at l w)) refl
    (λ same. subst (λ u. (n : ℕ) → Stays (vertex job v) (row_at l w) n → Stays (vertex job v) (trimmed_row (vertex job u) (row_at l w)) n) (sym same)
    (stays_cut (vertex job v) (row_at l w) e))

pass_keeps : (job : JobNumbers) (v : ℕ) (l : Ledger) (vs : List ℕ) (halves : ℕ) → is_inner (vertex job v).kind ≡ true → Keeps job v l (passed_over job l vs halves)
pass_keeps job v l [] halves e n stays = stays
pass_keeps job v l (w ∷ vs) zero e n stays = stays
pass_keeps job v l (w ∷ vs) (suc zero) e n stays = collect_keeps job v w l n stays
pass_keeps job v l (w ∷ vs) (suc (suc halves)) e n stays =
    pass_keeps job v (trimmed job (collected job l w) w) vs halves e n
    (trim_keeps job v w (collected job l w) e n (collect_keeps job v w l n stays))

change_keeps : (job : JobNumbers) (v : ℕ) (l : Ledger) (x : Entry) → is_inner (vertex job v).kind ≡ true → Keeps job v l (change job l x)
unfolding change
change_keeps job v l (entry.Flushed w count) e =
    let row = row_at l w in
    let new : LedgerRow = record row { dur = row.dur + count } in
    keeps_row job v w l (flushed l w count) new refl (λ same. stays_more (vertex job v) row new (low_grows (vertex job v) row new (omega arith) (omega arith) (λ e n i o. i)) (λ n i. i))
change_keeps job v l (entry.Kept w m) e =
    let row = row_at l w in
    let new : LedgerRow = record row { snaps = put_in m row.snaps } in
    keeps_row job v w l (kept l w m) new refl
    (λ same. stays_more (vertex job v) row new (low_grows (vertex job v) row new (omega arith) (omega arith) (λ e n i o. put_other n m row.snaps i)) (λ n i. put_other n m row.snaps i))
change_keeps job v l (entry.Took k) e =
    let row = row_at l k in
    let new : LedgerRow = record row { taken = row.taken + 1 } in
    keeps_row job v k l (took l k) new refl (λ same. stays_more (vertex job v) row new (low_grows (vertex job v) row new (omega arith) (omega arith) (λ e n i o. i)) (λ n i. i))
change_keeps job v l (entry.Collected w) e = collect_keeps job v w l
change_keeps job v l (entry.Trimmed w) e = trim_keeps job v w l e
change_keeps job v l (entry.Pass halves) e = pass_keeps job v l (pass_order job) halves e

-- the rows stay as many as they are

pass_rows : (job : JobNumbers) (l : Ledger) (vs : List ℕ) (halves : ℕ) → length (passed_over job l vs halves).rows ≡ length l.rows
pass_rows job l [] halves = refl
pass_rows job l (w ∷ vs) zero = refl
pass_rows job l (w ∷ vs) (suc zero) = length-set l.rows w _
pass_rows job l (w ∷ vs) (suc (suc halves)) =
    pass_rows job (trimmed job (collected job l w) w) vs halves ∙ length-set (collected job l w).rows w _ ∙ length-set l.rows w _

change_rows : (job : JobNumbers) (l : Ledger) (x : Entry) → length (change job l x).rows ≡ length l.rows
unfolding change
change_rows job l (entry.Flushed w count) = length-set l.rows w _
change_rows job l (entry.Kept w m) = length-set l.rows w _
change_rows job l (entry.Took k) = length-set l.rows k _
change_rows job l (entry.Collected w) = length-set l.rows w _
change_rows job l (entry.Trimmed w) = length-set l.rows w _
change_rows job l (entry.Pass halves) = pass_rows job l (pass_order job) halves

-- a snapshot that an entry tells is stored behind it
kept_stored : (job : JobNumbers) (l : Ledger) (v n : ℕ) (x : Entry) → length l.rows ≡ length job.vertices → IsLawful job l x → is_kept v n x ≡ true
    → Stays (vertex job v) (row_at (change job l x) v) n
unfolding change
kept_stored job l v n (entry.Flushed w count) e lawful is = absurd (false≢true is)
kept_stored job l v n (entry.Kept w m) e lawful is =
    let same = and_parts (nat_eq w v) (nat_eq m n) is in
    let here : w ≡ v = eqb-true w v same.0 in
    let told : m ≡ n = eqb-true m n same.1 in
    let new : LedgerRow = record (row_at l w) { snaps = put_in m (row_at l w).snaps } in
    let row : row_at (change job l (entry.Kept w m)) w ≡ new = get_or-set_same l.rows w new empty_row (omega (arith, lawful.operator.0)) in
    let stored : is_one_of m (row_at (change job l (entry.Kept w m)) w).snaps ≡ true = subst (λ (r : LedgerRow). is_one_of m r.snaps ≡ true) (sym row) (put_same m (row_at l w).snaps) in
    inl (subst (λ u. is_one_of n (row_at (change job l (entry.Kept w m)) u).snaps ≡ true) here
    (subst (λ j. is_one_of j (row_at (change job l (entry.Kept w m)) w).snaps ≡ true) told stored))
kept_stored job l v n (entry.Took k) e lawful is = absurd (false≢true is)
kept_stored job l v n (entry.Collected w) e lawful is = absurd (false≢true is)
kept_stored job l v n (entry.Trimmed w) e lawful is = absurd (false≢true is)
kept_stored job l v n (entry.Pass halves) e lawful is = absurd (false≢true is)

journal_keeps : (job : JobNumbers) (v n : ℕ) (es : List Entry) (l : Ledger) → is_inner (vertex job v).kind ≡ true → length l.rows ≡ length job.vertices → AreLawful job l es
    → Stays (vertex job v) (row_at l v) n ⊎ (list_any (is_kept v n) es ≡ true) → Stays (vertex job v) (row_at (changes job l es) v) n
journal_keeps job v n [] l e rows lawful told = ⊎_elim (λ stays. stays) (λ none. absurd (false≢true none)) told
journal_keeps job v n (x ∷ es) l e rows lawful told =
    let next = journal_keeps job v n es (change job l x) e (change_rows job l x ∙ rows) lawful.1 in ⊎_elim
    (λ stays. next (inl (change_keeps job v l x e n stays)))
    (λ some. ⊎_elim (λ here. next (inl (kept_stored job l v n x rows lawful.0 here))) (λ there. next (inr there))
    (or_cases (is_kept v n x) (list_any (is_kept v n) es) some))
    told

pub snapshots_in : (job : JobNumbers) (s : State) (v n : ℕ) → Joint job s → IsOperator job v
    → (n ≡ 0) ⊎ (list_any (is_kept v n) s.vault.journal ≡ true)
    → (is_one_of n (durable_at s v).snaps ≡ true) ⊎ (n < start job s.vault.ledger v)
snapshots_in job s v n joint operator told =
    let l = s.vault.ledger in
    let e = operator.1 in
    let at_start : (n ≡ 0) → Stays (vertex job v) (row_at (first_ledger job) v) n = λ zero_is.
    inl (subst (λ (row : LedgerRow). is_one_of n row.snaps ≡ true) (first_stored job v)
    (subst (λ m. is_one_of m (first_snaps (vertex job v).kind) ≡ true) (sym zero_is) (first_is_snap (vertex job v).kind e))) in
    let after = journal_keeps job v n s.vault.journal (first_ledger job) e (length-map job.vertices first_row) joint.vault.recorded.lawful
    (⊎_elim (λ zero_is. inl (at_start zero_is)) (λ some. inr some) told) in
    let stays : Stays (vertex job v) (row_at l v) n = subst (λ (m : Ledger). Stays (vertex job v) (row_at m v) n) (sym joint.vault.recorded.ledger) after in
    let rise = low_le_start job joint.numbers l v (operator.0, no_sink_of (vertex job v).kind e) ((joint_parts job s joint).row v).mark in
    ⊎_elim (λ stored. inl stored) (λ below. inr (omega arith)) stays
