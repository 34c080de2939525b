-- No change of the ledger lowers a dur, a base, a number of taken lines or a low-water mark.
use Rattle.ss_state.proofs.Snapshots.{put_other}
use Rattle.std.proofs.Common.{◌≡◌, ℕ, zero, suc, ◌+◌, ◌-◌, ◌<◌, ◌≤◌, max, nat_eq, nat_lt, nat_le, Option, Some, None, List, [], ◌∷◌, length, get_or, set, refl, sym, subst, inl, inr, ⊎_elim, arith, ltb-false, ltb-true}
use Rattle.std.specs.List.{AllByRecursion}
use Rattle.std.proofs.lemmas.Bool.{cond_both, eqb-false}
use Rattle.ss_fail.specs.declared.act.Act.TheVariants as act
use Rattle.ss_fail.specs.declared.outcome.Outcome.TheVariants as outcome
use Rattle.ss_state.specs.declared.entry.Entry.{Entry}
use Rattle.ss_state.specs.declared.entry.Entry.TheVariants as entry
use Rattle.ss_state.specs.Numbers.{JobNumbers, IsStream, IsOperator, IsSink, is_inner, vertex, input, pos, size}
use Rattle.ss_state.specs.State.{InstNumbers, LedgerRow, Ledger, VaultNumbers, State, empty_row, inst_at, tail_at, row_at, durable_at}
use Rattle.ss_state.specs.LowWater.{low, low_at, taken_at, need}
use Rattle.ss_state.specs.Tails.{batch_from, batch_len}
use Rattle.ss_state.specs.Journal.{is_one_of, collected, trimmed, trimmed_row, passed_over, pass_order, all_halves, passed, change, enter, IsLawful, put_in}
use Rattle.ss_state.specs.Acts.{TailAndVaultStep, VaultStep, keep, snap_inner, snap_act, flushed_dur, flush_act, take_act, collect_act, trim_act, pass_act}
use Rattle.ss_state.specs.Step.{IsReplica}
use Rattle.ss_state.specs.IsNumbers.{IsNumbers}
use Rattle.ss_state.specs.Joint.{Joint}
use Rattle.ss_state.proofs.Parts.{PartsFit, joint_parts}
use Rattle.ss_state.specs.Laws.{Grows, NothingDurableFalls, MakesOneEntry, ActsMakeOneEntry, FlushIsNeverApart}
use Rattle.ss_state.proofs.Lows.{trims, low_grows}
use Rattle.ss_state.proofs.Frames.{each_set}
use Rattle.ss_state.proofs.Writes.{was_up}
use Rattle.ss_state.proofs.Storing.{trimmed_may}
use Rattle.ss_state.proofs.Needs.{IsLeast}
use Rattle.ss_state.proofs.Passing.{need_is, collected_may, with_ledger, Beside, collect_beside, trim_beside}
use Rattle.ss_state.proofs.Recording.{joint_beside, pass_streams}
use Rattle.ss_state.proofs.Kept.{kept_lawful, can_store, stored_lawful}

-- each row grows where the new one does
grows_rows : (job : JobNumbers) (l new : Ledger) (v : ℕ) (row : LedgerRow) → new.rows ≡ set l.rows v row → v < length l.rows
    → (row_at l v).dur ≤ row.dur → (row_at l v).taken ≤ row.taken → (row_at l v).base ≤ row.base → low_at job l v ≤ low (vertex job v) row → Grows job l new
grows_rows job l new v row e h dur taken base rise =
    let at : (P : ℕ → LedgerRow → Type 0) → P v row → ((u : ℕ) → P u (row_at l u)) → (u : ℕ) → P u (row_at new u) =
    λ P here other u. subst (λ rows. P u (get_or rows u empty_row)) (sym e) (each_set l.rows v row empty_row P h here (λ w differs. other w) u) in
    record {
      dur = at (λ u x. (row_at l u).dur ≤ x.dur) dur (λ u. omega arith);
      taken = at (λ u x. (row_at l u).taken ≤ x.taken) taken (λ u. omega arith);
      base = at (λ u x. (row_at l u).base ≤ x.base) base (λ u. omega arith);
      low = at (λ u x. low_at job l u ≤ low (vertex job u) x) rise (λ u. omega arith);
    }

grows_more : (job : JobNumbers) (l m n : Ledger) → Grows job l m → Grows job m n → Grows job l n
grows_more job l m n g h = record {
  dur = λ v. omega (arith, g.dur v, h.dur v);
  taken = λ v. omega (arith, g.taken v, h.taken v);
  base = λ v. omega (arith, g.base v, h.base v);
  low = λ v. omega (arith, g.low v, h.low v);
}

grows_same : (job : JobNumbers) (l : Ledger) → Grows job l l
grows_same job l = record { dur = λ v. omega arith; taken = λ v. omega arith; base = λ v. omega arith; low = λ v. omega arith }

-- what is needed doesn't lie below the base
pub base_le_need : (job : JobNumbers) (s : State) (v n : ℕ) → PartsFit job s → IsLeast job (low_at job s.vault.ledger) (taken_at s.vault.ledger) v n → (durable_at s v).base ≤ n
base_le_need job s v n stands least = ⊎_elim
    (λ at_reader.
    let there : (durable_at s v).base ≤ pos (vertex job at_reader.0) (low_at job s.vault.ledger at_reader.0) at_reader.1 =
    subst (λ u. (durable_at s u).base ≤ pos (vertex job at_reader.0) (low_at job s.vault.ledger at_reader.0) at_reader.1) at_reader.4
    (stands.needed at_reader.0 at_reader.1 at_reader.2 at_reader.3) in omega (arith, at_reader.5))
    (λ at_sink.
    let there : (durable_at s v).base ≤ (durable_at s at_sink.0).taken =
    subst (λ u. (durable_at s u).base ≤ (durable_at s at_sink.0).taken) at_sink.2 (stands.untaken at_sink.0 at_sink.1) in omega (arith, at_sink.3))
    least.one

collect_grows : (job : JobNumbers) → IsNumbers job → (s : State) (l : Ledger) (v : ℕ) → IsStream job v → Beside job s l → Grows job l (collected job l v)
collect_grows job numbers s l v stream beside =
    let n = need job l v in
    let least = need_is job numbers l v stream in
    let may = collected_may job numbers (with_ledger s l) v n stream beside.parts least in
    let above = base_le_need job (with_ledger s l) v n beside.parts least in
    grows_rows job l (collected job l v) v (record (row_at l v) { base = n; dur = max (row_at l v).dur n }) refl (omega (arith, stream.0, beside.rows)) may.dur may.taken above may.rise

trim_grows : (job : JobNumbers) → (s : State) (l : Ledger) (v : ℕ) → IsStream job v → Beside job s l → Grows job l (trimmed job l v)
trim_grows job s l v stream beside =
    let may = trimmed_may job (with_ledger s l) v stream beside.parts in
    let trim = trims job.max_elements (vertex job v) (row_at l v) stream.1 (beside.parts.row v) in
    grows_rows job l (trimmed job l v) v (trimmed_row (vertex job v) (row_at l v)) refl (omega (arith, stream.0, beside.rows)) may.dur may.taken (omega (arith, trim.base)) may.rise

pass_grows : (job : JobNumbers) → IsNumbers job → (s : State) (l : Ledger) (vs : List ℕ) (halves : ℕ) → AllByRecursion (IsStream job) vs → Beside job s l
    → Grows job l (passed_over job l vs halves)
pass_grows job numbers s l [] halves streams beside = grows_same job l
pass_grows job numbers s l (v ∷ vs) zero streams beside = grows_same job l
pass_grows job numbers s l (v ∷ vs) (suc zero) streams beside = collect_grows job numbers s l v streams.0 beside
pass_grows job numbers s l (v ∷ vs) (suc (suc halves)) streams beside =
    let once = collected job l v in
    let twice = trimmed job once v in
    let after = collect_beside job numbers s l v streams.0 beside in
    grows_more job l once (passed_over job twice vs halves) (collect_grows job numbers s l v streams.0 beside)
    (grows_more job once twice (passed_over job twice vs halves) (trim_grows job s once v streams.0 after)
    (pass_grows job numbers s twice vs halves streams.1 (trim_beside job numbers s once v streams.0 after)))

-- the ledger after an entry

other_since : (job : JobNumbers) (l new : Ledger) (since : ℕ) → Grows job l new → Grows job l (record new { since = since })
other_since job l new since g = record { dur = g.dur; taken = g.taken; base = g.base; low = g.low }

pub entry_grows : (job : JobNumbers) (s : State) (e : Entry) → Joint job s → IsLawful job s.vault.ledger e → Grows job s.vault.ledger (change job s.vault.ledger e)
unfolding change
entry_grows job s (entry.Flushed v count) joint lawful =
    let row = durable_at s v in
    let new : LedgerRow = record row { dur = row.dur + count } in
    let rise = low_grows (vertex job v) row new (omega arith) (omega arith) (λ e n i o. i) in
    grows_rows job s.vault.ledger _ v new refl (omega (arith, lawful.stream.0, joint.vault.stands.rows)) (omega arith) (omega arith) (omega arith) rise
entry_grows job s (entry.Kept v n) joint lawful =
    let row = durable_at s v in
    let new : LedgerRow = record row { snaps = put_in n row.snaps } in
    let rise = low_grows (vertex job v) row new (omega arith) (omega arith) (λ e m i o. put_other m n row.snaps i) in
    grows_rows job s.vault.ledger _ v new refl (omega (arith, lawful.operator.0, joint.vault.stands.rows)) (omega arith) (omega arith) (omega arith) rise
entry_grows job s (entry.Took k) joint lawful =
    let row = durable_at s k in
    let new : LedgerRow = record row { taken = row.taken + 1 } in
    let rise = low_grows (vertex job k) row new (omega arith) (omega arith) (λ e n i o. i) in
    grows_rows job s.vault.ledger _ k new refl (omega (arith, lawful.0.0, joint.vault.stands.rows)) (omega arith) (omega arith) (omega arith) rise
entry_grows job s (entry.Collected v) joint lawful = collect_grows job joint.numbers s s.vault.ledger v lawful (joint_beside job s joint)
entry_grows job s (entry.Trimmed v) joint lawful = trim_grows job s s.vault.ledger v lawful (joint_beside job s joint)
entry_grows job s (entry.Pass halves) joint lawful =
    let l = s.vault.ledger in
    other_since job l (passed_over job l (pass_order job) halves) (passed job l halves).since
    (pass_grows job joint.numbers s l (pass_order job) halves (pass_streams job) (joint_beside job s joint))

-- what each act adds to the journal

snap_enters : (job : JobNumbers) (s : State) (v r : ℕ) → IsReplica job v r → Joint job s → MakesOneEntry job s.vault (snap_act job v (inst_at s v r) s.vault).vault
unfolding snap_act keep
snap_enters job s v r replica joint =
    let P : VaultStep → Type 0 = λ did. MakesOneEntry job s.vault did.vault in
    cond_both (is_inner (vertex job v).kind) _ _ P (λ inner. by_inst (replica.0.0, inner) (inst_at s v r) refl) (λ plain. inl refl)
  where
    by_inst : IsOperator job v → (p : Option InstNumbers) → inst_at s v r ≡ p → MakesOneEntry job s.vault (snap_inner job v p s.vault).vault
    by_inst operator None e = inl refl
    by_inst operator (Some up) e =
        let P : VaultStep → Type 0 = λ did. MakesOneEntry job s.vault did.vault in
        let mark = low (vertex job v) (durable_at s v) in
        cond_both (nat_lt 0 up.left) _ _ P (λ t. inl refl)
        (λ t. cond_both (is_one_of up.n (durable_at s v).snaps) _ _ P (λ i. inl refl)
        (λ new_one. cond_both (nat_lt up.n mark) _ _ P (λ i. inl refl)
        (λ i. inr (entry.Kept v up.n, kept_lawful job s v up operator (was_up job s v r up (joint_parts job s joint) e) new_one (ltb-false up.n mark i), refl))))

take_enters : (job : JobNumbers) (s : State) (k : ℕ) → IsSink job k → Joint job s → MakesOneEntry job s.vault (take_act job k s.vault).vault
unfolding take_act
take_enters job s k sink joint =
    let P : VaultStep → Type 0 = λ did. MakesOneEntry job s.vault did.vault in
    let u = input (vertex job k) 0 in
    let taken = (durable_at s k).taken in
    cond_both (nat_le (size (vertex job u)) taken) _ _ P (λ t. inl refl)
    (λ t. cond_both (nat_eq taken (durable_at s u).dur) _ _ P (λ e. inl refl)
    (λ e. let differs = eqb-false taken (durable_at s u).dur e in
    let most = (joint_parts job s joint).taken k sink in
    let less : taken < (durable_at s u).dur = omega (arith, differs) in inr (entry.Took k, (sink, less), refl)))

flush_enters : (job : JobNumbers) (s : State) (v most : ℕ) → IsStream job v → most ≤ 64 → Joint job s → MakesOneEntry job s.vault (flush_act job v most (tail_at s v) s.vault).vault
unfolding flush_act
flush_enters job s v most stream few joint =
    let P : TailAndVaultStep → Type 0 = λ did. MakesOneEntry job s.vault did.vault in
    let Q : Option Entry → Type 0 = λ e. MakesOneEntry job s.vault (enter job s.vault e) in
    let tail = tail_at s v in
    let row = durable_at s v in
    let count = flushed_dur tail most row - row.dur in
    cond_both (nat_lt job.collect_every (s.vault.ledger.since + batch_len tail most)) _ _ P (λ t. inl refl)
    (λ t. cond_both (nat_lt row.dur (batch_from tail)) _ _ P (λ u. inl refl)
    (λ u.
    let since = ltb-false job.collect_every (s.vault.ledger.since + batch_len tail most) t in
    let near = ltb-false row.dur (batch_from tail) u in
    cond_both (nat_eq count 0) None (Some (entry.Flushed v count)) Q (λ e. inl refl)
    (λ e. inr (entry.Flushed v count, stored_lawful job s v count joint (can_store job s v most stream few joint since near), refl))))

pub acts_make_one_entry : ActsMakeOneEntry
unfolding collect_act trim_act pass_act
acts_make_one_entry job s (act.Read v r) may joint = inl refl
acts_make_one_entry job s (act.Write v r) may joint = inl refl
acts_make_one_entry job s (act.Snap v r) may joint = snap_enters job s v r may joint
acts_make_one_entry job s (act.Crash v r) may joint = inl refl
acts_make_one_entry job s (act.Load v r) may joint = inl refl
acts_make_one_entry job s (act.Lose v) may joint = inl refl
acts_make_one_entry job s (act.Flush v count) may joint = flush_enters job s v count may.0 may.2 joint
acts_make_one_entry job s (act.Take k) may joint = take_enters job s k may joint
acts_make_one_entry job s (act.Collect v) may joint = inr (entry.Collected v, may, refl)
acts_make_one_entry job s (act.Trim v) may joint = inr (entry.Trimmed v, may, refl)
acts_make_one_entry job s act.Pass may joint = inr (entry.Pass (all_halves job), omega arith, refl)

pub nothing_durable_falls : NothingDurableFalls
nothing_durable_falls job s a may joint = ⊎_elim
    (λ same. subst (λ (v : VaultNumbers). Grows job s.vault.ledger v.ledger) (sym same) (grows_same job s.vault.ledger))
    (λ entered. subst (λ (v : VaultNumbers). Grows job s.vault.ledger v.ledger) (sym entered.2) (entry_grows job s entered.0 joint entered.1))
    (acts_make_one_entry job s a may joint)

pub flush_is_never_apart : FlushIsNeverApart
unfolding flush_act
flush_is_never_apart job s v most from dur joint =
    let P : TailAndVaultStep → Type 0 = λ did. did.outcome ≡ outcome.Apart from dur → ⊥ in
    let tail = tail_at s v in
    let row = durable_at s v in
    let stands = (joint_parts job s joint).tail v in
    cond_both (nat_lt job.collect_every (s.vault.ledger.since + batch_len tail most)) _ _ P (λ t e. cc)
    (λ t. cond_both (nat_lt row.dur (batch_from tail)) _ _ P
    (λ u. let far = ltb-true row.dur (batch_from tail) u in absurd (omega (arith, stands.seen, stands.from)))
    (λ u e. cc))
