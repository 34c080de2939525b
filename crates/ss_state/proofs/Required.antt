-- No act drops a stored element that is required.
use Rattle.std.proofs.Common.{◌≡◌, ◌∙◌, ℕ, ◌+◌, ◌-◌, ◌<◌, ◌≤◌, max, nat_eq, nat_lt, nat_le, Option, Some, None, length, get_or, set, refl, sym, ap, ⊎_elim, arith}
use Rattle.std.proofs.lemmas.Bool.{cases_eq, cond_both}
use Rattle.ss_fail.specs.declared.act.Act.{Act}
use Rattle.ss_fail.specs.declared.act.Act.TheVariants as act
use Rattle.ss_state.specs.declared.entry.Entry.{Entry}
use Rattle.ss_state.specs.declared.entry.Entry.TheVariants as entry
use Rattle.ss_state.specs.Numbers.{JobNumbers, IsStream, IsSink, is_inner, vertex, input, size}
use Rattle.ss_state.specs.State.{InstNumbers, LedgerRow, Ledger, State, empty_row, inst_at, tail_at, row_at, durable_at}
use Rattle.ss_state.specs.LowWater.{low, low_at, start, need, required}
use Rattle.ss_state.specs.Tails.{batch_from, batch_len}
use Rattle.ss_state.specs.Journal.{is_one_of, change, enter, put_in, trimmed_row}
use Rattle.ss_state.specs.Acts.{TailAndVaultStep, VaultStep, keep, snap_inner, snap_act, flush_entry, flushed_dur, flush_act, take_act, collect_act, trim_act}
use Rattle.ss_state.specs.Step.{MayAct, step}
use Rattle.ss_state.specs.Joint.{Joint}
use Rattle.ss_state.specs.Laws.{Grows, KeepsRequired, LowIsBelowStart, NeedIsBelowRequired, NothingRequiredGoes}
use Rattle.ss_state.proofs.Frames.{each_set}
use Rattle.ss_state.proofs.Growing.{nothing_durable_falls}
use Rattle.ss_state.proofs.Lows.{by_kind, low_inner, within_grows}
use Rattle.ss_state.proofs.Marks.{IsReader, least_mono, needed_in, no_sink_of, reader_stream, required_is, start_inner, start_is}
use Rattle.ss_state.proofs.Passing.{need_is}
use Rattle.ss_state.proofs.WholePass.{pass_in}

-- ---- over any ledger

pub low_is_below_start : LowIsBelowStart
low_is_below_start job l v numbers operator =
    let x = vertex job v in
    let row = row_at l v in
    let from = required job l v in
    let stream : IsStream job v = (operator.0, no_sink_of x.kind operator.1) in
    let more = within_grows x row.snaps row.snaps row.dur (max row.dur from) (omega arith) (λ m i o. i) in
    omega (arith, more, low_inner x row operator.1, start_inner x row from operator.1, start_is job numbers l v stream)

pub need_is_below_required : NeedIsBelowRequired
need_is_below_required job l v numbers stream =
    least_mono job (low_at job l) (start job l) (λ k. (row_at l k).taken) (λ k. (row_at l k).taken) v (need job l v) (required job l v)
    (need_is job numbers l v stream) (required_is job numbers l v stream)
    (λ w i reader. low_is_below_start job l w numbers ((reader_stream job v w i reader).0, reader.inner)) (λ k sink is. omega arith)

-- ---- what an act leaves of each base

-- no base changes
abbrev BasesStay : Ledger → Ledger → Type 0
BasesStay l new = (v : ℕ) → (row_at new v).base ≡ (row_at l v).base

stays : (l : Ledger) → BasesStay l l
stays l v = refl

set_stays : (l : Ledger) (v : ℕ) (row : LedgerRow) → v < length l.rows → row.base ≡ (row_at l v).base
    → (u : ℕ) → (get_or (set l.rows v row) u empty_row).base ≡ (row_at l u).base
set_stays l v row h same u = each_set l.rows v row empty_row (λ w x. x.base ≡ (row_at l w).base) h same (λ w differs. refl) u

snap_stays : (job : JobNumbers) (s : State) (v r : ℕ) → v < length s.vault.ledger.rows
    → BasesStay s.vault.ledger (snap_act job v (inst_at s v r) s.vault).vault.ledger
unfolding snap_act keep change
snap_stays job s v r h =
    let P : VaultStep → Type 0 = λ did. BasesStay s.vault.ledger did.vault.ledger in
    cond_both (is_inner (vertex job v).kind) _ _ P (λ inner. by_inst (inst_at s v r)) (λ plain. stays s.vault.ledger)
  where
    by_inst : (inst : Option InstNumbers) → BasesStay s.vault.ledger (snap_inner job v inst s.vault).vault.ledger
    by_inst None = stays s.vault.ledger
    by_inst (Some up) =
        let P : VaultStep → Type 0 = λ did. BasesStay s.vault.ledger did.vault.ledger in
        let row = durable_at s v in
        cond_both (nat_lt 0 up.left) _ _ P (λ t. stays s.vault.ledger)
        (λ t. cond_both (is_one_of up.n row.snaps) _ _ P (λ i. stays s.vault.ledger)
        (λ new. cond_both (nat_lt up.n (low (vertex job v) row)) _ _ P (λ i. stays s.vault.ledger)
        (λ i. set_stays s.vault.ledger v (record row { snaps = put_in up.n row.snaps }) h refl)))

take_stays : (job : JobNumbers) (s : State) (k : ℕ) → k < length s.vault.ledger.rows
    → BasesStay s.vault.ledger (take_act job k s.vault).vault.ledger
unfolding take_act change
take_stays job s k h =
    let P : VaultStep → Type 0 = λ did. BasesStay s.vault.ledger did.vault.ledger in
    let u = input (vertex job k) 0 in
    let row = durable_at s k in
    cond_both (nat_le (size (vertex job u)) row.taken) _ _ P (λ t. stays s.vault.ledger)
    (λ t. cond_both (nat_eq row.taken (durable_at s u).dur) _ _ P (λ e. stays s.vault.ledger)
    (λ e. set_stays s.vault.ledger k (record row { taken = row.taken + 1 }) h refl))

flush_stays : (job : JobNumbers) (s : State) (v most : ℕ) → v < length s.vault.ledger.rows
    → BasesStay s.vault.ledger (flush_act job v most (tail_at s v) s.vault).vault.ledger
unfolding flush_act change
flush_stays job s v most h =
    let P : TailAndVaultStep → Type 0 = λ did. BasesStay s.vault.ledger did.vault.ledger in
    let Q : Option Entry → Type 0 = λ e. BasesStay s.vault.ledger (enter job s.vault e).ledger in
    let tail = tail_at s v in
    let row = durable_at s v in
    let count = flushed_dur tail most row - row.dur in
    cond_both (nat_lt job.collect_every (s.vault.ledger.since + batch_len tail most)) _ _ P (λ t. stays s.vault.ledger)
    (λ t. cond_both (nat_lt row.dur (batch_from tail)) _ _ P (λ u. stays s.vault.ledger)
    (λ u. cond_both (nat_eq count 0) None (Some (entry.Flushed v count)) Q (λ e. stays s.vault.ledger)
    (λ e. set_stays s.vault.ledger v (record row { dur = row.dur + count }) h refl)))

trim_base : (job : JobNumbers) (v : ℕ) (row : LedgerRow) → (trimmed_row (vertex job v) row).base ≡ row.base
trim_base job v row =
    cond_both (is_inner (vertex job v).kind) _ _ (λ (r : LedgerRow). r.base ≡ row.base) (λ inner. refl) (λ plain. refl)

-- ---- what is required stays

-- where the new base doesn't lie above what is required
kept : (job : JobNumbers) (s : State) (a : Act) → MayAct job a → Joint job s
    → ((v : ℕ) → IsStream job v → (row_at (step job s a).state.vault.ledger v).base ≤ required job s.vault.ledger v)
    → KeepsRequired job s.vault.ledger (step job s a).state.vault.ledger
kept job s a may joint below v n stream from stored =
    let grows : Grows job s.vault.ledger (step job s a).state.vault.ledger = nothing_durable_falls job s a may joint in
    let low = below v stream in
    let more = grows.dur v in
    (omega (arith, low, from), omega (arith, more, stored))

base_below : (job : JobNumbers) (s : State) (v : ℕ) → Joint job s → IsStream job v → (durable_at s v).base ≤ required job s.vault.ledger v
base_below job s v joint stream = let needed = needed_in job s v joint stream in omega (arith, needed.0, needed.1)

-- where no base changes
stayed : (job : JobNumbers) (s : State) (a : Act) → MayAct job a → Joint job s → BasesStay s.vault.ledger (step job s a).state.vault.ledger
    → KeepsRequired job s.vault.ledger (step job s a).state.vault.ledger
stayed job s a may joint bases = kept job s a may joint
    (λ v stream. let below = base_below job s v joint stream in let same = bases v in omega (arith, below, same))

-- where that of one stream becomes what is needed of it
collect_below : (job : JobNumbers) (s : State) (w : ℕ) → Joint job s → IsStream job w → (v : ℕ) → IsStream job v
    → (row_at (collect_act job w s.vault).vault.ledger v).base ≤ required job s.vault.ledger v
unfolding collect_act change
collect_below job s w joint of_w v stream =
    let l = s.vault.ledger in
    let row : LedgerRow = record (row_at l w) { base = need job l w; dur = max (row_at l w).dur (need job l w) } in
    ⊎_elim
    (λ same. let needed = (needed_in job s v joint stream).1 in
    let here : (get_or (set l.rows w row) v empty_row).base ≡ need job l v = set_here l w v row (omega (arith, of_w.0, joint.vault.stands.rows)) same (ap (need job l) (sym same)) in
    omega (arith, needed, here))
    (λ differs. let below = base_below job s v joint stream in
    let other = set_other l w v row (omega (arith, of_w.0, joint.vault.stands.rows)) differs in omega (arith, below, other))
    (cases_eq v w)
  where
    set_here : (l : Ledger) (w v : ℕ) (row : LedgerRow) → w < length l.rows → v ≡ w → row.base ≡ need job l v
        → (get_or (set l.rows w row) v empty_row).base ≡ need job l v
    set_here l w v row h same is =
        each_set l.rows w row empty_row (λ u x. u ≡ v → x.base ≡ need job l v) h (λ u. is) (λ u differs e. absurd (differs (e ∙ same))) v refl

    set_other : (l : Ledger) (w v : ℕ) (row : LedgerRow) → w < length l.rows → (v ≡ w → ⊥)
        → (get_or (set l.rows w row) v empty_row).base ≡ (row_at l v).base
    set_other l w v row h differs =
        each_set l.rows w row empty_row (λ u x. u ≡ v → x.base ≡ (row_at l u).base) h (λ e. absurd (differs (sym e))) (λ u other e. refl) v refl

pass_below : (job : JobNumbers) (s : State) → Joint job s → (v : ℕ) → IsStream job v
    → (row_at (step job s act.Pass).state.vault.ledger v).base ≤ required job s.vault.ledger v
pass_below job s joint v stream = let passed = ((pass_in job s joint).0 v stream).base in omega (arith, passed)

pub nothing_required_goes : NothingRequiredGoes
unfolding trim_act change
nothing_required_goes job s (act.Read v r) may joint = stayed job s (act.Read v r) may joint (stays s.vault.ledger)
nothing_required_goes job s (act.Write v r) may joint = stayed job s (act.Write v r) may joint (stays s.vault.ledger)
nothing_required_goes job s (act.Snap v r) may joint =
    stayed job s (act.Snap v r) may joint (snap_stays job s v r (omega (arith, may.0.0, joint.vault.stands.rows)))
nothing_required_goes job s (act.Crash v r) may joint = stayed job s (act.Crash v r) may joint (stays s.vault.ledger)
nothing_required_goes job s (act.Load v r) may joint = stayed job s (act.Load v r) may joint (stays s.vault.ledger)
nothing_required_goes job s (act.Lose v) may joint = stayed job s (act.Lose v) may joint (stays s.vault.ledger)
nothing_required_goes job s (act.Flush v count) may joint =
    stayed job s (act.Flush v count) may joint (flush_stays job s v count (omega (arith, may.0.0, joint.vault.stands.rows)))
nothing_required_goes job s (act.Take k) may joint =
    stayed job s (act.Take k) may joint (take_stays job s k (omega (arith, may.0, joint.vault.stands.rows)))
nothing_required_goes job s (act.Collect w) may joint = kept job s (act.Collect w) may joint (collect_below job s w joint may)
nothing_required_goes job s (act.Trim v) may joint =
    stayed job s (act.Trim v) may joint
    (set_stays s.vault.ledger v (trimmed_row (vertex job v) (durable_at s v)) (omega (arith, may.0, joint.vault.stands.rows)) (trim_base job v (durable_at s v)))
nothing_required_goes job s act.Pass may joint = kept job s act.Pass may joint (pass_below job s joint)
