-- What a flush brings.
use Rattle.std.proofs.Common.{◌≡◌, ℕ, ◌+◌, ◌-◌, ◌<◌, ◌≤◌, nat_eq, nat_lt, true, false, Option, Some, None, set, refl, sym, ap, ◌∙◌, inl, ⊎_elim, arith, ltb-true}
use Rattle.std.proofs.lemmas.Bool.{cond_both, eqb-true, cases_lt, true≢false, false≢true}
use Rattle.std.proofs.lemmas.List.{set-get_or}
use Rattle.ss_state.specs.declared.entry.Entry.{Entry}
use Rattle.ss_state.specs.declared.entry.Entry.TheVariants as entry
use Rattle.ss_state.specs.Numbers.{VertexNumbers, JobNumbers, vertex, size}
use Rattle.ss_state.specs.State.{TailNumbers, LedgerRow, VaultNumbers, State, new_tail, empty_row, tail_at, inst_at, durable_at, row_at, put_tail}
use Rattle.ss_state.specs.Tails.{batch_from, batch_len}
use Rattle.ss_state.specs.Journal.{change, enter}
use Rattle.ss_state.specs.Acts.{TailAndVaultStep, flushed_dur, flushed_tail, flush_entry, flush_act}
use Rattle.ss_state.specs.Joint.{TailStands, most_of}
use Rattle.ss_rounds.specs.Measure.{waiting, store_left, total_left}
use Rattle.ss_rounds.specs.Whole.{is_pass_due}
use Rattle.ss_rounds.specs.Laws.{FlushesLowerTheTotal, DueFlushesChangeNothing}
use Rattle.ss_rounds.proofs.Parts.{store_by_dur, store_by_seen}
use Rattle.ss_rounds.proofs.Frames.{places, became_stored, stream_lower}

-- the rows that a flush leaves
flushed_rows : (job : JobNumbers) (vault : VaultNumbers) (v count dur : ℕ) → (row_at vault.ledger v).dur + count ≡ dur
    → (enter job vault (flush_entry v count)).ledger.rows ≡ set vault.ledger.rows v (record (row_at vault.ledger v) { dur = dur })
unfolding change
flushed_rows job vault v count dur e =
    let rows = vault.ledger.rows in
    let row = row_at vault.ledger v in
    let P : Option Entry → Type 0 = λ x. (enter job vault x).ledger.rows ≡ set rows v (record row { dur = dur }) in
    cond_both (nat_eq count 0) None (Some (entry.Flushed v count)) P
    (λ z. let none = eqb-true count 0 z in
    let same : row.dur ≡ dur = omega arith in
    sym (set-get_or rows v empty_row) ∙ ap (λ d. set rows v (record row { dur = d })) same)
    (λ z. ap (λ d. set rows v (record row { dur = d })) e)

-- a batch that isn't empty leaves less to store
batch_stored : (x : VertexNumbers) (most waiting count : ℕ) (tail : TailNumbers) (row : LedgerRow) → TailStands most tail row → most ≤ size x → row.dur ≤ size x → 1 ≤ count
    → batch_from tail < tail.end
    → store_left x waiting (flushed_tail tail count row) (record row { dur = flushed_dur tail count row }) < store_left x waiting tail row
batch_stored x most waiting count tail row stands few within some more = ⊎_elim
    (λ rises. store_by_dur x waiting tail (flushed_tail tail count row) row (record row { dur = flushed_dur tail count row }) rises (omega (arith, stands.end)))
    (λ same. store_by_seen x waiting tail (flushed_tail tail count row) row (record row { dur = flushed_dur tail count row }) (omega arith) (omega (arith, stands.from)) (omega arith))
    (cases_lt row.dur (flushed_dur tail count row))

pub flushes_lower_the_total : FlushesLowerTheTotal
unfolding flush_act
flushes_lower_the_total job ts s v count joint may batch =
    let x = vertex job v in
    let tail = tail_at s v in
    let row = durable_at s v in
    let k = flushed_dur tail count row - row.dur in
    let stands = joint.memory.tail v in
    let stored = joint.vault.stands.row v in
    let P : TailAndVaultStep → Type 0 = λ did. is_pass_due did.outcome ≡ false → total_left job ts (record (put_tail s v did.tail) { vault = did.vault }) < total_left job ts s in
    cond_both (nat_lt job.collect_every (s.vault.ledger.since + batch_len tail count)) _ _ P (λ t e. absurd (true≢false e))
    (λ t. cond_both (nat_lt row.dur (batch_from tail)) _ _ P
    (λ w e. let far = ltb-true row.dur (batch_from tail) w in absurd (omega (arith, stands.seen, stands.from)))
    (λ w e.
    let new : LedgerRow = record row { dur = flushed_dur tail count row } in
    let vault = enter job s.vault (flush_entry v k) in
    let became = became_stored s v (flushed_tail tail count row) new vault (places job s v joint may.0) (flushed_rows job s.vault v k (flushed_dur tail count row) (omega arith)) in
    let less = batch_stored x (most_of job v) (waiting ts v tail.stored) count tail row stands (omega arith) (omega (arith, stored.dur)) may.1 (ltb-true (batch_from tail) tail.end batch) in
    stream_lower job ts s (record (put_tail s v (flushed_tail tail count row)) { vault = vault }) v (inst_at s v 0) (flushed_tail tail count row) (inst_at s v 0) new may.0 refl became (inl less)))

pub due_flushes_change_nothing : DueFlushesChangeNothing
unfolding flush_act
due_flushes_change_nothing job s v count joint may =
    let tail = tail_at s v in
    let P : TailAndVaultStep → Type 0 = λ did. is_pass_due did.outcome ≡ true → ◌≡◌ {A = State} (record (put_tail s v did.tail) { vault = did.vault }) s in
    cond_both (nat_lt job.collect_every (s.vault.ledger.since + batch_len tail count)) _ _ P
    (λ t e. ap (λ tails. record s { tails = tails }) (set-get_or s.tails v new_tail))
    (λ t. cond_both (nat_lt (durable_at s v).dur (batch_from tail)) _ _ P (λ w e. absurd (false≢true e)) (λ w e. absurd (false≢true e)))
