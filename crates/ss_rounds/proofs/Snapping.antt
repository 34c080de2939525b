-- What a first replica's snapshot brings, where the rule names it.
use Rattle.std.proofs.Common.{◌≡◌, ℕ, ◌+◌, ◌<◌, ◌≤◌, nat_eq, nat_lt, nat_le, not, ◌&&◌, ◌||◌, true, false, Some, List, get_or, refl, sym, ap, ◌∙◌, subst, inl, inr, arith, ltb-true, leb-true}
use Rattle.std.proofs.lemmas.Bool.{cond_both, cond-true, and_parts, both_ways, false_from_ne_true}
use Rattle.ss_fail.specs.declared.act.Act.TheVariants as act
use Rattle.ss_fail.specs.declared.trigger.Trigger.{Trigger}
use Rattle.ss_fail.specs.declared.outcome.Outcome.TheVariants as outcome
use Rattle.ss_state.specs.declared.entry.Entry.TheVariants as entry
use Rattle.ss_state.specs.Numbers.{VertexNumbers, JobNumbers, IsStream, is_inner, vertex}
use Rattle.ss_state.specs.State.{InstNumbers, LedgerRow, State, tail_at, inst_at, durable_at}
use Rattle.ss_state.specs.LowWater.{snap_within, low}
use Rattle.ss_state.specs.Journal.{is_one_of, put_in, change, enter}
use Rattle.ss_state.specs.Acts.{VaultStep, keep, snap_inner, snap_act}
use Rattle.ss_state.specs.Step.{step, with_vault}
use Rattle.ss_state.specs.Rule.{snap_due, last_snap}
use Rattle.ss_state.specs.Joint.{Joint}
use Rattle.ss_rounds.specs.Measure.{bit, waiting, floor}
use Rattle.ss_rounds.proofs.Greatest.{one_le_last, within_le_last, within_put, put_le_last}
use Rattle.ss_rounds.proofs.Parts.{stage_le, store_le, work_lower}
use Rattle.ss_rounds.proofs.Frames.{places, became_row, stream_lower}
use Rattle.ss_rounds.proofs.Going.{Went}

-- what it says that a snapshot is due
pub due_parts : (x : VertexNumbers) (n last : ℕ) → snap_due x n last ≡ true → (is_inner x.kind ≡ true) × (last + x.every ≤ n)
unfolding snap_due
due_parts x n last e =
    let all = and_parts (is_inner x.kind && nat_le (last + x.every) n) (not x.replay || nat_eq (get_or x.held n 0) 0) e in
    let first = and_parts (is_inner x.kind) (nat_le (last + x.every) n) all.0 in
    (first.0, leb-true (last + x.every) n first.1)

-- none is where the newest is as new
not_due : (x : VertexNumbers) (n last : ℕ) → 0 < x.every → n ≤ last → snap_due x n last ≡ false
not_due x n last some h = false_from_ne_true (snap_due x n last) (λ e. let parts = due_parts x n last e in omega arith)

pub low_inner : (x : VertexNumbers) (row : LedgerRow) → is_inner x.kind ≡ true → low x row ≡ snap_within x row.snaps row.dur
unfolding low
low_inner x row e = cond-true (is_inner x.kind) (snap_within x row.snaps row.dur) row.mark e

pub floor_inner : (x : VertexNumbers) (row : LedgerRow) → is_inner x.kind ≡ true → floor x row ≡ snap_within x row.snaps row.dur
unfolding floor
floor_inner x row e = cond-true (is_inner x.kind) (low x row) row.dur e ∙ low_inner x row e

kept_went : (job : JobNumbers) (ts : List Trigger) (s : State) (v : ℕ) (up : InstNumbers) → Joint job s → IsStream job v → inst_at s v 0 ≡ Some up
    → snap_due (vertex job v) up.n (last_snap (durable_at s v).snaps) ≡ true
    → Went job ts s v (with_vault s (record { vault = enter job s.vault (Some (entry.Kept v up.n)); outcome = outcome.Kept up.n }))
unfolding change
kept_went job ts s v up joint stream e due =
    let x = vertex job v in
    let row = durable_at s v in
    let tail = tail_at s v in
    let new : LedgerRow = record row { snaps = put_in up.n row.snaps } in
    let vault = enter job s.vault (Some (entry.Kept v up.n)) in
    let parts = due_parts x up.n (last_snap row.snaps) due in
    let some = (joint.numbers.each v stream.0).every in
    let most = within_put x up.n row.snaps row.dur in
    let was : bit (snap_due x up.n (last_snap row.snaps)) ≡ 1 = ap bit due in
    let is : bit (snap_due x up.n (last_snap new.snaps)) ≡ 0 = ap bit (not_due x up.n (last_snap new.snaps) some (put_le_last up.n row.snaps)) in
    let fewer = store_le x (waiting ts v tail.stored) (waiting ts v tail.stored) tail tail row new (omega arith) (omega arith) refl in
    let work = work_lower x tail tail (Some up) (Some up) row new
    (inr (stage_le x up up tail.end tail.end (floor x row) (floor x new) (λ l. l) (λ l. omega (arith, floor_inner x row parts.0, floor_inner x new parts.0)), omega arith)) in
    inr (inl (
      stream_lower job ts s (record s { vault = vault }) v (Some up) tail (Some up) new stream e
          (let became = became_row s v new vault (places job s v joint stream).rows refl in record { rest = became.rest; tail_is = became.tail_is; inst_is = e; row_is = became.row_is })
          (inr (fewer, work)),
      refl,
    ))

pub snap_went : (job : JobNumbers) (ts : List Trigger) (s : State) (v : ℕ) (up : InstNumbers) → Joint job s → IsStream job v → inst_at s v 0 ≡ Some up → nat_lt 0 up.left ≡ false
    → snap_due (vertex job v) up.n (last_snap (durable_at s v).snaps) ≡ true → Went job ts s v (step job s (act.Snap v 0))
unfolding snap_act keep
snap_went job ts s v up joint stream e none due =
    let x = vertex job v in
    let row = durable_at s v in
    let P : VaultStep → Type 0 = λ did. Went job ts s v (with_vault s did) in
    let parts = due_parts x up.n (last_snap row.snaps) due in
    let some = (joint.numbers.each v stream.0).every in
    cond_both (is_inner x.kind) _ _ P
    (λ inner. subst (λ p. P (snap_inner job v p s.vault)) (sym e)
    (cond_both (nat_lt 0 up.left) _ _ P (λ t. absurd (both_ways (nat_lt 0 up.left) none t))
    (λ t. cond_both (is_one_of up.n row.snaps) _ _ P (λ i. let most = one_le_last up.n row.snaps i in absurd (omega arith))
    (λ i. cond_both (nat_lt up.n (low x row)) _ _ P
    (λ l. let less = ltb-true up.n (low x row) l in let most = within_le_last x row.snaps row.dur in let is = low_inner x row parts.0 in absurd (omega arith))
    (λ l. kept_went job ts s v up joint stream e due)))))
    (λ plain. absurd (both_ways (is_inner x.kind) plain parts.0))
