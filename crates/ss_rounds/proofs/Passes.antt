-- What a pass leaves, and that it raises nothing.
use Rattle.std.proofs.Common.{◌≡◌, ℕ, ◌+◌, ◌≤◌, max, nat_eq, nat_lt, nat_le, not, ◌&&◌, ◌||◌, Bool, true, false, cond, Option, Some, None, List, filter, get_or, refl, sym, ap, ◌∙◌, subst, inl, inr, ⊎_elim, arith, leb-true, le-leb, le-ltb}
use Rattle.std.proofs.lemmas.Bool.{cond_both, cond-true, cases_lt, both_ways}
use Rattle.ss_water.specs.Graph.{is_sink}
use Rattle.ss_water.specs.declared.node.Kind.{Kind}
use Rattle.ss_water.specs.declared.node.Kind.TheVariants.{Source, Inner, Sink}
use Rattle.ss_fail.specs.declared.act.Act.TheVariants as act
use Rattle.ss_fail.specs.declared.trigger.Trigger.{Trigger}
use Rattle.ss_state.specs.Numbers.{VertexNumbers, JobNumbers, IsStream, is_inner, vertex, size}
use Rattle.ss_state.specs.State.{TailNumbers, InstNumbers, LedgerRow, State, tail_at, inst_at, durable_at}
use Rattle.ss_state.specs.LowWater.{snap_within, low, start_at, start, required}
use Rattle.ss_state.specs.Tails.{batch_from, batch_len}
use Rattle.ss_state.specs.Acts.{TailAndVaultStep, pass_act, flush_act}
use Rattle.ss_state.specs.Rule.{snap_due, last_snap}
use Rattle.ss_state.specs.IsNumbers.{IsNumbers}
use Rattle.ss_state.specs.Joint.{Joint}
use Rattle.ss_state.specs.Laws.{ActsKeepJoint, RequiredAreMarks, PassCollectsExactly, IsPassed}
use Rattle.ss_rounds.specs.Measure.{bit, waiting, floor, stage, effort, effort_most, work_left, far, near}
use Rattle.ss_rounds.specs.Whole.{is_pass_due}
use Rattle.ss_rounds.specs.Laws.{PassesRaiseNothing, NoPassIsDueBehindOne, PassAndFlushLowerTheTotal}
use Rattle.ss_rounds.proofs.Sums.{NoHigher, rank_no_higher, same_no_higher}
use Rattle.ss_rounds.proofs.Greatest.{within_le_last, within_filter, last_filter}
use Rattle.ss_rounds.proofs.Parts.{effort_fits, stage_le, store_le, store_by_dur}
use Rattle.ss_rounds.proofs.Frames.{far_stream, far_sink, near_stream, near_sink, total_no_higher}
use Rattle.ss_rounds.proofs.Flushes.{flushes_lower_the_total}

-- one part of work where the floor doesn't rise, and no snapshot is newly due

stage_no_higher : (x : VertexNumbers) (inst : Option InstNumbers) (end floor new : ℕ) → new ≤ floor → stage x inst end new ≤ stage x inst end floor
stage_no_higher x None end floor new h = omega arith
stage_no_higher x (Some up) end floor new h = stage_le x up up end end floor new (λ l. l) (λ l. omega arith)

due_no_higher : (x : VertexNumbers) (n last new : ℕ) → (is_inner x.kind ≡ true → last ≤ new) → bit (snap_due x n new) ≤ bit (snap_due x n last)
unfolding snap_due
due_no_higher x n last new h =
    by_tests (is_inner x.kind) (nat_le (last + x.every) n) (nat_le (new + x.every) n) (not x.replay || nat_eq (get_or x.held n 0) 0)
    (λ inner e. let more = h inner in let less = leb-true (new + x.every) n e in le-leb (last + x.every) n (omega arith))
  where
    by_tests : (a b c d : Bool) → (a ≡ true → c ≡ true → b ≡ true) → bit (a && c && d) ≤ bit (a && b && d)
    by_tests false b c d k = omega arith
    by_tests true b false d k = omega arith
    by_tests true true true d k = omega arith
    by_tests true false true d k = let e = k refl refl in cc

effort_no_higher : (x : VertexNumbers) (inst : Option InstNumbers) (last new : ℕ) → (is_inner x.kind ≡ true → last ≤ new) → effort x inst new ≤ effort x inst last
effort_no_higher x None last new h = omega arith
effort_no_higher x (Some up) last new h = let few = due_no_higher x up.n last new h in omega arith

work_no_higher : (x : VertexNumbers) (tail : TailNumbers) (inst : Option InstNumbers) (row new : LedgerRow) → floor x new ≤ floor x row
    → (is_inner x.kind ≡ true → last_snap row.snaps ≤ last_snap new.snaps) → work_left x tail inst new ≤ work_left x tail inst row
unfolding work_left
work_no_higher x tail inst row new h k =
    rank_no_higher (effort_most x) (stage x inst tail.end (floor x row)) (effort x inst (last_snap row.snaps)) (stage x inst tail.end (floor x new)) (effort x inst (last_snap new.snaps))
    (effort_fits x inst (last_snap new.snaps))
    (inr (stage_no_higher x inst tail.end (floor x row) (floor x new) h, effort_no_higher x inst (last_snap row.snaps) (last_snap new.snaps) k))

-- what a pass leaves of a stream whose dur it doesn't raise

passed_floor : (job : JobNumbers) (s : State) (v : ℕ) (new : LedgerRow) → new.dur ≡ (durable_at s v).dur
    → (is_inner (vertex job v).kind ≡ true → new.snaps ≡ filter (λ n. nat_le (start job s.vault.ledger v) n) (durable_at s v).snaps)
    → floor (vertex job v) new ≤ floor (vertex job v) (durable_at s v)
unfolding floor low
passed_floor job s v new same snaps =
    let x = vertex job v in
    let row = durable_at s v in
    let P : ℕ → ℕ → Type 0 = λ a b. a ≤ b in
    by_test (is_inner x.kind)
    (λ e. let fewer = within_filter x (λ n. nat_le (start job s.vault.ledger v) n) row.snaps row.dur in
    let is : snap_within x new.snaps new.dur ≡ snap_within x (filter (λ n. nat_le (start job s.vault.ledger v) n) row.snaps) row.dur =
    ap (λ ns. snap_within x ns new.dur) (snaps e) ∙ ap (snap_within x (filter (λ n. nat_le (start job s.vault.ledger v) n) row.snaps)) same in omega arith)
    refl
  where
    by_test : (b : Bool) → (is_inner (vertex job v).kind ≡ true → snap_within (vertex job v) new.snaps new.dur ≤ snap_within (vertex job v) (durable_at s v).snaps (durable_at s v).dur)
        → is_inner (vertex job v).kind ≡ b
        → cond b (cond b (snap_within (vertex job v) new.snaps new.dur) new.mark) new.dur
        ≤ cond b (cond b (snap_within (vertex job v) (durable_at s v).snaps (durable_at s v).dur) (durable_at s v).mark) (durable_at s v).dur
    by_test true h e = h e
    by_test false h e = omega arith

start_le_last : RequiredAreMarks → (job : JobNumbers) (s : State) (v : ℕ) → IsNumbers job → IsStream job v → is_inner (vertex job v).kind ≡ true
    → start job s.vault.ledger v ≤ last_snap (durable_at s v).snaps
unfolding start_at
start_le_last marks job s v numbers stream e =
    let x = vertex job v in
    let row = durable_at s v in
    let limit = max row.dur (required job s.vault.ledger v) in
    let begins = (marks job s.vault.ledger numbers).begins v stream in
    let is : cond (is_inner x.kind) (snap_within x row.snaps limit) limit ≡ snap_within x row.snaps limit = cond-true (is_inner x.kind) _ _ e in
    let most = within_le_last x row.snaps limit in
    omega arith

-- the laws

abbrev passed : JobNumbers → State → State
passed job s = record s { vault = (pass_act job s.vault).vault }

is_a_sink : (k : Kind) → is_sink k ≡ true → k ≡ Sink
is_a_sink Source e = cc
is_a_sink Inner e = cc
is_a_sink Sink e = refl

stream_passed : RequiredAreMarks → (job : JobNumbers) (ts : List Trigger) (s : State) (v : ℕ) → IsNumbers job → IsStream job v → IsPassed job s.vault.ledger (passed job s).vault.ledger v
    → (durable_at (passed job s) v).dur ≤ size (vertex job v) → NoHigher (far job ts s v) (near job s v) (far job ts (passed job s) v) (near job (passed job s) v)
stream_passed marks job ts s v numbers stream is within =
    let x = vertex job v in
    let t = passed job s in
    let row = durable_at s v in
    let new = durable_at t v in
    let far_was = far_stream job ts s v stream.1 in
    let far_is = far_stream job ts t v stream.1 in
    let near_was = near_stream job s v stream.1 in
    let near_is = near_stream job t v stream.1 in
    let w = waiting ts v (tail_at s v).stored in
    ⊎_elim
    (λ rises. let less = store_by_dur x w (tail_at s v) (tail_at s v) row new rises within in inl (omega arith))
    (λ stays.
    let dur : new.dur ≡ row.dur = omega (arith, is.dur) in
    let same = store_le x w w (tail_at s v) (tail_at s v) row new (omega arith) (omega arith) dur in
    let last : is_inner x.kind ≡ true → last_snap row.snaps ≤ last_snap new.snaps = λ e.
    subst (λ ns. last_snap row.snaps ≤ last_snap ns) (sym (is.snaps e)) (last_filter (start job s.vault.ledger v) row.snaps (start_le_last marks job s v numbers stream e)) in
    let work = work_no_higher x (tail_at s v) (inst_at s v 0) row new (passed_floor job s v new dur is.snaps) last in
    inr (omega arith, omega arith))
    (cases_lt row.dur new.dur)

sink_passed : (job : JobNumbers) (ts : List Trigger) (s : State) (k : ℕ) → is_sink (vertex job k).kind ≡ true → durable_at (passed job s) k ≡ durable_at s k
    → NoHigher (far job ts s k) (near job s k) (far job ts (passed job s) k) (near job (passed job s) k)
sink_passed job ts s k e same =
    let t = passed job s in
    let far_was = far_sink job ts s k e in
    let far_is = far_sink job ts t k e in
    let near_was = near_sink job s k e in
    let near_is = near_sink job t k e in
    let taken : (durable_at t k).taken ≡ (durable_at s k).taken = ap (λ (row : LedgerRow). row.taken) same in
    same_no_higher (far job ts s k) (near job s k) (far job ts t k) (near job t k) (omega arith) (omega arith)

pub passed_joint : ActsKeepJoint → (job : JobNumbers) (s : State) → Joint job s → Joint job (passed job s)
passed_joint keep job s joint = keep job s act.Pass tt refl joint

pub passes_raise_nothing : ActsKeepJoint → RequiredAreMarks → PassCollectsExactly → PassesRaiseNothing
passes_raise_nothing keep marks collects job ts s joint =
    let t = passed job s in
    let new = passed_joint keep job s joint in
    let exact = collects job s.vault joint.numbers joint.vault in
    total_no_higher job ts s t (λ u h. by_test (is_sink (vertex job u).kind)
    (λ e. sink_passed job ts s u e (exact.1 u (h, is_a_sink (vertex job u).kind e)))
    (λ e. stream_passed marks job ts s u joint.numbers (h, e) (exact.0 u (h, e)) (let row = new.vault.stands.row u in omega (arith, row.dur))) refl)
  where
    by_test : {P : Type 0} {a : Bool} → (b : Bool) → (a ≡ true → P) → (a ≡ false → P) → a ≡ b → P
    by_test true at_true at_false e = at_true e
    by_test false at_true at_false e = at_false e

pub no_pass_is_due_behind_one : PassCollectsExactly → NoPassIsDueBehindOne
unfolding flush_act
no_pass_is_due_behind_one collects job s v count joint may =
    let t = passed job s in
    let tail = tail_at s v in
    let since = (collects job s.vault joint.numbers joint.vault).2 in
    let few = joint.numbers.collects in
    let P : TailAndVaultStep → Type 0 = λ did. is_pass_due did.outcome ≡ false in
    cond_both (nat_lt job.collect_every (t.vault.ledger.since + batch_len tail count)) _ _ P
    (λ e. absurd (both_ways (nat_lt job.collect_every (t.vault.ledger.since + batch_len tail count)) (le-ltb job.collect_every (t.vault.ledger.since + batch_len tail count) (omega (arith, may.2))) e))
    (λ e. cond_both (nat_lt (durable_at t v).dur (batch_from tail)) _ _ P (λ w. refl) (λ w. refl))

pub pass_and_flush_lower_the_total : ActsKeepJoint → RequiredAreMarks → PassCollectsExactly → PassAndFlushLowerTheTotal
pass_and_flush_lower_the_total keep marks collects job ts s v count joint may batch =
    let t = passed job s in
    let first = passes_raise_nothing keep marks collects job ts s joint in
    let then = flushes_lower_the_total job ts t v count (passed_joint keep job s joint) may batch (no_pass_is_due_behind_one collects job s v count joint may) in
    omega arith
