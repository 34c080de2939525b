-- Every act keeps a job joint.
use Rattle.std.proofs.Common.{◌≡◌, ℕ, ◌+◌, ◌-◌, ◌<◌, ◌≤◌, max, false, nat_eq, nat_lt, nat_le, Option, Some, None, length, refl, sym, ◌∙◌, subst, ⊎_elim, arith, ltb-false}
use Rattle.std.proofs.lemmas.Bool.{cond_both, eqb-true, eqb-false, true≢false}
use Rattle.std.proofs.lemmas.List.{length-set, get_or-set_same}
use Rattle.ss_fail.specs.declared.act.Act.TheVariants as act
use Rattle.ss_fail.specs.declared.outcome.Outcome.TheVariants as outcome
use Rattle.ss_state.specs.declared.entry.Entry.{Entry}
use Rattle.ss_state.specs.declared.entry.Entry.TheVariants as entry
use Rattle.ss_state.specs.Numbers.{JobNumbers, is_inner, vertex, input, size, IsStream, IsSink, out, IsOperator}
use Rattle.ss_state.specs.State.{InstNumbers, State}
use Rattle.ss_state.specs.State.{tail_at, insts_at, inst_at, durable_at, put_tail, put_inst}
use Rattle.ss_state.specs.State.{empty_row}
use Rattle.ss_state.specs.LowWater.{low}
use Rattle.ss_state.specs.Tails.{batch_from, batch_len, restarted}
use Rattle.ss_state.specs.Journal.{is_one_of, pass_order, all_halves, passed_over, passed, change, enter, IsLawful}
use Rattle.ss_state.specs.Acts.{InstAndTailStep, TailAndVaultStep, VaultStep, write_act, crash_act, load_act, lose_act, keep, snap_inner, snap_act}
use Rattle.ss_state.specs.Acts.{flushed_dur, flushed_tail, flush_act, take_act, collect_act, trim_act, pass_act}
use Rattle.ss_state.specs.Step.{read_at, step, with_tail_and_vault, with_vault, with_entry, IsReplica, LeftByFlush, LeftByPass, Store, Memory, Other, has_passed, is_full}
use Rattle.ss_state.specs.Joint.{Joint, most_of}
use Rattle.ss_state.proofs.Parts.{TailFits, joint_parts}
use Rattle.ss_state.specs.Laws.{ActsKeepJoint, FaultsKeepJoint}
use Rattle.ss_state.proofs.Frames.{MayBe, keep_tail, keep_inst, keep_row}
use Rattle.ss_state.proofs.Writes.{BothMayBe, was_up, keep_both, write_may, crash_may, restarted_stands, keep_lose}
use Rattle.ss_state.proofs.Reading.{read_may, load_may}
use Rattle.ss_state.proofs.Storing.{raised_may, flushed_tail_stands, keep_told, kept_may, took_may}
use Rattle.ss_state.proofs.Passing.{Beside, collect_beside, trim_beside, pass_beside}
use Rattle.ss_state.proofs.Recording.{joint_inst, joint_tail, other_journal, joint_entered, joint_beside, pass_streams}

-- a replica of the job has its places in the lists
pub record HasPlaces (s : State) (v r : ℕ) : Type 0 where
  pub tail : v < length s.tails
  pub insts : v < length s.insts
  pub inst : r < length (insts_at s v)
  pub row : v < length s.vault.ledger.rows

has_places : (job : JobNumbers) (s : State) (v r : ℕ) → Joint job s → IsReplica job v r → HasPlaces s v r
has_places job s v r joint replica = record {
  tail = omega (arith, replica.0.0, joint.tails);
  insts = omega (arith, replica.0.0, joint.insts);
  inst = omega (arith, replica.1, joint.replicas v);
  row = omega (arith, replica.0.0, joint.vault.stands.rows);
}

both_joint : (job : JobNumbers) (s : State) (v r : ℕ) (did : InstAndTailStep) → Joint job s → HasPlaces s v r → BothMayBe job s v did → Joint job (put_inst (put_tail s v did.tail) v r did.inst)
both_joint job s v r did joint places may =
    joint_inst job (put_tail s v did.tail) v r did.inst places.insts
    (joint_tail job s v did.tail joint (keep_tail job s v did.tail places.tail (joint_parts job s joint) may.tail may.reaches))
    (keep_both job joint.numbers s v r did places.tail places.insts places.inst (joint_parts job s joint) may)

read_joint : (job : JobNumbers) (s : State) (v r : ℕ) → IsReplica job v r → is_full job s (act.Read v r) ≡ false → Joint job s → Joint job (step job s (act.Read v r)).state
read_joint job s v r replica full joint =
    let places = has_places job s v r joint replica in
    joint_inst job s v r (read_at job s v r).inst places.insts joint
    (keep_inst job s v r (read_at job s v r).inst places.insts places.inst (joint_parts job s joint)
    (λ up e. read_may job joint.numbers s v r replica.0 (joint_parts job s joint) up e (not_passed (read_at job s v r).inst full up e)))
  where
    not_passed : (p : Option InstNumbers) → has_passed job.max_elements (vertex job v) p ≡ false → (up : InstNumbers) → p ≡ Some up → out (vertex job v) up.n ≤ job.max_elements
    not_passed None f up e = cc
    not_passed (Some was) f up e =
        let same : was ≡ up = cc in subst (λ (q : InstNumbers). out (vertex job v) q.n ≤ job.max_elements) same (ltb-false job.max_elements (out (vertex job v) was.n) f)

crash_joint : (job : JobNumbers) (s : State) (v r : ℕ) → IsReplica job v r → Joint job s → Joint job (step job s (act.Crash v r)).state
crash_joint job s v r replica joint =
    let places = has_places job s v r joint replica in
    joint_inst job s v r (crash_act (inst_at s v r)).inst places.insts joint
    (keep_inst job s v r (crash_act (inst_at s v r)).inst places.insts places.inst (joint_parts job s joint) (crash_may job s v r))

lose_joint : (job : JobNumbers) (s : State) (v : ℕ) → IsStream job v → Joint job s → Joint job (step job s (act.Lose v)).state
lose_joint job s v stream joint =
    joint_tail job s v (lose_act (tail_at s v)).tail joint (keep_lose job s v (omega (arith, stream.0, joint.tails)) (joint_parts job s joint))

-- the vault as it was
same_vault : (job : JobNumbers) (s : State) → Joint job s → Joint job (record s { vault = s.vault })
same_vault job s joint = joint

-- Snap

pub kept_lawful : (job : JobNumbers) (s : State) (v : ℕ) (up : InstNumbers) → IsOperator job v → MayBe job s v up → is_one_of up.n (durable_at s v).snaps ≡ false
    → low (vertex job v) (durable_at s v) ≤ up.n → IsLawful job s.vault.ledger (entry.Kept v up.n)
kept_lawful job s v up operator may new_one above =
    record { operator = operator; within = may.stands.accepted.within; new = new_one; above = above }

pub kept_beside : (job : JobNumbers) (s : State) (v : ℕ) (up : InstNumbers) → IsOperator job v → Joint job s → v < length s.vault.ledger.rows → MayBe job s v up
    → is_one_of up.n (durable_at s v).snaps ≡ false → Beside job s (change job s.vault.ledger (entry.Kept v up.n))
unfolding change
kept_beside job s v up operator joint h may new_one = record {
  rows = length-set s.vault.ledger.rows v _ ∙ joint.vault.stands.rows;
  parts = keep_row job joint.numbers s v _ s.vault.ledger.since s.vault.journal h (joint_parts job s joint) (kept_may job s v up operator.1 (joint_parts job s joint) may new_one);
}

pub since_of_kept : (job : JobNumbers) (s : State) (v n : ℕ) → Joint job s → (change job s.vault.ledger (entry.Kept v n)).since ≤ job.collect_every
unfolding change
since_of_kept job s v n joint = joint.vault.stands.since

keep_joint : (job : JobNumbers) (s : State) (v : ℕ) (up : InstNumbers) → IsOperator job v → v < length s.vault.ledger.rows → Joint job s → MayBe job s v up
    → Joint job (with_vault s (keep job v up.n s.vault)).state
unfolding keep
keep_joint job s v up operator h joint may =
    let P : VaultStep → Type 0 = λ did. Joint job (with_vault s did).state in
    let mark = low (vertex job v) (durable_at s v) in
    cond_both (is_one_of up.n (durable_at s v).snaps) _ _ P (λ e. joint)
    (λ new_one. cond_both (nat_lt up.n mark) _ _ P (λ e. joint)
    (λ e. let above = ltb-false up.n mark e in
    joint_entered job s (entry.Kept v up.n) joint (kept_lawful job s v up operator may new_one above) (kept_beside job s v up operator joint h may new_one) (since_of_kept job s v up.n joint)))

snap_joint : (job : JobNumbers) (s : State) (v r : ℕ) → IsReplica job v r → Joint job s → Joint job (step job s (act.Snap v r)).state
unfolding snap_act
snap_joint job s v r replica joint =
    let P : VaultStep → Type 0 = λ did. Joint job (with_vault s did).state in
    cond_both (is_inner (vertex job v).kind) _ _ P (λ inner. by_inst (replica.0.0, inner) (inst_at s v r) refl) (λ plain. joint)
  where
    by_inst : IsOperator job v → (p : Option InstNumbers) → inst_at s v r ≡ p → Joint job (with_vault s (snap_inner job v p s.vault)).state
    by_inst operator None e = joint
    by_inst operator (Some up) e =
        let P : VaultStep → Type 0 = λ did. Joint job (with_vault s did).state in
        cond_both (nat_lt 0 up.left) _ _ P (λ t. joint)
        (λ t. keep_joint job s v up operator (omega (arith, replica.0.0, joint.vault.stands.rows)) joint (was_up job s v r up (joint_parts job s joint) e))

-- Take

pub took_beside : (job : JobNumbers) (s : State) (k : ℕ) → IsSink job k → Joint job s → k < length s.vault.ledger.rows → (durable_at s k).taken < (durable_at s (input (vertex job k) 0)).dur
    → Beside job s (change job s.vault.ledger (entry.Took k))
unfolding change
took_beside job s k sink joint h less = record {
  rows = length-set s.vault.ledger.rows k _ ∙ joint.vault.stands.rows;
  parts = keep_row job joint.numbers s k _ s.vault.ledger.since s.vault.journal h (joint_parts job s joint) (took_may job s k sink (joint_parts job s joint) less);
}

pub since_of_took : (job : JobNumbers) (s : State) (k : ℕ) → Joint job s → (change job s.vault.ledger (entry.Took k)).since ≤ job.collect_every
unfolding change
since_of_took job s k joint = joint.vault.stands.since

take_joint : (job : JobNumbers) (s : State) (k : ℕ) → IsSink job k → Joint job s → Joint job (step job s (act.Take k)).state
unfolding take_act
take_joint job s k sink joint =
    let P : VaultStep → Type 0 = λ did. Joint job (with_vault s did).state in
    let u = input (vertex job k) 0 in
    let taken = (durable_at s k).taken in
    cond_both (nat_le (size (vertex job u)) taken) _ _ P (λ t. joint)
    (λ t. cond_both (nat_eq taken (durable_at s u).dur) _ _ P (λ e. joint)
    (λ e. let differs = eqb-false taken (durable_at s u).dur e in
    let most = (joint_parts job s joint).taken k sink in
    let less : taken < (durable_at s u).dur = omega (arith, differs) in
    joint_entered job s (entry.Took k) joint (sink, less) (took_beside job s k sink joint (omega (arith, sink.0, joint.vault.stands.rows)) less) (since_of_took job s k joint)))

-- Collect, Trim, Pass

collect_joint : (job : JobNumbers) (s : State) (v : ℕ) → IsStream job v → Joint job s → Joint job (step job s (act.Collect v)).state
unfolding collect_act change
collect_joint job s v stream joint =
    joint_entered job s (entry.Collected v) joint stream (collect_beside job joint.numbers s s.vault.ledger v stream (joint_beside job s joint)) joint.vault.stands.since

trim_joint : (job : JobNumbers) (s : State) (v : ℕ) → IsStream job v → Joint job s → Joint job (step job s (act.Trim v)).state
unfolding trim_act change
trim_joint job s v stream joint =
    joint_entered job s (entry.Trimmed v) joint stream (trim_beside job joint.numbers s s.vault.ledger v stream (joint_beside job s joint)) joint.vault.stands.since

passed_beside : (job : JobNumbers) (s : State) (halves : ℕ) → Joint job s → Beside job s (change job s.vault.ledger (entry.Pass halves))
unfolding change
passed_beside job s halves joint =
    let l = s.vault.ledger in
    let over = pass_beside job joint.numbers s l (pass_order job) halves (pass_streams job) (joint_beside job s joint) in
    record {
      rows = over.rows;
      parts = other_journal job s (passed_over job l (pass_order job) halves) (passed job l halves) s.vault.journal refl over.parts;
    }

since_of_passed : (job : JobNumbers) (s : State) (halves : ℕ) → Joint job s → (change job s.vault.ledger (entry.Pass halves)).since ≤ job.collect_every
unfolding change
since_of_passed job s halves joint =
    cond_both (nat_lt halves (all_halves job)) s.vault.ledger.since 0 (λ n. n ≤ job.collect_every) (λ e. joint.vault.stands.since) (λ e. omega arith)

pub part_joint : (job : JobNumbers) (s : State) (halves : ℕ) → halves ≤ all_halves job → Joint job s → Joint job (with_entry job s (entry.Pass halves))
part_joint job s halves h joint = joint_entered job s (entry.Pass halves) joint h (passed_beside job s halves joint) (since_of_passed job s halves joint)

pass_joint : (job : JobNumbers) (s : State) → Joint job s → Joint job (step job s act.Pass).state
unfolding pass_act
pass_joint job s joint = part_joint job s (all_halves job) (omega arith) joint

-- Flush

-- so many elements of v may be stored
pub record CanStore (job : JobNumbers) (s : State) (v count : ℕ) : Type 0 where
  pub stream : IsStream job v
  pub few : count ≤ 64
  pub since : s.vault.ledger.since + count ≤ job.collect_every
  pub end : (durable_at s v).dur + count ≤ max (durable_at s v).dur (tail_at s v).end

pub stored_lawful : (job : JobNumbers) (s : State) (v count : ℕ) → Joint job s → CanStore job s v count → IsLawful job s.vault.ledger (entry.Flushed v count)
stored_lawful job s v count joint can =
    let tail = (joint_parts job s joint).tail v in
    record { stream = can.stream; few = can.few; within = omega (arith, can.end, tail.durable, tail.end); since = can.since }

stored_beside : (job : JobNumbers) (s : State) (v count : ℕ) → v < length s.vault.ledger.rows → Joint job s → CanStore job s v count
    → Beside job s (change job s.vault.ledger (entry.Flushed v count))
unfolding change
stored_beside job s v count h joint can = record {
  rows = length-set s.vault.ledger.rows v _ ∙ joint.vault.stands.rows;
  parts = keep_row job joint.numbers s v _ (s.vault.ledger.since + count) s.vault.journal h (joint_parts job s joint)
      (raised_may job s v ((durable_at s v).dur + count) can.stream (joint_parts job s joint) (omega arith) can.end);
}

since_of_stored : (job : JobNumbers) (s : State) (v count : ℕ) → CanStore job s v count → (change job s.vault.ledger (entry.Flushed v count)).since ≤ job.collect_every
unfolding change
since_of_stored job s v count can = can.since

pub stored_joint : (job : JobNumbers) (s : State) (v count : ℕ) → v < length s.vault.ledger.rows → Joint job s → CanStore job s v count
    → Joint job (with_entry job s (entry.Flushed v count))
stored_joint job s v count h joint can =
    joint_entered job s (entry.Flushed v count) joint (stored_lawful job s v count joint can) (stored_beside job s v count h joint can) (since_of_stored job s v count can)

row_of_stored : (job : JobNumbers) (s : State) (v count : ℕ) → v < length s.vault.ledger.rows
    → durable_at (with_entry job s (entry.Flushed v count)) v ≡ record (durable_at s v) { dur = (durable_at s v).dur + count }
unfolding change
row_of_stored job s v count h = get_or-set_same s.vault.ledger.rows v (record (durable_at s v) { dur = (durable_at s v).dur + count }) empty_row h

-- they are stored, and the tail is told
told_joint : (job : JobNumbers) (s : State) (v most count : ℕ) → v < length s.tails → v < length s.vault.ledger.rows → Joint job s → CanStore job s v count
    → (durable_at s v).dur + count ≡ flushed_dur (tail_at s v) most (durable_at s v)
    → Joint job (put_tail (with_entry job s (entry.Flushed v count)) v (flushed_tail (tail_at s v) most (durable_at s v)))
told_joint job s v most count h k joint can e =
    let t = with_entry job s (entry.Flushed v count) in
    let tail = flushed_tail (tail_at s v) most (durable_at s v) in
    let all = most_of job v in
    let stored = stored_joint job s v count k joint can in
    let stands = flushed_tail_stands all (tail_at s v) (durable_at s v) most ((joint_parts job s joint).tail v) ((joint_parts job s joint).row v).base in
    let with_row : TailFits all tail (record (durable_at s v) { dur = (durable_at s v).dur + count }) =
    subst (λ d. TailFits all tail (record (durable_at s v) { dur = d })) (sym e) stands in
    joint_tail job t v tail stored
    (keep_tail job t v tail h (joint_parts job t stored) (subst (TailFits all tail) (sym (row_of_stored job s v count k)) with_row) (λ torn. (torn, omega arith)))

-- what the tests of a flush show
pub can_store : (job : JobNumbers) (s : State) (v most : ℕ) → IsStream job v → most ≤ 64 → Joint job s
    → s.vault.ledger.since + batch_len (tail_at s v) most ≤ job.collect_every → batch_from (tail_at s v) ≤ (durable_at s v).dur
    → CanStore job s v (flushed_dur (tail_at s v) most (durable_at s v) - (durable_at s v).dur)
can_store job s v most stream few joint since near =
    let tail = (joint_parts job s joint).tail v in
    record {
      stream = stream;
      few = omega arith;
      since = omega arith;
      end = omega (arith, tail.order, tail.seen, tail.from);
    }

flush_joint : (job : JobNumbers) (s : State) (v most : ℕ) → IsStream job v → most ≤ 64 → Joint job s → Joint job (step job s (act.Flush v most)).state
unfolding flush_act
flush_joint job s v most stream few joint =
    let P : TailAndVaultStep → Type 0 = λ did. Joint job (with_tail_and_vault s v did).state in
    let tail = tail_at s v in
    let row = durable_at s v in
    let stands = (joint_parts job s joint).tail v in
    let within : v < length s.tails = omega (arith, stream.0, joint.tails) in
    let in_rows : v < length s.vault.ledger.rows = omega (arith, stream.0, joint.vault.stands.rows) in
    let count = flushed_dur tail most row - row.dur in
    let still = joint_tail job s v tail joint (keep_tail job s v tail within (joint_parts job s joint) stands (λ e. (e, omega arith))) in
    let again = joint_tail job s v (restarted tail row.dur) joint
    (keep_tail job s v (restarted tail row.dur) within (joint_parts job s joint) (restarted_stands (most_of job v) tail row row.dur stands (omega arith)) (λ e. absurd (true≢false e))) in
    let Q : Option Entry → Type 0 = λ e. Joint job (record (put_tail s v (flushed_tail tail most row)) { vault = enter job s.vault e }) in
    cond_both (nat_lt job.collect_every (s.vault.ledger.since + batch_len tail most)) _ _ P (λ t. still)
    (λ t. cond_both (nat_lt row.dur (batch_from tail)) _ _ P (λ u. again)
    (λ u.
    let since = ltb-false job.collect_every (s.vault.ledger.since + batch_len tail most) t in
    let near = ltb-false row.dur (batch_from tail) u in
    cond_both (nat_eq count 0) None (Some (entry.Flushed v count)) Q
    (λ e. let none = eqb-true count 0 e in
    joint_tail job s v (flushed_tail tail most row) joint (keep_told job s v most within (joint_parts job s joint) (omega arith)))
    (λ e. told_joint job s v most count within in_rows joint (can_store job s v most stream few joint since near) (omega arith))))

-- an act that met a fault

flushed_all : (job : JobNumbers) (s : State) (v most all : ℕ) → IsStream job v → most ≤ 64 → Joint job s → (step job s (act.Flush v most)).outcome ≡ outcome.Flushed all
    → (all ≡ flushed_dur (tail_at s v) most (durable_at s v) - (durable_at s v).dur) × CanStore job s v (flushed_dur (tail_at s v) most (durable_at s v) - (durable_at s v).dur)
unfolding flush_act
flushed_all job s v most all stream few joint told =
    let tail = tail_at s v in
    let row = durable_at s v in
    let count = flushed_dur tail most row - row.dur in
    let P : TailAndVaultStep → Type 0 = λ did. did.outcome ≡ outcome.Flushed all → (all ≡ count) × CanStore job s v count in
    cond_both (nat_lt job.collect_every (s.vault.ledger.since + batch_len tail most)) _ _ P (λ t o. cc)
    (λ t. cond_both (nat_lt row.dur (batch_from tail)) _ _ P (λ u o. cc)
    (λ u o.
    let since = ltb-false job.collect_every (s.vault.ledger.since + batch_len tail most) t in
    let near = ltb-false row.dur (batch_from tail) u in
    let same : all ≡ count = cc in (same, can_store job s v most stream few joint since near)))
    told

flush_left : (job : JobNumbers) (s end : State) (v most : ℕ) → IsStream job v → most ≤ 64 → Joint job s → LeftByFlush job s v most end → Joint job end
flush_left job s end v most stream few joint left = ⊎_elim (λ same. subst (Joint job) (sym same) joint)
    (λ part.
    let whole = flushed_all job s v most part.1 stream few joint part.4 in
    let less = part.3 in
    let all_can = whole.1 in
    let can : CanStore job s v part.0 = record {
      stream = stream;
      few = omega (arith, whole.0, all_can.few);
      since = omega (arith, whole.0, all_can.since);
      end = omega (arith, whole.0, all_can.end);
    } in
    subst (Joint job) (sym part.5) (stored_joint job s v part.0 (omega (arith, stream.0, joint.vault.stands.rows)) joint can))
    left

pass_left : (job : JobNumbers) (s end : State) → Joint job s → LeftByPass job s end → Joint job end
pass_left job s end joint part = subst (Joint job) (sym part.2) (part_joint job s part.0 (omega (arith, part.1)) joint)

-- all acts

pub acts_keep_joint : ActsKeepJoint
acts_keep_joint job s (act.Read v r) may full joint = read_joint job s v r may full joint
acts_keep_joint job s (act.Write v r) may full joint =
    both_joint job s v r (write_act (vertex job v) (inst_at s v r) (tail_at s v)) joint (has_places job s v r joint may) (write_may job s v r (joint_parts job s joint))
acts_keep_joint job s (act.Snap v r) may full joint = snap_joint job s v r may joint
acts_keep_joint job s (act.Crash v r) may full joint = crash_joint job s v r may joint
acts_keep_joint job s (act.Load v r) may full joint =
    both_joint job s v r (load_act (vertex job v) (inst_at s v r) (tail_at s v) (durable_at s v)) joint (has_places job s v r joint may)
    (load_may job joint.numbers s v r may.0 (joint_parts job s joint))
acts_keep_joint job s (act.Lose v) may full joint = lose_joint job s v may joint
acts_keep_joint job s (act.Flush v count) may full joint = flush_joint job s v count may.0 may.2 joint
acts_keep_joint job s (act.Take k) may full joint = take_joint job s k may joint
acts_keep_joint job s (act.Collect v) may full joint = collect_joint job s v may joint
acts_keep_joint job s (act.Trim v) may full joint = trim_joint job s v may joint
acts_keep_joint job s act.Pass may full joint = pass_joint job s joint

pub faults_keep_joint : FaultsKeepJoint
faults_keep_joint job s end (act.Read v r) fault may joint left = subst (Joint job) (sym left) joint
faults_keep_joint job s end (act.Write v r) fault may joint left = subst (Joint job) (sym left) joint
faults_keep_joint job s end (act.Snap v r) fault may joint left = subst (Joint job) (sym left) joint
faults_keep_joint job s end (act.Crash v r) fault may joint left = subst (Joint job) (sym left) joint
faults_keep_joint job s end (act.Load v r) fault may joint left = subst (Joint job) (sym left) joint
faults_keep_joint job s end (act.Lose v) fault may joint left = subst (Joint job) (sym left) joint
faults_keep_joint job s end (act.Flush v count) Store may joint left = flush_left job s end v count may.0 may.2 joint left
faults_keep_joint job s end (act.Flush v count) Memory may joint left = flush_left job s end v count may.0 may.2 joint left
faults_keep_joint job s end (act.Flush v count) Other may joint left = subst (Joint job) (sym left) joint
faults_keep_joint job s end (act.Take k) fault may joint left = subst (Joint job) (sym left) joint
faults_keep_joint job s end (act.Collect v) fault may joint left = subst (Joint job) (sym left) joint
faults_keep_joint job s end (act.Trim v) fault may joint left = subst (Joint job) (sym left) joint
faults_keep_joint job s end act.Pass Store may joint left = pass_left job s end joint left
faults_keep_joint job s end act.Pass Memory may joint left = subst (Joint job) (sym left) joint
faults_keep_joint job s end act.Pass Other may joint left = subst (Joint job) (sym left) joint
