-- The parts stand after a write, a crash and a lose.
use Rattle.std.proofs.Common.{◌≡◌, ℕ, ◌+◌, ◌<◌, ◌≤◌, false, cond, nat_eq, nat_lt, Option, Some, None, IfSome, length, refl, sym, subst, arith}
use Rattle.std.proofs.lemmas.Bool.{cond_both, eqb-true, eqb-false, true≢false}
use Rattle.std.proofs.lemmas.List.{get_or-set_other}
use Rattle.ss_fail.specs.declared.outcome.Outcome.TheVariants as outcome
use Rattle.ss_state.specs.Numbers.{JobNumbers, vertex, input, pos}
use Rattle.ss_state.specs.State.{TailNumbers, InstNumbers, LedgerRow, State, new_tail, next}
use Rattle.ss_state.specs.State.{tail_at, insts_at, inst_at, durable_at, put_tail, put_inst}
use Rattle.ss_state.specs.Tails.{appended, restarted}
use Rattle.ss_state.specs.Acts.{InstAndTailStep, with_one_written, offer, offer_nothing, write_act, crash_act, lose_act}
use Rattle.ss_state.specs.IsNumbers.{IsNumbers}
use Rattle.ss_state.specs.Joint.{most_of, InstStands}
use Rattle.ss_state.proofs.Parts.{TailFits, PartsFit}
use Rattle.ss_state.proofs.Counting.{out_le_size}
use Rattle.ss_state.proofs.Frames.{earlier, MayBe, keep_tail, keep_inst}

-- what is known of a replica that is up
pub was_up : (job : JobNumbers) (s : State) (v r : ℕ) (up : InstNumbers) → PartsFit job s → inst_at s v r ≡ Some up → MayBe job s v up
was_up job s v r up stands e = record {
  stands = subst (λ p. IfSome p (InstStands job.max_elements (vertex job v))) e (stands.inst v r);
  read = λ i h k. stands.read v r i up e h k;
}

-- its inputs are other streams than its own
pub beside_tail : (job : JobNumbers) → IsNumbers job → (s : State) (v : ℕ) (tail : TailNumbers) (up : InstNumbers) → MayBe job s v up → MayBe job (put_tail s v tail) v up
beside_tail job numbers s v tail up may = record {
  stands = may.stands;
  read = λ i h.
      let before = earlier job numbers v i h in
      let same : tail_at s (input (vertex job v) i) ≡ tail_at (put_tail s v tail) (input (vertex job v) i) =
      sym (get_or-set_other s.tails v (input (vertex job v) i) tail new_tail (λ e. absurd (omega arith))) in
      subst (λ t. t.torn ≡ false → pos (vertex job v) up.n i ≤ t.end) same (may.read i h);
}

-- an act may leave such a tail and such a replica of v
pub record BothMayBe (job : JobNumbers) (s : State) (v : ℕ) (did : InstAndTailStep) : Type 0 where
  pub tail : TailFits (most_of job v) did.tail (durable_at s v)
  pub reaches : did.tail.torn ≡ false → ((tail_at s v).torn ≡ false) × ((tail_at s v).end ≤ did.tail.end)
  pub inst : (up : InstNumbers) → did.inst ≡ Some up → MayBe job s v up

pub keep_both : (job : JobNumbers) → IsNumbers job → (s : State) (v r : ℕ) (did : InstAndTailStep) → v < length s.tails → v < length s.insts → r < length (insts_at s v)
    → PartsFit job s → BothMayBe job s v did → PartsFit job (put_inst (put_tail s v did.tail) v r did.inst)
keep_both job numbers s v r did h k l stands may =
    keep_inst job (put_tail s v did.tail) v r did.inst k l (keep_tail job s v did.tail h stands may.tail may.reaches)
    (λ up e. beside_tail job numbers s v did.tail up (may.inst up e))

-- the tail stays as it is
pub same_tail : (job : JobNumbers) (s : State) (v : ℕ) (inst : Option InstNumbers) (o : _) → PartsFit job s → ((up : InstNumbers) → inst ≡ Some up → MayBe job s v up)
    → BothMayBe job s v (record { inst = inst; tail = tail_at s v; outcome = o })
same_tail job s v inst o stands may = record { tail = stands.tail v; reaches = λ e. (e, omega arith); inst = may }

pub none_is_up : (job : JobNumbers) (s : State) (v : ℕ) (up : InstNumbers) → None ≡ Some up → MayBe job s v up
none_is_up job s v up e = cc

pub one_is_up : (job : JobNumbers) (s : State) (v : ℕ) (up other : InstNumbers) → MayBe job s v up → Some up ≡ Some other → MayBe job s v other
one_is_up job s v up other may e = subst (MayBe job s v) (let same : up ≡ other = cc in same) may

written_may : (job : JobNumbers) (s : State) (v : ℕ) (up : InstNumbers) → MayBe job s v up → MayBe job s v (with_one_written up)
written_may job s v up may = record { stands = record { accepted = may.stands.accepted; left = omega (arith, may.stands.left) }; read = may.read }

nothing_offered : (job : JobNumbers) (s : State) (v : ℕ) (up : InstNumbers) (n : ℕ) → PartsFit job s → MayBe job s v up → BothMayBe job s v (offer_nothing up n (tail_at s v))
unfolding offer_nothing
nothing_offered job s v up n stands may =
    cond_both (nat_lt (tail_at s v).end n) _ _ (BothMayBe job s v)
    (λ t. same_tail job s v None (outcome.Gap (tail_at s v).end) stands (none_is_up job s v))
    (λ t. same_tail job s v (Some up) outcome.Idle stands (λ other. one_is_up job s v up other may))

one_appended : (most : ℕ) (tail : TailNumbers) (row : LedgerRow) → TailFits most tail row → tail.end + 1 ≤ most → TailFits most (appended tail) row
one_appended most tail row stands more = record {
  order = omega (arith, stands.order);
  end = more;
  durable = stands.durable;
  from = stands.from;
  seen = stands.seen;
  whole = λ e. let was = stands.whole e in omega arith;
  count = omega (arith, stands.count);
}

one_offered : (job : JobNumbers) (s : State) (v : ℕ) (up : InstNumbers) → PartsFit job s → MayBe job s v up → (up.left ≡ 0 → ⊥)
    → BothMayBe job s v (offer up (next (vertex job v) up) (tail_at s v))
unfolding offer
one_offered job s v up stands may some =
    let x = vertex job v in
    let tail = tail_at s v in
    let n = next x up in
    let done : (other : InstNumbers) → Some (with_one_written up) ≡ Some other → MayBe job s v other =
    λ other. one_is_up job s v (with_one_written up) other (written_may job s v up may) in
    let below : n + 1 ≤ most_of job v = omega (arith, may.stands.left, may.stands.accepted.out, some, out_le_size x up.n) in
    cond_both (nat_lt tail.end n) _ _ (BothMayBe job s v)
    (λ t. same_tail job s v None (outcome.Gap tail.end) stands (none_is_up job s v))
    (λ t. cond_both (nat_eq tail.end n) _ _ (BothMayBe job s v)
    (λ e. let here = eqb-true tail.end n e in record {
      tail = one_appended (most_of job v) tail (durable_at s v) (stands.tail v) (omega arith);
      reaches = λ torn. (torn, omega arith);
      inst = done;
    })
    (λ e. same_tail job s v (Some (with_one_written up)) (cond (nat_lt n tail.from) (outcome.Old n) (outcome.Known n)) stands done))

pub write_may : (job : JobNumbers) (s : State) (v r : ℕ) → PartsFit job s → BothMayBe job s v (write_act (vertex job v) (inst_at s v r) (tail_at s v))
write_may job s v r stands = by_inst (inst_at s v r) refl
  where
    by_inst : (p : Option InstNumbers) → inst_at s v r ≡ p → BothMayBe job s v (write_act (vertex job v) p (tail_at s v))
    by_inst None e = same_tail job s v None outcome.Down stands (none_is_up job s v)
    by_inst (Some up) e =
        let may = was_up job s v r up stands e in
        cond_both (nat_eq up.left 0) _ _ (BothMayBe job s v)
        (λ t. nothing_offered job s v up (next (vertex job v) up) stands may)
        (λ t. one_offered job s v up stands may (eqb-false up.left 0 t))

pub crash_may : (job : JobNumbers) (s : State) (v r : ℕ) (up : InstNumbers) → (crash_act (inst_at s v r)).inst ≡ Some up → MayBe job s v up
crash_may job s v r up = by_inst (inst_at s v r)
  where
    by_inst : (p : Option InstNumbers) → (crash_act p).inst ≡ Some up → MayBe job s v up
    by_inst None e = none_is_up job s v up e
    by_inst (Some was) e = none_is_up job s v up e

-- a tail begun anew at a number up to dur
pub restarted_stands : (all : ℕ) (tail : TailNumbers) (row : LedgerRow) (n : ℕ) → TailFits all tail row → n ≤ row.dur → TailFits all (restarted tail n) row
restarted_stands all tail row n stands h = record {
  order = omega arith;
  end = omega (arith, stands.durable);
  durable = stands.durable;
  from = h;
  seen = h;
  whole = λ e. absurd (true≢false e);
  count = stands.count;
}

pub keep_lose : (job : JobNumbers) (s : State) (v : ℕ) → v < length s.tails → PartsFit job s → PartsFit job (put_tail s v (lose_act (tail_at s v)).tail)
keep_lose job s v h stands =
    keep_tail job s v (restarted (tail_at s v) (tail_at s v).seen) h stands
    (restarted_stands (most_of job v) (tail_at s v) (durable_at s v) (tail_at s v).seen (stands.tail v) (stands.tail v).seen) (λ e. absurd (true≢false e))
