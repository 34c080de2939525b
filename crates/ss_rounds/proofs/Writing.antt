-- What a first replica's write brings.
use Rattle.std.proofs.Common.{◌≡◌, ℕ, ◌+◌, ◌<◌, ◌≤◌, true, false, cond, nat_eq, nat_lt, Some, None, IfSome, List, refl, sym, subst, inl, inr, arith, ltb-true, ltb-false}
use Rattle.std.proofs.lemmas.Bool.{cond_both, eqb-true, eqb-false}
use Rattle.ss_fail.specs.declared.act.Act.TheVariants as act
use Rattle.ss_fail.specs.declared.trigger.Trigger.{Trigger}
use Rattle.ss_fail.specs.declared.outcome.Outcome.{Outcome}
use Rattle.ss_fail.specs.declared.outcome.Outcome.TheVariants as outcome
use Rattle.ss_state.specs.Numbers.{JobNumbers, IsStream, vertex}
use Rattle.ss_state.specs.State.{TailNumbers, InstNumbers, State, tail_at, inst_at, durable_at, next}
use Rattle.ss_state.specs.Tails.{appended}
use Rattle.ss_state.specs.Acts.{InstAndTailStep, with_one_written, offer, offer_nothing, write_act}
use Rattle.ss_state.specs.Step.{step, with_inst_and_tail}
use Rattle.ss_state.specs.Joint.{InstStands, Joint}
use Rattle.ss_rounds.specs.Measure.{floor}
use Rattle.ss_rounds.specs.Whole.{is_wait, is_idle_at}
use Rattle.ss_rounds.proofs.Counting.{out_le_size}
use Rattle.ss_rounds.proofs.Parts.{stage_two, stage_le}
use Rattle.ss_rounds.proofs.Going.{Went, both_went}

-- behind a gap the replica goes down
gap_went : (job : JobNumbers) (ts : List Trigger) (s : State) (v : ℕ) (up : InstNumbers) → Joint job s → IsStream job v → inst_at s v 0 ≡ Some up → (tail_at s v).end < next (vertex job v) up
    → Went job ts s v (with_inst_and_tail s v 0 (record { inst = None; tail = tail_at s v; outcome = outcome.Gap (tail_at s v).end }))
gap_went job ts s v up joint stream e far =
    let tail = tail_at s v in
    let two = stage_two (vertex job v) up tail.end (floor (vertex job v) (durable_at s v)) (inl far) in
    both_went job ts s v (Some up) tail None (outcome.Gap tail.end) joint stream e (omega arith) (omega arith) refl (inl (omega arith))

-- it has written an element, which the tail has
written_went : (job : JobNumbers) (ts : List Trigger) (s : State) (v : ℕ) (up : InstNumbers) (tail : TailNumbers) (o : Outcome) → Joint job s → IsStream job v → inst_at s v 0 ≡ Some up
    → (up.left ≡ 0 → ⊥) → (tail_at s v).stored ≤ tail.stored → (tail_at s v).seen ≤ tail.seen → is_wait o ≡ false → next (vertex job v) up + 1 ≤ tail.end
    → Went job ts s v (with_inst_and_tail s v 0 (record { inst = Some (with_one_written up); tail = tail; outcome = o }))
written_went job ts s v up tail o joint stream e some stored seen told there =
    let x = vertex job v in
    let row = durable_at s v in
    let stands : InstStands job.max_elements x up = subst (λ p. IfSome p (InstStands job.max_elements x)) e (joint.memory.inst v 0) in
    let all = out_le_size x up.n in
    both_went job ts s v (Some up) tail (Some (with_one_written up)) o joint stream e stored seen told
    (inr (stage_le x up (with_one_written up) (tail_at s v).end tail.end (floor x row) (floor x row) (λ l. absurd (omega (arith, stands.left, some))) (λ l. l), omega (arith, stands.left, some)))

offer_went : (job : JobNumbers) (ts : List Trigger) (s : State) (v : ℕ) (up : InstNumbers) → Joint job s → IsStream job v → inst_at s v 0 ≡ Some up → (up.left ≡ 0 → ⊥)
    → Went job ts s v (with_inst_and_tail s v 0 (offer up (next (vertex job v) up) (tail_at s v)))
unfolding offer
offer_went job ts s v up joint stream e some =
    let tail = tail_at s v in
    let n = next (vertex job v) up in
    let P : InstAndTailStep → Type 0 = λ did. Went job ts s v (with_inst_and_tail s v 0 did) in
    let count = (joint.memory.tail v).count in
    cond_both (nat_lt tail.end n) _ _ P (λ t. gap_went job ts s v up joint stream e (ltb-true tail.end n t))
    (λ t. cond_both (nat_eq tail.end n) _ _ P
    (λ w. let here = eqb-true tail.end n w in written_went job ts s v up (appended tail) (outcome.Stored n) joint stream e some (omega arith) (omega arith) refl (omega arith))
    (λ w. let differs = eqb-false tail.end n w in let near = ltb-false tail.end n t in
    written_went job ts s v up tail (cond (nat_lt n tail.from) (outcome.Old n) (outcome.Known n)) joint stream e some (omega arith) (omega arith)
    (cond_both (nat_lt n tail.from) (outcome.Old n) (outcome.Known n) (λ o. is_wait o ≡ false) (λ k. refl) (λ k. refl)) (omega (arith, differs))))

nothing_went : (job : JobNumbers) (ts : List Trigger) (s : State) (v : ℕ) (up : InstNumbers) → Joint job s → IsStream job v → inst_at s v 0 ≡ Some up
    → (next (vertex job v) up ≤ (tail_at s v).end → is_idle_at job s v ≡ true)
    → Went job ts s v (with_inst_and_tail s v 0 (offer_nothing up (next (vertex job v) up) (tail_at s v)))
unfolding offer_nothing
nothing_went job ts s v up joint stream e idle =
    let tail = tail_at s v in
    let n = next (vertex job v) up in
    let P : InstAndTailStep → Type 0 = λ did. Went job ts s v (with_inst_and_tail s v 0 did) in
    cond_both (nat_lt tail.end n) _ _ P (λ t. gap_went job ts s v up joint stream e (ltb-true tail.end n t))
    (λ t. inl (idle (ltb-false tail.end n t), refl))

pub write_went : (job : JobNumbers) (ts : List Trigger) (s : State) (v : ℕ) (up : InstNumbers) → Joint job s → IsStream job v → inst_at s v 0 ≡ Some up
    → (up.left ≡ 0 → next (vertex job v) up ≤ (tail_at s v).end → is_idle_at job s v ≡ true) → Went job ts s v (step job s (act.Write v 0))
write_went job ts s v up joint stream e idle =
    let x = vertex job v in
    let tail = tail_at s v in
    let P : InstAndTailStep → Type 0 = λ did. Went job ts s v (with_inst_and_tail s v 0 did) in
    subst (λ p. P (write_act x p tail)) (sym e)
    (cond_both (nat_eq up.left 0) (offer_nothing up (next x up) tail) (offer up (next x up) tail) P
    (λ t. nothing_went job ts s v up joint stream e (idle (eqb-true up.left 0 t)))
    (λ t. offer_went job ts s v up joint stream e (eqb-false up.left 0 t)))
