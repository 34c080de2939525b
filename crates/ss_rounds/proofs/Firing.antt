-- What failures leave, and that those which a write makes due leave less than was left before it.
use Rattle.std.proofs.Common.{◌≡◌, ◌≢◌, ℕ, ◌+◌, ◌-◌, ◌^◌, min, ◌<◌, ◌≤◌, nat_eq, nat_lt, Bool, true, false, ◌&&◌, cond, Option, Some, None, List, [], ◌∷◌, length, refl, sym, ap, ◌∙◌, subst, inl, inr, ⊎_elim, arith, ltb-true, lt-ltb}
use Rattle.std.specs.List.{AllByRecursion}
use Rattle.std.proofs.lemmas.Bool.{cond_both, cases_eq, eqb-true}
use Rattle.std.proofs.lemmas.List.{get_or-set_same, get_or-set_other}
use Rattle.ss_water.specs.Graph.{is_sink}
use Rattle.ss_fail.specs.declared.act.Act.TheVariants as act
use Rattle.ss_fail.specs.declared.trigger.Trigger.{Trigger}
use Rattle.ss_fail.specs.declared.outcome.Outcome.TheVariants as outcome
use Rattle.ss_state.specs.Numbers.{JobNumbers, IsStream, vertex}
use Rattle.ss_state.specs.State.{TailNumbers, InstNumbers, LedgerRow, State, new_tail, tail_at, inst_at, durable_at, put_tail, put_inst, next}
use Rattle.ss_state.specs.Tails.{appended, restarted}
use Rattle.ss_state.specs.Acts.{InstAndTailStep, with_one_written, offer, offer_nothing, write_act}
use Rattle.ss_state.specs.Rule.{is_stored, acts_at, IsTrigger}
use Rattle.ss_state.specs.Joint.{Joint}
use Rattle.ss_rounds.specs.Measure.{sum_to, waiting, work_most, far, near, total_left}
use Rattle.ss_rounds.specs.Whole.{LeftByFailures}
use Rattle.ss_rounds.specs.Laws.{FailuresLeaveTheRest, FiredFailuresLowerTheTotal}
use Rattle.ss_rounds.proofs.Sums.{Lower, rank_first, sums_lower}
use Rattle.ss_rounds.proofs.Parts.{waiting_le, store_le, store_by_waiting}
use Rattle.ss_rounds.proofs.Frames.{far_stream, far_sink, nears_fit}

-- a number of the tail at u, where the tail of v is another with the same number
same_number : (t : State) (v u : ℕ) (tail : TailNumbers) (number : TailNumbers → ℕ) → v < length t.tails → number tail ≡ number (tail_at t v) → number (tail_at (put_tail t v tail) u) ≡ number (tail_at t u)
same_number t v u tail number h e = ⊎_elim
    (λ same. subst (λ k. number (tail_at (put_tail t v tail) k) ≡ number (tail_at t k)) (sym same) (ap number (get_or-set_same t.tails v tail new_tail h) ∙ e))
    (λ differs. ap number (get_or-set_other t.tails v u tail new_tail differs))
    (cases_eq u v)

pub failures_leave_the_rest : FailuresLeaveTheRest
failures_leave_the_rest job s t (act.Crash v r) joint may fails fell = record { stored = fell.stored; seen = fell.seen; row = fell.row }
failures_leave_the_rest job s t (act.Lose v) joint may fails fell =
    let tail = tail_at t v in
    let lost : TailNumbers = restarted tail tail.seen in
    let h : v < length t.tails = omega (arith, joint.tails, may.0) in
    record {
      stored = λ u. same_number t v u lost (λ a. a.stored) h refl ∙ fell.stored u;
      seen = λ u. same_number t v u lost (λ a. a.seen) h refl ∙ fell.seen u;
      row = fell.row;
    }
failures_leave_the_rest job s t a joint may fails fell = absurd fails

-- fewer triggers wait for a later write than before one that made some due
fewer_wait : (job : JobNumbers) (ts : List Trigger) (v stored new : ℕ) → AllByRecursion (IsTrigger job) ts → stored < 2 ^ 64 → new ≡ min (stored + 1) (2 ^ 64 - 1) → acts_at ts v new ≢ []
    → waiting ts v new < waiting ts v stored
fewer_wait job [] v stored new all h e some = absurd (some refl)
fewer_wait job (t ∷ ts) v stored new all h e some =
    by_tests (nat_eq t.v v) (nat_eq t.count new) (nat_lt new t.count) (nat_lt stored t.count) some
    (λ k. let same = eqb-true t.count new k in lt-ltb stored t.count (omega (arith, all.0.count)))
    (λ k. let same = eqb-true t.count new k in λ l. let less = ltb-true new t.count l in omega arith)
    (λ k. let less = ltb-true new t.count k in lt-ltb stored t.count (omega arith))
    (waiting_le ts v stored new (omega arith)) (fewer_wait job ts v stored new all.1 h e)
  where
    by_tests : (a b c d : Bool) → cond (a && b) (t.act ∷ acts_at ts v new) (acts_at ts v new) ≢ []
        → (b ≡ true → d ≡ true) → (b ≡ true → c ≡ true → ⊥) → (c ≡ true → d ≡ true) → waiting ts v new ≤ waiting ts v stored
        → (acts_at ts v new ≢ [] → waiting ts v new < waiting ts v stored)
        → cond (a && c) (waiting ts v new + 1) (waiting ts v new) < cond (a && d) (waiting ts v stored + 1) (waiting ts v stored)
    by_tests false b c d due f g k l rest = rest due
    by_tests true b true false due f g k l rest = let e = k refl in cc
    by_tests true true true true due f g k l rest = absurd (g refl refl)
    by_tests true true false true due f g k l rest = omega arith
    by_tests true true false false due f g k l rest = let e = f refl in cc
    by_tests true false true true due f g k l rest = let less = rest due in omega arith
    by_tests true false false d due f g k l rest = let less = rest due in more d less
      where
        more : (d : Bool) → waiting ts v new < waiting ts v stored → waiting ts v new < cond d (waiting ts v stored + 1) (waiting ts v stored)
        more true less = omega arith
        more false less = less

-- what is far isn't more where no trigger more waits, and seen and row are as before
far_kept : (job : JobNumbers) (ts : List Trigger) (s t : State) (u : ℕ) → (tail_at s u).stored ≤ (tail_at t u).stored → (tail_at t u).seen ≡ (tail_at s u).seen → durable_at t u ≡ durable_at s u
    → far job ts t u ≤ far job ts s u
far_kept job ts s t u stored seen row = by_test (is_sink (vertex job u).kind) refl
  where
    by_test : (b : Bool) → is_sink (vertex job u).kind ≡ b → far job ts t u ≤ far job ts s u
    by_test true e =
        let was = far_sink job ts s u e in
        let is = far_sink job ts t u e in
        let same : (durable_at t u).taken ≡ (durable_at s u).taken = ap (λ (r : LedgerRow). r.taken) row in
        omega arith
    by_test false e =
        let was = far_stream job ts s u e in
        let is = far_stream job ts t u e in
        let dur : (durable_at t u).dur ≡ (durable_at s u).dur = ap (λ (r : LedgerRow). r.dur) row in
        let less = store_le (vertex job u) (waiting ts u (tail_at s u).stored) (waiting ts u (tail_at t u).stored) (tail_at s u) (tail_at t u) (durable_at s u) (durable_at t u)
        (waiting_le ts u (tail_at s u).stored (tail_at t u).stored stored) (omega arith) dur in
        omega arith

-- where fewer triggers wait at v, and elsewhere what is far is no more
fewer_left : (job : JobNumbers) (ts : List Trigger) (s t : State) (v : ℕ) → IsStream job v → waiting ts v (tail_at t v).stored < waiting ts v (tail_at s v).stored
    → ((u : ℕ) → (u ≡ v → ⊥) → far job ts t u ≤ far job ts s u) → total_left job ts t < total_left job ts s
unfolding total_left
fewer_left job ts s t v stream less other =
    let all = length job.vertices in
    let x = vertex job v in
    let was = far_stream job ts s v stream.1 in
    let is = far_stream job ts t v stream.1 in
    let here = store_by_waiting x (waiting ts v (tail_at s v).stored) (waiting ts v (tail_at t v).stored) (tail_at s v) (tail_at t v) (durable_at s v) (durable_at t v) less in
    let far_less : sum_to (far job ts t) all < sum_to (far job ts s) all =
    first_less (sum_to (far job ts s) all) (sum_to (λ u. 0) all) (sum_to (far job ts t) all)
    (sums_lower (far job ts s) (λ u. 0) (far job ts t) (λ u. 0) all v stream.0 (inl (omega arith)) (λ u h differs. inr (other u differs, omega arith))) in
    rank_first (sum_to (λ u. work_most (vertex job u)) all) (sum_to (far job ts s) all) (sum_to (near job s) all) (sum_to (far job ts t) all) (sum_to (near job t) all)
    far_less (nears_fit job t all)
  where
    first_less : (a b c : ℕ) → Lower a b c b → c < a
    first_less a b c (inl h) = h
    first_less a b c (inr h) = absurd (omega arith)

-- failures behind a write that added an element
stored_left : (job : JobNumbers) (ts : List Trigger) (s t : State) (v r : ℕ) (inst : Option InstNumbers) → Joint job s → IsStream job v → AllByRecursion (IsTrigger job) ts
    → acts_at ts v (tail_at (put_inst (put_tail s v (appended (tail_at s v))) v r inst) v).stored ≢ []
    → LeftByFailures (put_inst (put_tail s v (appended (tail_at s v))) v r inst) t → total_left job ts t < total_left job ts s
stored_left job ts s t v r inst joint stream all some fell =
    let tail = tail_at s v in
    let new = appended tail in
    let h : v < length s.tails = omega (arith, joint.tails, stream.0) in
    let made = get_or-set_same s.tails v new new_tail h in
    let stored : (tail_at t v).stored ≡ new.stored = fell.stored v ∙ ap (λ (a : TailNumbers). a.stored) made in
    let due : acts_at ts v (tail_at t v).stored ≢ [] = subst (λ n. acts_at ts v n ≢ []) (sym (fell.stored v)) some in
    fewer_left job ts s t v stream (fewer_wait job ts v tail.stored (tail_at t v).stored all (joint.memory.tail v).count stored due)
    (λ u differs.
    let same = get_or-set_other s.tails v u new new_tail differs in
    let count : (tail_at t u).stored ≡ (tail_at s u).stored = fell.stored u ∙ ap (λ (a : TailNumbers). a.stored) same in
    far_kept job ts s t u (omega arith) (fell.seen u ∙ ap (λ (a : TailNumbers). a.seen) same) (fell.row u))

pub fired_failures_lower_the_total : FiredFailuresLowerTheTotal
unfolding offer offer_nothing
fired_failures_lower_the_total job ts s t v r joint stream all = by_inst (inst_at s v r)
  where
    Fires : InstAndTailStep → Type 0
    Fires did = cond (is_stored did.outcome) (acts_at ts v (tail_at (put_inst (put_tail s v did.tail) v r did.inst) v).stored) [] ≢ []
        → LeftByFailures (put_inst (put_tail s v did.tail) v r did.inst) t → total_left job ts t < total_left job ts s

    by_inst : (p : Option InstNumbers) → Fires (write_act (vertex job v) p (tail_at s v))
    by_inst None = λ some fell. absurd (some refl)
    by_inst (Some up) =
        let x = vertex job v in
        let tail = tail_at s v in
        let n = next x up in
        let done : Option InstNumbers = Some (with_one_written up) in
        cond_both (nat_eq up.left 0) _ _ Fires
        (λ z. cond_both (nat_lt tail.end n) _ _ Fires (λ k some fell. absurd (some refl)) (λ k some fell. absurd (some refl)))
        (λ z. cond_both (nat_lt tail.end n) _ _ Fires (λ k some fell. absurd (some refl))
        (λ k. cond_both (nat_eq tail.end n) _ _ Fires (λ w some fell. stored_left job ts s t v r done joint stream all some fell)
        (λ w. cond_both (nat_lt n tail.from) (outcome.Old n) (outcome.Known n) (λ o. Fires (record { inst = done; tail = tail; outcome = o })) (λ l some fell. absurd (some refl)) (λ l some fell. absurd (some refl)))))
