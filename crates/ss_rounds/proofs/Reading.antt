-- What a first replica's read brings, where the rule names it.
use Rattle.std.proofs.Common.{◌≡◌, ℕ, ◌+◌, ◌<◌, ◌≤◌, nat_lt, nat_le, not, ◌&&◌, ◌||◌, true, false, cond, Option, Some, None, List, [], set, refl, sym, ap, ◌∙◌, subst, inl, inr, ⊎_elim, arith, ltb-true, ltb-false, le-leb}
use Rattle.std.proofs.lemmas.Bool.{cond_both, cond-false, and_cases, or_from, or_parts, not-false, both_ways, cases_lt, leb-false}
use Rattle.std.proofs.lemmas.List.{set-get_or}
use Rattle.ss_fail.specs.declared.act.Act.TheVariants as act
use Rattle.ss_fail.specs.declared.trigger.Trigger.{Trigger}
use Rattle.ss_fail.specs.declared.outcome.Outcome.TheVariants as outcome
use Rattle.ss_state.specs.Numbers.{VertexNumbers, JobNumbers, IsStream, is_inner, vertex, input, mlen, size, wanted_input, wanted_number}
use Rattle.ss_state.specs.State.{InstNumbers, State, tail_at, insts_at, inst_at, durable_at, put_inst, next}
use Rattle.ss_state.specs.LowWater.{low}
use Rattle.ss_state.specs.Acts.{InstStep, accepted, got, waits, gone, asks_vault, tail_answer, vault_answer, list_answer, read_act, needs_vault, read_tail, read_vault, read_list}
use Rattle.ss_state.specs.Step.{step, with_inst, wanted_vertex, read_inner, read_at}
use Rattle.ss_state.specs.Rule.{snap_due, last_snap}
use Rattle.ss_state.specs.Laws.{PositionsNeverFall, OutNeverFalls}
use Rattle.ss_state.specs.Joint.{Joint}
use Rattle.ss_rounds.specs.Measure.{floor}
use Rattle.ss_rounds.specs.Whole.{WholeBelow}
use Rattle.ss_rounds.proofs.Counting.{pos_next}
use Rattle.ss_rounds.proofs.Parts.{bit_most, stage_two, stage_le}
use Rattle.ss_rounds.proofs.Going.{Went, inst_went}
use Rattle.ss_rounds.proofs.Snapping.{low_inner, floor_inner}
use Rattle.ss_rounds.proofs.Loading.{floor_plain}

-- a first replica that is ready to read
record Ready (job : JobNumbers) (s : State) (v : ℕ) (up : InstNumbers) : Type 0 where
  joint : Joint job s
  stream : IsStream job v
  is : inst_at s v 0 ≡ Some up
  none : up.left ≡ 0
  more : up.n < mlen (vertex job v)

abbrev Answers : JobNumbers → List Trigger → State → ℕ → InstStep → Type 0
Answers job ts s v did = Went job ts s v (with_inst s v 0 did)

got_went : OutNeverFalls → (job : JobNumbers) (ts : List Trigger) (s : State) (v : ℕ) (up : InstNumbers) (i number : ℕ) → Ready job s v up → Answers job ts s v (got (vertex job v) up.n i number)
got_went never job ts s v up i number ready =
    let x = vertex job v in
    let row = durable_at s v in
    let end = (tail_at s v).end in
    let new = accepted x up.n in
    let rise = never x up.n (up.n + 1) (omega arith) in
    let same : next x new ≡ next x up = omega (arith, ready.none) in
    let one = bit_most (snap_due x new.n (last_snap row.snaps)) in
    let h = ready.more in
    inst_went job ts s v (Some up) (Some new) (outcome.Got i number) ready.joint ready.stream ready.is refl
    (inr (stage_le x up new end end (floor x row) (floor x row) (λ l. omega arith) (λ l. omega arith), omega arith))

gone_went : (job : JobNumbers) (ts : List Trigger) (s : State) (v : ℕ) (up : InstNumbers) (i number : ℕ) → Ready job s v up → up.n < floor (vertex job v) (durable_at s v)
    → Answers job ts s v (gone i number)
gone_went job ts s v up i number ready behind =
    let two = stage_two (vertex job v) up (tail_at s v).end (floor (vertex job v) (durable_at s v)) (inr behind) in
    inst_went job ts s v (Some up) None (outcome.Gone i number) ready.joint ready.stream ready.is refl (inl (omega arith))

-- a replica that is put where it was
same_put : (s : State) (v : ℕ) (inst : Option InstNumbers) → inst_at s v 0 ≡ inst → put_inst s v 0 inst ≡ s
same_put s v inst e =
    let insts : set (insts_at s v) 0 inst ≡ insts_at s v = ap (set (insts_at s v) 0) (sym e) ∙ set-get_or (insts_at s v) 0 None in
    let all : set s.insts v (set (insts_at s v) 0 inst) ≡ s.insts = ap (set s.insts v) insts ∙ set-get_or s.insts v [] in
    ap (λ ps. record s { insts = ps }) all

waits_went : (job : JobNumbers) (ts : List Trigger) (s : State) (v : ℕ) (up : InstNumbers) (i number : ℕ) → Ready job s v up → (WholeBelow job s v → ⊥) → Answers job ts s v (waits up.n i number)
waits_went job ts s v up i number ready not_whole =
    let put : Option InstNumbers = Some (record { n = up.n; left = 0 }) in
    let same : inst_at s v 0 ≡ put = ready.is ∙ ap (λ l. Some (record { n = up.n; left = l })) ready.none in
    inr (inr (same_put s v put same, refl, not_whole))

-- what it wants is an element of an earlier stream
record Wants (job : JobNumbers) (s : State) (v n u : ℕ) : Type 0 where
  number : wanted_number (vertex job v) n < size (vertex job u)
  whole : WholeBelow job s v → size (vertex job u) ≤ (durable_at s u).dur
  behind : wanted_number (vertex job v) n < (durable_at s u).base → n < floor (vertex job v) (durable_at s v)

wants : PositionsNeverFall → (job : JobNumbers) (s : State) (v : ℕ) (up : InstNumbers) → Ready job s v up → is_inner (vertex job v).kind ≡ true
    → Wants job s v up.n (input (vertex job v) (wanted_input (vertex job v) up.n))
wants never job s v up ready inner =
    let x = vertex job v in
    let n = up.n in
    let i = wanted_input x n in
    let u = input x i in
    let row = durable_at s v in
    let is = ready.joint.numbers.each v ready.stream.0 in
    let h = ready.more in
    let arrives = is.arrivals inner n h in
    let step_on = pos_next x n h in
    let rise = never x (n + 1) (mlen x) i (omega arith) in
    let all = is.whole inner i arrives in
    let before = is.earlier i arrives in
    let last = ready.stream.0 in
    record {
      number = omega arith;
      whole = λ below. below u before (omega arith, is.streams i arrives);
      behind = λ l. ⊎_elim (λ less. less)
          (λ ahead.
          let kept = ready.joint.vault.stands.needed v i inner arrives in
          let at_low : low x row ≤ n = omega (arith, floor_inner x row inner, low_inner x row inner) in
          let less = never x (low x row) n i at_low in absurd (omega arith))
          (cases_lt n (floor x row));
    }

vault_went : PositionsNeverFall → OutNeverFalls → (job : JobNumbers) (ts : List Trigger) (s : State) (v : ℕ) (up : InstNumbers) → Ready job s v up → is_inner (vertex job v).kind ≡ true
    → Answers job ts s v (vault_answer (vertex job v) up.n (durable_at s (input (vertex job v) (wanted_input (vertex job v) up.n))))
unfolding vault_answer
vault_went positions never job ts s v up ready inner =
    let x = vertex job v in
    let i = wanted_input x up.n in
    let number = wanted_number x up.n in
    let row = durable_at s (input x i) in
    let want = wants positions job s v up ready inner in
    cond_both (nat_lt number row.base) _ _ (Answers job ts s v)
    (λ t. gone_went job ts s v up i number ready (want.behind (ltb-true number row.base t)))
    (λ t. cond_both (nat_lt number row.dur) _ _ (Answers job ts s v) (λ w. got_went never job ts s v up i number ready)
    (λ w. let past = ltb-false number row.dur w in
    waits_went job ts s v up i number ready (λ below. let all = want.whole below in let less = want.number in absurd (omega arith))))

tail_went : PositionsNeverFall → OutNeverFalls → (job : JobNumbers) (ts : List Trigger) (s : State) (v : ℕ) (up : InstNumbers) → Ready job s v up → is_inner (vertex job v).kind ≡ true
    → asks_vault (vertex job v) up.n (tail_at s (input (vertex job v) (wanted_input (vertex job v) up.n))) ≡ false
    → Answers job ts s v (tail_answer (vertex job v) up.n (tail_at s (input (vertex job v) (wanted_input (vertex job v) up.n))))
unfolding tail_answer
tail_went positions never job ts s v up ready inner asks =
    let x = vertex job v in
    let i = wanted_input x up.n in
    let u = input x i in
    let number = wanted_number x up.n in
    let tail = tail_at s u in
    let want = wants positions job s v up ready inner in
    let stands = ready.joint.memory.tail u in
    let behind = (or_parts (nat_lt number tail.from) (tail.torn && nat_le tail.end number) asks).1 in
    cond_both (nat_lt number tail.end) _ _ (Answers job ts s v) (λ w. got_went never job ts s v up i number ready)
    (λ w.
    let past = ltb-false number tail.end w in
    let kept : tail.torn ≡ false = ⊎_elim (λ e. e) (λ e. absurd (both_ways (nat_le tail.end number) e (le-leb tail.end number past))) (and_cases tail.torn (nat_le tail.end number) behind) in
    let reach = stands.whole kept in
    waits_went job ts s v up i number ready (λ below. let all = want.whole below in let less = want.number in absurd (omega arith)))

-- where it reads, the answer is what comes of it
answered : (x : VertexNumbers) (up : InstNumbers) (answer : ℕ → InstStep) → nat_lt 0 up.left ≡ false → nat_le (mlen x) up.n ≡ false → answer up.n ≡ read_act x (Some up) answer
answered x up answer e f = sym (cond-false (nat_lt 0 up.left) _ _ e ∙ cond-false (nat_le (mlen x) up.n) _ _ f)

inner_went : PositionsNeverFall → OutNeverFalls → (job : JobNumbers) (ts : List Trigger) (s : State) (v : ℕ) (up : InstNumbers) → Ready job s v up → is_inner (vertex job v).kind ≡ true
    → nat_lt 0 up.left ≡ false → nat_le (mlen (vertex job v)) up.n ≡ false → Answers job ts s v (read_inner job s v 0)
inner_went positions never job ts s v up ready inner none more =
    let x = vertex job v in
    let u = input x (wanted_input x up.n) in
    let tail = tail_at s u in
    let row = durable_at s u in
    let P : InstStep → Type 0 = Answers job ts s v in
    let is_ready = or_from (nat_lt 0 up.left) (nat_le (mlen x) up.n) none more in
    subst (λ p. P (cond (needs_vault x p (tail_at s (wanted_vertex x p))) (read_vault x p (durable_at s (wanted_vertex x p))) (read_tail x p (tail_at s (wanted_vertex x p))))) (sym ready.is)
    (cond_both (needs_vault x (Some up) tail) (read_vault x (Some up) row) (read_tail x (Some up) tail) P
    (λ t. subst P (answered x up (λ n. vault_answer x n row) none more) (vault_went positions never job ts s v up ready inner))
    (λ t. subst P (answered x up (λ n. tail_answer x n tail) none more)
    (tail_went positions never job ts s v up ready inner
    (⊎_elim (λ e. absurd (both_ways (nat_lt 0 up.left || nat_le (mlen x) up.n) is_ready (not-false (nat_lt 0 up.left || nat_le (mlen x) up.n) e))) (λ e. e)
    (and_cases (not (nat_lt 0 up.left || nat_le (mlen x) up.n)) (asks_vault x up.n tail) t)))))

source_went : OutNeverFalls → (job : JobNumbers) (ts : List Trigger) (s : State) (v : ℕ) (up : InstNumbers) → Ready job s v up → is_inner (vertex job v).kind ≡ false
    → nat_lt 0 up.left ≡ false → nat_le (mlen (vertex job v)) up.n ≡ false → Answers job ts s v (read_list (vertex job v) (inst_at s v 0) (durable_at s v).mark)
unfolding list_answer
source_went never job ts s v up ready plain none more =
    let x = vertex job v in
    let row = durable_at s v in
    let P : InstStep → Type 0 = Answers job ts s v in
    let marked = (ready.joint.vault.stands.row v).mark in
    subst (λ p. P (read_list x p row.mark)) (sym ready.is)
    (subst P (answered x up (λ n. list_answer x n row.mark) none more)
    (cond_both (nat_lt up.n row.mark) (gone 0 up.n) (got x up.n 0 up.n) P
    (λ t. let less = ltb-true up.n row.mark t in gone_went job ts s v up 0 up.n ready (omega (arith, floor_plain x row plain)))
    (λ t. got_went never job ts s v up 0 up.n ready)))

pub read_went : PositionsNeverFall → OutNeverFalls → (job : JobNumbers) (ts : List Trigger) (s : State) (v : ℕ) (up : InstNumbers) → Joint job s → IsStream job v → inst_at s v 0 ≡ Some up
    → nat_lt 0 up.left ≡ false → nat_le (mlen (vertex job v)) up.n ≡ false → Went job ts s v (step job s (act.Read v 0))
unfolding read_at
read_went positions never job ts s v up joint stream e none more =
    let x = vertex job v in
    let few = ltb-false 0 up.left none in
    let ready : Ready job s v up = record { joint = joint; stream = stream; is = e; none = omega arith; more = leb-false (mlen x) up.n more } in
    cond_both (is_inner x.kind) _ _ (Answers job ts s v)
    (λ inner. inner_went positions never job ts s v up ready inner none more)
    (λ plain. source_went never job ts s v up ready plain none more)
