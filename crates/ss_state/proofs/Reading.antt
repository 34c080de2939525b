-- The parts stand after a read and a load.
use Rattle.std.proofs.Common.{◌≡◌, ℕ, ◌+◌, ◌-◌, ◌<◌, ◌≤◌, false, cond, nat_lt, nat_le, Option, Some, None, length, refl, ap, subst, ⊎_elim, arith, ltb-true, sym}
use Rattle.std.proofs.lemmas.Bool.{cases_eq, cond_both, leb-false, true≢false}
use Rattle.ss_water.specs.Graph.{is_sink}
use Rattle.ss_water.specs.declared.node.Kind.{Kind}
use Rattle.ss_water.specs.declared.node.Kind.TheVariants.{Source, Inner, Sink}
use Rattle.ss_fail.specs.declared.outcome.Outcome.TheVariants as outcome
use Rattle.ss_state.specs.Numbers.{JobNumbers, IsStream, is_inner, vertex, input, mlen, pos, out, wanted_input, wanted_number}
use Rattle.ss_state.specs.State.{TailNumbers, InstNumbers, State}
use Rattle.ss_state.specs.State.{tail_at, inst_at, durable_at}
use Rattle.ss_state.specs.LowWater.{snap_within}
use Rattle.ss_state.specs.Tails.{restarted}
use Rattle.ss_state.specs.Acts.{InstStep, accepted, got, waits, gone, tail_answer, vault_answer, list_answer, read_act}
use Rattle.ss_state.specs.Acts.{needs_vault, read_tail, read_vault, read_list, load_tail, load_inst, load_act}
use Rattle.ss_state.specs.Step.{wanted_vertex, read_inner, read_at}
use Rattle.ss_state.specs.IsNumbers.{IsNumbers}
use Rattle.ss_state.specs.Joint.{most_of, MayAccept}
use Rattle.ss_state.proofs.Parts.{TailFits, PartsFit}
use Rattle.ss_state.proofs.Counting.{pos_zero, pos_le, pos_next_same, pos_next_other, out_whole}
use Rattle.ss_state.proofs.Lows.{may_accept_none}
use Rattle.ss_state.proofs.Lows.{within_in}
use Rattle.ss_state.proofs.Frames.{MayBe}
use Rattle.ss_state.proofs.Writes.{was_up, BothMayBe, same_tail, none_is_up, one_is_up, restarted_stands}

-- an act may leave such a replica
abbrev InstMayBe : JobNumbers → State → ℕ → InstStep → Type 0
InstMayBe job s v did = (up : InstNumbers) → did.inst ≡ Some up → out (vertex job v) up.n ≤ job.max_elements → MayBe job s v up

-- a source has no inputs
pub source_inputs : (job : JobNumbers) → IsNumbers job → (v : ℕ) → IsStream job v → is_inner (vertex job v).kind ≡ false → length (vertex job v).inputs ≡ 0
source_inputs job numbers v stream plain = (numbers.each v stream.0).source (by_cases (vertex job v).kind stream.1 plain)
  where
    by_cases : (k : Kind) → is_sink k ≡ false → is_inner k ≡ false → k ≡ Source
    by_cases Source a b = refl
    by_cases Inner a b = absurd (true≢false b)
    by_cases Sink a b = absurd (true≢false a)

-- what can be accepted next
pub record IsThere (job : JobNumbers) (s : State) (v n : ℕ) : Type 0 where
  pub few : wanted_number (vertex job v) n < job.max_elements
  pub reached : (tail_at s (input (vertex job v) (wanted_input (vertex job v) n))).torn ≡ false
      → wanted_number (vertex job v) n < (tail_at s (input (vertex job v) (wanted_input (vertex job v) n))).end

accepted_may : (job : JobNumbers) (s : State) (v : ℕ) (up : InstNumbers) → MayBe job s v up → up.n < mlen (vertex job v)
    → IsThere job s v up.n → out (vertex job v) (up.n + 1) ≤ job.max_elements → MayBe job s v (accepted (vertex job v) up.n)
accepted_may job s v up may h there limit =
    let x = vertex job v in
    let n = up.n in
    let before : out x (n + 1 - 1) ≡ out x n = ap (out x) (let e : n + 1 - 1 ≡ n = omega arith in e) in
    record {
      stands = record {
        accepted = record {
          within = omega arith;
          out = limit;
          pos = λ i. ⊎_elim
              (λ same. subst (λ j. pos x (n + 1) j ≤ job.max_elements) same (let less = there.few in let more = pos_next_same x n h in omega arith))
              (λ other. let old = may.stands.accepted.pos i in let same = pos_next_other x n i h other in omega arith)
              (cases_eq (wanted_input x n) i);
        };
        left = omega arith;
      };
      read = λ i k torn. ⊎_elim
          (λ same. subst (λ j. (tail_at s (input x j)).torn ≡ false → pos x (n + 1) j ≤ (tail_at s (input x j)).end) same
          (λ whole. let less = there.reached whole in let more = pos_next_same x n h in omega arith) torn)
          (λ other. let old = may.read i k torn in let same = pos_next_other x n i h other in omega arith)
          (cases_eq (wanted_input x n) i);
    }

waits_may : (job : JobNumbers) (s : State) (v : ℕ) (up : InstNumbers) → MayBe job s v up → MayBe job s v (record { n = up.n; left = 0 })
waits_may job s v up may = record { stands = record { accepted = may.stands.accepted; left = omega arith }; read = may.read }

got_may : (job : JobNumbers) (s : State) (v n i number : ℕ) → (out (vertex job v) (n + 1) ≤ job.max_elements → MayBe job s v (accepted (vertex job v) n))
    → InstMayBe job s v (got (vertex job v) n i number)
got_may job s v n i number may other e limit =
    let x = vertex job v in
    let same : accepted x n ≡ other = cc in
    let few : out x (n + 1) ≤ job.max_elements = subst (λ (p : InstNumbers). out x p.n ≤ job.max_elements) (sym same) limit in
    subst (MayBe job s v) same (may few)

wait_may : (job : JobNumbers) (s : State) (v : ℕ) (up : InstNumbers) (i number : ℕ) → MayBe job s v up → InstMayBe job s v (waits up.n i number)
wait_may job s v up i number may other e limit = one_is_up job s v (record { n = up.n; left = 0 }) other (waits_may job s v up may) e

gone_may : (job : JobNumbers) (s : State) (v i number : ℕ) → InstMayBe job s v (gone i number)
gone_may job s v i number other e limit = none_is_up job s v other e

-- a replica that is up reads, where the answer may be given to one that is ready
up_reads : (job : JobNumbers) (s : State) (v : ℕ) (up : InstNumbers) (answer : ℕ → InstStep) → MayBe job s v up → (up.n < mlen (vertex job v) → InstMayBe job s v (answer up.n))
    → InstMayBe job s v (read_act (vertex job v) (Some up) answer)
up_reads job s v up answer may ready =
    cond_both (nat_lt 0 up.left) _ _ (InstMayBe job s v)
    (λ t other e limit. one_is_up job s v up other may e)
    (λ t. cond_both (nat_le (mlen (vertex job v)) up.n) _ _ (InstMayBe job s v) (λ k other e limit. one_is_up job s v up other may e)
    (λ k. ready (leb-false (mlen (vertex job v)) up.n k)))

tail_may : (job : JobNumbers) (s : State) (v : ℕ) (up : InstNumbers) → PartsFit job s → MayBe job s v up → up.n < mlen (vertex job v)
    → InstMayBe job s v (tail_answer (vertex job v) up.n (tail_at s (input (vertex job v) (wanted_input (vertex job v) up.n))))
unfolding tail_answer
tail_may job s v up stands may h =
    let x = vertex job v in
    let i = wanted_input x up.n in
    let tail = tail_at s (input x i) in
    cond_both (nat_lt (wanted_number x up.n) tail.end) _ _ (InstMayBe job s v)
    (λ t.
    let less = ltb-true (wanted_number x up.n) tail.end t in
    let few = (stands.tail (input x i)).end in
    got_may job s v up.n i (wanted_number x up.n) (accepted_may job s v up may h (record { few = omega arith; reached = λ whole. less })))
    (λ t. wait_may job s v up i (wanted_number x up.n) may)

vault_may : (job : JobNumbers) (s : State) (v : ℕ) (up : InstNumbers) → PartsFit job s → MayBe job s v up → up.n < mlen (vertex job v)
    → InstMayBe job s v (vault_answer (vertex job v) up.n (durable_at s (input (vertex job v) (wanted_input (vertex job v) up.n))))
unfolding vault_answer
vault_may job s v up stands may h =
    let x = vertex job v in
    let i = wanted_input x up.n in
    let number = wanted_number x up.n in
    let u = input x i in
    cond_both (nat_lt number (durable_at s u).base) _ _ (InstMayBe job s v) (λ t. gone_may job s v i number)
    (λ k. cond_both (nat_lt number (durable_at s u).dur) _ _ (InstMayBe job s v)
    (λ t. let less = ltb-true number (durable_at s u).dur t in
    let few = (stands.tail u).durable in
    got_may job s v up.n i number (accepted_may job s v up may h (record { few = omega arith; reached = λ whole. let all = (stands.tail u).whole whole in omega arith })))
    (λ t. wait_may job s v up i number may))

inner_may : (job : JobNumbers) (s : State) (v r : ℕ) → PartsFit job s → InstMayBe job s v (read_inner job s v r)
inner_may job s v r stands = by_inst (inst_at s v r) refl
  where
    by_inst : (p : Option InstNumbers) → inst_at s v r ≡ p
        → InstMayBe job s v (cond (needs_vault (vertex job v) p (tail_at s (wanted_vertex (vertex job v) p)))
        (read_vault (vertex job v) p (durable_at s (wanted_vertex (vertex job v) p))) (read_tail (vertex job v) p (tail_at s (wanted_vertex (vertex job v) p))))
    by_inst None e = λ other k limit. none_is_up job s v other k
    by_inst (Some up) e =
        let may = was_up job s v r up stands e in
        let x = vertex job v in
        let u = input x (wanted_input x up.n) in
        cond_both (needs_vault x (Some up) (tail_at s u)) _ _ (InstMayBe job s v)
        (λ t. up_reads job s v up (λ n. vault_answer x n (durable_at s u)) may (λ h. vault_may job s v up stands may h))
        (λ t. up_reads job s v up (λ n. tail_answer x n (tail_at s u)) may (λ h. tail_may job s v up stands may h))

-- a source that has accepted n elements has given them
no_inputs : (job : JobNumbers) (s : State) (v : ℕ) (up : InstNumbers) → length (vertex job v).inputs ≡ 0 → up.n ≤ mlen (vertex job v) → out (vertex job v) up.n ≡ up.n
    → out (vertex job v) up.n ≤ job.max_elements → up.left ≤ out (vertex job v) up.n - out (vertex job v) (up.n - 1) → MayBe job s v up
no_inputs job s v up none h plain limit left =
    let x = vertex job v in
    record {
      stands = record {
        accepted = record { within = h; out = limit; pos = λ i. let most = pos_le x up.n i in omega arith };
        left = left;
      };
      read = λ i within. absurd (omega arith);
    }

list_may : (job : JobNumbers) (s : State) (v : ℕ) (up : InstNumbers) → length (vertex job v).inputs ≡ 0 → ((n : ℕ) → n ≤ mlen (vertex job v) → out (vertex job v) n ≡ n)
    → up.n < mlen (vertex job v) → InstMayBe job s v (list_answer (vertex job v) up.n (durable_at s v).mark)
unfolding list_answer
list_may job s v up none plain h =
    let x = vertex job v in
    let more : up.n + 1 ≤ mlen x = omega arith in
    let before : out x (up.n + 1 - 1) ≡ out x up.n = ap (out x) (let e : up.n + 1 - 1 ≡ up.n = omega arith in e) in
    cond_both (nat_lt up.n (durable_at s v).mark) _ _ (InstMayBe job s v) (λ t. gone_may job s v 0 up.n)
    (λ t. got_may job s v up.n 0 up.n (λ limit. no_inputs job s v (accepted x up.n) none more (plain (up.n + 1) more) limit (omega arith)))

source_may : (job : JobNumbers) (s : State) (v r : ℕ) → PartsFit job s → length (vertex job v).inputs ≡ 0 → ((n : ℕ) → n ≤ mlen (vertex job v) → out (vertex job v) n ≡ n)
    → InstMayBe job s v (read_list (vertex job v) (inst_at s v r) (durable_at s v).mark)
source_may job s v r stands none plain = by_inst (inst_at s v r) refl
  where
    by_inst : (p : Option InstNumbers) → inst_at s v r ≡ p → InstMayBe job s v (read_list (vertex job v) p (durable_at s v).mark)
    by_inst None e = λ other k limit. none_is_up job s v other k
    by_inst (Some up) e =
        up_reads job s v up (λ n. list_answer (vertex job v) n (durable_at s v).mark) (was_up job s v r up stands e) (λ h. list_may job s v up none plain h)

pub read_may : (job : JobNumbers) → IsNumbers job → (s : State) (v r : ℕ) → IsStream job v → PartsFit job s
    → (up : InstNumbers) → (read_at job s v r).inst ≡ Some up → out (vertex job v) up.n ≤ job.max_elements → MayBe job s v up
unfolding read_at
read_may job numbers s v r stream stands =
    cond_both (is_inner (vertex job v).kind) _ _ (InstMayBe job s v)
    (λ e. inner_may job s v r stands) (λ e. source_may job s v r stands (source_inputs job numbers v stream e) ((numbers.each v stream.0).plain e))

-- Load

loaded_tail : (job : JobNumbers) (s : State) (v : ℕ) → PartsFit job s
    → TailFits (most_of job v) (load_tail (tail_at s v) (durable_at s v)) (durable_at s v)
    × ((load_tail (tail_at s v) (durable_at s v)).torn ≡ false
    → ((tail_at s v).torn ≡ false) × ((tail_at s v).end ≤ (load_tail (tail_at s v) (durable_at s v)).end))
unfolding load_tail
loaded_tail job s v stands =
    let tail = tail_at s v in
    let row = durable_at s v in
    let P : TailNumbers → Type 0 = λ t. TailFits (most_of job v) t row × (t.torn ≡ false → (tail.torn ≡ false) × (tail.end ≤ t.end)) in
    cond_both (nat_lt tail.end row.dur) (restarted tail row.dur) tail P
    (λ t. (restarted_stands (most_of job v) tail row row.dur (stands.tail v) (omega arith), λ e. absurd (true≢false e)))
    (λ t. (stands.tail v, λ e. (e, omega arith)))

begun_may : (job : JobNumbers) → IsNumbers job → (s : State) (v : ℕ) (tail : TailNumbers) → IsStream job v → PartsFit job s → tail.end ≤ most_of job v
    → MayBe job s v (load_inst (vertex job v) tail (durable_at s v))
unfolding load_inst
begun_may job numbers s v tail stream stands most =
    let x = vertex job v in
    let row = durable_at s v in
    cond_both (is_inner x.kind) (snap_within x row.snaps tail.end) tail.end (λ n. MayBe job s v (record { n = n; left = 0 }))
    (λ e.
    let n = snap_within x row.snaps tail.end in ⊎_elim
    (λ none. record {
      stands = record { accepted = subst (MayAccept job.max_elements x) (sym none) (may_accept_none job.max_elements x); left = omega arith };
      read = λ i h torn. let zero_pos = pos_zero x i in let same : pos x n i ≡ pos x 0 i = ap (λ m. pos x m i) none in omega arith;
    })
    (λ some. record {
      stands = record { accepted = (stands.row v).snaps n some; left = omega arith };
      read = λ i h torn. stands.snapped v i n some h torn;
    })
    (within_in x row.snaps tail.end))
    (λ e.
    let is = numbers.each v stream.0 in
    let whole = is.plain e (mlen x) (omega arith) in
    let all = out_whole x is.given in
    let within : tail.end ≤ mlen x = omega arith in
    let plain = is.plain e tail.end within in
    no_inputs job s v (record { n = tail.end; left = 0 }) (source_inputs job numbers v stream e) within plain (omega arith) (omega arith))

pub load_may : (job : JobNumbers) → IsNumbers job → (s : State) (v r : ℕ) → IsStream job v → PartsFit job s
    → BothMayBe job s v (load_act (vertex job v) (inst_at s v r) (tail_at s v) (durable_at s v))
load_may job numbers s v r stream stands = by_inst (inst_at s v r) refl
  where
    by_inst : (p : Option InstNumbers) → inst_at s v r ≡ p → BothMayBe job s v (load_act (vertex job v) p (tail_at s v) (durable_at s v))
    by_inst (Some up) e = same_tail job s v (Some up) outcome.Up stands (λ other k. one_is_up job s v up other (was_up job s v r up stands e) k)
    by_inst None e =
        let begun = loaded_tail job s v stands in
        let tail = load_tail (tail_at s v) (durable_at s v) in
        record {
          tail = begun.0;
          reaches = begun.1;
          inst = λ up k. one_is_up job s v (load_inst (vertex job v) tail (durable_at s v)) up
              (begun_may job numbers s v tail stream stands begun.0.end) k;
        }
