-- From the parts of one vertex to the total.
use Rattle.std.proofs.Common.{◌≡◌, ℕ, ◌-◌, ◌<◌, ◌≤◌, true, false, cond, Option, None, List, [], length, get_or, set, refl, ap, ◌∙◌, inl, inr, arith}
use Rattle.std.proofs.lemmas.Bool.{cond-true, cond-false, cond_both}
use Rattle.std.proofs.lemmas.List.{get_or-set_same, get_or-set_other}
use Rattle.ss_water.specs.Graph.{is_sink}
use Rattle.ss_fail.specs.declared.trigger.Trigger.{Trigger}
use Rattle.ss_state.specs.Numbers.{JobNumbers, IsStream, vertex, input, size}
use Rattle.ss_state.specs.State.{TailNumbers, InstNumbers, LedgerRow, VaultNumbers, State, new_tail, empty_row}
use Rattle.ss_state.specs.State.{tail_at, insts_at, inst_at, durable_at, put_tail, put_inst}
use Rattle.ss_state.specs.Joint.{Joint}
use Rattle.ss_rounds.specs.Measure.{sum_to, waiting, store_left, work_left, work_most, far, near, total_left}
use Rattle.ss_rounds.proofs.Sums.{Lower, NoHigher, rank_lower, rank_no_higher, same_no_higher, sums_no_higher, sums_lower, sums_le}
use Rattle.ss_rounds.proofs.Parts.{work_fits}

-- t differs from s in the tail, the first replica and the row of v alone
pub record Elsewhere (v : ℕ) (s t : State) : Type 0 where
  pub tail : (u : ℕ) → (u ≡ v → ⊥) → tail_at t u ≡ tail_at s u
  pub inst : (u : ℕ) → (u ≡ v → ⊥) → inst_at t u 0 ≡ inst_at s u 0
  pub row : (u : ℕ) → (u ≡ v → ⊥) → durable_at t u ≡ durable_at s u

pub far_stream : (job : JobNumbers) (ts : List Trigger) (s : State) (v : ℕ) → is_sink (vertex job v).kind ≡ false
    → far job ts s v ≡ store_left (vertex job v) (waiting ts v (tail_at s v).stored) (tail_at s v) (durable_at s v)
unfolding far
far_stream job ts s v e = cond-false (is_sink (vertex job v).kind) _ _ e

pub far_sink : (job : JobNumbers) (ts : List Trigger) (s : State) (v : ℕ) → is_sink (vertex job v).kind ≡ true
    → far job ts s v ≡ size (vertex job (input (vertex job v) 0)) - (durable_at s v).taken
unfolding far
far_sink job ts s v e = cond-true (is_sink (vertex job v).kind) _ _ e

pub near_stream : (job : JobNumbers) (s : State) (v : ℕ) → is_sink (vertex job v).kind ≡ false
    → near job s v ≡ work_left (vertex job v) (tail_at s v) (inst_at s v 0) (durable_at s v)
unfolding near
near_stream job s v e = cond-false (is_sink (vertex job v).kind) _ _ e

pub near_sink : (job : JobNumbers) (s : State) (v : ℕ) → is_sink (vertex job v).kind ≡ true → near job s v ≡ 0
unfolding near
near_sink job s v e = cond-true (is_sink (vertex job v).kind) _ _ e

near_fits : (job : JobNumbers) (s : State) (v : ℕ) → near job s v ≤ work_most (vertex job v)
unfolding near
near_fits job s v = cond_both (is_sink (vertex job v).kind) 0 (work_left (vertex job v) (tail_at s v) (inst_at s v 0) (durable_at s v)) (λ n. n ≤ work_most (vertex job v))
    (λ e. omega arith) (λ e. work_fits (vertex job v) (tail_at s v) (inst_at s v 0) (durable_at s v))

pub nears_fit : (job : JobNumbers) (s : State) (n : ℕ) → sum_to (near job s) n ≤ sum_to (λ v. work_most (vertex job v)) n
nears_fit job s n = sums_le (near job s) (λ v. work_most (vertex job v)) n (λ u h. near_fits job s u)

far_same : (job : JobNumbers) (ts : List Trigger) (s t : State) (u : ℕ) → tail_at t u ≡ tail_at s u → durable_at t u ≡ durable_at s u → far job ts t u ≡ far job ts s u
unfolding far
far_same job ts s t u tail row =
    let x = vertex job u in
    let f : TailNumbers → LedgerRow → ℕ = λ a b. cond (is_sink x.kind) (size (vertex job (input x 0)) - b.taken) (store_left x (waiting ts u a.stored) a b) in
    ap (λ a. f a (durable_at t u)) tail ∙ ap (f (tail_at s u)) row

near_same : (job : JobNumbers) (s t : State) (u : ℕ) → tail_at t u ≡ tail_at s u → inst_at t u 0 ≡ inst_at s u 0 → durable_at t u ≡ durable_at s u → near job t u ≡ near job s u
unfolding near
near_same job s t u tail inst row =
    let x = vertex job u in
    let f : TailNumbers → Option InstNumbers → LedgerRow → ℕ = λ a p b. cond (is_sink x.kind) 0 (work_left x a p b) in
    ap (λ a. f a (inst_at t u 0) (durable_at t u)) tail ∙ ap (λ p. f (tail_at s u) p (durable_at t u)) inst ∙ ap (f (tail_at s u) (inst_at s u 0)) row

-- the total is lower where it is so at v, and the rest is as before
pub total_lower : (job : JobNumbers) (ts : List Trigger) (s t : State) (v : ℕ) → v < length job.vertices → Elsewhere v s t
    → Lower (far job ts s v) (near job s v) (far job ts t v) (near job t v) → total_left job ts t < total_left job ts s
unfolding total_left
total_lower job ts s t v h else here =
    let all = length job.vertices in
    rank_lower (sum_to (λ v. work_most (vertex job v)) all) (sum_to (far job ts s) all) (sum_to (near job s) all) (sum_to (far job ts t) all) (sum_to (near job t) all)
    (nears_fit job t all)
    (sums_lower (far job ts s) (near job s) (far job ts t) (near job t) all v h here
    (λ u l differs. same_no_higher (far job ts s u) (near job s u) (far job ts t u) (near job t u)
    (far_same job ts s t u (else.tail u differs) (else.row u differs)) (near_same job s t u (else.tail u differs) (else.inst u differs) (else.row u differs))))

-- it is no higher where it is so at each vertex
pub total_no_higher : (job : JobNumbers) (ts : List Trigger) (s t : State)
    → ((u : ℕ) → u < length job.vertices → NoHigher (far job ts s u) (near job s u) (far job ts t u) (near job t u)) → total_left job ts t ≤ total_left job ts s
unfolding total_left
total_no_higher job ts s t each =
    let all = length job.vertices in
    rank_no_higher (sum_to (λ v. work_most (vertex job v)) all) (sum_to (far job ts s) all) (sum_to (near job s) all) (sum_to (far job ts t) all) (sum_to (near job t) all)
    (nears_fit job t all) (sums_no_higher (far job ts s) (near job s) (far job ts t) (near job t) all each)

-- t is s with another tail, first replica and row of v
pub record Became (s t : State) (v : ℕ) (tail : TailNumbers) (inst : Option InstNumbers) (row : LedgerRow) : Type 0 where
  pub rest : Elsewhere v s t
  pub tail_is : tail_at t v ≡ tail
  pub inst_is : inst_at t v 0 ≡ inst
  pub row_is : durable_at t v ≡ row

-- what is left of a stream is lower, and so the total
pub stream_lower : (job : JobNumbers) (ts : List Trigger) (s t : State) (v : ℕ) (old : Option InstNumbers) (tail : TailNumbers) (inst : Option InstNumbers) (row : LedgerRow)
    → IsStream job v → inst_at s v 0 ≡ old → Became s t v tail inst row
    → Lower (store_left (vertex job v) (waiting ts v (tail_at s v).stored) (tail_at s v) (durable_at s v)) (work_left (vertex job v) (tail_at s v) old (durable_at s v))
    (store_left (vertex job v) (waiting ts v tail.stored) tail row) (work_left (vertex job v) tail inst row)
    → total_left job ts t < total_left job ts s
stream_lower job ts s t v old tail inst row stream e became h =
    let x = vertex job v in
    let far_was = far_stream job ts s v stream.1 in
    let near_was : near job s v ≡ work_left x (tail_at s v) old (durable_at s v) = near_stream job s v stream.1 ∙ ap (λ p. work_left x (tail_at s v) p (durable_at s v)) e in
    let far_is : far job ts t v ≡ store_left x (waiting ts v tail.stored) tail row =
    far_stream job ts t v stream.1 ∙ ap (λ (a : TailNumbers). store_left x (waiting ts v a.stored) a (durable_at t v)) became.tail_is ∙ ap (λ b. store_left x (waiting ts v tail.stored) tail b) became.row_is in
    let near_is : near job t v ≡ work_left x tail inst row =
    near_stream job t v stream.1 ∙ ap (λ a. work_left x a (inst_at t v 0) (durable_at t v)) became.tail_is ∙ ap (λ p. work_left x tail p (durable_at t v)) became.inst_is
    ∙ ap (λ b. work_left x tail inst b) became.row_is in
    total_lower job ts s t v stream.0 became.rest (by_way h far_was near_was far_is near_is)
  where
    by_way : {a b c d a' b' c' d' : ℕ} → Lower a' b' c' d' → a ≡ a' → b ≡ b' → c ≡ c' → d ≡ d' → Lower a b c d
    by_way (inl h) e f g i = inl (omega arith)
    by_way (inr h) e f g i = inr (omega arith, omega arith)

-- the states that acts leave

pub other_inst : (s : State) (v u : ℕ) (inst : Option InstNumbers) → (u ≡ v → ⊥) → inst_at (put_inst s v 0 inst) u 0 ≡ inst_at s u 0
other_inst s v u inst differs = ap (λ ps. get_or ps 0 None) (get_or-set_other s.insts v u (set (insts_at s v) 0 inst) [] differs)

pub same_inst : (s : State) (v : ℕ) (inst : Option InstNumbers) → v < length s.insts → 0 < length (insts_at s v) → inst_at (put_inst s v 0 inst) v 0 ≡ inst
same_inst s v inst h k = ap (λ ps. get_or ps 0 None) (get_or-set_same s.insts v (set (insts_at s v) 0 inst) [] h) ∙ get_or-set_same (insts_at s v) 0 inst None k

-- places are there
pub record Places (s : State) (v : ℕ) : Type 0 where
  pub tails : v < length s.tails
  pub insts : v < length s.insts
  pub first : 0 < length (insts_at s v)
  pub rows : v < length s.vault.ledger.rows

pub places : (job : JobNumbers) (s : State) (v : ℕ) → Joint job s → IsStream job v → Places s v
places job s v joint stream = record {
  tails = omega (arith, joint.tails, stream.0);
  insts = omega (arith, joint.insts, stream.0);
  first = let some = (joint.numbers.each v stream.0).replicas stream.1 in omega (arith, joint.replicas v, some);
  rows = omega (arith, joint.vault.stands.rows, stream.0);
}

pub became_both : (s : State) (v : ℕ) (tail : TailNumbers) (inst : Option InstNumbers) → Places s v → Became s (put_inst (put_tail s v tail) v 0 inst) v tail inst (durable_at s v)
became_both s v tail inst p = record {
  rest = record {
    tail = λ u differs. get_or-set_other s.tails v u tail new_tail differs;
    inst = λ u differs. other_inst s v u inst differs;
    row = λ u differs. refl;
  };
  tail_is = get_or-set_same s.tails v tail new_tail p.tails;
  inst_is = same_inst s v inst p.insts p.first;
  row_is = refl;
}

pub became_inst : (s : State) (v : ℕ) (inst : Option InstNumbers) → Places s v → Became s (put_inst s v 0 inst) v (tail_at s v) inst (durable_at s v)
became_inst s v inst p = record {
  rest = record { tail = λ u differs. refl; inst = λ u differs. other_inst s v u inst differs; row = λ u differs. refl };
  tail_is = refl;
  inst_is = same_inst s v inst p.insts p.first;
  row_is = refl;
}

-- where the rows are those of s with another one of v
pub became_stored : (s : State) (v : ℕ) (tail : TailNumbers) (row : LedgerRow) (vault : VaultNumbers) → Places s v → vault.ledger.rows ≡ set s.vault.ledger.rows v row
    → Became s (record (put_tail s v tail) { vault = vault }) v tail (inst_at s v 0) row
became_stored s v tail row vault p e = record {
  rest = record {
    tail = λ u differs. get_or-set_other s.tails v u tail new_tail differs;
    inst = λ u differs. refl;
    row = λ u differs. ap (λ rows. get_or rows u empty_row) e ∙ get_or-set_other s.vault.ledger.rows v u row empty_row differs;
  };
  tail_is = get_or-set_same s.tails v tail new_tail p.tails;
  inst_is = refl;
  row_is = ap (λ rows. get_or rows v empty_row) e ∙ get_or-set_same s.vault.ledger.rows v row empty_row p.rows;
}

pub became_row : (s : State) (v : ℕ) (row : LedgerRow) (vault : VaultNumbers) → v < length s.vault.ledger.rows → vault.ledger.rows ≡ set s.vault.ledger.rows v row
    → Became s (record s { vault = vault }) v (tail_at s v) (inst_at s v 0) row
became_row s v row vault h e = record {
  rest = record {
    tail = λ u differs. refl;
    inst = λ u differs. refl;
    row = λ u differs. ap (λ rows. get_or rows u empty_row) e ∙ get_or-set_other s.vault.ledger.rows v u row empty_row differs;
  };
  tail_is = refl;
  inst_is = refl;
  row_is = ap (λ rows. get_or rows v empty_row) e ∙ get_or-set_same s.vault.ledger.rows v row empty_row h;
}
