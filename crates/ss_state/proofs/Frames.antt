-- What stands of a state in which one tail, one replica or one row is another.
use Rattle.std.proofs.Common.{◌≡◌, ℕ, ◌<◌, ◌≤◌, true, false, Option, Some, None, IfSome, List, [], length, get_or, set, refl, sym, ap, ◌∙◌, subst, ⊎_elim, arith}
use Rattle.std.proofs.lemmas.Bool.{cases_eq, cases_lt}
use Rattle.std.proofs.lemmas.List.{get_or-set_same, get_or-set_other, get_or_past}
use Rattle.ss_state.specs.declared.entry.Entry.{Entry}
use Rattle.ss_state.specs.Numbers.{VertexNumbers, JobNumbers, IsSink, is_inner, no_vertex, vertex, input, pos}
use Rattle.ss_state.specs.State.{TailNumbers, InstNumbers, LedgerRow, State, new_tail, empty_row}
use Rattle.ss_state.specs.State.{tail_at, insts_at, inst_at, durable_at, put_tail, put_inst}
use Rattle.ss_state.specs.LowWater.{low}
use Rattle.ss_state.specs.Journal.{is_one_of}
use Rattle.ss_state.specs.IsNumbers.{IsNumbers}
use Rattle.ss_state.specs.Joint.{most_of, InstStands}
use Rattle.ss_state.proofs.Parts.{TailFits, RowFits, PartsFit}
use Rattle.ss_state.proofs.Counting.{positions_never_fall}

-- a fact of each element of a list in which one is another
pub each_set : {A : Type 0} (xs : List A) (v : ℕ) (a d : A) (P : ℕ → A → Type 0) → v < length xs → P v a
    → ((u : ℕ) → (u ≡ v → ⊥) → P u (get_or xs u d)) → (u : ℕ) → P u (get_or (set xs v a) u d)
each_set xs v a d P h here other u = ⊎_elim
    (λ same. subst (λ k. P k (get_or (set xs v a) k d)) (sym same) (subst (P v) (sym (get_or-set_same xs v a d h)) here))
    (λ differs. subst (P u) (sym (get_or-set_other xs v u a d differs)) (other u differs))
    (cases_eq u v)

-- a vertex with an input is one of the job's
pub in_job : (job : JobNumbers) (w i : ℕ) → i < length (vertex job w).inputs → w < length job.vertices
in_job job w i h = ⊎_elim (λ less. less)
    (λ past. let none = ap (λ (x : VertexNumbers). length x.inputs) (get_or_past job.vertices w no_vertex past) in absurd (omega arith))
    (cases_lt w (length job.vertices))

-- an input stands before its reader
pub earlier : (job : JobNumbers) → IsNumbers job → (w i : ℕ) → i < length (vertex job w).inputs → input (vertex job w) i < w
earlier job numbers w i h = (numbers.each w (in_job job w i h)).earlier i h

-- a tail

pub keep_tail : (job : JobNumbers) (s : State) (v : ℕ) (tail : TailNumbers) → v < length s.tails → PartsFit job s
    → TailFits (most_of job v) tail (durable_at s v)
    → (tail.torn ≡ false → ((tail_at s v).torn ≡ false) × ((tail_at s v).end ≤ tail.end))
    → PartsFit job (put_tail s v tail)
keep_tail job s v tail h stands here reaches =
    let Reaches : ℕ → ℕ → TailNumbers → Type 0 = λ n u t. t.torn ≡ false → n ≤ t.end in
    let reaching : (n u : ℕ) → Reaches n u (tail_at s u) → Reaches n u (tail_at (put_tail s v tail) u) = λ n u old.
    ⊎_elim
    (λ same. subst (λ t. Reaches n u t) (sym (ap (λ k. get_or (set s.tails v tail) k new_tail) same ∙ get_or-set_same s.tails v tail new_tail h))
    (λ torn. let both = reaches torn in
    let was : n ≤ (tail_at s v).end = subst (λ k. Reaches n k (tail_at s k)) same old both.0 in omega (arith, both.1)))
    (λ differs. subst (λ t. Reaches n u t) (sym (get_or-set_other s.tails v u tail new_tail differs)) old)
    (cases_eq u v) in
    record {
      tail = each_set s.tails v tail new_tail (λ u t. TailFits (most_of job u) t (durable_at s u)) h here (λ u differs. stands.tail u);
      inst = stands.inst;
      row = stands.row;
      read = λ w r i up e k. reaching (pos (vertex job w) up.n i) (input (vertex job w) i) (stands.read w r i up e k);
      snapped = λ w i n e k. reaching (pos (vertex job w) n i) (input (vertex job w) i) (stands.snapped w i n e k);
      needed = stands.needed;
      untaken = stands.untaken;
      taken = stands.taken;
    }

-- a replica

pub each_inst : (s : State) (v r : ℕ) (inst : Option InstNumbers) (P : ℕ → ℕ → Option InstNumbers → Type 0) → v < length s.insts → r < length (insts_at s v)
    → P v r inst → ((w q : ℕ) → P w q (inst_at s w q)) → (w q : ℕ) → P w q (inst_at (put_inst s v r inst) w q)
each_inst s v r inst P h k here other w q =
    each_set s.insts v (set (insts_at s v) r inst) [] (λ u insts. (p : ℕ) → P u p (get_or insts p None)) h
    (each_set (insts_at s v) r inst None (P v) k here (λ p differs. other v p)) (λ u differs p. other u p) w q

-- a replica of v that is up may stand so beside the tails
pub record MayBe (job : JobNumbers) (s : State) (v : ℕ) (up : InstNumbers) : Type 0 where
  pub stands : InstStands job.max_elements (vertex job v) up
  pub read : (i : ℕ) → i < length (vertex job v).inputs → (tail_at s (input (vertex job v) i)).torn ≡ false
      → pos (vertex job v) up.n i ≤ (tail_at s (input (vertex job v) i)).end

pub keep_inst : (job : JobNumbers) (s : State) (v r : ℕ) (inst : Option InstNumbers) → v < length s.insts → r < length (insts_at s v) → PartsFit job s
    → ((up : InstNumbers) → inst ≡ Some up → MayBe job s v up) → PartsFit job (put_inst s v r inst)
keep_inst job s v r inst h k stands may =
    record {
      tail = stands.tail;
      inst = each_inst s v r inst (λ w q p. IfSome p (InstStands job.max_elements (vertex job w))) h k (if_some inst refl) stands.inst;
      row = stands.row;
      read = λ w q i up e. each_inst s v r inst
          (λ w q p. (up : InstNumbers) → p ≡ Some up → (i : ℕ) → i < length (vertex job w).inputs → (tail_at s (input (vertex job w) i)).torn ≡ false
          → pos (vertex job w) up.n i ≤ (tail_at s (input (vertex job w) i)).end)
          h k (λ up e. (may up e).read) (λ w q up e i. stands.read w q i up e) w q up e i;
      snapped = stands.snapped;
      needed = stands.needed;
      untaken = stands.untaken;
      taken = stands.taken;
    }
  where
    if_some : (p : Option InstNumbers) → inst ≡ p → IfSome p (InstStands job.max_elements (vertex job v))
    if_some None e = tt
    if_some (Some up) e = (may up e).stands

-- a row

-- the state with this row of v, and any journal
abbrev pub with_row : State → ℕ → LedgerRow → ℕ → List Entry → State
with_row s v row since journal =
    record s { vault = record { ledger = record { rows = set s.vault.ledger.rows v row; since = since }; journal = journal } }

-- the row of v may be this one
pub record RowMayBe (job : JobNumbers) (s : State) (v : ℕ) (row : LedgerRow) : Type 0 where
  pub tail : TailFits (most_of job v) (tail_at s v) row
  pub stands : RowFits job.max_elements (vertex job v) row
  pub snapped : (i n : ℕ) → is_one_of n row.snaps ≡ true → i < length (vertex job v).inputs
      → (tail_at s (input (vertex job v) i)).torn ≡ false → pos (vertex job v) n i ≤ (tail_at s (input (vertex job v) i)).end
  pub rise : low (vertex job v) (durable_at s v) ≤ low (vertex job v) row
  pub needed : (w i : ℕ) → is_inner (vertex job w).kind ≡ true → i < length (vertex job w).inputs → input (vertex job w) i ≡ v
      → row.base ≤ pos (vertex job w) (low (vertex job w) (durable_at s w)) i
  pub untaken : (k : ℕ) → IsSink job k → input (vertex job k) 0 ≡ v → row.base ≤ (durable_at s k).taken
  pub taken : (durable_at s v).taken ≤ row.taken
  pub takes : IsSink job v → row.taken ≤ (durable_at s (input (vertex job v) 0)).dur
  pub dur : (durable_at s v).dur ≤ row.dur

-- the rows of a vertex and of its input, one of which is another
two_rows : (s : State) (v : ℕ) (row : LedgerRow) (u w : ℕ) (P : LedgerRow → LedgerRow → Type 0) → v < length s.vault.ledger.rows → (u ≡ w → ⊥)
    → P (durable_at s u) (durable_at s w) → (u ≡ v → P row (durable_at s w)) → (w ≡ v → P (durable_at s u) row)
    → P (get_or (set s.vault.ledger.rows v row) u empty_row) (get_or (set s.vault.ledger.rows v row) w empty_row)
two_rows s v row u w P h differ old as_input as_reader =
    let rows = s.vault.ledger.rows in
    let at_v : (k : ℕ) → k ≡ v → row ≡ get_or (set rows v row) k empty_row = λ k e.
    sym (ap (λ j. get_or (set rows v row) j empty_row) e ∙ get_or-set_same rows v row empty_row h) in
    let past_v : (k : ℕ) → (k ≡ v → ⊥) → durable_at s k ≡ get_or (set rows v row) k empty_row = λ k e. sym (get_or-set_other rows v k row empty_row e) in
    ⊎_elim
    (λ input_is. subst (λ x. P x (get_or (set rows v row) w empty_row)) (at_v u input_is)
    (subst (P row) (past_v w (λ e. differ (input_is ∙ sym e))) (as_input input_is)))
    (λ input_other. subst (λ x. P x (get_or (set rows v row) w empty_row)) (past_v u input_other)
    (⊎_elim (λ reader_is. subst (P (durable_at s u)) (at_v w reader_is) (as_reader reader_is))
    (λ reader_other. subst (P (durable_at s u)) (past_v w reader_other) old) (cases_eq w v)))
    (cases_eq u v)

pub sink_input : (job : JobNumbers) → IsNumbers job → (k : ℕ) → IsSink job k → 0 < length (vertex job k).inputs
sink_input job numbers k h = let one = (numbers.each k h.0).sink h.1 in omega arith

pub keep_row : (job : JobNumbers) → IsNumbers job → (s : State) (v : ℕ) (row : LedgerRow) (since : ℕ) (journal : List Entry) → v < length s.vault.ledger.rows
    → PartsFit job s → RowMayBe job s v row → PartsFit job (with_row s v row since journal)
keep_row job numbers s v row since journal h stands may =
    let rows = s.vault.ledger.rows in
    record {
      tail = each_set rows v row empty_row (λ u x. TailFits (most_of job u) (tail_at s u) x) h may.tail (λ u differs. stands.tail u);
      inst = stands.inst;
      row = each_set rows v row empty_row (λ u x. RowFits job.max_elements (vertex job u) x) h may.stands (λ u differs. stands.row u);
      read = stands.read;
      snapped = λ w i n e. each_set rows v row empty_row
          (λ w x. (i n : ℕ) → is_one_of n x.snaps ≡ true → i < length (vertex job w).inputs
          → (tail_at s (input (vertex job w) i)).torn ≡ false → pos (vertex job w) n i ≤ (tail_at s (input (vertex job w) i)).end)
          h may.snapped (λ u differs i n e. stands.snapped u i n e) w i n e;
      needed = λ w i e k. let before = earlier job numbers w i k in
          two_rows s v row (input (vertex job w) i) w (λ a b. a.base ≤ pos (vertex job w) (low (vertex job w) b) i) h (λ same. absurd (omega arith))
          (stands.needed w i e k) (may.needed w i e k)
          (λ is. let old = stands.needed w i e k in
          let rise : low (vertex job w) (durable_at s w) ≤ low (vertex job w) row = subst (λ j. low (vertex job j) (durable_at s j) ≤ low (vertex job j) row) (sym is) may.rise in
          let more = positions_never_fall (vertex job w) (low (vertex job w) (durable_at s w)) (low (vertex job w) row) i rise in omega arith);
      untaken = λ k e. let before = earlier job numbers k 0 (sink_input job numbers k e) in
          two_rows s v row (input (vertex job k) 0) k (λ a b. a.base ≤ b.taken) h (λ same. absurd (omega arith))
          (stands.untaken k e) (may.untaken k e)
          (λ is. let old = stands.untaken k e in
          let rise : (durable_at s k).taken ≤ row.taken = subst (λ j. (durable_at s j).taken ≤ row.taken) (sym is) may.taken in omega arith);
      taken = λ k e. let before = earlier job numbers k 0 (sink_input job numbers k e) in
          two_rows s v row (input (vertex job k) 0) k (λ a b. b.taken ≤ a.dur) h (λ same. absurd (omega arith))
          (stands.taken k e)
          (λ is. let old = stands.taken k e in
          let rise : (durable_at s (input (vertex job k) 0)).dur ≤ row.dur = subst (λ j. (durable_at s j).dur ≤ row.dur) (sym is) may.dur in omega arith)
          (λ is. subst (λ j. row.taken ≤ (durable_at s (input (vertex job j) 0)).dur) (sym is) (may.takes (subst (IsSink job) is e)));
    }
