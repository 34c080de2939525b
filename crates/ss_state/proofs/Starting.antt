-- A job that has just been started is joint.
use Rattle.std.proofs.Common.{◌≡◌, ℕ, ◌≤◌, true, Option, Some, None, IfSome, [], length, get_or, refl, sym, ap, ◌∙◌, subst, ⊎_elim, arith}
use Rattle.std.proofs.Math.ListN.{get_or-map}
use Rattle.std.proofs.lemmas.List.{length-map, length-replicate, get_or-replicate, get_or_past}
use Rattle.std.proofs.lemmas.Bool.{cases_lt, true≢false}
use Rattle.ss_water.specs.declared.node.Kind.{Kind}
use Rattle.ss_water.specs.declared.node.Kind.TheVariants.{Source, Inner, Sink}
use Rattle.ss_state.specs.Numbers.{VertexNumbers, JobNumbers, is_inner, no_vertex, vertex, input, pos}
use Rattle.ss_state.specs.State.{InstNumbers, LedgerRow, new_tail, first_snaps, first_row, first_insts, first_state, empty_row}
use Rattle.ss_state.specs.State.{tail_at, insts_at, inst_at, durable_at}
use Rattle.ss_state.specs.Journal.{is_one_of}
use Rattle.ss_state.specs.Joint.{Rises, InstStands, most_of, Suits, MayAccept}
use Rattle.ss_state.proofs.Parts.{TailFits, RowFits, PartsFit, memory_of, ledger_of}
use Rattle.ss_state.specs.Laws.{FirstStateIsJoint}
use Rattle.ss_state.proofs.Counting.{pos_zero}
use Rattle.ss_state.proofs.Snapshots.{one_of_nil, one_of_cons, one_of_here}
use Rattle.ss_state.proofs.Lows.{within_in, low_inner, may_accept_none}

first_tail : (job : JobNumbers) (v : ℕ) → new_tail ≡ tail_at (first_state job) v
first_tail job v = sym (get_or-map (λ (x : VertexNumbers). new_tail) job.vertices v no_vertex)

pub first_stored : (job : JobNumbers) (v : ℕ) → first_row (vertex job v) ≡ durable_at (first_state job) v
first_stored job v = sym (get_or-map first_row job.vertices v no_vertex)

first_replicas : (job : JobNumbers) (v : ℕ) → first_insts (vertex job v) ≡ insts_at (first_state job) v
first_replicas job v = sym (get_or-map first_insts job.vertices v no_vertex)

-- a replica at the start has taken nothing and has nothing left
each_first : (P : InstNumbers → Type 0) (x : VertexNumbers) (r : ℕ) → P (record { n = 0; left = 0 })
    → (p : Option InstNumbers) → get_or (first_insts x) r None ≡ p → (up : InstNumbers) → p ≡ Some up → P up
each_first P x r here p e up is = ⊎_elim
    (λ less.
    let first : get_or (first_insts x) r None ≡ Some (record { n = 0; left = 0 }) = get_or-replicate x.replicas r (Some (record { n = 0; left = 0 })) None less in
    let same : record { n = 0; left = 0 } ≡ up = cc in subst P same here)
    (λ past.
    let none : get_or (first_insts x) r None ≡ None = get_or_past (first_insts x) r None (omega (arith, length-replicate {A = Option InstNumbers} x.replicas (Some (record { n = 0; left = 0 })))) in
    cc)
    (cases_lt r x.replicas)

first_inst : (P : InstNumbers → Type 0) (job : JobNumbers) (v r : ℕ) → P (record { n = 0; left = 0 }) → (up : InstNumbers) → inst_at (first_state job) v r ≡ Some up → P up
first_inst P job v r here up e =
    each_first P (vertex job v) r here (get_or (first_insts (vertex job v)) r None) refl up (ap (λ xs. get_or xs r None) (first_replicas job v) ∙ e)

if_some : (P : InstNumbers → Type 0) (p : Option InstNumbers) → ((up : InstNumbers) → p ≡ Some up → P up) → IfSome p P
if_some P None h = tt
if_some P (Some up) h = h up refl

snap_is_first : (n : ℕ) (k : Kind) → is_one_of n (first_snaps k) ≡ true → n ≡ 0
snap_is_first n Source h = absurd (one_of_nil n h)
snap_is_first n Inner h = ⊎_elim (λ e. sym e) (λ none. absurd (one_of_nil n none)) (one_of_cons n 0 [] h)
snap_is_first n Sink h = absurd (one_of_nil n h)

pub first_is_snap : (k : Kind) → is_inner k ≡ true → is_one_of 0 (first_snaps k) ≡ true
first_is_snap Source e = absurd (true≢false (sym e))
first_is_snap Inner e = one_of_here 0 0 [] refl
first_is_snap Sink e = absurd (true≢false (sym e))

first_rises : (k : Kind) → Rises (first_snaps k)
first_rises Source = tt
first_rises Inner = (tt, tt)
first_rises Sink = tt

first_suits : (k : Kind) → Suits k (record empty_row { snaps = first_snaps k })
first_suits Source = (refl, refl)
first_suits Inner = (refl, refl)
first_suits Sink = (refl, refl, refl)

first_row_stands : (most : ℕ) (x : VertexNumbers) → RowFits most x (first_row x)
first_row_stands most x = record {
  suits = first_suits x.kind;
  base = omega arith;
  mark = omega arith;
  rises = first_rises x.kind;
  snaps = λ n e. subst (MayAccept most x) (sym (snap_is_first n x.kind e)) (may_accept_none most x);
  low = λ e. subst (λ n. is_one_of n (first_snaps x.kind) ≡ true) (sym (low_inner x (first_row x) e))
      (⊎_elim (λ none. subst (λ n. is_one_of n (first_snaps x.kind) ≡ true) (sym none) (first_is_snap x.kind e)) (λ some. some) (within_in x (first_snaps x.kind) 0));
}

first_tail_stands : (all : ℕ) (x : VertexNumbers) → TailFits all new_tail (first_row x)
first_tail_stands all x = record {
  order = omega arith;
  end = omega arith;
  durable = omega arith;
  from = omega arith;
  seen = omega arith;
  whole = λ e. omega arith;
  count = omega arith;
}

first_parts : (job : JobNumbers) → PartsFit job (first_state job)
first_parts job =
    let s = first_state job in
    record {
      tail = λ v. subst (λ t. TailFits (most_of job v) t (durable_at s v)) (first_tail job v)
          (subst (TailFits (most_of job v) new_tail) (first_stored job v) (first_tail_stands (most_of job v) (vertex job v)));
      inst = λ v r. if_some (InstStands job.max_elements (vertex job v)) (inst_at s v r)
          (first_inst (InstStands job.max_elements (vertex job v)) job v r (record { accepted = may_accept_none job.max_elements (vertex job v); left = omega arith }));
      row = λ v. subst (RowFits job.max_elements (vertex job v)) (first_stored job v) (first_row_stands job.max_elements (vertex job v));
      read = λ w r i up e h torn. first_inst (λ p. pos (vertex job w) p.n i ≤ (tail_at s (input (vertex job w) i)).end) job w r (omega (arith, pos_zero (vertex job w) i)) up e;
      snapped = λ w i n e h torn.
          let first = snap_is_first n (vertex job w).kind (subst (λ row. is_one_of n row.snaps ≡ true) (sym (first_stored job w)) e) in
          let same : pos (vertex job w) n i ≡ pos (vertex job w) 0 i = ap (λ m. pos (vertex job w) m i) first in omega (arith, pos_zero (vertex job w) i);
      needed = λ w i e h. let base = ap (λ (row : LedgerRow). row.base) (first_stored job (input (vertex job w) i)) in omega arith;
      untaken = λ k e. let base = ap (λ (row : LedgerRow). row.base) (first_stored job (input (vertex job k) 0)) in omega arith;
      taken = λ k e. let taken = ap (λ (row : LedgerRow). row.taken) (first_stored job k) in omega arith;
    }

pub first_state_is_joint : FirstStateIsJoint
first_state_is_joint job numbers = record {
  numbers = numbers;
  tails = length-map job.vertices (λ (x : VertexNumbers). new_tail);
  insts = length-map job.vertices first_insts;
  replicas = λ v. sym (ap length (first_replicas job v)) ∙ length-replicate (vertex job v).replicas (Some (record { n = 0; left = 0 }));
  memory = memory_of job (first_state job) (first_parts job);
  vault = record {
    stands = ledger_of job (first_state job) (length-map job.vertices first_row) (omega arith) (first_parts job);
    recorded = record { lawful = tt; ledger = refl };
  };
}
