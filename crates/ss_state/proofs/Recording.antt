-- The journal that has one entry more, and what of a joint state stays where one part changes.
use Rattle.std.proofs.Common.{◌≡◌, ℕ, ◌<◌, ◌≤◌, true, not, Option, Some, List, [], ◌∷◌, ◌++◌, length, set, refl, sym, ap, ◌∙◌, subst, arith}
use Rattle.std.specs.List.{AllByRecursion}
use mathlib.Core.List.{reverse_aux}
use Rattle.std.proofs.lemmas.List.{length-set}
use Rattle.std.proofs.lemmas.Bool.{not-true}
use Rattle.ss_water.specs.Graph.{is_sink}
use Rattle.ss_state.specs.declared.entry.Entry.{Entry}
use Rattle.ss_state.specs.Numbers.{JobNumbers, vertex, vertices, streams, IsStream}
use Rattle.ss_state.specs.State.{TailNumbers, InstNumbers, LedgerRow, Ledger, VaultNumbers, State, first_ledger}
use Rattle.ss_state.specs.State.{insts_at, put_tail, put_inst}
use Rattle.ss_state.specs.Journal.{is_one_of, pass_order, change, changes, enter, IsLawful, AreLawful}
use Rattle.ss_state.specs.Step.{with_entry}
use Rattle.ss_state.specs.Joint.{IsRecorded, Joint}
use Rattle.ss_state.proofs.Parts.{PartsFit, memory_of, ledger_of, joint_parts}
use Rattle.ss_state.proofs.Snapshots.{one_of_here, one_of_there, one_of_filter}
use Rattle.ss_state.proofs.Frames.{each_set}
use Rattle.ss_state.proofs.Needs.{one_of_range}
use Rattle.ss_state.proofs.Passing.{with_ledger, Beside}

-- the journal

pub changes_append : (job : JobNumbers) (l : Ledger) (es : List Entry) (e : Entry) → changes job l (es ++ e ∷ []) ≡ change job (changes job l es) e
changes_append job l [] e = refl
changes_append job l (x ∷ es) e = changes_append job (change job l x) es e

lawful_append : (job : JobNumbers) (l : Ledger) (es : List Entry) (e : Entry) → AreLawful job l es → IsLawful job (changes job l es) e → AreLawful job l (es ++ e ∷ [])
lawful_append job l [] e h k = (k, tt)
lawful_append job l (x ∷ es) e h k = (h.0, lawful_append job (change job l x) es e h.1 k)

pub recorded_more : (job : JobNumbers) (vault : VaultNumbers) (e : Entry) → IsRecorded job vault → IsLawful job vault.ledger e → IsRecorded job (enter job vault (Some e))
recorded_more job vault e recorded h = record {
  lawful = lawful_append job (first_ledger job) vault.journal e recorded.lawful (subst (λ l. IsLawful job l e) recorded.ledger h);
  ledger = ap (λ l. change job l e) recorded.ledger ∙ sym (changes_append job (first_ledger job) vault.journal e);
}

-- one part is another

pub joint_inst : (job : JobNumbers) (s : State) (v r : ℕ) (inst : Option InstNumbers) → v < length s.insts → Joint job s → PartsFit job (put_inst s v r inst) → Joint job (put_inst s v r inst)
joint_inst job s v r inst h joint parts = record {
  numbers = joint.numbers;
  tails = joint.tails;
  insts = length-set s.insts v (set (insts_at s v) r inst) ∙ joint.insts;
  replicas = each_set s.insts v (set (insts_at s v) r inst) [] (λ u xs. length xs ≡ (vertex job u).replicas) h
      (length-set (insts_at s v) r inst ∙ joint.replicas v) (λ u differs. joint.replicas u);
  memory = memory_of job _ parts;
  vault = joint.vault;
}

pub joint_tail : (job : JobNumbers) (s : State) (v : ℕ) (tail : TailNumbers) → Joint job s → PartsFit job (put_tail s v tail) → Joint job (put_tail s v tail)
joint_tail job s v tail joint parts = record {
  numbers = joint.numbers;
  tails = length-set s.tails v tail ∙ joint.tails;
  insts = joint.insts;
  replicas = joint.replicas;
  memory = memory_of job _ parts;
  vault = joint.vault;
}

pub joint_vault : (job : JobNumbers) (s : State) (vault : VaultNumbers) → Joint job s → length vault.ledger.rows ≡ length job.vertices → PartsFit job (record s { vault = vault })
    → vault.ledger.since ≤ job.collect_every → IsRecorded job vault → Joint job (record s { vault = vault })
joint_vault job s vault joint rows parts since recorded = record {
  numbers = joint.numbers;
  tails = joint.tails;
  insts = joint.insts;
  replicas = joint.replicas;
  memory = memory_of job _ parts;
  vault = record { stands = ledger_of job (record s { vault = vault }) rows since parts; recorded = recorded };
}

-- the parts say nothing of the journal, nor of what was stored since the last pass
pub other_journal : (job : JobNumbers) (s : State) (l new : Ledger) (journal : List Entry) → l.rows ≡ new.rows → PartsFit job (with_ledger s l)
    → PartsFit job (record s { vault = record { ledger = new; journal = journal } })
other_journal job s l new journal e stands =
    let at : List LedgerRow → State = λ rows. record s { vault = record { ledger = record new { rows = rows }; journal = journal } } in
    subst (λ rows. PartsFit job (at rows)) e (record {
      tail = stands.tail;
      inst = stands.inst;
      row = stands.row;
      read = stands.read;
      snapped = stands.snapped;
      needed = stands.needed;
      untaken = stands.untaken;
      taken = stands.taken;
    })

pub joint_entered : (job : JobNumbers) (s : State) (e : Entry) → Joint job s → IsLawful job s.vault.ledger e → Beside job s (change job s.vault.ledger e)
    → (change job s.vault.ledger e).since ≤ job.collect_every → Joint job (with_entry job s e)
joint_entered job s e joint lawful beside since =
    joint_vault job s (enter job s.vault (Some e)) joint beside.rows
    (other_journal job s (change job s.vault.ledger e) (change job s.vault.ledger e) (s.vault.journal ++ e ∷ []) refl beside.parts)
    since (recorded_more job s.vault e joint.vault.recorded lawful)

pub joint_beside : (job : JobNumbers) (s : State) → Joint job s → Beside job s s.vault.ledger
joint_beside job s joint = record { rows = joint.vault.stands.rows; parts = (joint_parts job s joint) }

-- a pass goes over streams

all_of : (P : ℕ → Type 0) (xs : List ℕ) → ((n : ℕ) → is_one_of n xs ≡ true → P n) → AllByRecursion P xs
all_of P [] h = tt
all_of P (x ∷ xs) h = (h x (one_of_here x x xs refl), all_of P xs (λ n e. h n (one_of_there n x xs e)))

all_reverse : (P : ℕ → Type 0) (xs ys : List ℕ) → AllByRecursion P xs → AllByRecursion P ys → AllByRecursion P (reverse_aux xs ys)
all_reverse P [] ys h k = k
all_reverse P (x ∷ xs) ys h k = all_reverse P xs (x ∷ ys) h.1 (h.0, k)

pub streams_are : (job : JobNumbers) (v : ℕ) → is_one_of v (streams job) ≡ true → IsStream job v
streams_are job v h =
    let found = one_of_filter (λ u. not (is_sink (vertex job u).kind)) v (vertices job) h in
    let within = one_of_range v 0 (length job.vertices) found.1 in
    (omega (arith, within.1), not-true (is_sink (vertex job v).kind) found.0)

pub pass_streams : (job : JobNumbers) → AllByRecursion (IsStream job) (pass_order job)
pass_streams job = all_reverse (IsStream job) (streams job) [] (all_of (IsStream job) (streams job) (λ v e. streams_are job v e)) tt
