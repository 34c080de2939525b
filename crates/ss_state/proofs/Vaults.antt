-- What holds of a sound vault alone: it is the vault of a joint job whose replicas are all down and whose tails were lost.
use Rattle.std.proofs.Common.{◌≡◌, ℕ, ◌<◌, ◌≤◌, min, true, Option, None, IfSome, List, length, get_or, map, replicate, sym, ap, ◌∙◌, subst, ⊎_elim, arith}
use Rattle.std.proofs.Math.ListN as listn
use Rattle.std.proofs.lemmas.Bool.{cases_lt, true≢false}
use Rattle.std.proofs.lemmas.List.{get_or-map, length-map, length-replicate, get_or-replicate, get_or_past}
use Rattle.ss_state.specs.declared.entry.Entry.TheVariants as entry
use Rattle.ss_state.specs.Numbers.{VertexNumbers, JobNumbers, no_vertex, vertex, input, size}
use Rattle.ss_state.specs.State.{TailNumbers, InstNumbers, LedgerRow, VaultNumbers, State, new_tail, empty_row, tail_at, insts_at, inst_at, durable_at}
use Rattle.ss_state.specs.Journal.{change}
use Rattle.ss_state.specs.IsNumbers.{IsNumbers}
use Rattle.ss_state.specs.Joint.{most_of, TailStands, InstStands, MemoryStands, IsSound, Joint}
use Rattle.ss_state.specs.Laws.{EntriesKeepSound, EntriesLowerNothing, NeededIsThere, SnapshotsAreThere, MarkIsBelowStart, PassCollectsExactly}
use Rattle.ss_state.proofs.Frames.{in_job, earlier, MayBe}
use Rattle.ss_state.proofs.Passing.{collect_beside, trim_beside}
use Rattle.ss_state.proofs.Recording.{joint_entered, joint_beside}
use Rattle.ss_state.proofs.Kept.{CanStore, stored_joint, kept_beside, since_of_kept, took_beside, since_of_took, part_joint}
use Rattle.ss_state.proofs.Growing.{entry_grows}
use Rattle.ss_state.proofs.Marks.{needed_in, mark_in}
use Rattle.ss_state.proofs.Staying.{snapshots_in}
use Rattle.ss_state.proofs.WholePass.{pass_in}

-- a tail that was lost and has come to hold all that there can be of its stream
full_tail : JobNumbers → VertexNumbers → TailNumbers
full_tail job x = record { from = 0; end = min (size x) job.max_elements; seen = 0; torn = true; stored = 0 }

-- replicas that are all down
down_insts : VertexNumbers → List (Option InstNumbers)
down_insts x = replicate x.replicas None

abbrev full_state : JobNumbers → VaultNumbers → State
full_state job vault = record { tails = map (full_tail job) job.vertices; insts = map down_insts job.vertices; vault = vault }

tail_is : (job : JobNumbers) (vault : VaultNumbers) (v : ℕ) → v < length job.vertices → tail_at (full_state job vault) v ≡ full_tail job (vertex job v)
tail_is job vault v h = get_or-map (full_tail job) job.vertices v no_vertex new_tail h

past_tail : (job : JobNumbers) (vault : VaultNumbers) (v : ℕ) → length job.vertices ≤ v → tail_at (full_state job vault) v ≡ new_tail
past_tail job vault v h = get_or_past (map (full_tail job) job.vertices) v new_tail (omega (arith, length-map job.vertices (full_tail job)))

insts_are : (job : JobNumbers) (vault : VaultNumbers) (v : ℕ) → insts_at (full_state job vault) v ≡ down_insts (vertex job v)
unfolding down_insts
insts_are job vault v = listn.get_or-map down_insts job.vertices v no_vertex

none_up : (x : VertexNumbers) (r : ℕ) → get_or (down_insts x) r None ≡ None
unfolding down_insts
none_up x r = ⊎_elim
    (λ less. get_or-replicate x.replicas r None None less)
    (λ past. get_or_past (replicate x.replicas None) r None (omega (arith, length-replicate {A = Option InstNumbers} x.replicas None)))
    (cases_lt r x.replicas)

inst_is : (job : JobNumbers) (vault : VaultNumbers) (v r : ℕ) → inst_at (full_state job vault) v r ≡ None
inst_is job vault v r = ap (λ insts. get_or insts r None) (insts_are job vault v) ∙ none_up (vertex job v) r

full_stands : (job : JobNumbers) (x : VertexNumbers) (row : LedgerRow) → TailStands (min (size x) job.max_elements) (full_tail job x) row
unfolding full_tail
full_stands job x row = record {
  order = omega arith;
  end = omega arith;
  from = omega arith;
  seen = omega arith;
  whole = λ e. absurd (true≢false e);
  count = omega arith;
}

new_stands : (most : ℕ) (row : LedgerRow) → row.dur ≡ 0 → TailStands most new_tail row
new_stands most row e = record {
  order = omega arith;
  end = omega arith;
  from = omega arith;
  seen = omega arith;
  whole = λ t. omega arith;
  count = omega arith;
}

-- a tail that is read was lost
read_is_torn : (job : JobNumbers) → IsNumbers job → (vault : VaultNumbers) (w i : ℕ) → i < length (vertex job w).inputs
    → (tail_at (full_state job vault) (input (vertex job w) i)).torn ≡ true
unfolding full_tail
read_is_torn job numbers vault w i h =
    let before = earlier job numbers w i h in
    let within = in_job job w i h in
    ap (λ (t : TailNumbers). t.torn) (tail_is job vault (input (vertex job w) i) (omega arith))

full_memory : (job : JobNumbers) → IsNumbers job → (vault : VaultNumbers) → IsSound job vault → MemoryStands job (full_state job vault)
full_memory job numbers vault sound =
    let s = full_state job vault in
    record {
      tail = λ v. ⊎_elim
          (λ within. subst (λ t. TailStands (most_of job v) t (durable_at s v)) (sym (tail_is job vault v within)) (full_stands job (vertex job v) (durable_at s v)))
          (λ past.
          let none = ap (λ (row : LedgerRow). row.dur) (get_or_past vault.ledger.rows v empty_row (omega (arith, sound.stands.rows))) in
          subst (λ t. TailStands (most_of job v) t (durable_at s v)) (sym (past_tail job vault v past)) (new_stands (most_of job v) (durable_at s v) none))
          (cases_lt v (length job.vertices));
      inst = λ v r. subst (λ p. IfSome p (InstStands job.max_elements (vertex job v))) (sym (inst_is job vault v r)) tt;
      read = λ w r i up e h torn. absurd (true≢false (sym (read_is_torn job numbers vault w i h) ∙ torn));
      snapped = λ w i n e h torn. absurd (true≢false (sym (read_is_torn job numbers vault w i h) ∙ torn));
    }

full_joint : (job : JobNumbers) → IsNumbers job → (vault : VaultNumbers) → IsSound job vault → Joint job (full_state job vault)
unfolding down_insts
full_joint job numbers vault sound = record {
  numbers = numbers;
  tails = length-map job.vertices (full_tail job);
  insts = length-map job.vertices down_insts;
  replicas = λ v. ap length (insts_are job vault v) ∙ length-replicate {A = Option InstNumbers} (vertex job v).replicas None;
  memory = full_memory job numbers vault sound;
  vault = sound;
}

-- the laws of a vault

pub needed_is_there : NeededIsThere
needed_is_there job vault v numbers sound stream = needed_in job (full_state job vault) v (full_joint job numbers vault sound) stream

pub snapshots_are_there : SnapshotsAreThere
snapshots_are_there job vault v n numbers sound operator told = snapshots_in job (full_state job vault) v n (full_joint job numbers vault sound) operator told

pub mark_is_below_start : MarkIsBelowStart
mark_is_below_start job vault v numbers sound stream plain = mark_in job (full_state job vault) v (full_joint job numbers vault sound) stream plain

pub pass_collects_exactly : PassCollectsExactly
pass_collects_exactly job vault numbers sound = pass_in job (full_state job vault) (full_joint job numbers vault sound)

pub entries_lower_nothing : EntriesLowerNothing
entries_lower_nothing job vault e numbers sound lawful = entry_grows job (full_state job vault) e (full_joint job numbers vault sound) lawful

in_rows : (job : JobNumbers) (vault : VaultNumbers) (v : ℕ) → IsSound job vault → v < length job.vertices → v < length vault.ledger.rows
in_rows job vault v sound h = omega (arith, sound.stands.rows)

pub entries_keep_sound : EntriesKeepSound
unfolding change full_tail
entries_keep_sound job vault (entry.Flushed v count) numbers sound lawful within =
    let s = full_state job vault in
    let all = ap (λ (t : TailNumbers). t.end) (tail_is job vault v lawful.stream.0) in
    let can : CanStore job s v count = record {
      stream = lawful.stream;
      few = lawful.few;
      since = lawful.since;
      end = omega (arith, lawful.within);
    } in
    (stored_joint job s v count (in_rows job vault v sound lawful.stream.0) (full_joint job numbers vault sound) can).vault
entries_keep_sound job vault (entry.Kept v n) numbers sound lawful within =
    let s = full_state job vault in
    let joint = full_joint job numbers vault sound in
    let up : InstNumbers = record { n = n; left = 0 } in
    let may : MayBe job s v up = record {
      stands = record { accepted = within; left = omega arith };
      read = λ i h torn. absurd (true≢false (sym (read_is_torn job numbers vault v i h) ∙ torn));
    } in
    (joint_entered job s (entry.Kept v n) joint lawful (kept_beside job s v up lawful.operator joint (in_rows job vault v sound lawful.operator.0) may lawful.new)
    (since_of_kept job s v n joint)).vault
entries_keep_sound job vault (entry.Took k) numbers sound lawful within =
    let s = full_state job vault in
    let joint = full_joint job numbers vault sound in
    (joint_entered job s (entry.Took k) joint lawful (took_beside job s k lawful.0 joint (in_rows job vault k sound lawful.0.0) lawful.1) (since_of_took job s k joint)).vault
entries_keep_sound job vault (entry.Collected v) numbers sound lawful within =
    let s = full_state job vault in
    let joint = full_joint job numbers vault sound in
    (joint_entered job s (entry.Collected v) joint lawful (collect_beside job numbers s vault.ledger v lawful (joint_beside job s joint)) sound.stands.since).vault
entries_keep_sound job vault (entry.Trimmed v) numbers sound lawful within =
    let s = full_state job vault in
    let joint = full_joint job numbers vault sound in
    (joint_entered job s (entry.Trimmed v) joint lawful (trim_beside job numbers s vault.ledger v lawful (joint_beside job s joint)) sound.stands.since).vault
entries_keep_sound job vault (entry.Pass halves) numbers sound lawful within =
    (part_joint job (full_state job vault) halves lawful (full_joint job numbers vault sound)).vault
