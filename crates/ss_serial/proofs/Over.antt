-- Whether there is something left to do for a replica, by its tests.
use Rattle.std.proofs.Common.{◌≡◌, ◌∙◌, ℕ, nat_lt, nat_le, Bool, true, false, not, Option, Some, None, length, refl, sym, ap, arith}
use Rattle.std.specs.Prelude.{◌&&◌, ◌||◌, IfSome, is_some, option_map}
use Rattle.std.proofs.lemmas.Bool.Decides.{nat_tests}
use Rattle.std.specs.Option.{option_map_or}
use Rattle.ss_engine.specs.Told.{PlantTold, inst_of, state_of, tail_of}
use Rattle.ss_rounds.specs.Whole as whole
use Rattle.ss_state.specs.Numbers.{VertexNumbers, mlen, vertex}
use Rattle.ss_state.specs.Rule.{last_snap, snap_due}
use Rattle.ss_state.specs.State.{InstNumbers, State, TailNumbers, durable_at, inst_at, next, tail_at}
use Rattle.ss_tail.specs.Held.{TailHeld}
use Rattle.ss_serial.specs.Stored.{is_over, job_of}
use Rattle.ss_serial.proofs.Looking.{inst_is, tail_is}
use Rattle.ss_vertex.specs.Inst.{InstState, Running, inst_numbers, is_up, left_of, n_of, next_of, running_numbers}
use Rattle.ss_vertex.specs.Laws.{wanted_in}

abbrev left_in : Option Running → ℕ
left_in running = option_map_or (λ up. length up.left) running 0

abbrev n_in : Option Running → ℕ
n_in running = option_map_or (λ up. up.n) running 0

-- ---- at the end

some_wanted : (x : VertexNumbers) (n : ℕ) → is_some (wanted_in x n) ≡ nat_lt n (mlen x)
some_wanted x n = by_test (nat_lt n (mlen x)) refl
  where
    by_test : (b : Bool) → nat_lt n (mlen x) ≡ b → is_some (wanted_in x n) ≡ nat_lt n (mlen x)
    by_test true e = rw e refl
    by_test false e = rw e refl

past_is : (m n : ℕ) → nat_le m n ≡ not (nat_lt n m)
past_is m n = grind (arith, nat_tests)

not_none : (some none : Bool) → some ≡ not none → none ≡ not some
not_none true true e = absurd cc
not_none true false e = refl
not_none false true e = refl
not_none false false e = absurd cc

at_end : (x : VertexNumbers) (running : Option Running) (none : Bool) → is_some running ≡ true → nat_lt 0 (left_in running) ≡ false
    → nat_lt (n_in running) (mlen x) ≡ not none → none ≡ whole.is_at_end x (option_map running_numbers running)
at_end x None none e f h = absurd cc
at_end x (Some up) none e f h =
    let past : nat_le (mlen x) up.n ≡ none = past_is (mlen x) up.n ∙ sym (not_none (nat_lt up.n (mlen x)) none h) in
    rw (f, past) refl

pub ends : (x : VertexNumbers) (inst : InstState) (none some : Bool) → is_up inst ≡ true → nat_lt 0 (left_of inst) ≡ false
    → some ≡ not none → some ≡ is_some (wanted_in x (n_of inst)) → none ≡ whole.is_at_end x (inst_numbers inst)
ends x inst none some up left told wanted =
    at_end x inst.running none up left (sym (some_wanted x (n_of inst)) ∙ sym wanted ∙ told)

-- one that is down, or has something left to write, isn't
down : (x : VertexNumbers) (running : Option Running) → is_some running ≡ false → false ≡ whole.is_at_end x (option_map running_numbers running)
down x None e = refl
down x (Some up) e = absurd cc

pub down_ends_not : (x : VertexNumbers) (inst : InstState) → is_up inst ≡ false → false ≡ whole.is_at_end x (inst_numbers inst)
down_ends_not x inst e = down x inst.running e

left_over : (x : VertexNumbers) (running : Option Running) → nat_lt 0 (left_in running) ≡ true
    → false ≡ whole.is_at_end x (option_map running_numbers running)
left_over x None e = absurd cc
left_over x (Some up) e = rw e refl

pub left_ends_not : (x : VertexNumbers) (inst : InstState) → nat_lt 0 (left_of inst) ≡ true → false ≡ whole.is_at_end x (inst_numbers inst)
left_ends_not x inst e = left_over x inst.running e

-- ---- the numbers of a replica

next_in : (x : VertexNumbers) (running : Option Running) → IfSome running (λ up. up.next ≡ next x (running_numbers up))
    → option_map_or (λ up. up.next) running 0 ≡ whole.next_of x (option_map running_numbers running)
next_in x None is = refl
next_in x (Some up) is = is

pub next_is : (x : VertexNumbers) (inst : InstState) → IfSome inst.running (λ up. up.next ≡ next x (running_numbers up))
    → next_of inst ≡ whole.next_of x (inst_numbers inst)
next_is x inst is = next_in x inst.running is

accepted_in : (running : Option Running) → n_in running ≡ whole.accepted_of (option_map running_numbers running)
accepted_in None = refl
accepted_in (Some up) = refl

pub accepted_is : (inst : InstState) → n_of inst ≡ whole.accepted_of (inst_numbers inst)
accepted_is inst = accepted_in inst.running

-- ---- all of it

-- at the end, a snapshot is due, the stream is in the tail, it is stored, and a full batch is to be stored
abbrev pub by_tests : Bool → Bool → Bool → Bool → Bool → Bool
by_tests at due there stored full = at && not due && there || at && stored || full

pub over_is : (x : VertexNumbers) (inst : Option InstNumbers) (tail : TailNumbers) (dur last : ℕ) (at due there stored full : Bool)
    → whole.is_at_end x inst ≡ at → snap_due x (whole.accepted_of inst) last ≡ due → nat_le (whole.next_of x inst) tail.end ≡ there
    → nat_le (whole.next_of x inst) dur ≡ stored → whole.has_full_batch tail ≡ full
    → by_tests at due there stored full
    ≡ (whole.is_idle x inst tail last || whole.is_stored_whole x inst dur || whole.has_full_batch tail)
over_is x inst tail dur last at due there stored full a b c d e = rw (a, b, c, d, e) refl

pub not_at_end : (due there stored : Bool) → by_tests false due there stored false ≡ false
not_at_end due there stored = refl

pub stored_whole : (due there : Bool) → by_tests true due there true false ≡ true
stored_whole true true = refl
stored_whole true false = refl
stored_whole false true = refl
stored_whole false false = refl

pub told_by_due : (due : Bool) → by_tests true due true false false ≡ not due
told_by_due true = refl
told_by_due false = refl

pub not_there : (due : Bool) → by_tests true due false false false ≡ false
not_there true = refl
not_there false = refl

-- the same of a running job
pub over_at : (p : PlantTold) (v : ℕ) (inst : InstState) (tail : TailHeld) (at due there stored full : Bool) → inst_of p v 0 ≡ Some inst
    → tail ≡ tail_of p v
    → whole.is_at_end (vertex (job_of p) v) (inst_numbers inst) ≡ at
    → snap_due (vertex (job_of p) v) (whole.accepted_of (inst_numbers inst)) (last_snap (durable_at (state_of p) v).snaps) ≡ due
    → nat_le (whole.next_of (vertex (job_of p) v) (inst_numbers inst)) tail.numbers.end ≡ there
    → nat_le (whole.next_of (vertex (job_of p) v) (inst_numbers inst)) (durable_at (state_of p) v).dur ≡ stored
    → whole.has_full_batch tail.numbers ≡ full → by_tests at due there stored full ≡ is_over p v
over_at p v inst tail at due there stored full e t a b c d f =
    let s : State = state_of p in
    let x : VertexNumbers = vertex (job_of p) v in
    let last : ℕ = last_snap (durable_at s v).snaps in
    let same : inst_at s v 0 ≡ inst_numbers inst = inst_is p v 0 inst e in
    let told : tail_at s v ≡ tail.numbers = tail_is p v ∙ ap (λ (h : TailHeld). h.numbers) (sym t) in
    over_is x (inst_at s v 0) (tail_at s v) (durable_at s v).dur last at due there stored full
    (ap (whole.is_at_end x) same ∙ a)
    (ap (λ (i : Option InstNumbers). snap_due x (whole.accepted_of i) last) same ∙ b)
    (ap (λ (i : Option InstNumbers). nat_le (whole.next_of x i) (tail_at s v).end) same
    ∙ ap (λ (h : TailNumbers). nat_le (whole.next_of x (inst_numbers inst)) h.end) told
    ∙ c)
    (ap (λ (i : Option InstNumbers). nat_le (whole.next_of x i) (durable_at s v).dur) same ∙ d)
    (ap whole.has_full_batch told ∙ f)
