-- What passes over some streams leave, one behind the other.
use Rattle.std.proofs.Common.{◌≡◌, ℕ, zero, suc, ◌+◌, ◌-◌, ◌*◌, ◌<◌, ◌≤◌, not, cond, Bool, true, false, Option, Some, None, List, [], ◌∷◌, ◌++◌, filter, length, reverse, refl, sym, ap, ap₂, ◌∙◌, subst, arith}
use Rattle.std.specs.List.{range_with_len}
use Rattle.std.specs.Prelude.{is_some}
use Rattle.std.proofs.lemmas.List.{length-append, reverse-append}
use Rattle.std.proofs.lemmas.List.Elements.{filter-append}
use Rattle.ss_frames.specs.Plans.{plan_numbers}
use Rattle.ss_plan.specs.Plan.{PlanText}
use Rattle.ss_state.specs.Journal.{change, collected, pass_order, passed_over, trimmed}
use Rattle.ss_state.specs.Numbers.{JobNumbers, IsStream, vertex}
use Rattle.ss_state.specs.State.{Ledger}
use Rattle.ss_state.specs.declared.entry.Entry.TheVariants as entry
use Rattle.ss_water.specs.Graph.{is_sink}
use Rattle.ss_vault.specs.Steps.{Changes, FailsToDrop, IsSoundBesides, PassesOver, StopsPassing, last_streams, streams_among}
use Rattle.ss_vault.specs.Told.{VaultTold, counts_of, numbers_of}
use Rattle.ss_vault.specs.declared.fault.VaultFault.{VaultFault}
use Rattle.ss_vault.specs.declared.fault.VaultFault.TheVariants as fault
use Rattle.ss_vault.proofs.Moved.{fell_on, rose_on}

-- ---- a pass over two lists

over_join : (job : JobNumbers) (l : Ledger) (xs ys : List ℕ) (a b : ℕ) → a ≡ 2 * length xs
    → passed_over job l (xs ++ ys) (a + b) ≡ passed_over job (passed_over job l xs a) ys b
over_join job l [] ys a b e = ap (passed_over job l ys) (let s : a + b ≡ b = omega (arith, e) in s)
over_join job l (x ∷ xs) ys zero b e = absurd (omega (arith, e))
over_join job l (x ∷ xs) ys (suc zero) b e = absurd (omega (arith, e))
over_join job l (x ∷ xs) ys (suc (suc a)) b e =
    ap (passed_over job l (x ∷ (xs ++ ys))) (let s : suc (suc a) + b ≡ suc (suc (a + b)) = omega arith in s)
    ∙ over_join job (trimmed job (collected job l x) x) xs ys a b (omega (arith, e))

over_less : (job : JobNumbers) (l : Ledger) (xs ys : List ℕ) (a : ℕ) → a < 2 * length xs → passed_over job l xs a ≡ passed_over job l (xs ++ ys) a
over_less job l [] ys a h = absurd (omega (arith, h))
over_less job l (x ∷ xs) ys zero h = refl
over_less job l (x ∷ xs) ys (suc zero) h = refl
over_less job l (x ∷ xs) ys (suc (suc a)) h = over_less job (trimmed job (collected job l x) x) xs ys a (omega (arith, h))

stops_join : (s m u : VaultTold) (xs ys : List ℕ) (a b : ℕ) (stop : Option VaultFault) → a ≡ 2 * length xs → s.depot.faults ≤ m.depot.faults
    → StopsPassing (2 * length ys) b m stop u → StopsPassing (2 * length (xs ++ ys)) (a + b) s stop u
stops_join s m u xs ys a b None e fell h = omega (arith, e, h, length-append xs ys)
stops_join s m u xs ys a b (Some (fault.Store count)) e fell h =
    (let less = h.0 in omega (arith, e, less, length-append xs ys), h.1, rose_on s.depot.faults m.depot.faults u.depot.faults fell h.2)
stops_join s m u xs ys a b (Some (fault.Output count)) e fell h = absurd h
stops_join s m u xs ys a b (Some (fault.Damaged v n)) e fell h = absurd h
stops_join s m u xs ys a b (Some fault.Halted) e fell h = absurd h
stops_join s m u xs ys a b (Some fault.Memory) e fell h = absurd h

pub passes_join : (plan : PlanText) (xs ys : List ℕ) (s m u : VaultTold) (a b : ℕ) (stop : Option VaultFault) → PassesOver plan xs s a None m
    → PassesOver plan ys m b stop u → PassesOver plan (xs ++ ys) s (a + b) stop u
passes_join plan xs ys s m u a b stop first second =
    let job : JobNumbers = plan_numbers plan in
    record {
      ledger = second.ledger ∙ ap (λ (l : Ledger). passed_over job l ys b) first.ledger ∙ sym (over_join job (numbers_of s).ledger xs ys a b first.stops);
      journal = second.journal ∙ first.journal;
      places = second.places ∙ first.places;
      halted = second.halted;
      started = second.started ∙ first.started;
      counts = fell_on (counts_of s) (counts_of m) (counts_of u) first.counts second.counts;
      sound = second.sound;
      stops = stops_join s m u xs ys a b stop first.stops first.counts.faults second.stops;
    }

-- one that stopped early has stopped a longer one
stops_more : (s u : VaultTold) (xs ys : List ℕ) (a : ℕ) (f : VaultFault) → StopsPassing (2 * length xs) a s (Some f) u
    → StopsPassing (2 * length (xs ++ ys)) a s (Some f) u
stops_more s u xs ys a (fault.Store count) h = (let less = h.0 in omega (arith, less, length-append xs ys), h.1, h.2)
stops_more s u xs ys a (fault.Output count) h = absurd h
stops_more s u xs ys a (fault.Damaged v n) h = absurd h
stops_more s u xs ys a fault.Halted h = absurd h
stops_more s u xs ys a fault.Memory h = absurd h

stops_less : (s u : VaultTold) (all a : ℕ) (f : VaultFault) → StopsPassing all a s (Some f) u → a < all
stops_less s u all a (fault.Store count) h = h.0
stops_less s u all a (fault.Output count) h = absurd h
stops_less s u all a (fault.Damaged v n) h = absurd h
stops_less s u all a fault.Halted h = absurd h
stops_less s u all a fault.Memory h = absurd h

pub passes_more : (plan : PlanText) (xs ys : List ℕ) (s u : VaultTold) (a : ℕ) (f : VaultFault) → PassesOver plan xs s a (Some f) u
    → PassesOver plan (xs ++ ys) s a (Some f) u
passes_more plan xs ys s u a f passes = record {
  ledger = passes.ledger ∙ over_less (plan_numbers plan) (numbers_of s).ledger xs ys a (stops_less s u (2 * length xs) a f passes.stops);
  journal = passes.journal;
  places = passes.places;
  halted = passes.halted;
  started = passes.started;
  counts = passes.counts;
  sound = passes.sound;
  stops = stops_more s u xs ys a f passes.stops;
}

-- ---- a pass over one vertex

one_stream : (job : JobNumbers) (v : ℕ) → is_sink (vertex job v).kind ≡ false → streams_among job (v ∷ []) ≡ v ∷ []
one_stream job v e = ap (λ (b : Bool). cond (not b) (v ∷ []) []) e

no_stream : (job : JobNumbers) (v : ℕ) → is_sink (vertex job v).kind ≡ true → streams_among job (v ∷ []) ≡ []
no_stream job v e = ap (λ (b : Bool). cond (not b) (v ∷ []) []) e

collected_is : (job : JobNumbers) (l : Ledger) (v : ℕ) → change job l (entry.Collected v) ≡ collected job l v
unfolding change
collected_is job l v = refl

trimmed_is : (job : JobNumbers) (l : Ledger) (v : ℕ) → change job l (entry.Trimmed v) ≡ trimmed job l v
unfolding change
trimmed_is job l v = refl

pub passes_none : (plan : PlanText) (s : VaultTold) (v : ℕ) → IsSoundBesides plan s → s.halted ≡ None → is_sink (vertex (plan_numbers plan) v).kind ≡ true
    → PassesOver plan (streams_among (plan_numbers plan) (v ∷ [])) s 0 None s
passes_none plan s v sound going sink =
    subst (λ (vs : List ℕ). PassesOver plan vs s 0 None s) (sym (no_stream (plan_numbers plan) v sink)) (record {
      ledger = refl;
      journal = refl;
      places = refl;
      halted = going;
      started = refl;
      counts = record { faults = omega arith; output_faults = omega arith; shorts = omega arith };
      sound = sound;
      stops = omega arith;
    })

pub passes_both : (plan : PlanText) (s m u : VaultTold) (v : ℕ) → IsSoundBesides plan s → IsStream (plan_numbers plan) v
    → Changes plan s (Some (entry.Collected v)) None m → Changes plan m (Some (entry.Trimmed v)) None u
    → PassesOver plan (streams_among (plan_numbers plan) (v ∷ [])) s 2 None u
passes_both plan s m u v sound stream first second =
    let job : JobNumbers = plan_numbers plan in
    let between = first.sound sound.0 sound.1 in
    subst (λ (vs : List ℕ). PassesOver plan vs s 2 None u) (sym (one_stream job v stream.1)) (record {
      ledger = second.ledger ∙ trimmed_is job (numbers_of m).ledger v
          ∙ ap (λ (l : Ledger). trimmed job l v) (first.ledger ∙ collected_is job (numbers_of s).ledger v);
      journal = second.journal ∙ first.journal;
      places = second.places ∙ first.places;
      halted = second.halted;
      started = second.started ∙ first.started;
      counts = fell_on (counts_of s) (counts_of m) (counts_of u) first.counts second.counts;
      sound = (sound.0 ++ entry.Collected v ∷ [] ++ entry.Trimmed v ∷ [], second.sound (sound.0 ++ entry.Collected v ∷ []) between);
      stops = omega arith;
    })

pub passes_half : (plan : PlanText) (s m u : VaultTold) (v : ℕ) (f : VaultFault) → IsSoundBesides plan s → IsStream (plan_numbers plan) v
    → Changes plan s (Some (entry.Collected v)) None m → FailsToDrop plan m f u
    → PassesOver plan (streams_among (plan_numbers plan) (v ∷ [])) s 1 (Some f) u
passes_half plan s m u v (fault.Store count) sound stream first fails =
    let job : JobNumbers = plan_numbers plan in
    let between = first.sound sound.0 sound.1 in
    subst (λ (vs : List ℕ). PassesOver plan vs s 1 (Some (fault.Store count)) u) (sym (one_stream job v stream.1)) (record {
      ledger = fails.2.ledger ∙ first.ledger ∙ collected_is job (numbers_of s).ledger v;
      journal = fails.2.journal ∙ first.journal;
      places = fails.2.places ∙ first.places;
      halted = fails.2.halted;
      started = fails.2.started ∙ first.started;
      counts = fell_on (counts_of s) (counts_of m) (counts_of u) first.counts fails.2.counts;
      sound = (sound.0 ++ entry.Collected v ∷ [], fails.2.sound (sound.0 ++ entry.Collected v ∷ []) between);
      stops = (omega arith, fails.0, rose_on s.depot.faults m.depot.faults u.depot.faults first.counts.faults fails.1);
    })
passes_half plan s m u v (fault.Output count) sound stream first fails = absurd fails
passes_half plan s m u v (fault.Damaged w n) sound stream first fails = absurd fails
passes_half plan s m u v fault.Halted sound stream first fails = absurd fails
passes_half plan s m u v fault.Memory sound stream first fails = absurd fails

pub passes_stopped : (plan : PlanText) (s u : VaultTold) (v : ℕ) (f : VaultFault) → IsSoundBesides plan s → IsStream (plan_numbers plan) v
    → FailsToDrop plan s f u → PassesOver plan (streams_among (plan_numbers plan) (v ∷ [])) s 0 (Some f) u
passes_stopped plan s u v (fault.Store count) sound stream fails =
    subst (λ (vs : List ℕ). PassesOver plan vs s 0 (Some (fault.Store count)) u) (sym (one_stream (plan_numbers plan) v stream.1)) (record {
      ledger = fails.2.ledger;
      journal = fails.2.journal;
      places = fails.2.places;
      halted = fails.2.halted;
      started = fails.2.started;
      counts = fails.2.counts;
      sound = (sound.0, fails.2.sound sound.0 sound.1);
      stops = (omega arith, fails.0, fails.1);
    })
passes_stopped plan s u v (fault.Output count) sound stream fails = absurd fails
passes_stopped plan s u v (fault.Damaged w n) sound stream fails = absurd fails
passes_stopped plan s u v fault.Halted sound stream fails = absurd fails
passes_stopped plan s u v fault.Memory sound stream fails = absurd fails

-- ---- the streams among the last vertices

singleton_back : (t : Bool) (v : ℕ) → reverse (cond t (v ∷ []) []) ≡ cond t (v ∷ []) []
singleton_back true v = refl
singleton_back false v = refl

-- one vertex more
pub last_more : (job : JobNumbers) (k : ℕ) → k < length job.vertices
    → last_streams job k ++ streams_among job ((length job.vertices - 1 - k) ∷ []) ≡ last_streams job (k + 1)
last_more job k within =
    let n : ℕ = length job.vertices in
    let v : ℕ = n - 1 - k in
    let f : ℕ → Bool = λ w. not (is_sink (vertex job w).kind) in
    let start : n - (k + 1) ≡ v = omega arith in
    let next : v + 1 ≡ n - k = omega (arith, within) in
    let more : k + 1 ≡ suc k = omega arith in
    let range : range_with_len (n - (k + 1)) (k + 1) ≡ v ∷ range_with_len (n - k) k =
    ap₂ range_with_len start more ∙ ap (λ (m : ℕ). v ∷ range_with_len m k) next in
    sym (ap (λ (ns : List ℕ). reverse (filter f ns)) range
    ∙ ap reverse (filter-append f (v ∷ []) (range_with_len (n - k) k))
    ∙ reverse-append (filter f (v ∷ [])) (filter f (range_with_len (n - k) k))
    ∙ ap (λ (ns : List ℕ). reverse (filter f (range_with_len (n - k) k)) ++ ns) (singleton_back (f v) v))

range_split : (a m k : ℕ) → range_with_len a (m + k) ≡ range_with_len a m ++ range_with_len (a + m) k
range_split a zero k = ap₂ range_with_len (let e : a ≡ a + 0 = omega arith in e) (let e : 0 + k ≡ k = omega arith in e)
range_split a (suc m) k =
    ap (range_with_len a) (let e : suc m + k ≡ suc (m + k) = omega arith in e)
    ∙ ap (λ (ns : List ℕ). a ∷ ns) (range_split (a + 1) m k ∙ ap (λ (b : ℕ). range_with_len (a + 1) m ++ range_with_len b k) (let e : a + 1 + m ≡ a + suc m = omega arith in e))

-- all of them are the last ones and the others
pub last_rest : (job : JobNumbers) (k : ℕ) → k ≤ length job.vertices
    → last_streams job k ++ reverse (streams_among job (range_with_len 0 (length job.vertices - k))) ≡ last_streams job (length job.vertices)
last_rest job k within =
    let n : ℕ = length job.vertices in
    let f : ℕ → Bool = λ w. not (is_sink (vertex job w).kind) in
    let front : List ℕ = range_with_len 0 (n - k) in
    let back : List ℕ = range_with_len (n - k) k in
    let range : range_with_len (n - n) n ≡ front ++ back =
    ap₂ range_with_len (let e : n - n ≡ 0 = omega arith in e) (let e : n ≡ n - k + k = omega (arith, within) in e) ∙ range_split 0 (n - k) k
    ∙ ap (λ (b : ℕ). front ++ range_with_len b k) (let e : 0 + (n - k) ≡ n - k = omega arith in e) in
    sym (ap (λ (ns : List ℕ). reverse (filter f ns)) range ∙ ap reverse (filter-append f front back) ∙ reverse-append (filter f front) (filter f back))

pub last_all : (job : JobNumbers) → last_streams job (length job.vertices) ≡ pass_order job
last_all job =
    let n : ℕ = length job.vertices in
    ap (λ (a : ℕ). reverse (streams_among job (range_with_len a n))) (let e : n - n ≡ 0 = omega arith in e)

pub last_none : (job : JobNumbers) → last_streams job 0 ≡ []
last_none job = refl

pub passes_begin : (plan : PlanText) (s : VaultTold) → IsSoundBesides plan s → s.halted ≡ None → PassesOver plan [] s 0 None s
passes_begin plan s sound going = record {
  ledger = refl;
  journal = refl;
  places = refl;
  halted = going;
  started = refl;
  counts = record { faults = omega arith; output_faults = omega arith; shorts = omega arith };
  sound = sound;
  stops = omega arith;
}

-- ---- a pass keeps what is counted

pub over_since : (job : JobNumbers) (l : Ledger) (vs : List ℕ) (halves : ℕ) → (passed_over job l vs halves).since ≡ l.since
over_since job l [] halves = refl
over_since job l (v ∷ vs) zero = refl
over_since job l (v ∷ vs) (suc zero) = refl
over_since job l (v ∷ vs) (suc (suc halves)) = over_since job (trimmed job (collected job l v) v) vs halves

-- ---- tests

pub some_of : {A : Type 0} (o : Option A) → is_some o ≡ true → (x : A) × (o ≡ Some x)
some_of None h = absurd cc
some_of (Some x) h = (x, refl)
