-- How it ends that a schedule is played, from how the engine ends it.
use Rattle.std.proofs.Common.{◌≡◌, ◌≢◌, ℕ, zero, suc, ◌<◌, ◌≤◌, ◌⊎◌, true, List, [], ◌∷◌, ◌++◌, length, get_or, take, map}
use Rattle.std.proofs.Common.{Option, Some, None, Result, Ok, Err, refl, sym, ap, ◌∙◌, subst, inl, inr, arith}
use Rattle.std.specs.Prelude.{All, IfErr, IfOk, IsSome, slice_get, option_map}
use Rattle.std.proofs.lemmas.Bool.{cases_lt, ltb-true}
use Rattle.std.proofs.lemmas.List.{get_or_at, get_or_past, length-append, length-map}
use Rattle.std.proofs.lemmas.Option.{get_or_from_slice_get, slice_get-map}
use Rattle.ss_acts.specs.Faults.{Fails}
use Rattle.ss_acts.specs.declared.fault.EngineFault.{EngineFault}
use Rattle.ss_acts.specs.declared.fault.EngineFault.TheVariants as engine
use Rattle.ss_engine.specs.Applies.{CanMeet, IsCause, IsFullAt, MayApply}
use Rattle.ss_engine.specs.Begins.{Begins}
use Rattle.ss_engine.specs.Joint.{Joint}
use Rattle.ss_engine.specs.Plays.{PlaysAll, PlaysUpTo, Runs, StopsAt, TraceTold, acts_of, no_acts, with_made}
use Rattle.ss_engine.specs.Told.{PlantTold, state_of}
use Rattle.ss_fail.specs.declared.act.Act.{Act}
use Rattle.ss_fail.specs.declared.act.Act.TheVariants as act
use Rattle.ss_frames.specs.Plans.{plan_numbers}
use Rattle.ss_outside.specs.Depot.{DepotTold}
use Rattle.ss_outside.specs.Faults.{Rose}
use Rattle.ss_outside.specs.Told.{OutputsTold}
use Rattle.ss_plan.specs.Limit.{IsLongAmong}
use Rattle.ss_plan.specs.Plan.{PlanText}
use Rattle.ss_plan.specs.Streams.{every}
use Rattle.ss_state.specs.IsNumbers.{IsNumbers}
use Rattle.ss_state.specs.Numbers.{JobNumbers, VertexNumbers, input, out, size, sum_of, vertex, wanted_input}
use Rattle.ss_state.specs.State.{InstNumbers, LedgerRow, State, empty_row, first_row, first_state, inst_at, row_at}
use Rattle.ss_state.specs.Step.{Made, MayAct, Run, has_passed, is_full, read_at, wanted_vertex}
use Rattle.ss_state.specs.declared.entry.Entry.{Entry}
use Rattle.ss_vault.specs.Calls.{RefusesStart}
use Rattle.ss_vault.specs.Counts.{NoneFell, counts_told}
use Rattle.ss_vault.specs.Facts.{PlanFacts}
use Rattle.ss_vault.specs.Sound.{HasFiles, Sound, sink_file}
use Rattle.ss_vault.specs.Told.{VaultTold, counts_of, durable_of, numbers_of}
use Rattle.ss_vault.specs.declared.counts.Counts.{Counts}
use Rattle.ss_vault.specs.declared.fault.VaultFault.{VaultFault}
use Rattle.ss_vault.specs.declared.fault.VaultFault.TheVariants as vault
use Rattle.ss_play.specs.Ending.{Ends, EndsAll, EndsEarly, devices_of}
use Rattle.ss_play.specs.Laws.{AllAreTold, RefusalsAreTold, SinceStart, StopsAreTold}
use Rattle.ss_play.specs.Playing.{AreMarks, Devices, EndsPlaying, IsCauseOf, NoCountFell, Played, PutsToSinks, PutsWhereTaken, StopsPlaying, Tells}
use Rattle.ss_play.specs.Faults.{IsOfStart, of_engine, of_vault}
use Rattle.ss_play.specs.declared.fault.PlayFault.{PlayFault}
use Rattle.ss_play.specs.declared.fault.PlayFault.TheVariants as fault
use Rattle.ss_play.specs.declared.playing.Report.{Report}

-- ---- counts

rose_before : (a b c : ℕ) → a ≤ b → Rose b c → Rose a c
rose_before a b c le rose = omega (arith, le, rose)

fell_never : (a b c : Counts) → NoneFell a b → NoneFell b c → NoneFell a c
fell_never a b c first second =
    let f = first.faults in
    let o = first.output_faults in
    let s = first.shorts in
    let f2 = second.faults in
    let o2 = second.output_faults in
    let s2 = second.shorts in
    record { faults = omega (arith, f, f2); output_faults = omega (arith, o, o2); shorts = omega (arith, s, s2) }

-- a cause within a later part of the call is one within the whole
cause_before : (plan : PlanText) (a b c : Devices) (f : PlayFault) → NoCountFell a b → IsCauseOf plan b f c → IsCauseOf plan a f c
cause_before plan a b c fault.Store fell cause = rose_before a.depot.faults b.depot.faults c.depot.faults fell.faults cause
cause_before plan a b c fault.Output fell cause = rose_before a.outputs.faults b.outputs.faults c.outputs.faults fell.output_faults cause
cause_before plan a b c (fault.Full v) fell cause = cause
cause_before plan a b c fault.Memory fell cause = tt
cause_before plan a b c (fault.Damaged v n) fell cause =
    (cause.0, rose_before a.depot.shorts b.depot.shorts c.depot.shorts fell.shorts cause.1)

-- ---- a stream that is too long

sum_of_taken : (n : ℕ) (xs : List ℕ) → sum_of (take n xs) ≤ sum_of xs
sum_of_taken zero xs = omega arith
sum_of_taken (suc n) [] = omega arith
sum_of_taken (suc n) (x ∷ xs) = let behind = sum_of_taken n xs in omega (arith, behind)

out_within : (x : VertexNumbers) (n : ℕ) → out x n ≤ size x
unfolding out size
out_within x n = sum_of_taken n x.given

passed_within : (most : ℕ) (x : VertexNumbers) (inst : Option InstNumbers) → has_passed most x inst ≡ true → most < size x
passed_within most x None e = absurd cc
passed_within most x (Some up) e =
    let more = ltb-true most (out x up.n) e in
    let within = out_within x up.n in
    omega (arith, more, within)

full_is_long : (plan : PlanText) → PlanFacts plan → (s : State) (w r : ℕ) → MayAct (plan_numbers plan) (act.Read w r)
    → is_full (plan_numbers plan) s (act.Read w r) ≡ true → IsLongAmong every plan w
full_is_long plan facts s w r may e =
    let more = passed_within (plan_numbers plan).max_elements (vertex (plan_numbers plan) w) (read_at (plan_numbers plan) s w r).inst e in
    let most = facts.most in
    let many = facts.size w may.0 in
    (refl, omega (arith, more, most, many))

long : (p : PlantTold) → PlanFacts p.plan → (a : Act) (v reached : ℕ) → MayAct (plan_numbers p.plan) a → IsFullAt p a v reached
    → IsLongAmong every p.plan v
long p facts (act.Read w r) v reached may is =
    subst (IsLongAmong every p.plan) (sym is.0) (full_is_long p.plan facts (state_of p) w r may is.2)
long p facts (act.Write w r) v reached may is = absurd is
long p facts (act.Snap w r) v reached may is = absurd is
long p facts (act.Crash w r) v reached may is = absurd is
long p facts (act.Load w r) v reached may is = absurd is
long p facts (act.Lose w) v reached may is = absurd is
long p facts (act.Flush w count) v reached may is = absurd is
long p facts (act.Take k) v reached may is = absurd is
long p facts (act.Collect w) v reached may is = absurd is
long p facts (act.Trim w) v reached may is = absurd is
long p facts act.Pass v reached may is = absurd is

-- ---- what is damaged is of a vertex

input_before : (job : JobNumbers) → IsNumbers job → (v i : ℕ) → v < length job.vertices
    → (i < length (vertex job v).inputs) ⊎ (length (vertex job v).inputs ≤ i) → input (vertex job v) i < length job.vertices
input_before job numbers v i h (inl within) =
    let earlier = (numbers.each v h).earlier i within in
    omega (arith, earlier, h)
input_before job numbers v i h (inr past) =
    let none = get_or_past (vertex job v).inputs i 0 past in
    omega (arith, none, h)

input_within : (job : JobNumbers) → IsNumbers job → (v i : ℕ) → v < length job.vertices → input (vertex job v) i < length job.vertices
input_within job numbers v i h = input_before job numbers v i h (cases_lt i (length (vertex job v).inputs))

wanted_within : (job : JobNumbers) → IsNumbers job → (v : ℕ) (inst : Option InstNumbers) → v < length job.vertices
    → wanted_vertex (vertex job v) inst < length job.vertices
wanted_within job numbers v None h = omega (arith, h)
wanted_within job numbers v (Some up) h = input_within job numbers v (wanted_input (vertex job v) up.n) h

damaged_within : (p : PlantTold) → PlanFacts p.plan → (a : Act) (v n : ℕ) → MayAct (plan_numbers p.plan) a → CanMeet p a (vault.Damaged v n)
    → v < length (plan_numbers p.plan).vertices
damaged_within p facts (act.Read w r) v n may is =
    let within = wanted_within (plan_numbers p.plan) facts.numbers w (inst_at (state_of p) w r) may.0.0 in
    let same = is.0 in
    omega (arith, within, same)
damaged_within p facts (act.Write w r) v n may is = absurd is
damaged_within p facts (act.Snap w r) v n may is = absurd is
damaged_within p facts (act.Crash w r) v n may is = absurd is
damaged_within p facts (act.Load w r) v n may is =
    let within = may.0.0 in
    let same = is.0 in
    omega (arith, within, same)
damaged_within p facts (act.Lose w) v n may is = absurd is
damaged_within p facts (act.Flush w count) v n may is = absurd is
damaged_within p facts (act.Take k) v n may is =
    let within = input_within (plan_numbers p.plan) facts.numbers k 0 may.0 in
    let same = is.0 in
    omega (arith, within, same)
damaged_within p facts (act.Collect w) v n may is = absurd is
damaged_within p facts (act.Trim w) v n may is = absurd is
damaged_within p facts act.Pass v n may is = absurd is

-- ---- one act that met a fault

-- why it did, and that no count fell
record Told (plan : PlanText) (s : VaultTold) (f : PlayFault) (u : VaultTold) : Type 0 where
  cause : IsCauseOf plan (devices_of s) f (devices_of u)
  counts : NoCountFell (devices_of s) (devices_of u)

not_halted : (halted : Option VaultFault) → halted ≡ None → IsSome halted → ⊥
not_halted None e is = absurd cc
not_halted (Some f) e is = absurd cc

told_by_vault : (p : PlantTold) → PlanFacts p.plan → (a : Act) (entry : Option Entry) (q : PlantTold) (f : VaultFault) → MayAct (plan_numbers p.plan) a
    → p.vault.halted ≡ None → Fails (CanMeet p a) p.plan p.vault entry (engine.Vault f) q.vault → Told p.plan p.vault (of_vault f) q.vault
told_by_vault p facts a entry q (vault.Store count) may going fails =
    record { cause = fails.1.1; counts = fails.1.2.counts }
told_by_vault p facts a entry q (vault.Output count) may going fails =
    record { cause = fails.1.1; counts = fails.1.2.counts }
told_by_vault p facts a entry q (vault.Damaged v n) may going fails =
    let within = damaged_within p facts a v n may fails.0 in
    let count = facts.count in
    let roles = facts.is.job.roles in
    record { cause = (omega (arith, within, count, roles), fails.1.0); counts = fails.1.1.counts }
told_by_vault p facts a entry q vault.Halted may going fails = absurd (not_halted p.vault.halted going fails.0)
told_by_vault p facts a entry q vault.Memory may going fails = absurd fails

told_act : (p : PlantTold) → PlanFacts p.plan → (a : Act) (q : PlantTold) (f : EngineFault) → MayAct (plan_numbers p.plan) a
    → p.vault.halted ≡ None → IsCause p a q f → Told p.plan p.vault (of_engine f) q.vault
told_act p facts a q (engine.Vault f) may going cause = told_by_vault p facts a cause.0 q f may going cause.1
told_act p facts a q (engine.Full v reached) may going cause =
    record { cause = long p facts a v reached may cause.0; counts = cause.1.goes.counts }
told_act p facts a q engine.Memory may going cause = record { cause = tt; counts = cause.2.counts }

nothing_fell : (s : VaultTold) → NoCountFell (devices_of s) (devices_of s)
nothing_fell s = record { faults = omega arith; output_faults = omega arith; shorts = omega arith }

-- where a list of acts stopped
record Stopped (p : PlantTold) (f : PlayFault) (q : PlantTold) : Type 0 where
  plan : q.plan ≡ p.plan
  told : Told p.plan p.vault f q.vault

no_memory : (p q : PlantTold) (f : EngineFault) → f ≡ engine.Memory → q ≡ p → Stopped p (of_engine f) q
no_memory p q f e same =
    let begun : Stopped p fault.Memory p = record { plan = refl; told = record { cause = tt; counts = nothing_fell p.vault } } in
    subst (λ (g : EngineFault). Stopped p (of_engine g) q) (sym e) (subst (Stopped p fault.Memory) (sym same) begun)

stopped : (p : PlantTold) → PlanFacts p.plan → (a : Act) (q : PlantTold) (f : EngineFault) → MayAct (plan_numbers p.plan) a
    → p.vault.halted ≡ None → StopsAt p a q f → Stopped p (of_engine f) q
stopped p facts a q f may going (inl meets) = record { plan = meets.plan; told = told_act p facts a q f may going meets.cause }
stopped p facts a q f may going (inr none) = no_memory p q f none.0 none.1

-- ---- a list of acts

next_may : (plan : PlanText) (acts before rest : List Act) (next : Act) → acts ≡ before ++ next ∷ rest → All (MayAct (plan_numbers plan)) acts
    → MayAct (plan_numbers plan) next
next_may plan acts before rest next e may =
    let lt : length before < length acts = let many = ap length e ∙ length-append before (next ∷ rest) in omega (arith, many) in
    subst (MayAct (plan_numbers plan))
    (ap (λ (xs : List Act). get_or xs (length before) next) e ∙ get_or_at before next rest next (length before) refl)
    (may (length before) next lt)

-- acts that were made put to no file but those of sinks
to_sinks : (p q : PlantTold) (made : List Made) → Runs p made q → PutsToSinks p.plan p.vault.outputs q.vault.outputs
to_sinks p q made runs name not_sink = runs.outputs name (λ k file. absurd (not_sink k file))

-- and so did those up to one that stopped, and that one
to_sinks_early : (p q : PlantTold) (acts : List Act) (before after : TraceTold) (f : EngineFault) → PlaysUpTo p acts before f q after
    → PutsToSinks p.plan p.vault.outputs q.vault.outputs
to_sinks_early p q acts before after f plays name not_sink =
    plays.outputs name
    (λ k is. subst (λ (plan : PlanText). sink_file plan k ≢ Some name) (sym plays.runs.plan) (not_sink k))
    ∙ to_sinks p plays.between plays.made plays.runs name not_sink

pub ends_early : (p : PlantTold) → PlanFacts p.plan → (acts : List Act) (before after : TraceTold) (f : EngineFault) (q : PlantTold)
    → p.vault.halted ≡ None → All (MayAct (plan_numbers p.plan)) acts → PlaysUpTo p acts before f q after
    → EndsEarly p acts (of_engine f) q
ends_early p facts acts before after f q going may plays =
    let mid = plays.between in
    let same : mid.plan ≡ p.plan = plays.runs.plan in
    let may_next : MayAct (plan_numbers p.plan) plays.next = next_may p.plan acts (acts_of plays.made) plays.rest plays.next plays.are may in
    let stop : Stopped mid (of_engine f) q =
    stopped mid (subst PlanFacts (sym same) facts) plays.next q f (subst (λ (plan : PlanText). MayAct (plan_numbers plan) plays.next) (sym same) may_next)
    (plays.runs.goes.halted ∙ going) plays.stops in
    let counts : NoCountFell (devices_of p.vault) (devices_of mid.vault) = plays.runs.goes.counts in
    record {
      plan = stop.plan ∙ same;
      stops = inl (f, before, after, plays, refl);
      cause = cause_before p.plan (devices_of p.vault) (devices_of mid.vault) (devices_of q.vault) (of_engine f) counts
          (subst (λ (plan : PlanText). IsCauseOf plan (devices_of mid.vault) (of_engine f) (devices_of q.vault)) same stop.told.cause);
      counts = fell_never (counts_of p.vault) (counts_of mid.vault) (counts_of q.vault) counts stop.told.counts;
      outputs = to_sinks_early p q acts before after f plays;
    }

-- all acts were made, but there was no memory to tell of them
ends_untold : (p : PlantTold) (acts : List Act) (made : List Made) (f : PlayFault) (q : PlantTold) → acts_of made ≡ acts → Runs p made q
    → f ≡ fault.Memory → EndsEarly p acts f q
ends_untold p acts made f q are runs memory = record {
  plan = runs.plan;
  stops = inr (made, are, runs, memory);
  cause = subst (λ (g : PlayFault). IsCauseOf p.plan (devices_of p.vault) g (devices_of q.vault)) (sym memory) tt;
  counts = runs.goes.counts;
  outputs = to_sinks p q made runs;
}

-- a trace of no act before has just those that were made
told_made : (p : PlantTold) (acts : List Act) (before after : TraceTold) (q : PlantTold) (plays : PlaysAll p acts before q after) → before ≡ no_acts
    → after.made ≡ plays.made
told_made p acts before after q plays none =
    ap (λ (t : TraceTold). t.made) (plays.trace ∙ ap (λ (t : TraceTold). with_made t plays.made) none)

-- all acts were made, and telling of them went well, or wanted memory
pub ends_told : (p : PlantTold) (acts : List Act) (before after : TraceTold) (q : PlantTold) (answer : Result Report PlayFault)
    → PlaysAll p acts before q after → before ≡ no_acts → IfOk answer (Tells q.plan after.made (state_of q)) → IfErr answer (λ f. f ≡ fault.Memory)
    → Ends p acts answer q
ends_told p acts before after q (Ok report) plays none tells memory = record {
  made = plays.made;
  are = plays.are;
  runs = plays.runs;
  tells = subst (λ (made : List Made). Tells q.plan made (state_of q) report) (told_made p acts before after q plays none) tells;
}
ends_told p acts before after q (Err f) plays none tells memory =
    ends_untold p acts plays.made f q plays.are plays.runs memory

-- the acts that were made may be told of
pub may_be_made : (p : PlantTold) (acts : List Act) (before after : TraceTold) (q : PlantTold) → PlaysAll p acts before q after → before ≡ no_acts
    → All (MayApply p.plan) acts → All (MayApply q.plan) (acts_of after.made)
may_be_made p acts before after q plays none may =
    let are : after.made ≡ plays.made = told_made p acts before after q plays none in
    subst (λ (plan : PlanText). All (MayApply plan) (acts_of after.made)) (sym plays.runs.plan)
    (subst (λ (made : List Made). All (MayApply p.plan) (acts_of made)) (sym are)
    (subst (All (MayApply p.plan)) (sym plays.are) may))

-- ---- a schedule, from the start on

-- what a sink has taken at the start
first_taken : (job : JobNumbers) (k : ℕ) → (row_at (first_state job).vault.ledger k).taken ≡ 0
first_taken job k = row_taken job.vertices k
  where
    row_taken : (xs : List VertexNumbers) (k : ℕ) → (get_or (map first_row xs) k empty_row).taken ≡ 0
    row_taken [] k = refl
    row_taken (x ∷ xs) zero = refl
    row_taken (x ∷ xs) (suc k) = row_taken xs k

module _ (plan : PlanText) (acts : List Act) (before : Devices) (p q : PlantTold) (began : Begins plan before.outputs before.depot p)
    (joint : Joint p) (left : Joint q) where
  fell_at_start : NoCountFell before (devices_of p.vault)
  fell_at_start = subst (λ (counts : Counts). NoneFell counts (counts_of p.vault)) began.started joint.parts.vault.counted.none_fell

  fell_to : NoCountFell (devices_of p.vault) (devices_of q.vault) → NoCountFell before (devices_of q.vault)
  fell_to fell =
      fell_never (counts_told before.outputs before.depot) (counts_of p.vault) (counts_of q.vault) fell_at_start fell

  others_to : PutsToSinks p.plan p.vault.outputs q.vault.outputs → PutsToSinks plan before.outputs q.vault.outputs
  others_to others =
      subst (λ (told : OutputsTold). PutsToSinks plan told q.vault.outputs) began.same_outputs
      (subst (λ (text : PlanText). PutsToSinks text p.vault.outputs q.vault.outputs) began.of_plan others)

  -- at the start no sink has taken anything
  none_taken : (k : ℕ) → (durable_of p.vault k).taken ≡ 0
  none_taken k = ap (λ (s : State). (row_at s.vault.ledger k).taken) began.state ∙ first_taken (plan_numbers plan) k

  where_taken : (made : List Made) → Runs p made q → PutsWhereTaken plan (numbers_of q.vault).ledger before.outputs q.vault.outputs
  where_taken made runs name none =
      subst (λ (told : OutputsTold). q.vault.outputs.put_to name ≡ told.put_to name) began.same_outputs
      (runs.outputs name (λ k file. none k (subst (λ (text : PlanText). sink_file text k ≡ Some name) began.of_plan file) ∙ sym (none_taken k)))

  played : (made : List Made) → acts_of made ≡ acts → Runs p made q → Played plan acts before made (state_of q) (devices_of q.vault)
  played made are runs =
      let of_plan : q.plan ≡ plan = runs.plan ∙ began.of_plan in
      let sound : Sound plan q.vault = subst (λ (text : PlanText). Sound text q.vault) of_plan left.parts.vault in
      let going : q.vault.halted ≡ None = runs.goes.halted ∙ began.halted in
      let run_from : Run (plan_numbers plan) (state_of p) made (state_of q) =
      subst (λ (text : PlanText). Run (plan_numbers text) (state_of p) made (state_of q)) began.of_plan runs.run in
      record {
        start = p;
        end = q;
        begins = began;
        runs = runs;
        of_plan = of_plan;
        joint = left;
        state = refl;
        going = going;
        outputs = refl;
        depot = refl;
        are = are;
        run = subst (λ (start : State). Run (plan_numbers plan) start made (state_of q)) began.state run_from;
        files = subst (λ (halted : Option VaultFault). HasFiles plan (numbers_of q.vault).ledger halted q.vault.outputs) going
            sound.delivered.files;
        others = where_taken made runs;
        holds = record { records = sound.records; frames = λ v n. (sound.snapshots v).frames n };
        counts = fell_to runs.goes.counts;
      }

  plays_all : (report : Report) → EndsAll p acts report q → EndsPlaying plan acts before (Ok report) (devices_of q.vault)
  plays_all report ends =
      let of_plan : q.plan ≡ plan = ends.runs.plan ∙ began.of_plan in
      let tells : Tells plan ends.made (state_of q) report =
      subst (λ (text : PlanText). Tells text ends.made (state_of q) report) of_plan ends.tells in
      (ends.made, state_of q, played ends.made ends.are ends.runs, tells)

  plays_early : (f : PlayFault) → EndsEarly p acts f q → EndsPlaying plan acts before (Err f) (devices_of q.vault)
  plays_early f ends =
      let of_plan : q.plan ≡ plan = ends.plan ∙ began.of_plan in
      let cause : IsCauseOf plan (devices_of p.vault) f (devices_of q.vault) =
      subst (λ (text : PlanText). IsCauseOf text (devices_of p.vault) f (devices_of q.vault)) began.of_plan ends.cause in
      record {
        cause = cause_before plan before (devices_of p.vault) (devices_of q.vault) f fell_at_start cause;
        left = inl (record {
          start = p;
          end = q;
          begins = began;
          stops = ends.stops;
          of_plan = of_plan;
          joint = left;
          outputs = refl;
          depot = refl;
        });
        others = others_to ends.outputs;
        counts = fell_to ends.counts;
      }

  plays_on : (answer : Result Report PlayFault) → Ends p acts answer q → EndsPlaying plan acts before answer (devices_of q.vault)
  plays_on (Ok report) ends = plays_all report ends
  plays_on (Err f) ends = plays_early f ends

-- what a job leaves when it ended, told by its devices
pub plays : (plan : PlanText) (acts : List Act) (before : Devices) (p q : PlantTold) → Begins plan before.outputs before.depot p
    → Joint p → Joint q → (answer : Result Report PlayFault) → Ends p acts answer q → (outputs : OutputsTold) (depot : DepotTold)
    → outputs ≡ q.vault.outputs → depot ≡ q.vault.depot
    → EndsPlaying plan acts before answer (record { outputs = outputs; depot = depot })
plays plan acts before p q began joint left answer ends outputs depot same_outputs same_depot =
    let same : devices_of q.vault ≡ record { outputs = outputs; depot = depot } = cc in
    subst (EndsPlaying plan acts before answer) same (plays_on plan acts before p q began joint left answer ends)

-- ---- a start that was refused

start_cause : (plan : PlanText) (f : VaultFault) (before after : Devices) → after.outputs ≡ before.outputs
    → RefusesStart plan f before.depot after.depot → IsCauseOf plan before (of_vault f) after
start_cause plan (vault.Store count) before after same refuses = refuses.cause.1
start_cause plan (vault.Output count) before after same refuses = absurd refuses.cause
start_cause plan (vault.Damaged v n) before after same refuses = absurd refuses.cause
start_cause plan vault.Halted before after same refuses = absurd refuses.cause
start_cause plan vault.Memory before after same refuses = tt

is_of_start : (plan : PlanText) (f : VaultFault) (before after : DepotTold) → RefusesStart plan f before after → IsOfStart (of_vault f)
is_of_start plan (vault.Store count) before after refuses = tt
is_of_start plan (vault.Output count) before after refuses = absurd refuses.cause
is_of_start plan (vault.Damaged v n) before after refuses = absurd refuses.cause
is_of_start plan vault.Halted before after refuses = absurd refuses.cause
is_of_start plan vault.Memory before after refuses = tt

pub refused : (plan : PlanText) (acts : List Act) (f : VaultFault) (before after : Devices) → after.outputs ≡ before.outputs
    → RefusesStart plan f before.depot after.depot → EndsPlaying plan acts before (Err (of_vault f)) after
refused plan acts f before after same refuses =
    let faults = refuses.faults in
    let shorts = refuses.shorts in
    let of_outputs : before.outputs.faults ≡ after.outputs.faults = sym (ap (λ (o : OutputsTold). o.faults) same) in
    record {
      cause = start_cause plan f before after same refuses;
      left = inr (record { cause = is_of_start plan f before.depot after.depot refuses; holds = refuses.holds; outputs = same });
      others = λ name not_sink. ap (λ (o : OutputsTold). o.put_to name) same;
      counts = record { faults = faults; output_faults = omega (arith, of_outputs); shorts = shorts };
    }

-- ---- acts that others chose

pub all_told : AllAreTold
all_told plan before p q acts made since are runs =
    played plan acts before p q since.begins since.joint since.left made are runs

stops_of : (plan : PlanText) (before : Devices) (p q : PlantTold) (acts : List Act) (f : PlayFault) → SinceStart plan before p q
    → EndsEarly p acts f q → StopsPlaying plan acts before f (devices_of q.vault)
stops_of plan before p q acts f since early = plays_early plan acts before p q since.begins since.joint since.left f early

pub stops_told : StopsAreTold
stops_told plan before p q acts f facts since may (inl (e, from, to, plays, is)) =
    let of_plan : plan ≡ p.plan = sym since.begins.of_plan in
    let early : EndsEarly p acts (of_engine e) q =
    ends_early p (subst PlanFacts of_plan facts) acts from to e q since.begins.halted
    (subst (λ (text : PlanText). All (MayAct (plan_numbers text)) acts) of_plan may) plays in
    stops_of plan before p q acts f since (subst (λ (g : PlayFault). EndsEarly p acts g q) (sym is) early)
stops_told plan before p q acts f facts since may (inr (made, are, runs, memory)) =
    stops_of plan before p q acts f since (ends_untold p acts made f q are runs memory)

pub refusals_told : RefusalsAreTold
refusals_told plan before after acts f same refuses = refused plan acts f before after same refuses

-- ---- what is told

mark_in : (rows : List LedgerRow) (v mark : ℕ) (row : Option LedgerRow) → slice_get rows v ≡ row
    → option_map (λ row. row.mark) row ≡ Some mark → mark ≡ (get_or rows v empty_row).mark
mark_in rows v mark None is e = absurd cc
mark_in rows v mark (Some row) is e =
    let same : row.mark ≡ mark = cc in
    sym same ∙ sym (ap (λ (r : LedgerRow). r.mark) (get_or_from_slice_get rows v row empty_row is))

-- the marks of all rows are those of the vertices
pub marks_are : (plan : PlanText) (s : State) (marks : List ℕ) → marks ≡ map (λ row. row.mark) s.vault.ledger.rows
    → length s.vault.ledger.rows ≡ length (plan_numbers plan).vertices → AreMarks plan s marks
marks_are plan s marks are many = record {
  many = ap length are ∙ length-map s.vault.ledger.rows (λ row. row.mark) ∙ many;
  each = λ v mark is. mark_in s.vault.ledger.rows v mark (slice_get s.vault.ledger.rows v) refl
      (sym (slice_get-map (λ row. row.mark) s.vault.ledger.rows v) ∙ sym (ap (λ (ms : List ℕ). slice_get ms v) are) ∙ is);
}
