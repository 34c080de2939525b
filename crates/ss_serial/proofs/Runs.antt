-- Acts that were made one list behind another.
use Rattle.std.proofs.Common.{◌≡◌, ◌∙◌, Bool, true, false, List, [], ◌∷◌, ◌++◌, Result, Ok, Err, map, refl, sym, ap, subst, arith, append_assoc}
use Rattle.std.proofs.lemmas.List.{append-nil, map-append}
use Rattle.ss_acts.specs.Leaves.{Goes, PutsToTakers}
use Rattle.ss_acts.specs.declared.fault.EngineFault.{EngineFault}
use Rattle.ss_engine.specs.Joint.{Joint}
use Rattle.ss_engine.specs.Plays.{NoneIsFull, Plays, PlaysAll, PlaysUpTo, Runs, TraceTold, acts_of, with_made}
use Rattle.ss_engine.specs.PlaysOne.{MakesOne, StopsAtOne}
use Rattle.ss_engine.specs.Told.{PlantTold, state_of}
use Rattle.ss_fail.specs.declared.act.Act.{Act}
use Rattle.ss_fail.specs.declared.outcome.Outcome.{Outcome}
use Rattle.ss_frames.specs.Plans.{plan_numbers}
use Rattle.ss_plan.specs.Plan.{PlanText}
use Rattle.ss_state.specs.Numbers.{JobNumbers}
use Rattle.ss_state.specs.Laws.{Grows}
use Rattle.ss_state.specs.State.{Ledger, State}
use Rattle.ss_state.specs.Step.{Made, Ran, Run, run, step}
use Rattle.ss_vault.specs.Told.{VaultTold, numbers_of}

abbrev pub outcomes_of : List Made → List Outcome
outcomes_of made = map (λ (m : Made). m.outcome) made

-- ---- lists of acts over numbers

pub run_state : (job : JobNumbers) (s : State) (xs ys : List Act) → (run job s (xs ++ ys)).state ≡ (run job (run job s xs).state ys).state
run_state job s [] ys = refl
run_state job s (x ∷ xs) ys = run_state job (step job s x).state xs ys

run_outcomes : (job : JobNumbers) (s : State) (xs ys : List Act)
    → (run job s (xs ++ ys)).outcomes ≡ (run job s xs).outcomes ++ (run job (run job s xs).state ys).outcomes
run_outcomes job s [] ys = refl
run_outcomes job s (x ∷ xs) ys =
    ap (λ (os : List Outcome). (step job s x).outcome ∷ os) (run_outcomes job (step job s x).state xs ys)

ran_is : (r : Ran) (s : State) (os : List Outcome) → r.state ≡ s → r.outcomes ≡ os → r ≡ record { state = s; outcomes = os }
ran_is r s os e f =
    let first : r ≡ record { state = s; outcomes = r.outcomes } = ap (λ (t : State). record { state = t; outcomes = r.outcomes }) e in
    first ∙ ap (λ (xs : List Outcome). record { state = s; outcomes = xs }) f

pub run_ends : (job : JobNumbers) (s end : State) (made : List Made) → Run job s made end → (run job s (acts_of made)).state ≡ end
run_ends job s end made ran = ap (λ (r : Ran). r.state) ran

run_then : (job : JobNumbers) (s mid end : State) (made more : List Made) → Run job s made mid → Run job mid more end → Run job s (made ++ more) end
run_then job s mid end made more ran ran_more =
    let xs : List Act = acts_of made in
    let ys : List Act = acts_of more in
    let first : (run job s xs).state ≡ mid = run_ends job s mid made ran in
    let behind : (run job (run job s xs).state ys) ≡ record { state = end; outcomes = outcomes_of more } =
    ap (λ (t : State). run job t ys) first ∙ ran_more in
    ap (run job s) (map-append (λ (m : Made). m.act) made more)
    ∙ ran_is (run job s (xs ++ ys)) end (outcomes_of (made ++ more))
    (run_state job s xs ys ∙ ap (λ (r : Ran). r.state) behind)
    (run_outcomes job s xs ys
    ∙ ap (λ (os : List Outcome). os ++ (run job (run job s xs).state ys).outcomes) (ap (λ (r : Ran). r.outcomes) ran)
    ∙ ap (λ (os : List Outcome). outcomes_of made ++ os) (ap (λ (r : Ran). r.outcomes) behind)
    ∙ sym (map-append (λ (m : Made). m.outcome) made more))

-- ---- traces

abbrev told_so : Bool → List Made → TraceTold
told_so keeps made = record { keeps = keeps; made = made }

with_none_so : (keeps : Bool) (made : List Made) → with_made (told_so keeps made) [] ≡ told_so keeps made
with_none_so true made = ap (told_so true) (append-nil made)
with_none_so false made = refl

with_more_so : (keeps : Bool) (made xs ys : List Made)
    → with_made (with_made (told_so keeps made) xs) ys ≡ with_made (told_so keeps made) (xs ++ ys)
with_more_so true made xs ys = ap (told_so true) (append_assoc made xs ys)
with_more_so false made xs ys = refl

with_none : (trace : TraceTold) → with_made trace [] ≡ trace
with_none trace = with_none_so trace.keeps trace.made

with_more : (trace : TraceTold) (xs ys : List Made) → with_made (with_made trace xs) ys ≡ with_made trace (xs ++ ys)
with_more trace xs ys = with_more_so trace.keeps trace.made xs ys

-- ---- lists of acts on a job

goes_same : (s : VaultTold) → Goes s s
goes_same s = record { halted = refl; started = refl; counts = record { faults = omega arith; output_faults = omega arith; shorts = omega arith } }

pub goes_on : (s t u : VaultTold) → Goes s t → Goes t u → Goes s u
goes_on s t u first second = record {
  halted = second.halted ∙ first.halted;
  started = second.started ∙ first.started;
  counts = record { faults = omega arith; output_faults = omega arith; shorts = omega arith };
}

puts_on : (plan : PlanText) (s t u : VaultTold) → Grows (plan_numbers plan) (numbers_of s).ledger (numbers_of t).ledger
    → Grows (plan_numbers plan) (numbers_of t).ledger (numbers_of u).ledger
    → PutsToTakers plan s t → PutsToTakers plan t u → PutsToTakers plan s u
puts_on plan s t u g h first second name none =
    second name (λ k file. let whole = none k file in let low = g.taken k in let high = h.taken k in omega (arith, whole, low, high))
    ∙ first name (λ k file. let whole = none k file in let low = g.taken k in let high = h.taken k in omega (arith, whole, low, high))

grows_same : (job : JobNumbers) (l : Ledger) → Grows job l l
grows_same job l = record { dur = λ v. omega arith; taken = λ v. omega arith; base = λ v. omega arith; low = λ v. omega arith }

grows_on : (job : JobNumbers) (l m n : Ledger) → Grows job l m → Grows job m n → Grows job l n
grows_on job l m n g h = record {
  dur = λ v. let one = g.dur v in let two = h.dur v in omega (arith, one, two);
  taken = λ v. let one = g.taken v in let two = h.taken v in omega (arith, one, two);
  base = λ v. let one = g.base v in let two = h.base v in omega (arith, one, two);
  low = λ v. let one = g.low v in let two = h.low v in omega (arith, one, two);
}

none_then : (job : JobNumbers) (s : State) (xs ys : List Act) → NoneIsFull job s xs → NoneIsFull job (run job s xs).state ys
    → NoneIsFull job s (xs ++ ys)
none_then job s [] ys first second = second
none_then job s (x ∷ xs) ys first second = (first.0, none_then job (step job s x).state xs ys first.1 second)

runs_then : (p q r : PlantTold) (made more : List Made) → Runs p made q → Runs q more r → Runs p (made ++ more) r
runs_then p q r made more first second =
    let job : JobNumbers = plan_numbers p.plan in
    let grows : Grows job (numbers_of q.vault).ledger (numbers_of r.vault).ledger =
    subst (λ (plan : PlanText). Grows (plan_numbers plan) (numbers_of q.vault).ledger (numbers_of r.vault).ledger) first.plan second.grows in
    let behind : NoneIsFull job (state_of q) (acts_of more) =
    subst (λ (plan : PlanText). NoneIsFull (plan_numbers plan) (state_of q) (acts_of more)) first.plan second.within in
    record {
      plan = second.plan ∙ first.plan;
      run = run_then job (state_of p) (state_of q) (state_of r) made more first.run
          (subst (λ (plan : PlanText). Run (plan_numbers plan) (state_of q) more (state_of r)) first.plan second.run);
      within = subst (NoneIsFull job (state_of p)) (sym (map-append (λ (m : Made). m.act) made more))
          (none_then job (state_of p) (acts_of made) (acts_of more) first.within
          (subst (λ (s : State). NoneIsFull job s (acts_of more)) (sym (run_ends job (state_of p) (state_of q) made first.run)) behind));
      goes = goes_on p.vault q.vault r.vault first.goes second.goes;
      grows = grows_on job (numbers_of p.vault).ledger (numbers_of q.vault).ledger (numbers_of r.vault).ledger first.grows grows;
      outputs = puts_on p.plan p.vault q.vault r.vault first.grows grows first.outputs
          (subst (λ (plan : PlanText). PutsToTakers plan q.vault r.vault) first.plan second.outputs);
    }

runs_none : (p : PlantTold) → Runs p [] p
runs_none p = record {
  plan = refl;
  run = refl;
  within = tt;
  goes = goes_same p.vault;
  grows = grows_same (plan_numbers p.plan) (numbers_of p.vault).ledger;
  outputs = λ name none. refl;
}

pub plays_none : (p : PlantTold) (before : TraceTold) → PlaysAll p [] before p before
plays_none p before = record {
  made = [];
  are = refl;
  trace = sym (with_none before);
  runs = runs_none p;
}

all_then : (p q r : PlantTold) (xs ys : List Act) (before mid after : TraceTold) → PlaysAll p xs before q mid → PlaysAll q ys mid r after
    → PlaysAll p (xs ++ ys) before r after
all_then p q r xs ys before mid after first second = record {
  made = first.made ++ second.made;
  are = map-append (λ (m : Made). m.act) first.made second.made
      ∙ ap (λ (zs : List Act). zs ++ acts_of second.made) first.are
      ∙ ap (λ (zs : List Act). xs ++ zs) second.are;
  trace = second.trace ∙ ap (λ (t : TraceTold). with_made t second.made) first.trace ∙ with_more before first.made second.made;
  runs = runs_then p q r first.made second.made first.runs second.runs;
}

up_to_then : (p q r : PlantTold) (xs ys : List Act) (before mid after : TraceTold) (f : EngineFault) → PlaysAll p xs before q mid
    → PlaysUpTo q ys mid f r after → PlaysUpTo p (xs ++ ys) before f r after
up_to_then p q r xs ys before mid after f first second = record {
  made = first.made ++ second.made;
  next = second.next;
  rest = second.rest;
  are = ap (λ (zs : List Act). zs ++ ys) (sym first.are)
      ∙ ap (λ (zs : List Act). acts_of first.made ++ zs) second.are
      ∙ sym (append_assoc (acts_of first.made) (acts_of second.made) (second.next ∷ second.rest))
      ∙ ap (λ (zs : List Act). zs ++ second.next ∷ second.rest) (sym (map-append (λ (m : Made). m.act) first.made second.made));
  trace = second.trace ∙ ap (λ (t : TraceTold). with_made t second.made) first.trace ∙ with_more before first.made second.made;
  between = second.between;
  runs = runs_then p q second.between first.made second.made first.runs second.runs;
  joint = second.joint;
  stops = second.stops;
  outputs = second.outputs;
}

-- some acts, and then others up to the first fault
pub plays_then : (p q r : PlantTold) (xs ys : List Act) (before mid after : TraceTold) (result : Result (Unit {0}) EngineFault)
    → PlaysAll p xs before q mid → Plays q ys mid result r after → Plays p (xs ++ ys) before result r after
plays_then p q r xs ys before mid after (Ok done) first second = all_then p q r xs ys before mid after first second
plays_then p q r xs ys before mid after (Err f) first second = up_to_then p q r xs ys before mid after f first second

-- ---- one act

pub one_made : (p q : PlantTold) (a : Act) (o : Outcome) (before after : TraceTold) → MakesOne p a before o q after
    → PlaysAll p (a ∷ []) before q after
one_made p q a o before after one = record {
  made = record { act = a; outcome = o } ∷ [];
  are = refl;
  trace = one.trace;
  runs = record {
    plan = one.makes.plan;
    run = let did = one.makes.step in rw did refl;
    within = (one.makes.within, tt);
    goes = one.makes.goes;
    grows = one.makes.grows;
    outputs = one.outputs;
  };
}

pub one_stopped : (p q : PlantTold) (a : Act) (rest : List Act) (f : EngineFault) (before after : TraceTold) → Joint p → StopsAtOne p a before f q after
    → PlaysUpTo p (a ∷ rest) before f q after
one_stopped p q a rest f before after joint one = record {
  made = [];
  next = a;
  rest = rest;
  are = refl;
  trace = one.trace ∙ sym (with_none before);
  between = p;
  runs = runs_none p;
  joint = joint;
  stops = one.stops;
  outputs = one.outputs;
}
