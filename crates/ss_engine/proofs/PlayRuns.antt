-- A list of acts, and one act more.
use Rattle.std.proofs.Common.{◌≡◌, ◌∙◌, ℕ, Bool, true, false, ◌+◌, ◌<◌, List, [], ◌∷◌, ◌++◌, length, get_or, take, drop, map, refl, sym, ap, subst, arith, append_assoc}
use Rattle.std.proofs.lemmas.List.{append-nil, drop_more, map-append, take-append-drop, take_more}
use Rattle.ss_acts.specs.Leaves.{Goes, PutsToTakers}
use Rattle.ss_acts.specs.declared.fault.EngineFault.{EngineFault}
use Rattle.ss_fail.specs.declared.act.Act.{Act}
use Rattle.ss_fail.specs.declared.outcome.Outcome.{Outcome}
use Rattle.ss_frames.specs.Plans.{plan_numbers}
use Rattle.ss_plan.specs.Plan.{PlanText}
use Rattle.ss_state.specs.Numbers.{JobNumbers}
use Rattle.ss_state.specs.Laws.{Grows}
use Rattle.ss_state.specs.State.{Ledger, State}
use Rattle.ss_state.specs.Step.{Made, Ran, Run, Step, is_full, run, step}
use Rattle.ss_vault.specs.Told.{VaultTold, numbers_of}
use Rattle.ss_engine.specs.Applies.{Makes}
use Rattle.ss_engine.specs.Joint.{Joint}
use Rattle.ss_engine.specs.Plays.{NoneIsFull, PlaysAll, PlaysUpTo, Runs, TraceTold, acts_of, with_made}
use Rattle.ss_engine.specs.PlaysOne.{MakesOne, StopsAtOne}
use Rattle.ss_engine.specs.Told.{PlantTold, state_of}

abbrev outcomes_of : List Made → List Outcome
outcomes_of made = map (λ (m : Made). m.outcome) made

abbrev made_so : Act → Outcome → Made
made_so a outcome = record { act = a; outcome = outcome }

-- what one act more makes of what was run
abbrev with_one : JobNumbers → Act → Ran → Ran
with_one job a ran =
    let did = step job ran.state a in
    record { state = did.state; outcomes = ran.outcomes ++ did.outcome ∷ [] }

abbrev first_of : Outcome → Ran → Ran
first_of o ran = record { state = ran.state; outcomes = o ∷ ran.outcomes }

run_more : (job : JobNumbers) (s : State) (acts : List Act) (a : Act) → run job s (acts ++ a ∷ []) ≡ with_one job a (run job s acts)
run_more job s [] a = refl
run_more job s (b ∷ acts) a = ap (first_of (step job s b).outcome) (run_more job (step job s b).state acts a)

abbrev ran_so : State → List Outcome → Ran
ran_so s outcomes = record { state = s; outcomes = outcomes }

abbrev did_so : List Outcome → Step → Ran
did_so outcomes did = record { state = did.state; outcomes = outcomes ++ did.outcome ∷ [] }

run_made : (job : JobNumbers) (s mid end : State) (made : List Made) (a : Act) (o : Outcome) → Run job s made mid
    → step job mid a ≡ record { state = end; outcome = o } → Run job s (made ++ made_so a o ∷ []) end
run_made job s mid end made a o ran did =
    ap (run job s) (map-append (λ (m : Made). m.act) made (made_so a o ∷ []))
    ∙ run_more job s (acts_of made) a
    ∙ ap (with_one job a) ran
    ∙ ap (did_so (outcomes_of made)) did
    ∙ ap (ran_so end) (sym (map-append (λ (m : Made). m.outcome) made (made_so a o ∷ [])))

goes_same : (s : VaultTold) → Goes s s
goes_same s = record { halted = refl; started = refl; counts = record { faults = omega arith; output_faults = omega arith; shorts = omega arith } }

goes_on : (s t u : VaultTold) → Goes s t → Goes t u → Goes s u
goes_on s t u first second = record {
  halted = second.halted ∙ first.halted;
  started = second.started ∙ first.started;
  counts = record { faults = omega arith; output_faults = omega arith; shorts = omega arith };
}

-- where a sink took nothing over two parts, it took nothing in either, since what it took never falls
puts_on : (plan : PlanText) (s t u : VaultTold) → Grows (plan_numbers plan) (numbers_of s).ledger (numbers_of t).ledger
    → Grows (plan_numbers plan) (numbers_of t).ledger (numbers_of u).ledger
    → PutsToTakers plan s t → PutsToTakers plan t u → PutsToTakers plan s u
puts_on plan s t u g h first second name none =
    second name (λ k file. let whole = none k file in let low = g.taken k in let high = h.taken k in omega (arith, whole, low, high))
    ∙ first name (λ k file. let whole = none k file in let low = g.taken k in let high = h.taken k in omega (arith, whole, low, high))

grows_same : (job : JobNumbers) (l : Ledger) → Grows job l l
grows_same job l = record { dur = λ v. omega arith; taken = λ v. omega arith; base = λ v. omega arith; low = λ v. omega arith }

grows_on : (job : JobNumbers) (l m n : Ledger) → Grows job l m → Grows job m n → Grows job l n
grows_on job l m n g h = record {
  dur = λ v. let one = g.dur v in let two = h.dur v in omega (arith, one, two);
  taken = λ v. let one = g.taken v in let two = h.taken v in omega (arith, one, two);
  base = λ v. let one = g.base v in let two = h.base v in omega (arith, one, two);
  low = λ v. let one = g.low v in let two = h.low v in omega (arith, one, two);
}

-- one act more isn't full, behind others of which none was
none_more : (job : JobNumbers) (s : State) (acts : List Act) (a : Act) → NoneIsFull job s acts → is_full job (run job s acts).state a ≡ false
    → NoneIsFull job s (acts ++ a ∷ [])
none_more job s [] a none within = (within, tt)
none_more job s (b ∷ acts) a none within = (none.0, none_more job (step job s b).state acts a none.1 within)

runs_none : (p : PlantTold) → Runs p [] p
runs_none p = record {
  plan = refl;
  run = refl;
  within = tt;
  goes = goes_same p.vault;
  grows = grows_same (plan_numbers p.plan) (numbers_of p.vault).ledger;
  outputs = λ name none. refl;
}

runs_more : (p q r : PlantTold) (made : List Made) (a : Act) (o : Outcome) → Runs p made q → Makes q a r o → PutsToTakers q.plan q.vault r.vault
    → Runs p (made ++ made_so a o ∷ []) r
runs_more p q r made a o runs makes puts =
    let job : JobNumbers = plan_numbers p.plan in
    let grows : Grows job (numbers_of q.vault).ledger (numbers_of r.vault).ledger =
    subst (λ (plan : PlanText). Grows (plan_numbers plan) (numbers_of q.vault).ledger (numbers_of r.vault).ledger) runs.plan makes.grows in
    let within : is_full job (state_of q) a ≡ false =
    subst (λ (plan : PlanText). is_full (plan_numbers plan) (state_of q) a ≡ false) runs.plan makes.within in
    let there : (run job (state_of p) (acts_of made)).state ≡ state_of q = ap (λ (ran : Ran). ran.state) runs.run in
    record {
      plan = makes.plan ∙ runs.plan;
      run = run_made job (state_of p) (state_of q) (state_of r) made a o runs.run
          (subst (λ (plan : PlanText). step (plan_numbers plan) (state_of q) a ≡ record { state = state_of r; outcome = o }) runs.plan makes.step);
      within = subst (NoneIsFull job (state_of p)) (sym (map-append (λ (m : Made). m.act) made (made_so a o ∷ [])))
          (none_more job (state_of p) (acts_of made) a runs.within (subst (λ (s : State). is_full job s a ≡ false) (sym there) within));
      goes = goes_on p.vault q.vault r.vault runs.goes makes.goes;
      grows = grows_on job (numbers_of p.vault).ledger (numbers_of q.vault).ledger (numbers_of r.vault).ledger runs.grows grows;
      outputs = puts_on p.plan p.vault q.vault r.vault runs.grows grows runs.outputs
          (subst (λ (plan : PlanText). PutsToTakers plan q.vault r.vault) runs.plan puts);
    }

abbrev told_so : Bool → List Made → TraceTold
told_so keeps made = record { keeps = keeps; made = made }

with_none_so : (keeps : Bool) (made : List Made) → with_made (told_so keeps made) [] ≡ told_so keeps made
with_none_so true made = ap (told_so true) (append-nil made)
with_none_so false made = refl

with_more_so : (keeps : Bool) (made xs ys : List Made)
    → with_made (with_made (told_so keeps made) xs) ys ≡ with_made (told_so keeps made) (xs ++ ys)
with_more_so true made xs ys = ap (told_so true) (append_assoc made xs ys)
with_more_so false made xs ys = refl

-- nothing was made behind it
with_none : (trace : TraceTold) → with_made trace [] ≡ trace
with_none trace = with_none_so trace.keeps trace.made

-- some were made, and some more behind them
with_more : (trace : TraceTold) (xs ys : List Made) → with_made (with_made trace xs) ys ≡ with_made trace (xs ++ ys)
with_more trace xs ys = with_more_so trace.keeps trace.made xs ys

pub plays_none : (p : PlantTold) (before : TraceTold) → PlaysAll p [] before p before
plays_none p before = record { made = []; are = refl; trace = sym (with_none before); runs = runs_none p }

-- one more act was made
pub plays_more : (p q r : PlantTold) (acts : List Act) (a : Act) (o : Outcome) (before mid after : TraceTold) → PlaysAll p acts before q mid → MakesOne q a mid o r after
    → PlaysAll p (acts ++ a ∷ []) before r after
plays_more p q r acts a o before mid after plays one = record {
  made = plays.made ++ made_so a o ∷ [];
  are = map-append (λ (m : Made). m.act) plays.made (made_so a o ∷ []) ∙ ap (λ (xs : List Act). xs ++ a ∷ []) plays.are;
  trace = one.trace ∙ ap (λ (t : TraceTold). with_made t (made_so a o ∷ [])) plays.trace
      ∙ with_more before plays.made (made_so a o ∷ []);
  runs = runs_more p q r plays.made a o plays.runs one.makes one.outputs;
}

-- one more act met a fault
pub plays_up_to : (p q r : PlantTold) (acts rest : List Act) (a : Act) (before mid after : TraceTold) (f : EngineFault) → PlaysAll p acts before q mid
    → Joint q → StopsAtOne q a mid f r after → PlaysUpTo p (acts ++ a ∷ rest) before f r after
plays_up_to p q r acts rest a before mid after f plays joint one = record {
  made = plays.made;
  next = a;
  rest = rest;
  are = ap (λ (xs : List Act). xs ++ a ∷ rest) (sym plays.are);
  trace = one.trace ∙ plays.trace;
  between = q;
  runs = plays.runs;
  joint = joint;
  stops = one.stops;
  outputs = one.outputs;
}

-- the same at a place of a list of acts
pub plays_to : (p q r : PlantTold) (acts : List Act) (i : ℕ) (d : Act) (o : Outcome) (before mid after : TraceTold) → i < length acts
    → PlaysAll p (take i acts) before q mid → MakesOne q (get_or acts i d) mid o r after → PlaysAll p (take (i + 1) acts) before r after
plays_to p q r acts i d o before mid after h plays one =
    subst (λ (xs : List Act). PlaysAll p xs before r after) (sym (take_more acts i d h))
    (plays_more p q r (take i acts) (get_or acts i d) o before mid after plays one)

pub plays_until : (p q r : PlantTold) (acts : List Act) (i : ℕ) (d : Act) (before mid after : TraceTold) (f : EngineFault) → i < length acts
    → PlaysAll p (take i acts) before q mid → Joint q → StopsAtOne q (get_or acts i d) mid f r after → PlaysUpTo p acts before f r after
plays_until p q r acts i d before mid after f h plays joint one =
    subst (λ (xs : List Act). PlaysUpTo p xs before f r after)
    (ap (λ (xs : List Act). take i acts ++ xs) (sym (drop_more acts i d h)) ∙ take-append-drop i acts)
    (plays_up_to p q r (take i acts) (drop (i + 1) acts) (get_or acts i d) before mid after f plays joint one)
