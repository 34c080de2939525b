-- A write of a driver, and the failures that it fires.
use Rattle.std.proofs.Common.{◌≡◌, ◌≢◌, ◌∙◌, ℕ, ◌<◌, true, false, List, [], ◌∷◌, Result, Ok, Err, refl, sym, ap, subst}
use Rattle.std.specs.Prelude.{◌==◌, ◌&&◌}
use Rattle.std.specs.List.{AllByRecursion}
use Rattle.std.proofs.lemmas.Bool.{cond_both, cond-true, cond-false}
use Rattle.ss_acts.specs.declared.fault.EngineFault.{EngineFault}
use Rattle.ss_engine.specs.Applies.{Makes}
use Rattle.ss_engine.specs.Joint.{Joint}
use Rattle.ss_engine.specs.Plays.{Plays, PlaysAll, TraceTold}
use Rattle.ss_engine.specs.PlaysOne.{MakesOne, StopsAtOne}
use Rattle.ss_engine.specs.Told.{PlantTold, state_of}
use Rattle.ss_fail.specs.declared.act.Act.{Act}
use Rattle.ss_fail.specs.declared.act.Act.TheVariants as act
use Rattle.ss_fail.specs.declared.outcome.Outcome.{Outcome}
use Rattle.ss_fail.specs.declared.trigger.Trigger.{Trigger}
use Rattle.ss_frames.specs.Plans.{plan_numbers}
use Rattle.ss_plan.specs.Plan.{PlanText}
use Rattle.ss_rounds.specs.Laws.{FailuresLeaveTheRest, FiredFailuresLowerTheTotal, RuledActsLowerTheTotal}
use Rattle.ss_rounds.specs.Measure.{total_left}
use Rattle.ss_rounds.specs.Whole.{LeftByFailures, is_wait}
use Rattle.ss_state.specs.Joint as of_numbers
use Rattle.ss_state.specs.Laws.{ActsKeepJoint}
use Rattle.ss_state.specs.Numbers.{JobNumbers, vertex}
use Rattle.ss_state.specs.Rule.{ByRule, IsFailure, IsTrigger, Obeys, acts_at, due_after, is_stored, ruled}
use Rattle.ss_state.specs.State.{State, inst_at, tail_at}
use Rattle.ss_state.specs.Step.{MayAct, is_full, run, step}
use Rattle.ss_serial.specs.Drives.{CanFire, Drives}
use Rattle.ss_serial.specs.Headway.{Headway, Lowers}
use Rattle.ss_serial.specs.Stored.{GivesStream, is_idle, is_write, job_of, next_of}
use Rattle.ss_serial.proofs.Obeying.{act_obeys}
use Rattle.ss_serial.proofs.Progress.{all_end}
use Rattle.ss_serial.proofs.Ruling.{ruled_by_rule, ruled_may, ruled_write, write_waits}
use Rattle.ss_serial.proofs.Runs.{one_made, one_stopped, plays_then}
use Rattle.ss_serial.proofs.Steps.{alone_lower, one_drives, step_outcome, step_state}

-- what is due behind the write
abbrev pub due : List Trigger → PlantTold → ℕ → List Act
due ts p v = due_after (job_of p) ts (state_of p) (act.Write v 0)

pub write_obeys : (ts : List Trigger) (p : PlantTold) (v : ℕ) → Joint p → GivesStream p v → CanFire p ts → is_write (next_of p v) ≡ true
    → Obeys (job_of p) ts (state_of p) (act.Write v 0 ∷ due ts p v)
write_obeys ts p v joint stream can next =
    let job : JobNumbers = job_of p in
    let s : State = state_of p in
    let is : ruled job s v 0 ≡ act.Write v 0 = ruled_write job s v next in
    act_obeys job ts s (act.Write v 0) (subst (MayAct job) is (ruled_may job s v joint.numbers.numbers stream))
    (subst (ByRule job s) is (ruled_by_rule job s v)) can

due_stored : (ts : List Trigger) (p q : PlantTold) (v : ℕ) (o : Outcome) → Makes p (act.Write v 0) q o → is_stored o ≡ true
    → due ts p v ≡ acts_at ts v (tail_at (state_of q) v).stored
due_stored ts p q v o makes stored =
    let made = step (job_of p) (state_of p) (act.Write v 0) in
    cond-true (is_stored made.outcome) _ _ (ap is_stored (step_outcome p q (act.Write v 0) o makes) ∙ stored)
    ∙ ap (λ (s : State). acts_at ts v (tail_at s v).stored) (step_state p q (act.Write v 0) o makes)

due_none : (ts : List Trigger) (p q : PlantTold) (v : ℕ) (o : Outcome) → Makes p (act.Write v 0) q o → is_stored o ≡ false → due ts p v ≡ []
due_none ts p q v o makes none =
    let made = step (job_of p) (state_of p) (act.Write v 0) in
    cond-false (is_stored made.outcome) _ _ (ap is_stored (step_outcome p q (act.Write v 0) o makes) ∙ none)

-- the write alone brings the job forward
write_lower : RuledActsLowerTheTotal → (ts : List Trigger) (p q : PlantTold) (v : ℕ) (o : Outcome) → Joint p → GivesStream p v
    → is_idle p v ≡ false → is_write (next_of p v) ≡ true → Makes p (act.Write v 0) q o
    → total_left (job_of p) ts (state_of q) < total_left (job_of p) ts (state_of p)
write_lower lower ts p q v o joint stream busy next makes =
    alone_lower lower ts p q v (act.Write v 0) o joint stream busy (sym (ruled_write (job_of p) (state_of p) v next)) makes
    (sym (ap is_wait (step_outcome p q (act.Write v 0) o makes))
    ∙ write_waits (vertex (job_of p) v) (inst_at (state_of p) v 0) (tail_at (state_of p) v))

pub write_alone : RuledActsLowerTheTotal → (ts : List Trigger) (p q : PlantTold) (v : ℕ) (o : Outcome) (before after : TraceTold) → Joint p
    → GivesStream p v → CanFire p ts → is_idle p v ≡ false → is_write (next_of p v) ≡ true → is_stored o ≡ false
    → MakesOne p (act.Write v 0) before o q after → Headway ts p before true q after
write_alone lower ts p q v o before after joint stream can busy next none one = record {
  drives = one_drives ts p q (act.Write v 0) o before after
      (subst (λ (xs : List Act). Obeys (job_of p) ts (state_of p) (act.Write v 0 ∷ xs)) (due_none ts p q v o one.makes none)
      (write_obeys ts p v joint stream can next))
      one;
  lower = λ e. write_lower lower ts p q v o joint stream busy next one.makes;
  same = λ e. absurd cc;
}

pub write_fails : (ts : List Trigger) (p q : PlantTold) (v : ℕ) (f : EngineFault) (before after : TraceTold) → Joint p → GivesStream p v
    → CanFire p ts → is_write (next_of p v) ≡ true → StopsAtOne p (act.Write v 0) before f q after → Drives ts p before (Err f) q after
write_fails ts p q v f before after joint stream can next one = record {
  acts = act.Write v 0 ∷ due ts p v;
  obey = write_obeys ts p v joint stream can next;
  plays = one_stopped p q (act.Write v 0) (due ts p v) f before after joint one;
}

-- ---- the failures behind it

abbrev IsListed : JobNumbers → Act → Type 0
IsListed job a = MayAct job a × IsFailure a

listed : (job : JobNumbers) (ts : List Trigger) (v count : ℕ) → AllByRecursion (IsTrigger job) ts → AllByRecursion (IsListed job) (acts_at ts v count)
listed job [] v count are = tt
listed job (t ∷ ts) v count are =
    let rest = listed job ts v count are.1 in
    cond_both ((t.v == v) && (t.count == count)) _ _ (λ (xs : List Act). AllByRecursion (IsListed job) xs)
    (λ e. ((are.0.act, are.0.failure), rest))
    (λ e. rest)

not_full : (job : JobNumbers) (s : State) (a : Act) → IsFailure a → is_full job s a ≡ false
not_full job s (act.Read v r) is = absurd is
not_full job s (act.Write v r) is = absurd is
not_full job s (act.Snap v r) is = absurd is
not_full job s (act.Crash v r) is = refl
not_full job s (act.Load v r) is = absurd is
not_full job s (act.Lose v) is = refl
not_full job s (act.Flush v count) is = absurd is
not_full job s (act.Take k) is = absurd is
not_full job s (act.Collect v) is = absurd is
not_full job s (act.Trim v) is = absurd is
not_full job s act.Pass is = absurd is

left_behind : FailuresLeaveTheRest → ActsKeepJoint → (job : JobNumbers) (s t : State) (xs : List Act) → AllByRecursion (IsListed job) xs
    → of_numbers.Joint job t → LeftByFailures s t → LeftByFailures s (run job t xs).state
left_behind rest keep job s t [] are joint left = left
left_behind rest keep job s t (a ∷ xs) are joint left =
    left_behind rest keep job s (step job t a).state xs are.1 (keep job t a are.0.0 (not_full job t a are.0.1) joint)
    (rest job s t a joint are.0.0 are.0.1 left)

left_same : (s : State) → LeftByFailures s s
left_same s = record { stored = λ u. refl; seen = λ u. refl; row = λ u. refl }

-- the state behind the failures that were made
fired_left : FailuresLeaveTheRest → ActsKeepJoint → (ts : List Trigger) (p q r : PlantTold) (v count : ℕ) (mid after : TraceTold) → CanFire p ts
    → q.plan ≡ p.plan → Joint q → PlaysAll q (acts_at ts v count) mid r after → LeftByFailures (state_of q) (state_of r)
fired_left rest keep ts p q r v count mid after can same joint plays =
    let listed_here : AllByRecursion (IsListed (plan_numbers q.plan)) (acts_at ts v count) =
    subst (λ (plan : PlanText). AllByRecursion (IsListed (plan_numbers plan)) (acts_at ts v count)) (sym same) (listed (job_of p) ts v count can) in
    subst (LeftByFailures (state_of q)) (all_end q r (acts_at ts v count) mid after plays)
    (left_behind rest keep (plan_numbers q.plan) (state_of q) (state_of q) (acts_at ts v count) listed_here joint.numbers (left_same (state_of q)))

not_empty : (a : Act) (xs : List Act) → a ∷ xs ≢ []
not_empty a xs e = absurd cc

-- with no failure the state is that behind the write, and with some less is left than before it
lower_by_due : RuledActsLowerTheTotal → FiredFailuresLowerTheTotal → (ts : List Trigger) (p q r : PlantTold) (v : ℕ) (o : Outcome)
    (xs : List Act) (mid after : TraceTold) → Joint p → GivesStream p v → CanFire p ts → is_idle p v ≡ false → is_write (next_of p v) ≡ true
    → Makes p (act.Write v 0) q o → due ts p v ≡ xs → PlaysAll q xs mid r after → LeftByFailures (state_of q) (state_of r)
    → total_left (job_of p) ts (state_of r) < total_left (job_of p) ts (state_of p)
lower_by_due lower fired ts p q r v o [] mid after joint stream can busy next makes is plays left =
    subst (λ (s : State). total_left (job_of p) ts s < total_left (job_of p) ts (state_of p)) (all_end q r [] mid after plays)
    (write_lower lower ts p q v o joint stream busy next makes)
lower_by_due lower fired ts p q r v o (a ∷ xs) mid after joint stream can busy next makes is plays left =
    fired (job_of p) ts (state_of p) (state_of r) v 0 joint.numbers stream can (λ e. not_empty a xs (sym is ∙ e))
    (subst (λ (s : State). LeftByFailures s (state_of r)) (sym (step_state p q (act.Write v 0) o makes)) left)

write_drives : (ts : List Trigger) (p q r : PlantTold) (v : ℕ) (o : Outcome) (result : Result (Unit {0}) EngineFault) (before mid after : TraceTold)
    → Joint p → GivesStream p v → CanFire p ts → is_write (next_of p v) ≡ true → is_stored o ≡ true → MakesOne p (act.Write v 0) before o q mid
    → Plays q (acts_at ts v (tail_at (state_of q) v).stored) mid result r after → Drives ts p before result r after
write_drives ts p q r v o result before mid after joint stream can next stored one plays = record {
  acts = act.Write v 0 ∷ due ts p v;
  obey = write_obeys ts p v joint stream can next;
  plays = plays_then p q r (act.Write v 0 ∷ []) (due ts p v) before mid after result (one_made p q (act.Write v 0) o before mid one)
      (subst (λ (xs : List Act). Plays q xs mid result r after) (sym (due_stored ts p q v o one.makes stored)) plays);
}

pub write_lowers : RuledActsLowerTheTotal → FailuresLeaveTheRest → FiredFailuresLowerTheTotal → ActsKeepJoint → (ts : List Trigger) (p q r : PlantTold)
    (v : ℕ) (o : Outcome) (result : Result (Unit {0}) EngineFault) (before mid after : TraceTold) → Joint p → GivesStream p v → CanFire p ts
    → is_idle p v ≡ false → is_write (next_of p v) ≡ true → is_stored o ≡ true → MakesOne p (act.Write v 0) before o q mid → Joint q
    → Plays q (acts_at ts v (tail_at (state_of q) v).stored) mid result r after → Lowers ts p before result r after
write_lowers lower rest fired keep ts p q r v o (Ok done) before mid after joint stream can busy next stored one behind plays = record {
  drives = write_drives ts p q r v o (Ok done) before mid after joint stream can next stored one plays;
  lower = λ e. lower_by_due lower fired ts p q r v o (acts_at ts v (tail_at (state_of q) v).stored) mid after joint stream can busy next one.makes
      (due_stored ts p q v o one.makes stored) plays
      (fired_left rest keep ts p q r v (tail_at (state_of q) v).stored mid after can one.makes.plan behind plays);
  same = λ e. absurd cc;
}
write_lowers lower rest fired keep ts p q r v o (Err f) before mid after joint stream can busy next stored one behind plays =
    write_drives ts p q r v o (Err f) before mid after joint stream can next stored one plays
