-- One act of a driver, by what the engine says of it.
use Rattle.std.proofs.Common.{◌≡◌, ◌∙◌, ℕ, ◌<◌, nat_eq, nat_le, nat_lt, Bool, true, false, not, List, [], ◌∷◌, Ok, Err, refl, sym, ap, subst, arith, leb-true, ltb-true}
use Rattle.std.proofs.lemmas.Bool.{cond_both, eqb-true}
use Rattle.ss_acts.specs.declared.fault.EngineFault.{EngineFault}
use Rattle.ss_engine.specs.Applies.{Makes}
use Rattle.ss_engine.specs.Joint.{Joint}
use Rattle.ss_engine.specs.Plays.{TraceTold}
use Rattle.ss_engine.specs.PlaysOne.{MakesOne, StopsAtOne}
use Rattle.ss_engine.specs.Told.{PlantTold, state_of}
use Rattle.ss_fail.specs.declared.act.Act.{Act}
use Rattle.ss_fail.specs.declared.act.Act.TheVariants as act
use Rattle.ss_fail.specs.declared.outcome.Outcome.{Outcome}
use Rattle.ss_fail.specs.declared.trigger.Trigger.{Trigger}
use Rattle.ss_frames.specs.Plans.{plan_numbers}
use Rattle.ss_plan.specs.Plan.{PlanText}
use Rattle.ss_rounds.specs.Laws.{DueFlushesChangeNothing, FlushesLowerTheTotal, NoWaitsBehindWholeStreams, PassAndFlushLowerTheTotal, RuledActsLowerTheTotal, TakesLowerTheTotal, WaitsChangeNothing}
use Rattle.ss_rounds.specs.Measure.{total_left}
use Rattle.ss_rounds.specs.Whole.{is_pass_due, is_took, is_wait}
use Rattle.ss_state.specs.Acts.{VaultStep, take_act}
use Rattle.ss_state.specs.Joint as of_numbers
use Rattle.ss_state.specs.Numbers.{JobNumbers, IsSink, input, size, vertex}
use Rattle.ss_state.specs.Rule.{ByRule, Obeys, ObeysFrom, due_after, ruled}
use Rattle.ss_state.specs.State.{State, durable_at}
use Rattle.ss_state.specs.Step.{MayAct, Step, step}
use Rattle.ss_serial.specs.Drives.{Drives}
use Rattle.ss_serial.specs.Headway.{Headway}
use Rattle.ss_serial.specs.Stored.{GivesStream, StoredBelow, TakesStream, has_batch, has_line, is_idle, is_write, job_of, next_of}
use Rattle.ss_serial.proofs.Ruling.{nothing_due, ruled_by_rule, ruled_may}
use Rattle.ss_serial.proofs.Runs.{one_made, one_stopped}

pub step_state : (p q : PlantTold) (a : Act) (o : Outcome) → Makes p a q o → (step (job_of p) (state_of p) a).state ≡ state_of q
step_state p q a o makes = ap (λ (d : Step). d.state) makes.step

pub step_outcome : (p q : PlantTold) (a : Act) (o : Outcome) → Makes p a q o → (step (job_of p) (state_of p) a).outcome ≡ o
step_outcome p q a o makes = ap (λ (d : Step). d.outcome) makes.step

pub one_drives : (ts : List Trigger) (p q : PlantTold) (a : Act) (o : Outcome) (before after : TraceTold)
    → Obeys (job_of p) ts (state_of p) (a ∷ []) → MakesOne p a before o q after → Drives ts p before (Ok tt) q after
one_drives ts p q a o before after obey one = record { acts = a ∷ []; obey = obey; plays = one_made p q a o before after one }

pub one_fails : (ts : List Trigger) (p q : PlantTold) (a : Act) (f : EngineFault) (before after : TraceTold)
    → Obeys (job_of p) ts (state_of p) (a ∷ []) → Joint p → StopsAtOne p a before f q after → Drives ts p before (Err f) q after
one_fails ts p q a f before after obey joint one = record { acts = a ∷ []; obey = obey; plays = one_stopped p q a [] f before after joint one }

-- ---- an act by the rule that fires nothing

obeys_one : (job : JobNumbers) (ts : List Trigger) (s : State) (a : Act) → MayAct job a → ByRule job s a → due_after job ts s a ≡ []
    → Obeys job ts s (a ∷ [])
obeys_one job ts s a may by none =
    (may, by, subst (λ (due : List Act). ObeysFrom job ts due (step job s a).state []) (sym none) tt)

pub alone_obeys : (ts : List Trigger) (p : PlantTold) (v : ℕ) (a : Act) → Joint p → GivesStream p v → a ≡ next_of p v → is_write a ≡ false
    → Obeys (job_of p) ts (state_of p) (a ∷ [])
alone_obeys ts p v a joint stream next none =
    let job : JobNumbers = job_of p in
    let s : State = state_of p in
    subst (λ (b : Act). Obeys job ts s (b ∷ [])) (sym next)
    (obeys_one job ts s (ruled job s v 0) (ruled_may job s v joint.numbers.numbers stream) (ruled_by_rule job s v)
    (nothing_due job ts s v (subst (λ (b : Act). is_write b ≡ false) next none)))

-- what came of it is what the rule's act comes to
ruled_outcome : (p q : PlantTold) (v : ℕ) (a : Act) (o : Outcome) → a ≡ next_of p v → Makes p a q o
    → (step (job_of p) (state_of p) (ruled (job_of p) (state_of p) v 0)).outcome ≡ o
ruled_outcome p q v a o next makes =
    ap (λ (b : Act). (step (job_of p) (state_of p) b).outcome) (sym next) ∙ step_outcome p q a o makes

ruled_state : (p q : PlantTold) (v : ℕ) (a : Act) (o : Outcome) → a ≡ next_of p v → Makes p a q o
    → (step (job_of p) (state_of p) (ruled (job_of p) (state_of p) v 0)).state ≡ state_of q
ruled_state p q v a o next makes =
    ap (λ (b : Act). (step (job_of p) (state_of p) b).state) (sym next) ∙ step_state p q a o makes

not_true : (b : Bool) → not b ≡ true → b ≡ false
not_true true e = absurd cc
not_true false e = refl

not_false : (b : Bool) → not b ≡ false → b ≡ true
not_false true e = refl
not_false false e = absurd cc

pub alone_lower : RuledActsLowerTheTotal → (ts : List Trigger) (p q : PlantTold) (v : ℕ) (a : Act) (o : Outcome)
    → Joint p → GivesStream p v → is_idle p v ≡ false → a ≡ next_of p v → Makes p a q o → is_wait o ≡ false
    → total_left (job_of p) ts (state_of q) < total_left (job_of p) ts (state_of p)
alone_lower lower ts p q v a o joint stream busy next makes moved =
    subst (λ (s : State). total_left (job_of p) ts s < total_left (job_of p) ts (state_of p)) (ruled_state p q v a o next makes)
    (lower (job_of p) ts (state_of p) v joint.numbers stream busy (ap is_wait (ruled_outcome p q v a o next makes) ∙ moved))

alone_headway : RuledActsLowerTheTotal → WaitsChangeNothing → (ts : List Trigger) (p q : PlantTold) (v : ℕ) (a : Act) (o : Outcome)
    (before after : TraceTold) → Joint p → GivesStream p v → is_idle p v ≡ false → a ≡ next_of p v → is_write a ≡ false
    → MakesOne p a before o q after → Headway ts p before (not (is_wait o)) q after
alone_headway lower still ts p q v a o before after joint stream busy next none one = record {
  drives = one_drives ts p q a o before after (alone_obeys ts p v a joint stream next none) one;
  lower = λ e. alone_lower lower ts p q v a o joint stream busy next one.makes (not_true (is_wait o) e);
  same = λ e. sym (ruled_state p q v a o next one.makes)
      ∙ still (job_of p) (state_of p) v joint.numbers stream (ap is_wait (ruled_outcome p q v a o next one.makes) ∙ not_false (is_wait o) e);
}

pub alone_advances : RuledActsLowerTheTotal → WaitsChangeNothing → (ts : List Trigger) (p q : PlantTold) (v : ℕ) (a : Act) (o : Outcome) (waits : Bool)
    (before after : TraceTold) → Joint p → GivesStream p v → is_idle p v ≡ false → a ≡ next_of p v → is_write a ≡ false → waits ≡ is_wait o
    → MakesOne p a before o q after → Headway ts p before (not waits) q after
alone_advances lower still ts p q v a o waits before after joint stream busy next none is one =
    subst (λ (b : Bool). Headway ts p before (not b) q after) (sym is)
    (alone_headway lower still ts p q v a o before after joint stream busy next none one)

pub alone_sure : NoWaitsBehindWholeStreams → (p q : PlantTold) (v : ℕ) (a : Act) (o : Outcome) (waits : Bool) → Joint p → GivesStream p v
    → a ≡ next_of p v → Makes p a q o → waits ≡ is_wait o → StoredBelow p v → not waits ≡ true
alone_sure sure p q v a o waits joint stream next makes is stored =
    ap not (is ∙ ap is_wait (sym (ruled_outcome p q v a o next makes)) ∙ sure (job_of p) (state_of p) v joint.numbers stream stored)

-- ---- a take of a line that is stored

took_there : (job : JobNumbers) (s : State) (k : ℕ) → of_numbers.Joint job s → IsSink job k
    → nat_lt (durable_at s k).taken (durable_at s (input (vertex job k) 0)).dur ≡ true → is_took (step job s (act.Take k)).outcome ≡ true
unfolding take_act
took_there job s k joint sink there =
    let u : ℕ = input (vertex job k) 0 in
    let taken : ℕ = (durable_at s k).taken in
    let less = ltb-true taken (durable_at s u).dur there in
    let most = (joint.vault.stands.row u).dur in
    let P : VaultStep → Type 0 = λ did. is_took did.outcome ≡ true in
    cond_both (nat_le (size (vertex job u)) taken) _ _ P
    (λ e. let over = leb-true (size (vertex job u)) taken e in absurd (omega (arith, less, most, over)))
    (λ e. cond_both (nat_eq taken (durable_at s u).dur) _ _ P
    (λ f. let same = eqb-true taken (durable_at s u).dur f in absurd (omega (arith, less, same)))
    (λ f. refl))

pub take_obeys : (ts : List Trigger) (p : PlantTold) (k : ℕ) → TakesStream p k → Obeys (job_of p) ts (state_of p) (act.Take k ∷ [])
take_obeys ts p k sink = (sink, tt, tt)

pub take_lowers : TakesLowerTheTotal → (ts : List Trigger) (p q : PlantTold) (k : ℕ) (o : Outcome) (before after : TraceTold) → Joint p → TakesStream p k
    → has_line p k ≡ true → MakesOne p (act.Take k) before o q after → Headway ts p before true q after
take_lowers lower ts p q k o before after joint sink there one = record {
  drives = one_drives ts p q (act.Take k) o before after (take_obeys ts p k sink) one;
  lower = λ e. subst (λ (s : State). total_left (job_of p) ts s < total_left (job_of p) ts (state_of p)) (step_state p q (act.Take k) o one.makes)
      (lower (job_of p) ts (state_of p) k joint.numbers sink (took_there (job_of p) (state_of p) k joint.numbers sink there));
  same = λ e. absurd cc;
}

-- ---- a flush of a batch

pub flush_obeys : (ts : List Trigger) (p : PlantTold) (v : ℕ) → GivesStream p v → Obeys (job_of p) ts (state_of p) (act.Flush v 64 ∷ [])
flush_obeys ts p v stream = ((stream, omega arith, omega arith), tt, tt)

pub flush_lowers : FlushesLowerTheTotal → (ts : List Trigger) (p q : PlantTold) (v : ℕ) (o : Outcome) (before after : TraceTold) → Joint p
    → GivesStream p v → has_batch p v ≡ true → is_pass_due o ≡ false → MakesOne p (act.Flush v 64) before o q after
    → Headway ts p before true q after
flush_lowers lower ts p q v o before after joint stream batch due one =
    let job : JobNumbers = job_of p in
    let s : State = state_of p in
    record {
      drives = one_drives ts p q (act.Flush v 64) o before after (flush_obeys ts p v stream) one;
      lower = λ e. subst (λ (t : State). total_left job ts t < total_left job ts s) (step_state p q (act.Flush v 64) o one.makes)
          (lower job ts s v 64 joint.numbers (stream, omega arith, omega arith) batch
          (ap is_pass_due (step_outcome p q (act.Flush v 64) o one.makes) ∙ due));
      same = λ e. absurd cc;
    }

-- one that is told that a pass is due leaves the job as it was
pub flush_waits : DueFlushesChangeNothing → (ts : List Trigger) (p q : PlantTold) (v : ℕ) (o : Outcome) (before after : TraceTold) → Joint p
    → GivesStream p v → is_pass_due o ≡ true → MakesOne p (act.Flush v 64) before o q after → Headway ts p before false q after
flush_waits still ts p q v o before after joint stream due one = record {
  drives = one_drives ts p q (act.Flush v 64) o before after (flush_obeys ts p v stream) one;
  lower = λ e. absurd cc;
  same = λ e. sym (step_state p q (act.Flush v 64) o one.makes)
      ∙ still (job_of p) (state_of p) v 64 joint.numbers (stream, omega arith, omega arith)
      (ap is_pass_due (step_outcome p q (act.Flush v 64) o one.makes) ∙ due);
}

-- ---- a pass, and a flush behind it

pub pass_obeys : (ts : List Trigger) (p : PlantTold) → Obeys (job_of p) ts (state_of p) (act.Pass ∷ [])
pass_obeys ts p = (tt, tt, tt)

-- the state behind both
both_state : (p q r : PlantTold) (v : ℕ) (o u : Outcome) → Makes p act.Pass q o → Makes q (act.Flush v 64) r u
    → (step (job_of p) (step (job_of p) (state_of p) act.Pass).state (act.Flush v 64)).state ≡ state_of r
both_state p q r v o u first second =
    ap (λ (s : State). (step (job_of p) s (act.Flush v 64)).state) (step_state p q act.Pass o first)
    ∙ subst (λ (plan : PlanText). (step (plan_numbers plan) (state_of q) (act.Flush v 64)).state ≡ state_of r) first.plan
    (step_state q r (act.Flush v 64) u second)

pub collected_lower : PassAndFlushLowerTheTotal → (ts : List Trigger) (p q r : PlantTold) (v : ℕ) (o u : Outcome) → Joint p → GivesStream p v
    → has_batch p v ≡ true → Makes p act.Pass q o → Makes q (act.Flush v 64) r u
    → total_left (job_of p) ts (state_of r) < total_left (job_of p) ts (state_of p)
collected_lower both ts p q r v o u joint stream batch first second =
    subst (λ (s : State). total_left (job_of p) ts s < total_left (job_of p) ts (state_of p)) (both_state p q r v o u first second)
    (both (job_of p) ts (state_of p) v 64 joint.numbers (stream, omega arith, omega arith) batch)
