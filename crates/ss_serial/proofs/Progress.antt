-- Steps of a driver, one behind another, and how far they bring a job.
use Rattle.std.proofs.Common.{◌≡◌, ◌∙◌, ℕ, ◌<◌, ◌≤◌, Bool, true, false, List, [], ◌++◌, Result, Ok, Err, length, refl, sym, ap, subst, arith, ⊎_elim}
use Rattle.std.specs.Prelude.{◌≢◌, ◌+◌, ◌||◌, IfOk}
use Rattle.std.proofs.lemmas.Bool.{cases_eq, cases_lt}
use Rattle.ss_acts.specs.declared.fault.EngineFault.{EngineFault}
use Rattle.ss_engine.specs.Joint.{Joint}
use Rattle.ss_engine.specs.Plays.{PlaysAll, TraceTold}
use Rattle.ss_engine.specs.Told.{PlantTold, state_of}
use Rattle.ss_fail.specs.declared.act.Act.{Act}
use Rattle.ss_fail.specs.declared.trigger.Trigger.{Trigger}
use Rattle.ss_frames.specs.Plans.{plan_numbers}
use Rattle.ss_plan.specs.Plan.{PlanText}
use Rattle.ss_rounds.specs.Measure.{total_left}
use Rattle.ss_rounds.specs.Whole.{IsWhole, TakenBelow, WholeBelow}
use Rattle.ss_state.specs.Numbers.{IsSink, IsStream, input, vertex}
use Rattle.ss_state.specs.Rule.{Obeys}
use Rattle.ss_rounds.specs.Whole as whole
use Rattle.ss_state.specs.State.{State, tail_at}
use Rattle.ss_state.specs.Step.{run}
use Rattle.ss_serial.specs.Drives.{CanFire, Drives}
use Rattle.ss_serial.specs.Headway.{Advances, Headway, Lowers}
use Rattle.ss_serial.specs.Stored.{GivesStream, IsPut, IsStored, PutBelow, StoredBelow, TakesStream, has_batch, job_of, stream_put, vertex_count}
use Rattle.ss_serial.proofs.Obeying.{obeys_then}
use Rattle.ss_serial.proofs.Runs.{plays_none, plays_then, run_ends}

-- ---- what is said of the plan goes on

pub drives_plan : (ts : List Trigger) (p q : PlantTold) (before after : TraceTold) → Drives ts p before (Ok tt) q after → q.plan ≡ p.plan
drives_plan ts p q before after drives = drives.plays.runs.plan

pub fires_on : (p q : PlantTold) (ts : List Trigger) → q.plan ≡ p.plan → CanFire p ts → CanFire q ts
fires_on p q ts same can = subst (λ (plan : PlanText). CanFire (record p { plan = plan }) ts) (sym same) can

-- ---- one behind another

pub drives_none : (ts : List Trigger) (p : PlantTold) (before : TraceTold) → Drives ts p before (Ok tt) p before
drives_none ts p before = record { acts = []; obey = tt; plays = plays_none p before }

pub all_end : (p q : PlantTold) (acts : List Act) (before after : TraceTold) → PlaysAll p acts before q after
    → (run (plan_numbers p.plan) (state_of p) acts).state ≡ state_of q
all_end p q acts before after plays =
    subst (λ (xs : List Act). (run (plan_numbers p.plan) (state_of p) xs).state ≡ state_of q) plays.are
    (run_ends (plan_numbers p.plan) (state_of p) (state_of q) plays.made plays.runs.run)

pub drives_then : (ts : List Trigger) (p q r : PlantTold) (before mid after : TraceTold) (result : Result (Unit {0}) EngineFault)
    → Drives ts p before (Ok tt) q mid → Drives ts q mid result r after → Drives ts p before result r after
drives_then ts p q r before mid after result first second =
    let same : q.plan ≡ p.plan = first.plays.runs.plan in
    let obey : Obeys (plan_numbers p.plan) ts (state_of q) second.acts =
    subst (λ (plan : PlanText). Obeys (plan_numbers plan) ts (state_of q) second.acts) same second.obey in
    record {
      acts = first.acts ++ second.acts;
      obey = obeys_then (plan_numbers p.plan) ts [] (state_of p) first.acts second.acts first.obey
          (subst (λ (s : State). Obeys (plan_numbers p.plan) ts s second.acts) (sym (all_end p q first.acts before mid first.plays)) obey);
      plays = plays_then p q r first.acts second.acts before mid after result first.plays second.plays;
    }

pub headway_none : (ts : List Trigger) (p : PlantTold) (before : TraceTold) → Headway ts p before false p before
headway_none ts p before = record { drives = drives_none ts p before; lower = λ e. absurd cc; same = λ e. refl }

-- the total of q by the numbers of p's plan
lower_by : (ts : List Trigger) (p q r : PlantTold) → q.plan ≡ p.plan
    → total_left (plan_numbers q.plan) ts (state_of r) < total_left (plan_numbers q.plan) ts (state_of q)
    → total_left (plan_numbers p.plan) ts (state_of r) < total_left (plan_numbers p.plan) ts (state_of q)
lower_by ts p q r same lower =
    subst (λ (plan : PlanText). total_left (plan_numbers plan) ts (state_of r) < total_left (plan_numbers plan) ts (state_of q)) same lower

total_same : (ts : List Trigger) (p q r : PlantTold) → state_of r ≡ state_of q
    → total_left (plan_numbers p.plan) ts (state_of r) ≡ total_left (plan_numbers p.plan) ts (state_of q)
total_same ts p q r same = ap (total_left (plan_numbers p.plan) ts) same

then_lower : (ts : List Trigger) (p q r : PlantTold) (before mid after : TraceTold) (a b : Bool)
    → Headway ts p before a q mid → Headway ts q mid b r after → (a || b) ≡ true
    → total_left (plan_numbers p.plan) ts (state_of r) < total_left (plan_numbers p.plan) ts (state_of p)
then_lower ts p q r before mid after true true first second e =
    let same = first.drives.plays.runs.plan in
    let one = first.lower refl in
    let two = lower_by ts p q r same (second.lower refl) in
    omega (arith, one, two)
then_lower ts p q r before mid after true false first second e =
    let one = first.lower refl in
    let two = total_same ts p q r (second.same refl) in
    omega (arith, one, two)
then_lower ts p q r before mid after false true first second e =
    let same = first.drives.plays.runs.plan in
    let one = total_same ts p p q (first.same refl) in
    let two = lower_by ts p q r same (second.lower refl) in
    omega (arith, one, two)
then_lower ts p q r before mid after false false first second e = absurd cc

then_same : (ts : List Trigger) (p q r : PlantTold) (before mid after : TraceTold) (a b : Bool)
    → Headway ts p before a q mid → Headway ts q mid b r after → (a || b) ≡ false → state_of r ≡ state_of p
then_same ts p q r before mid after true b first second e = absurd cc
then_same ts p q r before mid after false true first second e = absurd cc
then_same ts p q r before mid after false false first second e = second.same refl ∙ first.same refl

pub headway_then : (ts : List Trigger) (p q r : PlantTold) (before mid after : TraceTold) (a b : Bool)
    → Headway ts p before a q mid → Headway ts q mid b r after → Headway ts p before (a || b) r after
headway_then ts p q r before mid after a b first second = record {
  drives = drives_then ts p q r before mid after (Ok tt) first.drives second.drives;
  lower = then_lower ts p q r before mid after a b first second;
  same = then_same ts p q r before mid after a b first second;
}

-- ---- booleans

pub or_false : (a b : Bool) → (a || b) ≡ false → a ≡ false
or_false true b e = absurd cc
or_false false b e = refl

pub or_false_too : (a b : Bool) → (a || b) ≡ false → b ≡ false
or_false_too true b e = absurd cc
or_false_too false true e = absurd cc
or_false_too false false e = refl

or_right : (a : Bool) → (a || false) ≡ a
or_right true = refl
or_right false = refl

or_true : (a : Bool) → (a || true) ≡ true
or_true true = refl
or_true false = refl

-- a step more that brought the job forward
pub headway_more : (ts : List Trigger) (p q r : PlantTold) (before mid after : TraceTold) (a : Bool)
    → Headway ts p before a q mid → Headway ts q mid true r after → Headway ts p before true r after
headway_more ts p q r before mid after a first second =
    subst (λ (b : Bool). Headway ts p before b r after) (or_true a) (headway_then ts p q r before mid after a true first second)

-- and one that left it as it was
pub headway_last : (ts : List Trigger) (p q r : PlantTold) (before mid after : TraceTold) (a b : Bool) → b ≡ false
    → Headway ts p before a q mid → Headway ts q mid b r after → Headway ts p before a r after
headway_last ts p q r before mid after a b e first second =
    subst (λ (x : Bool). Headway ts p before x r after) (ap (λ (y : Bool). a || y) e ∙ or_right a)
    (headway_then ts p q r before mid after a b first second)

pub headway_as : (ts : List Trigger) (p q : PlantTold) (before after : TraceTold) (a b : Bool) → a ≡ b → Headway ts p before a q after
    → Headway ts p before b q after
headway_as ts p q before after a b e headway = subst (λ (x : Bool). Headway ts p before x q after) e headway

-- ---- what is said of one moment, at another

pub gives_on : (p q : PlantTold) (v : ℕ) → q.plan ≡ p.plan → GivesStream p v → GivesStream q v
gives_on p q v same gives = subst (λ (plan : PlanText). IsStream (plan_numbers plan) v) (sym same) gives

pub takes_on : (p q : PlantTold) (k : ℕ) → q.plan ≡ p.plan → TakesStream p k → TakesStream q k
takes_on p q k same takes = subst (λ (plan : PlanText). IsSink (plan_numbers plan) k) (sym same) takes

pub stored_on : (p q : PlantTold) (v : ℕ) → q.plan ≡ p.plan → state_of q ≡ state_of p → StoredBelow p v → StoredBelow q v
stored_on p q v same state below =
    subst (λ (plan : PlanText). WholeBelow (plan_numbers plan) (state_of q) v) (sym same)
    (subst (λ (s : State). WholeBelow (job_of p) s v) (sym state) below)

pub is_stored_on : (p q : PlantTold) (k : ℕ) → q.plan ≡ p.plan → state_of q ≡ state_of p → IsStored p (stream_put p k)
    → IsStored q (stream_put q k)
is_stored_on p q k same state stored =
    let P : PlanText → Type 0 = λ plan. IsWhole (plan_numbers plan) (state_of q) (input (vertex (plan_numbers plan) k) 0) in
    subst P (sym same) (subst (λ (s : State). IsWhole (job_of p) s (stream_put p k)) (sym state) stored)

pub put_on : (p q : PlantTold) (k : ℕ) → q.plan ≡ p.plan → state_of q ≡ state_of p → PutBelow p k → PutBelow q k
put_on p q k same state below =
    subst (λ (plan : PlanText). TakenBelow (plan_numbers plan) (state_of q) k) (sym same)
    (subst (λ (s : State). TakenBelow (job_of p) s k) (sym state) below)

pub count_on : (p q : PlantTold) → q.plan ≡ p.plan → vertex_count q ≡ vertex_count p
count_on p q same = ap (λ (plan : PlanText). length (plan_numbers plan).vertices) same

-- ---- one vertex more

neither : (u v : ℕ) → u < v + 1 → u ≢ v → u < v
neither u v h other = ⊎_elim (λ (less : u < v). less) (λ (past : v ≤ u). absurd (other (omega (arith, h, past)))) (cases_lt u v)

pub stored_more : (p : PlantTold) (v : ℕ) → StoredBelow p v → (GivesStream p v → IsStored p v) → StoredBelow p (v + 1)
stored_more p v below here = λ u h gives. ⊎_elim
    (λ (same : u ≡ v). subst (IsStored p) (sym same) (here (subst (GivesStream p) same gives)))
    (λ (other : u ≢ v). below u (neither u v h other) gives)
    (cases_eq u v)

pub put_more : (p : PlantTold) (k : ℕ) → PutBelow p k → (TakesStream p k → IsPut p k) → PutBelow p (k + 1)
put_more p k below here = λ j h takes. ⊎_elim
    (λ (same : j ≡ k). subst (IsPut p) (sym same) (here (subst (TakesStream p) same takes)))
    (λ (other : j ≢ k). below j (neither j k h other) takes)
    (cases_eq j k)

-- ---- the measure of a loop

pub lower_in : (ts : List Trigger) (p q r : PlantTold) → q.plan ≡ p.plan
    → total_left (job_of q) ts (state_of r) < total_left (job_of q) ts (state_of q)
    → total_left (job_of p) ts (state_of r) < total_left (job_of p) ts (state_of q)
lower_in ts p q r same lower = lower_by ts p q r same lower

-- ---- one vertex behind others

pub turned : (ts : List Trigger) (p r : PlantTold) (v : ℕ) (before after : TraceTold) (result : Result Bool EngineFault)
    → Advances ts p before result r after → IfOk result (λ moved. moved ≡ false → StoredBelow p v → IsStored r v)
    → IfOk result (λ moved. moved ≡ false → StoredBelow p v → StoredBelow r (v + 1))
turned ts p r v before after (Ok moved) went stored = λ e below.
    stored_more r v (stored_on p r v went.drives.plays.runs.plan (went.same e) below) (λ gives. stored e below)
turned ts p r v before after (Err f) went stored = tt

-- the stream that a sink puts
put_stream : (p : PlantTold) (k : ℕ) → Joint p → TakesStream p k → (stream_put p k < vertex_count p) × GivesStream p (stream_put p k)
put_stream p k joint takes =
    let is = joint.numbers.numbers.each k takes.0 in
    let one = is.sink takes.1 in
    let first : 0 < length (vertex (job_of p) k).inputs = omega (arith, one) in
    let earlier = is.earlier 0 first in
    let within : stream_put p k < vertex_count p = omega (arith, earlier, takes.0) in
    (within, (within, is.streams 0 first))

pub put_is_stored : (p : PlantTold) (k : ℕ) → Joint p → TakesStream p k → StoredBelow p (vertex_count p) → IsStored p (stream_put p k)
put_is_stored p k joint takes below =
    let is = put_stream p k joint takes in
    below (stream_put p k) is.0 is.1

pub took : (ts : List Trigger) (p r : PlantTold) (k : ℕ) (before after : TraceTold) (result : Result Bool EngineFault) → Joint p → TakesStream p k
    → Advances ts p before result r after → IfOk result (λ moved. moved ≡ false → IsStored p (stream_put p k) → IsPut r k)
    → IfOk result (λ moved. moved ≡ false → StoredBelow p (vertex_count p) → PutBelow p k → PutBelow r (k + 1))
took ts p r k before after (Ok moved) joint takes went put = λ e stored below.
    put_more r k (put_on p r k went.drives.plays.runs.plan (went.same e) below) (λ same. put e (put_is_stored p k joint takes stored))
took ts p r k before after (Err f) joint takes went put = tt

pub all_stored_on : (p q : PlantTold) → q.plan ≡ p.plan → state_of q ≡ state_of p → StoredBelow p (vertex_count p) → StoredBelow q (vertex_count q)
all_stored_on p q same state below =
    subst (StoredBelow q) (sym (count_on p q same)) (stored_on p q (vertex_count p) same state below)

-- ---- a step behind one that leaves the job as it was

pub lowers_behind : (ts : List Trigger) (p q r : PlantTold) (before mid after : TraceTold) (result : Result (Unit {0}) EngineFault)
    → Headway ts p before false q mid → Lowers ts q mid result r after → Lowers ts p before result r after
lowers_behind ts p q r before mid after (Ok done) first second = headway_more ts p q r before mid after false first second
lowers_behind ts p q r before mid after (Err f) first second = drives_then ts p q r before mid after (Err f) first.drives second

pub has_batch_on : (p q : PlantTold) (v : ℕ) → state_of q ≡ state_of p → has_batch p v ≡ true → has_batch q v ≡ true
has_batch_on p q v same batch = ap (λ (s : State). whole.has_batch (tail_at s v)) same ∙ batch
