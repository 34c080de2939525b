-- The next act by the rule: which acts it can be, and that it may be made.
use Rattle.std.proofs.Common.{◌≡◌, ℕ, true, false, Option, Some, None, refl}
use Rattle.std.specs.Prelude.{◌==◌, List, [], nat_le, nat_lt}
use Rattle.std.proofs.lemmas.Bool.{cond_both}
use Rattle.ss_engine.specs.Applies.{MayApply}
use Rattle.ss_fail.specs.declared.act.Act.{Act}
use Rattle.ss_fail.specs.declared.act.Act.TheVariants as act
use Rattle.ss_fail.specs.declared.outcome.Outcome.{Outcome}
use Rattle.ss_fail.specs.declared.trigger.Trigger.{Trigger}
use Rattle.ss_frames.specs.Plans.{plan_numbers}
use Rattle.ss_plan.specs.Plan.{PlanText}
use Rattle.ss_rounds.specs.Whole.{is_wait}
use Rattle.ss_state.specs.Acts.{InstAndTailStep, offer, offer_nothing, write_act}
use Rattle.ss_state.specs.IsNumbers.{IsNumbers}
use Rattle.ss_state.specs.Numbers.{JobNumbers, VertexNumbers, IsStream, mlen, vertex}
use Rattle.ss_state.specs.Rule.{ByRule, IsTrigger, due_after, last_snap, rule, ruled, snap_due}
use Rattle.ss_state.specs.State.{InstNumbers, State, TailNumbers, durable_at, inst_at, next}
use Rattle.ss_state.specs.Step.{IsReplica, MayAct}
use Rattle.ss_serial.specs.Stored.{is_write}

-- it is one of four
rule_is : (x : VertexNumbers) (v r : ℕ) (inst : Option InstNumbers) (last : ℕ) (P : Act → Type 0)
    → P (act.Load v r) → P (act.Write v r) → P (act.Snap v r) → P (act.Read v r) → P (rule x v r inst last)
unfolding rule
rule_is x v r None last P load write snap read = load
rule_is x v r (Some up) last P load write snap read =
    cond_both (nat_lt 0 up.left) _ _ P
    (λ e. write)
    (λ e. cond_both (snap_due x up.n last) _ _ P
    (λ f. snap)
    (λ f. cond_both (nat_le (mlen x) up.n) _ _ P (λ g. write) (λ g. read)))

ruled_is : (job : JobNumbers) (s : State) (v : ℕ) (P : Act → Type 0)
    → P (act.Load v 0) → P (act.Write v 0) → P (act.Snap v 0) → P (act.Read v 0) → P (ruled job s v 0)
ruled_is job s v P load write snap read =
    rule_is (vertex job v) v 0 (inst_at s v 0) (last_snap (durable_at s v).snaps) P load write snap read

pub ruled_by_rule : (job : JobNumbers) (s : State) (v : ℕ) → ByRule job s (ruled job s v 0)
ruled_by_rule job s v =
    ruled_is job s v (λ (a : Act). a ≡ ruled job s v 0 → ByRule job s a) (λ e. e) (λ e. e) (λ e. e) (λ e. e) refl

first_replica : (job : JobNumbers) (v : ℕ) → IsNumbers job → IsStream job v → IsReplica job v 0
first_replica job v numbers stream = (stream, (numbers.each v stream.0).replicas stream.1)

pub ruled_may : (job : JobNumbers) (s : State) (v : ℕ) → IsNumbers job → IsStream job v → MayAct job (ruled job s v 0)
ruled_may job s v numbers stream =
    let is = first_replica job v numbers stream in
    ruled_is job s v (MayAct job) is is is is

pub ruled_may_apply : (plan : PlanText) (s : State) (v : ℕ) → IsNumbers (plan_numbers plan) → IsStream (plan_numbers plan) v
    → MayApply plan (ruled (plan_numbers plan) s v 0)
ruled_may_apply plan s v numbers stream = ruled_may (plan_numbers plan) s v numbers stream

pub write_may_apply : (plan : PlanText) (v : ℕ) → IsNumbers (plan_numbers plan) → IsStream (plan_numbers plan) v
    → MayApply plan (act.Write v 0)
write_may_apply plan v numbers stream = first_replica (plan_numbers plan) v numbers stream

-- where it is a write, it is one of v
pub ruled_write : (job : JobNumbers) (s : State) (v : ℕ) → is_write (ruled job s v 0) ≡ true → ruled job s v 0 ≡ act.Write v 0
ruled_write job s v e =
    ruled_is job s v (λ (a : Act). is_write a ≡ true → a ≡ act.Write v 0)
    (λ f. absurd cc) (λ f. refl) (λ f. absurd cc) (λ f. absurd cc) e

-- and where not, nothing is due behind it
pub nothing_due : (job : JobNumbers) (ts : List Trigger) (s : State) (v : ℕ) → is_write (ruled job s v 0) ≡ false
    → due_after job ts s (ruled job s v 0) ≡ []
nothing_due job ts s v e =
    ruled_is job s v (λ (a : Act). is_write a ≡ false → due_after job ts s a ≡ [])
    (λ f. refl) (λ f. absurd cc) (λ f. refl) (λ f. refl) e

-- a write never waits
offer_waits : (up : InstNumbers) (n : ℕ) (tail : TailNumbers) → is_wait (offer up n tail).outcome ≡ false
unfolding offer
offer_waits up n tail =
    let P : InstAndTailStep → Type 0 = λ did. is_wait did.outcome ≡ false in
    cond_both (nat_lt tail.end n) _ _ P
    (λ e. refl)
    (λ e. cond_both (tail.end == n) _ _ P
    (λ f. refl)
    (λ f. cond_both (nat_lt n tail.from) _ _ (λ (o : Outcome). is_wait o ≡ false) (λ g. refl) (λ g. refl)))

nothing_waits : (up : InstNumbers) (n : ℕ) (tail : TailNumbers) → is_wait (offer_nothing up n tail).outcome ≡ false
unfolding offer_nothing
nothing_waits up n tail =
    cond_both (nat_lt tail.end n) _ _ (λ (did : InstAndTailStep). is_wait did.outcome ≡ false) (λ e. refl) (λ e. refl)

pub write_waits : (x : VertexNumbers) (inst : Option InstNumbers) (tail : TailNumbers) → is_wait (write_act x inst tail).outcome ≡ false
write_waits x None tail = refl
write_waits x (Some up) tail =
    cond_both (up.left == 0) _ _ (λ (did : InstAndTailStep). is_wait did.outcome ≡ false)
    (λ e. nothing_waits up (next x up) tail)
    (λ e. offer_waits up (next x up) tail)

-- a listed failure may be made
pub failure_may_apply : (plan : PlanText) (t : Trigger) → IsTrigger (plan_numbers plan) t → MayApply plan t.act
failure_may_apply plan t is = is.act
