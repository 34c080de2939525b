-- What the numbers of an operator say of how it is kept safe.
use Rattle.std.proofs.Common.{◌≡◌, ◌∙◌, ℕ, ◌+◌, ◌<◌, nat_le, nat_eq, true, false, not, ◌&&◌, ◌||◌, Option, Some, length, get_or, refl, sym, ap, subst, arith}
use Rattle.std.proofs.lemmas.Option.{slice_get_cases}
use Rattle.std.proofs.Common.{⊎_elim}
use Rattle.std.specs.Prelude.{slice_get, IsSome}
use Rattle.std.specs.Option.{option_and_then}
use Rattle.ss_fail.specs.declared.role.Role.{Role}
use Rattle.ss_frames.specs.Plans.{plan_numbers, AreOfPlan}
use Rattle.ss_job.specs.JobText.{VertexText, source, inner, sink, policy_of_vertex, policy_of, spec_of}
use Rattle.ss_job.specs.declared.policy.Policy.{Policy}
use Rattle.ss_plan.specs.Limit.{IsPlan}
use Rattle.ss_plan.specs.Plan.{PlanText}
use Rattle.ss_state.specs.Numbers.{VertexNumbers, is_inner, vertex}
use Rattle.ss_state.specs.Rule.{snap_due}
use Rattle.ss_manager.specs.Kept.{IsPolicyOf}

found : {A : Type 0} (xs : _) (v : ℕ) → v < length xs → (x : A) × (slice_get xs v ≡ Some x)
found xs v h = ⊎_elim (λ within. (within.0, within.2)) (λ past. absurd (omega (arith, past.0))) (slice_get_cases xs v).1

-- a vertex that has a policy is an operator
text_of : (at : Option VertexText) (policy : Policy) (text : VertexText) → at ≡ Some text → option_and_then policy_of_vertex at ≡ Some policy
    → policy_of_vertex text ≡ Some policy
text_of at policy text e has = ap (option_and_then policy_of_vertex) (sym e) ∙ has

kept_so : (plan : PlanText) (v : ℕ) (policy : Policy) (role : Role) (text : VertexText) → AreOfPlan plan (plan_numbers plan)
    → is_inner (vertex (plan_numbers plan) v).kind ≡ true
    → slice_get plan.job.roles v ≡ Some role → slice_get plan.job.vertices v ≡ Some text → policy_of_vertex text ≡ Some policy
    → IsPolicyOf (vertex (plan_numbers plan) v) policy
kept_so plan v policy role (source file late) are inner_is r t e = absurd (cc)
kept_so plan v policy role (inner spec own) are inner_is r t e =
    let has = are.policies v role (inner spec own) r t in
    let same : own ≡ policy = (cc) in
    record {
      inner = inner_is;
      every = has.every ∙ ap (λ (p : Policy). p.every) same;
      replay = has.replay ∙ ap (λ (p : Policy). p.replay) same;
    }
kept_so plan v policy role (sink file) are inner_is r t e = absurd (cc)

pub kept_as : (plan : PlanText) (v : ℕ) (policy : Policy) → IsPlan plan → AreOfPlan plan (plan_numbers plan) → v < length plan.job.graph
    → IsSome (spec_of plan.job v) → policy_of plan.job v ≡ Some policy → IsPolicyOf (vertex (plan_numbers plan) v) policy
kept_as plan v policy is are within spec has =
    let role = found plan.job.roles v (omega (arith, is.job.roles)) in
    let text = found plan.job.vertices v (omega (arith, is.job.vertices)) in
    kept_so plan v policy role.0 text.0 are ((are.operators v).1 spec) role.1 text.1
    (text_of (slice_get plan.job.vertices v) policy text.0 text.1 has)

-- whether a snapshot is due, as the policy says it
pub due_is : (x : VertexNumbers) (policy : Policy) (n m last held : ℕ) → IsPolicyOf x policy → held ≡ get_or x.held n 0 → m ≡ n
    → (nat_le (last + policy.every) m && (not policy.replay || nat_eq held 0)) ≡ snap_due x n last
unfolding snap_due
due_is x policy n m last held is e f = rw (is.inner, is.every, is.replay, f, ← e) refl

pub none_is_due : (x : VertexNumbers) (n last : ℕ) → is_inner x.kind ≡ false → false ≡ snap_due x n last
unfolding snap_due
none_is_due x n last e = rw e refl

pub is_some_spec : {A : Type 0} (x : A) (at : Option A) → Some x ≡ at → IsSome at
is_some_spec x at e = subst (λ (o : Option _). IsSome o) e refl
