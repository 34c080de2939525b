-- An act that was made, or that met a fault, leaves a joint job.
use Rattle.std.proofs.Common.{◌≡◌, ℕ, Bool, true, false, Option, Ok, Err, ap, ◌∙◌, sym, subst, refl, le_refl}
use Rattle.std.proofs.lemmas.Bool.{false≢true}
use Rattle.ss_acts.specs.Leaves.{AsksVault, Goes, Keeps, PutsToNoOther, PutsToTakers, sink_failed}
use Rattle.ss_acts.specs.declared.fault.EngineFault.{EngineFault}
use Rattle.ss_fail.specs.declared.act.Act.{Act}
use Rattle.ss_fail.specs.declared.act.Act.TheVariants as act
use Rattle.ss_fail.specs.declared.outcome.Outcome.{Outcome}
use Rattle.ss_frames.specs.Plans.{plan_numbers}
use Rattle.ss_outside.specs.Told.{OutputsTold}
use Rattle.ss_plan.specs.Plan.{PlanText}
use Rattle.ss_state.specs.Acts.{pass_act}
use Rattle.ss_state.specs.Joint as of_numbers
use Rattle.ss_state.specs.Laws.{Grows, IsPassed}
use Rattle.ss_state.specs.Numbers.{JobNumbers}
use Rattle.ss_state.specs.State.{VaultNumbers, row_at}
use Rattle.ss_state.specs.Step.{Step, step, is_full, Left, MayAct}
use Rattle.ss_vault.specs.Calls.{HasCollected, HasWhatIsNeeded}
use Rattle.ss_vault.specs.Told.{VaultTold, numbers_of}
use Rattle.ss_engine.specs.Applies.{AppliesJointly, IsCause, calls_vault, kind_of, sink_of}
use Rattle.ss_engine.specs.Laws.{ActLaws}
use Rattle.ss_engine.specs.Joint.{PartsStand, Joint}
use Rattle.ss_engine.specs.Told.{PlantTold, state_of}

-- nothing that is needed is gone of a job that is joint
pub has_needed : ActLaws → (q : PlantTold) → of_numbers.Joint (plan_numbers q.plan) (state_of q) → HasWhatIsNeeded q.plan q.vault
has_needed laws q joint =
    let job : JobNumbers = plan_numbers q.plan in
    let vault : VaultNumbers = numbers_of q.vault in
    record {
      needed = λ v stream. (laws.elements job vault v joint.numbers joint.vault stream).0;
      required = λ v stream. (laws.elements job vault v joint.numbers joint.vault stream).1;
      snapshots = λ v n operator stored. laws.snapshots job vault v n joint.numbers joint.vault operator stored;
      mark = λ v stream source. laws.mark job vault v joint.numbers joint.vault stream source;
    }

-- and a whole pass has left no more
has_collected : ActLaws → (p q : PlantTold) (a : Act) (o : Outcome) → of_numbers.Joint (plan_numbers p.plan) (state_of p) → a ≡ act.Pass
    → step (plan_numbers p.plan) (state_of p) a ≡ record { state = state_of q; outcome = o }
    → HasCollected p.plan p.vault q.vault
has_collected laws p q a o joint whole did =
    let job : JobNumbers = plan_numbers p.plan in
    let old : VaultNumbers = numbers_of p.vault in
    let passed : step job (state_of p) act.Pass ≡ record { state = state_of q; outcome = o } =
    subst (λ (b : Act). step job (state_of p) b ≡ record { state = state_of q; outcome = o }) whole did in
    let left : (pass_act job old).vault ≡ numbers_of q.vault = ap (λ (s : Step). s.state.vault) passed in
    let law = laws.pass job old joint.numbers joint.vault in
    record {
      streams = λ v stream. subst (λ (n : VaultNumbers). IsPassed job old.ledger n.ledger v) left (law.0 v stream);
      sinks = λ k sink. ap (λ (n : VaultNumbers). row_at n.ledger k) (sym left) ∙ law.1 k sink;
      since = ap (λ (n : VaultNumbers). n.ledger.since) (sym left) ∙ law.2;
    }

pub made : ActLaws → (p q : PlantTold) (a : Act) (o : Outcome) → Joint p → MayAct (plan_numbers p.plan) a
    → is_full (plan_numbers p.plan) (state_of p) a ≡ false → PartsStand q → q.plan ≡ p.plan
    → step (plan_numbers p.plan) (state_of p) a ≡ record { state = state_of q; outcome = o }
    → Goes p.vault q.vault → AsksVault (calls_vault p a) p.vault true q.vault → PutsToTakers p.plan p.vault q.vault
    → AppliesJointly p a (Ok o) q
made laws p q a o joint may within parts plan did goes asks outputs =
    let same : of_numbers.Joint (plan_numbers p.plan) (state_of q) =
    subst (λ (s : Step). of_numbers.Joint (plan_numbers p.plan) s.state) did (laws.made (plan_numbers p.plan) (state_of p) a may within joint.numbers) in
    let there : of_numbers.Joint (plan_numbers q.plan) (state_of q) =
    subst (λ (text : PlanText). of_numbers.Joint (plan_numbers text) (state_of q)) (sym plan) same in
    record {
      joint = record {
        parts = parts;
        numbers = there;
      };
      applies = record {
        plan = plan;
        step = did;
        within = within;
        goes = goes;
        grows = subst (λ (s : Step). Grows (plan_numbers p.plan) (numbers_of p.vault).ledger s.state.vault.ledger) did
            (laws.falls (plan_numbers p.plan) (state_of p) a may joint.numbers);
      };
      vault = asks;
      outputs = outputs;
      needed = has_needed laws q there;
      collected = λ ok whole. has_collected laws p q a o joint.numbers whole did;
    }

pub met : ActLaws → (p q : PlantTold) (a : Act) (f : EngineFault) → Joint p → MayAct (plan_numbers p.plan) a
    → PartsStand q → q.plan ≡ p.plan → Left (plan_numbers p.plan) (state_of p) a (kind_of f) (state_of q)
    → IsCause p a q f → AsksVault (calls_vault p a) p.vault false q.vault
    → PutsToNoOther p.plan (sink_failed (sink_of a) f) p.vault q.vault
    → AppliesJointly p a (Err f) q
met laws p q a f joint may parts plan left cause asks outputs =
    let same : of_numbers.Joint (plan_numbers p.plan) (state_of q) =
    laws.fault (plan_numbers p.plan) (state_of p) (state_of q) a (kind_of f) may joint.numbers left in
    let there : of_numbers.Joint (plan_numbers q.plan) (state_of q) =
    subst (λ (text : PlanText). of_numbers.Joint (plan_numbers text) (state_of q)) (sym plan) same in
    record {
      joint = record {
        parts = parts;
        numbers = there;
      };
      applies = record { plan = plan; left = left; cause = cause };
      vault = asks;
      outputs = outputs;
      needed = has_needed laws q there;
      collected = λ ok whole. absurd (false≢true ok);
    }

-- a vault that is as it was
pub goes_on : (s : VaultTold) → Goes s s
goes_on s = record {
  halted = refl;
  started = refl;
  counts = record { faults = le_refl _; output_faults = le_refl _; shorts = le_refl _ };
}

pub keeps_all : (s : VaultTold) → Keeps s s
keeps_all s = record { numbers = refl; goes = goes_on s }

-- and that isn't called
pub not_called : (made : Bool) (s : VaultTold) → AsksVault false s made s
not_called made s = record { untouched = λ no. refl; going = λ due yes. absurd (false≢true due) }

-- outputs that are as they were
pub puts_nothing : (plan : PlanText) (s u : VaultTold) → u.outputs ≡ s.outputs → PutsToTakers plan s u
puts_nothing plan s u e name none = ap (λ (o : OutputsTold). o.put_to name) e

pub puts_to_none : (plan : PlanText) (sink : Option ℕ) (s u : VaultTold) → u.outputs ≡ s.outputs → PutsToNoOther plan sink s u
puts_to_none plan sink s u e name other = ap (λ (o : OutputsTold). o.put_to name) e
