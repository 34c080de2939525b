-- The acts that schedules say, and the failures that files list.
use Rattle.std.specs.Prelude.{◌≡◌, ℕ, List, All, Ok}
use Rattle.std.specs.List.{AllByRecursion}
use Rattle.ss_engine.specs.Applies.{MayApply}
use Rattle.ss_fail.specs.Scripts.{acts_of, triggers_of}
use Rattle.ss_fail.specs.declared.act.Act.{Act}
use Rattle.ss_fail.specs.declared.trigger.Trigger.{Trigger}
use Rattle.ss_frames.specs.Plans.{plan_numbers}
use Rattle.ss_plan.specs.Limit.{IsPlan}
use Rattle.ss_plan.specs.Plan.{PlanText}
use Rattle.ss_state.specs.Rule.{IsTrigger}

-- every act of a schedule for a job can be made on it: names and replicas are the job's, and of the kinds that the act
-- needs
abbrev pub SchedulesMayApply : Type 0
SchedulesMayApply =
    (plan : PlanText) (bytes : List ℕ) (acts : List Act) → IsPlan plan → acts_of plan.job.roles bytes ≡ Ok acts
    → All (MayApply plan) acts

-- every failure that a file lists for a job can be made on it, behind a write that can be counted
abbrev pub FailuresCanFire : Type 0
FailuresCanFire =
    (plan : PlanText) (bytes : List ℕ) (ts : List Trigger) → IsPlan plan → triggers_of plan.job.roles bytes ≡ Ok ts
    → AllByRecursion (IsTrigger (plan_numbers plan)) ts
