use Rattle.std.proofs.Common.{sym, subst}
use Rattle.std.specs.Arc.{arc_value}
use Rattle.std.specs.List.{AllByRecursion}
use Rattle.ss_engine.specs.Told.{PlantTold, plant_told}
use Rattle.ss_frames.specs.Plans.{plan_numbers}
use Rattle.ss_plan.specs.Plan.{PlanText}
use Rattle.ss_play.specs.Playing.{Devices}
use Rattle.ss_play.specs.declared.fault.PlayFault.{PlayFault}
use Rattle.ss_run.specs.Running.{StopsRunning}
use Rattle.ss_state.specs.Rule.{IsTrigger}
use Rattle.ss_vault.specs.Facts.{PlanFacts}
use Rattle.ss_run.proofs.Runs.{not_started, ran}
use Rattle.ss_run.proofs.Sinks.{put_is_meant}
use Rattle.ss_run.proofs.running.run_job.Goals as goal

pub run_on-answer-requires-clause-triggers : goal.run_on-answer-requires-clause-triggers
run_on-answer-requires-clause-triggers g c =
    subst (λ (plan : PlanText). AllByRecursion (IsTrigger (plan_numbers plan)) c.args.triggers.now) (sym c.in-Ok.ensures.begins.of_plan)
    c.requires.triggers

pub returns-in-Ok : goal.returns-in-Ok
returns-in-Ok g c =
    let before : Devices = record { outputs = g.O.Outputs.told c.args.outputs; depot = g.D.Depot.told c.args.depot } in
    let p : PlantTold = plant_told g.O.Outputs.told g.D.Depot.told c.in-Ok.plant in
    let q : PlantTold = plant_told g.O.Outputs.told g.D.Depot.told c.run_on-answer.new.plant in
    let facts : PlanFacts (arc_value c.args.plan) = subst PlanFacts c.deref.ensures c.plan_facts.ensures in
    ran c.plays_are_told.ensures.all c.plays_are_told.ensures.stops
    (put_is_meant c.meaning_is_made_of_the_inputs.ensures c.plans_have_numbers.ensures.runnable c.plans_have_numbers.ensures.meant) (arc_value c.args.plan) facts c.args.triggers.now before p q
    (record { begins = c.in-Ok.ensures.begins; joint = c.in-Ok.ensures.joint; left = c.run_on-answer.ensures.joint })
    c.args.wants_trace c.run_on-answer.result c.run_on-answer.ensures.ends _ _ c.into_parts-plan.ensures.outputs c.into_parts-plan.ensures.depot

pub returns-in-Err : goal.returns-in-Err
returns-in-Err g c =
    let before : Devices = record { outputs = g.O.Outputs.told c.args.outputs; depot = g.D.Depot.told c.args.depot } in
    let after : Devices = record { outputs = g.O.Outputs.told c.in-Err.refused.outputs; depot = g.D.Depot.told c.in-Err.refused.depot } in
    subst (λ (f : PlayFault). StopsRunning (arc_value c.args.plan) c.args.triggers.now before f after) (sym c.of_vault.ensures)
    (not_started c.plays_are_told.ensures.refusals (arc_value c.args.plan) c.args.triggers.now c.in-Err.refused.fault before after
    c.in-Err.ensures.outputs c.in-Err.ensures.refused)
