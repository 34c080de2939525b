use Rattle.std.proofs.Common.{sym, subst}
use Rattle.std.specs.Prelude.{All}
use Rattle.ss_engine.specs.Plays.{acts_of}
use Rattle.ss_engine.specs.Told.{PlantTold, plant_told}
use Rattle.ss_frames.specs.Plans.{plan_numbers}
use Rattle.ss_plan.specs.Plan.{PlanText}
use Rattle.ss_state.specs.Step.{MayAct}
use Rattle.ss_play.proofs.Plants.{may_act}
use Rattle.ss_play.proofs.VertexLines.{report_is}
use Rattle.ss_play.proofs.reporting.report_of.Goals as goal

pub trace_of-requires : goal.trace_of-requires
trace_of-requires g c =
    let p : PlantTold = plant_told g.O.Outputs.told g.D.Depot.told c.args.plant.now in
    subst (λ (text : PlanText). All (MayAct (plan_numbers text)) (acts_of c.args.trace.now.made)) (sym c.plan-plan.ensures)
    (may_act p.plan (acts_of c.args.trace.now.made) c.requires.acts)

pub returns : goal.returns
returns g c =
    let p : PlantTold = plant_told g.O.Outputs.told g.D.Depot.told c.args.plant.now in
    report_is p c.plan-plan.result.now c.args.trace.now.made _ c.plan-plan.ensures c.vault.ensures _ _ _
    c.in_ok-text.ensures c.in_ok-put_vertices.ensures c.in_ok-put_journal.ensures
