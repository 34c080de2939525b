use Rattle.std.proofs.Common.{sym, subst, Err}
use Rattle.std.specs.Prelude.{All}
use Rattle.std.specs.Arc.{arc_value}
use Rattle.ss_engine.specs.Applies.{MayApply}
use Rattle.ss_engine.specs.Told.{PlantTold, plant_told}
use Rattle.ss_plan.specs.Plan.{PlanText}
use Rattle.ss_play.specs.Playing.{Devices, EndsPlaying}
use Rattle.ss_play.specs.declared.fault.PlayFault.{PlayFault}
use Rattle.ss_play.proofs.PlayEnds.{plays, refused}
use Rattle.ss_play.proofs.playing.play_acts.Goals as goal

pub play_on-answer-requires-clause-going : goal.play_on-answer-requires-clause-going
play_on-answer-requires-clause-going g c = c.in-Ok.ensures.begins.halted

pub play_on-answer-requires-clause-acts : goal.play_on-answer-requires-clause-acts
play_on-answer-requires-clause-acts g c =
    subst (λ (plan : PlanText). All (MayApply plan) c.args.acts.now) (sym c.in-Ok.ensures.begins.of_plan) c.requires.acts

pub returns-in-Ok : goal.returns-in-Ok
returns-in-Ok g c =
    let before : Devices = record { outputs = g.O.Outputs.told c.args.outputs; depot = g.D.Depot.told c.args.depot } in
    let p : PlantTold = plant_told g.O.Outputs.told g.D.Depot.told c.in-Ok.plant in
    let q : PlantTold = plant_told g.O.Outputs.told g.D.Depot.told c.play_on-answer.new.plant in
    plays (arc_value c.args.plan) c.args.acts.now before p q c.in-Ok.ensures.begins c.in-Ok.ensures.joint c.play_on-answer.ensures.joint
    c.play_on-answer.result c.play_on-answer.ensures.ends _ _ c.into_parts-plan.ensures.outputs c.into_parts-plan.ensures.depot

pub returns-in-Err : goal.returns-in-Err
returns-in-Err g c =
    let before : Devices = record { outputs = g.O.Outputs.told c.args.outputs; depot = g.D.Depot.told c.args.depot } in
    let after : Devices = record { outputs = g.O.Outputs.told c.in-Err.refused.outputs; depot = g.D.Depot.told c.in-Err.refused.depot } in
    subst (λ (f : PlayFault). EndsPlaying (arc_value c.args.plan) c.args.acts.now before (Err f) after) (sym c.of_vault.ensures)
    (refused (arc_value c.args.plan) c.args.acts.now c.in-Err.refused.fault before after c.in-Err.ensures.outputs c.in-Err.ensures.refused)
