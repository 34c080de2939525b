use Rattle.std.proofs.Common.{sym, subst, Err}
use Rattle.ss_engine.specs.Told.{PlantTold, plant_told}
use Rattle.ss_vault.specs.Facts.{PlanFacts}
use Rattle.ss_play.specs.Ending.{Ends}
use Rattle.ss_play.specs.declared.fault.PlayFault.{PlayFault}
use Rattle.ss_play.proofs.Plants.{may_act}
use Rattle.ss_play.proofs.PlayEnds.{ends_early, ends_told, may_be_made}
use Rattle.ss_play.proofs.playing.play_on.Goals as goal

pub tell-requires-clause-acts : goal.tell-requires-clause-acts
tell-requires-clause-acts g c =
    let p : PlantTold = plant_told g.O.Outputs.told g.D.Depot.told c.args.plant.now in
    let q : PlantTold = plant_told g.O.Outputs.told g.D.Depot.told c.play.new.plant in
    may_be_made p c.args.acts.now _ _ q c.in-Ok.ensures.plays c.new-trace.ensures c.requires.acts

pub returns-in-Ok-clause-ends : goal.returns-in-Ok-clause-ends
returns-in-Ok-clause-ends g c =
    let p : PlantTold = plant_told g.O.Outputs.told g.D.Depot.told c.args.plant.now in
    let q : PlantTold = plant_told g.O.Outputs.told g.D.Depot.told c.play.new.plant in
    ends_told p c.args.acts.now _ _ q c.tell.result c.in-Ok.ensures.plays c.new-trace.ensures c.tell.ensures.tells c.tell.ensures.memory

pub returns-clause-ends : goal.returns-clause-ends
returns-clause-ends g c =
    let p : PlantTold = plant_told g.O.Outputs.told g.D.Depot.told c.args.plant.now in
    let q : PlantTold = plant_told g.O.Outputs.told g.D.Depot.told c.play.new.plant in
    let facts : PlanFacts p.plan = subst PlanFacts c.plan.ensures c.plan_facts.ensures in
    subst (λ (f : PlayFault). Ends p c.args.acts.now (Err f) q) (sym c.of_engine.ensures)
    (ends_early p facts c.args.acts.now _ _ c.in-Err.fault q c.requires.going (may_act p.plan c.args.acts.now c.requires.acts)
    c.in-Err.ensures.plays)
