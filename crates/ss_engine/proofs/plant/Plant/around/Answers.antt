use Rattle.std.proofs.Common.{map, refl, subst}
use Rattle.std.specs.Arc.{arc_value}
use Rattle.ss_acts.specs.Facts.{ActFacts}
use Rattle.ss_plan.specs.Plan.{PlanText}
use Rattle.ss_vault.specs.Told.{vault_told}
use Rattle.ss_engine.specs.Told.{PlantTold}
use Rattle.ss_engine.proofs.Behind.{GoesOn, goes_on, goes_on_joint, is_around}
use Rattle.ss_engine.proofs.plant.Plant.around.Goals as goal

pub returns-clause-joint : goal.returns-clause-joint
returns-clause-joint g c =
    let plan : PlanText = arc_value c.args.plan in
    let p : PlantTold = record { plan = plan; tails = c.in-Ok.parts.0.items; insts = map (λ replicas. replicas.items) c.in-Ok.parts.1.items; vault = vault_told g.O.Outputs.told g.D.Depot.told c.args.vault } in
    let goes : GoesOn p = goes_on plan c.deref-2.result.now p c.deref-2.ensures refl c.in-Ok.ensures.tails c.in-Ok.ensures.insts c.requires.sound in
    goes_on_joint p (subst (λ (x : PlanText). ActFacts x) c.deref.ensures c.act_facts.ensures) goes

pub returns-clause-around : goal.returns-clause-around
returns-clause-around g c =
    let plan : PlanText = arc_value c.args.plan in
    let p : PlantTold = record { plan = plan; tails = c.in-Ok.parts.0.items; insts = map (λ replicas. replicas.items) c.in-Ok.parts.1.items; vault = vault_told g.O.Outputs.told g.D.Depot.told c.args.vault } in
    let goes : GoesOn p = goes_on plan c.deref-2.result.now p c.deref-2.ensures refl c.in-Ok.ensures.tails c.in-Ok.ensures.insts c.requires.sound in
    is_around p goes
