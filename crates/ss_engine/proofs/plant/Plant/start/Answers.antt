use Rattle.std.proofs.Common.{map, refl, subst}
use Rattle.std.specs.Arc.{arc_value}
use Rattle.ss_frames.specs.Plans.{plan_numbers}
use Rattle.ss_plan.specs.Plan.{PlanText}
use Rattle.ss_state.specs.IsNumbers.{IsNumbers}
use Rattle.ss_vault.specs.Told.{vault_told}
use Rattle.ss_engine.specs.Told.{PlantTold}
use Rattle.ss_engine.proofs.StartParts.{Starts, begins, started, starts_joint}
use Rattle.ss_engine.proofs.plant.Plant.start.Goals as goal

pub returns-in-Ok-start-clause-joint : goal.returns-in-Ok-start-clause-joint
returns-in-Ok-start-clause-joint g c =
    let plan : PlanText = arc_value c.args.plan in
    let outputs = g.O.Outputs.told c.args.outputs in
    let depot = g.D.Depot.told c.args.depot in
    let p : PlantTold = record { plan = plan; tails = c.in-Ok.parts.0.items; insts = map (λ replicas. replicas.items) c.in-Ok.parts.1.items; vault = vault_told g.O.Outputs.told g.D.Depot.told c.in-Ok-start.vault } in
    let starts : Starts plan outputs depot p =
    started plan c.deref-2.result.now c.deref-3.result.now outputs depot p c.deref-2.ensures c.deref-3.ensures refl c.in-Ok.ensures.tails c.in-Ok.ensures.insts
    c.in-Ok-start.ensures.begins c.in-Ok-start.ensures.sound in
    starts_joint c.first_state_is_joint.ensures plan
    (subst (λ (x : PlanText). IsNumbers (plan_numbers x)) c.deref.ensures c.act_facts.ensures.of_plan.numbers) outputs depot p starts

pub returns-in-Ok-start-clause-begins : goal.returns-in-Ok-start-clause-begins
returns-in-Ok-start-clause-begins g c =
    let plan : PlanText = arc_value c.args.plan in
    let outputs = g.O.Outputs.told c.args.outputs in
    let depot = g.D.Depot.told c.args.depot in
    let p : PlantTold = record { plan = plan; tails = c.in-Ok.parts.0.items; insts = map (λ replicas. replicas.items) c.in-Ok.parts.1.items; vault = vault_told g.O.Outputs.told g.D.Depot.told c.in-Ok-start.vault } in
    begins plan outputs depot p
    (started plan c.deref-2.result.now c.deref-3.result.now outputs depot p c.deref-2.ensures c.deref-3.ensures refl c.in-Ok.ensures.tails c.in-Ok.ensures.insts
    c.in-Ok-start.ensures.begins c.in-Ok-start.ensures.sound)
