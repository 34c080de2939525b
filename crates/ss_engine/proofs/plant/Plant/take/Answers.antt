use Rattle.std.proofs.Common.{Some, subst, sym}
use Rattle.ss_acts.specs.Calls.{TakesLine}
use Rattle.ss_acts.specs.Leaves.{PutsBy}
use Rattle.ss_frames.specs.Plans.{plan_numbers}
use Rattle.ss_plan.specs.Plan.{PlanText}
use Rattle.ss_state.specs.Numbers.{IsSink}
use Rattle.ss_vault.specs.Sound.{Sound}
use Rattle.ss_vault.specs.Told.{VaultTold, vault_told}
use Rattle.ss_engine.specs.Told.{PlantTold, plant_told}
use Rattle.ss_engine.proofs.Acts.{take_applies}
use Rattle.ss_engine.proofs.plant.Plant.take.Goals as goal

pub act_take-requires-clause-sink : goal.act_take-requires-clause-sink
act_take-requires-clause-sink g c =
    subst (λ (plan : PlanText). IsSink (plan_numbers plan) c.args.k) (sym c.deref.ensures) c.requires.sink

pub act_take-requires-clause-sound : goal.act_take-requires-clause-sound
act_take-requires-clause-sound g c =
    let p : PlantTold = plant_told g.O.Outputs.told g.D.Depot.told c.args.self.now in
    subst (λ (plan : PlanText). Sound plan p.vault) (sym c.deref.ensures) c.requires.joint.parts.vault

pub returns : goal.returns
returns g c =
    let p : PlantTold = plant_told g.O.Outputs.told g.D.Depot.told c.args.self.now in
    let u : VaultTold = vault_told g.O.Outputs.told g.D.Depot.told c.act_take.new.vault in
    let result = c.act_take.result in
    take_applies c.act_laws.ensures p c.args.k u result c.requires.joint c.requires.sink
    (subst (λ (plan : PlanText). Sound plan u) c.deref.ensures c.act_take.ensures.sound)
    (subst (λ (plan : PlanText). TakesLine plan c.args.k p.vault result u) c.deref.ensures c.act_take.ensures.answer)
    c.act_take.ensures.asks
    (subst (λ (plan : PlanText). PutsBy plan (Some c.args.k) p.vault result u) c.deref.ensures c.act_take.ensures.outputs)
