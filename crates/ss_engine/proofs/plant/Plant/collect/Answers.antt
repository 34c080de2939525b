use Rattle.std.proofs.Common.{subst, sym}
use Rattle.ss_acts.specs.Calls.{CollectsStream}
use Rattle.ss_frames.specs.Plans.{plan_numbers}
use Rattle.ss_plan.specs.Plan.{PlanText}
use Rattle.ss_state.specs.Numbers.{IsStream}
use Rattle.ss_vault.specs.Sound.{Sound}
use Rattle.ss_vault.specs.Told.{VaultTold, vault_told}
use Rattle.ss_engine.specs.Told.{PlantTold, plant_told}
use Rattle.ss_engine.proofs.CollectActs.{collect_applies}
use Rattle.ss_engine.proofs.plant.Plant.collect.Goals as goal

pub act_collect-requires-clause-stream : goal.act_collect-requires-clause-stream
act_collect-requires-clause-stream g c =
    subst (λ (plan : PlanText). IsStream (plan_numbers plan) c.args.v) (sym c.deref.ensures) c.requires.stream

pub act_collect-requires-clause-sound : goal.act_collect-requires-clause-sound
act_collect-requires-clause-sound g c =
    let p : PlantTold = plant_told g.O.Outputs.told g.D.Depot.told c.args.self.now in
    subst (λ (plan : PlanText). Sound plan p.vault) (sym c.deref.ensures) c.requires.joint.parts.vault

pub returns : goal.returns
returns g c =
    let p : PlantTold = plant_told g.O.Outputs.told g.D.Depot.told c.args.self.now in
    let u : VaultTold = vault_told g.O.Outputs.told g.D.Depot.told c.act_collect.new.vault in
    let result = c.act_collect.result in
    collect_applies c.act_laws.ensures p c.args.v u result c.requires.joint c.requires.stream
    (subst (λ (plan : PlanText). Sound plan u) c.deref.ensures c.act_collect.ensures.sound)
    (subst (λ (plan : PlanText). CollectsStream plan c.args.v p.vault result u) c.deref.ensures c.act_collect.ensures.answer)
    c.act_collect.ensures.asks c.act_collect.ensures.outputs
