use Rattle.std.proofs.Common.{subst, sym}
use Rattle.ss_acts.specs.Calls.{PassesAll}
use Rattle.ss_plan.specs.Plan.{PlanText}
use Rattle.ss_vault.specs.Sound.{Sound}
use Rattle.ss_vault.specs.Told.{VaultTold, vault_told}
use Rattle.ss_engine.specs.Told.{PlantTold, plant_told}
use Rattle.ss_engine.proofs.CollectActs.{pass_applies}
use Rattle.ss_engine.proofs.plant.Plant.pass.Goals as goal

pub act_pass-requires : goal.act_pass-requires
act_pass-requires g c =
    let p : PlantTold = plant_told g.O.Outputs.told g.D.Depot.told c.args.self.now in
    record { sound = subst (λ (plan : PlanText). Sound plan p.vault) (sym c.deref.ensures) c.requires.joint.parts.vault }

pub returns : goal.returns
returns g c =
    let p : PlantTold = plant_told g.O.Outputs.told g.D.Depot.told c.args.self.now in
    let u : VaultTold = vault_told g.O.Outputs.told g.D.Depot.told c.act_pass.new.vault in
    let result = c.act_pass.result in
    pass_applies c.act_laws.ensures p u result c.requires.joint
    (subst (λ (plan : PlanText). Sound plan u) c.deref.ensures c.act_pass.ensures.sound)
    (subst (λ (plan : PlanText). PassesAll plan p.vault result u) c.deref.ensures c.act_pass.ensures.answer)
    c.act_pass.ensures.asks c.act_pass.ensures.outputs
