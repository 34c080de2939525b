use Rattle.std.proofs.Common.{subst, sym}
use Rattle.ss_acts.specs.Calls.{TrimsVertex}
use Rattle.ss_frames.specs.Plans.{plan_numbers}
use Rattle.ss_plan.specs.Plan.{PlanText}
use Rattle.ss_state.specs.Numbers.{IsStream}
use Rattle.ss_vault.specs.Sound.{Sound}
use Rattle.ss_vault.specs.Told.{VaultTold, vault_told}
use Rattle.ss_engine.specs.Told.{PlantTold, plant_told}
use Rattle.ss_engine.proofs.CollectActs.{trim_applies}
use Rattle.ss_engine.proofs.plant.Plant.trim.Goals as goal

pub act_trim-requires-clause-stream : goal.act_trim-requires-clause-stream
act_trim-requires-clause-stream g c =
    subst (λ (plan : PlanText). IsStream (plan_numbers plan) c.args.v) (sym c.deref.ensures) c.requires.stream

pub act_trim-requires-clause-sound : goal.act_trim-requires-clause-sound
act_trim-requires-clause-sound g c =
    let p : PlantTold = plant_told g.O.Outputs.told g.D.Depot.told c.args.self.now in
    subst (λ (plan : PlanText). Sound plan p.vault) (sym c.deref.ensures) c.requires.joint.parts.vault

pub returns : goal.returns
returns g c =
    let p : PlantTold = plant_told g.O.Outputs.told g.D.Depot.told c.args.self.now in
    let u : VaultTold = vault_told g.O.Outputs.told g.D.Depot.told c.act_trim.new.vault in
    let result = c.act_trim.result in
    trim_applies c.act_laws.ensures p c.args.v u result c.requires.joint c.requires.stream
    (subst (λ (plan : PlanText). Sound plan u) c.deref.ensures c.act_trim.ensures.sound)
    (subst (λ (plan : PlanText). TrimsVertex plan c.args.v p.vault result u) c.deref.ensures c.act_trim.ensures.answer)
    c.act_trim.ensures.asks c.act_trim.ensures.outputs
