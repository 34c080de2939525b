use Rattle.std.proofs.Common.{◌≡◌, refl, subst, sym}
use Rattle.ss_acts.specs.Calls.{FlushesTail}
use Rattle.ss_acts.specs.Parts.{IsTailOf}
use Rattle.ss_frames.specs.Plans.{plan_numbers}
use Rattle.ss_plan.specs.Plan.{PlanText}
use Rattle.ss_state.specs.Numbers.{IsStream}
use Rattle.ss_tail.specs.Held.{TailHeld}
use Rattle.ss_vault.specs.Sound.{Sound}
use Rattle.ss_vault.specs.Told.{VaultTold, vault_told}
use Rattle.ss_engine.specs.Told.{PlantTold, plant_told, tail_of}
use Rattle.ss_engine.proofs.FlushActs.{flush_applies}
use Rattle.ss_engine.proofs.Places.{t_within, tail_here}
use Rattle.ss_engine.proofs.plant.Plant.flush.Goals as goal

pub index_mut-tail-requires : goal.index_mut-tail-requires
index_mut-tail-requires g c =
    let p : PlantTold = plant_told g.O.Outputs.told g.D.Depot.told c.args.self.now in
    t_within p c.args.self.now.tails c.args.v refl c.requires.joint (c.requires.act.0.0)

pub act_flush-requires-clause-stream : goal.act_flush-requires-clause-stream
act_flush-requires-clause-stream g c =
    subst (λ (plan : PlanText). IsStream (plan_numbers plan) c.args.v) (sym c.deref.ensures) c.requires.act.0

pub act_flush-requires-clause-few : goal.act_flush-requires-clause-few
act_flush-requires-clause-few g c = c.requires.act.2

pub act_flush-requires-clause-tail : goal.act_flush-requires-clause-tail
act_flush-requires-clause-tail g c =
    let p : PlantTold = plant_told g.O.Outputs.told g.D.Depot.told c.args.self.now in
    let v = c.args.v in
    let tail : TailHeld = c.index_mut-tail.result.now in
    let tail_is : tail ≡ tail_of p v = tail_here p c.args.self.now.tails v tail refl c.requires.joint c.requires.act.0.0 c.index_mut-tail.ensures.value in
    subst (λ (plan : PlanText). IsTailOf plan v tail) (sym c.deref.ensures)
    (subst (λ (t : TailHeld). IsTailOf p.plan v t) (sym tail_is) (c.requires.joint.parts.tails v))

pub act_flush-requires-clause-sound : goal.act_flush-requires-clause-sound
act_flush-requires-clause-sound g c =
    let p : PlantTold = plant_told g.O.Outputs.told g.D.Depot.told c.args.self.now in
    subst (λ (plan : PlanText). Sound plan p.vault) (sym c.deref.ensures) c.requires.joint.parts.vault

pub returns : goal.returns
returns g c =
    let p : PlantTold = plant_told g.O.Outputs.told g.D.Depot.told c.args.self.now in
    let v = c.args.v in
    let tail : TailHeld = c.index_mut-tail.result.now in
    let tail_is : tail ≡ tail_of p v = tail_here p c.args.self.now.tails v tail refl c.requires.joint c.requires.act.0.0 c.index_mut-tail.ensures.value in
    let rest : TailHeld = c.act_flush.new.tail in
    let u : VaultTold = vault_told g.O.Outputs.told g.D.Depot.told c.act_flush.new.vault in
    let result = c.act_flush.result in
    flush_applies c.act_laws.ensures p v c.args.count rest u result c.requires.joint c.requires.act
    (subst (λ (plan : PlanText). IsTailOf plan v rest) c.deref.ensures c.act_flush.ensures.tail)
    (subst (λ (plan : PlanText). Sound plan u) c.deref.ensures c.act_flush.ensures.sound)
    (subst (λ (t : TailHeld). FlushesTail p.plan v c.args.count t p.vault result rest u) tail_is
    (subst (λ (plan : PlanText). FlushesTail plan v c.args.count tail p.vault result rest u) c.deref.ensures c.act_flush.ensures.answer))
    c.act_flush.ensures.asks c.act_flush.ensures.outputs
