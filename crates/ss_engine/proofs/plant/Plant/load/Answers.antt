use Rattle.std.proofs.Common.{List, ℕ, ◌≡◌, set, refl, subst, sym}
use Rattle.ss_acts.specs.Parts.{IsReplicaOf, IsTailOf}
use Rattle.std.specs.Prelude.{is_ok}
use Rattle.ss_acts.specs.Calls.{Loads}
use Rattle.ss_acts.specs.Leaves.{AsksVault}
use Rattle.ss_acts.specs.Readings.{must_fetch}
use Rattle.ss_fail.specs.declared.act.Act.TheVariants as act
use Rattle.ss_plan.specs.Plan.{PlanText}
use Rattle.ss_tail.specs.Held.{TailHeld}
use Rattle.ss_vault.specs.Sound.{Sound}
use Rattle.ss_vault.specs.Told.{VaultTold, vault_told}
use Rattle.ss_vertex.specs.Inst.{InstState}
use Rattle.ss_vertex.specs.Standing.{InstStands}
use Rattle.ss_engine.specs.Applies.{AppliesJointly}
use Rattle.ss_engine.specs.Told.{PlantTold, plant_told, tail_of}
use Rattle.ss_engine.proofs.Acts.{load_applies}
use Rattle.ss_engine.proofs.Parts.{stands_at}
use Rattle.ss_engine.proofs.Places.{v_within, r_within, t_within, inst_here, inst_written, tail_here}
use Rattle.ss_engine.proofs.plant.Plant.load.Goals as goal

pub index_mut-requires : goal.index_mut-requires
index_mut-requires g c =
    let p : PlantTold = plant_told g.O.Outputs.told g.D.Depot.told c.args.self.now in
    v_within p c.args.self.now.insts c.args.v refl c.requires.joint c.requires.replica.0.0

pub index_mut-inst-requires : goal.index_mut-inst-requires
index_mut-inst-requires g c =
    let p : PlantTold = plant_told g.O.Outputs.told g.D.Depot.told c.args.self.now in
    r_within p c.args.self.now.insts c.args.v c.args.r c.index_mut.result.now refl c.requires.joint c.requires.replica c.index_mut.ensures.value

pub index_mut-tail-requires : goal.index_mut-tail-requires
index_mut-tail-requires g c =
    let p : PlantTold = plant_told g.O.Outputs.told g.D.Depot.told c.args.self.now in
    t_within p c.args.self.now.tails c.args.v refl c.requires.joint (c.requires.replica.0.0)

pub act_load-requires-clause-stands : goal.act_load-requires-clause-stands
act_load-requires-clause-stands g c =
    let p : PlantTold = plant_told g.O.Outputs.told g.D.Depot.told c.args.self.now in
    let v = c.args.v in
    let r = c.args.r in
    let z = c.index_mut.result.now in
    let old : InstState = c.index_mut-inst.result.now in
    let insts = c.args.self.now.insts in
    let is = inst_here p insts v r z old refl c.requires.joint c.requires.replica c.index_mut.ensures.value c.index_mut-inst.ensures.value in
    subst (λ (plan : PlanText). InstStands plan old) (sym c.deref.ensures) (stands_at p v r old c.requires.joint.parts is).stands

pub act_load-requires-clause-tail : goal.act_load-requires-clause-tail
act_load-requires-clause-tail g c =
    let p : PlantTold = plant_told g.O.Outputs.told g.D.Depot.told c.args.self.now in
    let v = c.args.v in
    let r = c.args.r in
    let z = c.index_mut.result.now in
    let old : InstState = c.index_mut-inst.result.now in
    let insts = c.args.self.now.insts in
    let is = inst_here p insts v r z old refl c.requires.joint c.requires.replica c.index_mut.ensures.value c.index_mut-inst.ensures.value in
    let tail : TailHeld = c.index_mut-tail.result.now in
    let tail_is : tail ≡ tail_of p v = tail_here p c.args.self.now.tails v tail refl c.requires.joint c.requires.replica.0.0 c.index_mut-tail.ensures.value in
    let of_v = (stands_at p v r old c.requires.joint.parts is).vertex in
    subst (λ (plan : PlanText). IsTailOf plan old.v tail) (sym c.deref.ensures)
    (subst (λ (t : TailHeld). IsTailOf p.plan old.v t) (sym tail_is) (subst (λ (w : ℕ). IsTailOf p.plan w (tail_of p v)) (sym of_v) (c.requires.joint.parts.tails v)))

pub act_load-requires-clause-sound : goal.act_load-requires-clause-sound
act_load-requires-clause-sound g c =
    let p : PlantTold = plant_told g.O.Outputs.told g.D.Depot.told c.args.self.now in
    subst (λ (plan : PlanText). Sound plan p.vault) (sym c.deref.ensures) c.requires.joint.parts.vault

pub returns : goal.returns
returns g c =
    let p : PlantTold = plant_told g.O.Outputs.told g.D.Depot.told c.args.self.now in
    let v = c.args.v in
    let r = c.args.r in
    let z = c.index_mut.result.now in
    let old : InstState = c.index_mut-inst.result.now in
    let insts = c.args.self.now.insts in
    let is = inst_here p insts v r z old refl c.requires.joint c.requires.replica c.index_mut.ensures.value c.index_mut-inst.ensures.value in
    let tail : TailHeld = c.index_mut-tail.result.now in
    let new : InstState = c.act_load.new.inst in
    let rest : TailHeld = c.act_load.new.tail in
    let u : VaultTold = vault_told g.O.Outputs.told g.D.Depot.told c.act_load.new.vault in
    let result = c.act_load.result in
    let tail_is : tail ≡ tail_of p v = tail_here p c.args.self.now.tails v tail refl c.requires.joint c.requires.replica.0.0 c.index_mut-tail.ensures.value in
    subst (λ (xs : List (List InstState)). AppliesJointly p (act.Load v r) result (record p { tails = set p.tails v rest; insts = xs; vault = u }))
    (inst_written p insts v r z new refl c.requires.joint c.requires.replica c.index_mut.ensures.value)
    (load_applies c.act_laws.ensures p v r old new rest u result c.requires.joint c.requires.replica is
    (subst (λ (plan : PlanText). IsReplicaOf plan old.v new) c.deref.ensures c.act_load.ensures.replica)
    (subst (λ (plan : PlanText). IsTailOf plan old.v rest) c.deref.ensures c.act_load.ensures.tail)
    (subst (λ (plan : PlanText). Sound plan u) c.deref.ensures c.act_load.ensures.sound)
    (subst (λ (t : TailHeld). Loads p.plan old t p.vault result new rest u) tail_is
    (subst (λ (plan : PlanText). Loads plan old tail p.vault result new rest u) c.deref.ensures c.act_load.ensures.answer))
    (subst (λ (plan : PlanText). AsksVault (must_fetch plan old) p.vault (is_ok result) u) c.deref.ensures c.act_load.ensures.asks)
    c.act_load.ensures.outputs)
