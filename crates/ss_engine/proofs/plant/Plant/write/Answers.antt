use Rattle.std.proofs.Common.{List, ℕ, ◌≡◌, set, refl, subst, sym}
use Rattle.ss_acts.specs.Parts.{IsReplicaOf, IsTailOf}
use Rattle.ss_acts.specs.Calls.{Writes}
use Rattle.ss_fail.specs.declared.act.Act.TheVariants as act
use Rattle.ss_plan.specs.Plan.{PlanText}
use Rattle.ss_tail.specs.Held.{TailHeld}
use Rattle.ss_vertex.specs.Inst.{InstState}
use Rattle.ss_vertex.specs.Standing.{InstStands}
use Rattle.ss_engine.specs.Applies.{AppliesJointly}
use Rattle.ss_engine.specs.Told.{PlantTold, plant_told, tail_of}
use Rattle.ss_engine.proofs.Acts.{write_applies}
use Rattle.ss_engine.proofs.Parts.{stands_at}
use Rattle.ss_engine.proofs.Places.{v_within, r_within, t_within, inst_here, inst_written, tail_here}
use Rattle.ss_engine.proofs.plant.Plant.write.Goals as goal

pub index_mut-requires : goal.index_mut-requires
index_mut-requires g c =
    let p : PlantTold = plant_told g.O.Outputs.told g.D.Depot.told c.args.self.now in
    v_within p c.args.self.now.insts c.args.v refl c.requires.joint c.requires.replica.0.0

pub index_mut-inst-requires : goal.index_mut-inst-requires
index_mut-inst-requires g c =
    let p : PlantTold = plant_told g.O.Outputs.told g.D.Depot.told c.args.self.now in
    r_within p c.args.self.now.insts c.args.v c.args.r c.index_mut.result.now refl c.requires.joint c.requires.replica c.index_mut.ensures.value

pub index_mut-requires-2 : goal.index_mut-requires-2
index_mut-requires-2 g c =
    let p : PlantTold = plant_told g.O.Outputs.told g.D.Depot.told c.args.self.now in
    t_within p c.args.self.now.tails c.args.v refl c.requires.joint (c.requires.replica.0.0)

pub act_write-requires-clause-stands : goal.act_write-requires-clause-stands
act_write-requires-clause-stands g c =
    let p : PlantTold = plant_told g.O.Outputs.told g.D.Depot.told c.args.self.now in
    let v = c.args.v in
    let r = c.args.r in
    let z = c.index_mut.result.now in
    let old : InstState = c.index_mut-inst.result.now in
    let insts = c.args.self.now.insts in
    let is = inst_here p insts v r z old refl c.requires.joint c.requires.replica c.index_mut.ensures.value c.index_mut-inst.ensures.value in
    subst (λ (plan : PlanText). InstStands plan old) (sym c.deref.ensures) (stands_at p v r old c.requires.joint.parts is).stands

pub act_write-requires-clause-tail : goal.act_write-requires-clause-tail
act_write-requires-clause-tail g c =
    let p : PlantTold = plant_told g.O.Outputs.told g.D.Depot.told c.args.self.now in
    let v = c.args.v in
    let r = c.args.r in
    let z = c.index_mut.result.now in
    let old : InstState = c.index_mut-inst.result.now in
    let insts = c.args.self.now.insts in
    let is = inst_here p insts v r z old refl c.requires.joint c.requires.replica c.index_mut.ensures.value c.index_mut-inst.ensures.value in
    let tail : TailHeld = c.index_mut-2.result.now in
    let tail_is : tail ≡ tail_of p v = tail_here p c.args.self.now.tails v tail refl c.requires.joint c.requires.replica.0.0 c.index_mut-2.ensures.value in
    let of_v = (stands_at p v r old c.requires.joint.parts is).vertex in
    subst (λ (plan : PlanText). IsTailOf plan old.v tail) (sym c.deref.ensures)
    (subst (λ (t : TailHeld). IsTailOf p.plan old.v t) (sym tail_is) (subst (λ (w : ℕ). IsTailOf p.plan w (tail_of p v)) (sym of_v) (c.requires.joint.parts.tails v)))

pub returns : goal.returns
returns g c =
    let p : PlantTold = plant_told g.O.Outputs.told g.D.Depot.told c.args.self.now in
    let v = c.args.v in
    let r = c.args.r in
    let z = c.index_mut.result.now in
    let old : InstState = c.index_mut-inst.result.now in
    let insts = c.args.self.now.insts in
    let is = inst_here p insts v r z old refl c.requires.joint c.requires.replica c.index_mut.ensures.value c.index_mut-inst.ensures.value in
    let tail : TailHeld = c.index_mut-2.result.now in
    let new : InstState = c.act_write.new.inst in
    let rest : TailHeld = c.act_write.new.tail in
    let result = c.act_write.result in
    let tail_is : tail ≡ tail_of p v = tail_here p c.args.self.now.tails v tail refl c.requires.joint c.requires.replica.0.0 c.index_mut-2.ensures.value in
    subst (λ (xs : List (List InstState)). AppliesJointly p (act.Write v r) result (record p { tails = set p.tails v rest; insts = xs }))
    (inst_written p insts v r z new refl c.requires.joint c.requires.replica c.index_mut.ensures.value)
    (write_applies c.act_laws.ensures p v r old new rest result c.requires.joint c.requires.replica is
    (subst (λ (plan : PlanText). IsReplicaOf plan old.v new) c.deref.ensures c.act_write.ensures.replica)
    (subst (λ (plan : PlanText). IsTailOf plan old.v rest) c.deref.ensures c.act_write.ensures.tail)
    (subst (λ (t : TailHeld). Writes p.plan old t result new rest) tail_is
    (subst (λ (plan : PlanText). Writes plan old tail result new rest) c.deref.ensures c.act_write.ensures.answer)))
