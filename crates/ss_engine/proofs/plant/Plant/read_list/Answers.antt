use Rattle.std.proofs.Common.{List, ℕ, ◌≡◌, refl, subst, sym}
use Rattle.ss_acts.specs.Facts.{ActFacts}
use Rattle.ss_fail.specs.declared.act.Act.TheVariants as act
use Rattle.ss_plan.specs.Plan.{PlanText}
use Rattle.ss_vault.specs.Sound.{Sound}
use Rattle.ss_vertex.specs.Inst.{InstState}
use Rattle.ss_vertex.specs.Standing.{InstStands}
use Rattle.ss_engine.specs.Applies.{AppliesJointly}
use Rattle.ss_acts.specs.Calls.{ReadsList}
use Rattle.ss_acts.specs.Parts.{IsReplicaOf, vertex_of}
use Rattle.ss_water.specs.declared.node.Kind.TheVariants.{Source}
use Rattle.ss_engine.specs.Told.{PlantTold, plant_told}
use Rattle.ss_engine.proofs.Parts.{stands_at}
use Rattle.ss_engine.proofs.Places.{v_within, r_within, inst_here, inst_written}
use Rattle.ss_engine.proofs.ReadActs.{list_applies}
use Rattle.ss_engine.proofs.plant.Plant.read_list.Goals as goal

pub index_mut-requires : goal.index_mut-requires
index_mut-requires g c =
    let p : PlantTold = plant_told g.O.Outputs.told g.D.Depot.told c.args.self.now in
    v_within p c.args.self.now.insts c.args.v refl c.requires.joint c.requires.replica.0.0

pub index_mut-inst-requires : goal.index_mut-inst-requires
index_mut-inst-requires g c =
    let p : PlantTold = plant_told g.O.Outputs.told g.D.Depot.told c.args.self.now in
    r_within p c.args.self.now.insts c.args.v c.args.r c.index_mut.result.now refl c.requires.joint c.requires.replica c.index_mut.ensures.value

pub act_read_source-requires-clause-stands : goal.act_read_source-requires-clause-stands
act_read_source-requires-clause-stands g c =
    let p : PlantTold = plant_told g.O.Outputs.told g.D.Depot.told c.args.self.now in
    let v = c.args.v in
    let r = c.args.r in
    let z = c.index_mut.result.now in
    let old : InstState = c.index_mut-inst.result.now in
    let insts = c.args.self.now.insts in
    let is = inst_here p insts v r z old refl c.requires.joint c.requires.replica c.index_mut.ensures.value c.index_mut-inst.ensures.value in
    subst (λ (plan : PlanText). InstStands plan old) (sym c.deref-2.ensures) (stands_at p v r old c.requires.joint.parts is).stands

pub act_read_source-requires-clause-source : goal.act_read_source-requires-clause-source
act_read_source-requires-clause-source g c =
    let p : PlantTold = plant_told g.O.Outputs.told g.D.Depot.told c.args.self.now in
    let v = c.args.v in
    let r = c.args.r in
    let z = c.index_mut.result.now in
    let old : InstState = c.index_mut-inst.result.now in
    let insts = c.args.self.now.insts in
    let is = inst_here p insts v r z old refl c.requires.joint c.requires.replica c.index_mut.ensures.value c.index_mut-inst.ensures.value in
    let of_v = (stands_at p v r old c.requires.joint.parts is).vertex in
    subst (λ (plan : PlanText). (vertex_of plan old.v).kind ≡ Source) (sym c.deref-2.ensures)
    (subst (λ (w : ℕ). (vertex_of p.plan w).kind ≡ Source) (sym of_v) c.requires.source)

pub act_read_source-requires-clause-sound : goal.act_read_source-requires-clause-sound
act_read_source-requires-clause-sound g c =
    let p : PlantTold = plant_told g.O.Outputs.told g.D.Depot.told c.args.self.now in
    subst (λ (plan : PlanText). Sound plan p.vault) (sym c.deref-2.ensures) c.requires.joint.parts.vault

pub returns : goal.returns
returns g c =
    let p : PlantTold = plant_told g.O.Outputs.told g.D.Depot.told c.args.self.now in
    let v = c.args.v in
    let r = c.args.r in
    let z = c.index_mut.result.now in
    let old : InstState = c.index_mut-inst.result.now in
    let insts = c.args.self.now.insts in
    let is = inst_here p insts v r z old refl c.requires.joint c.requires.replica c.index_mut.ensures.value c.index_mut-inst.ensures.value in
    let new : InstState = c.act_read_source.new.inst in
    let result = c.act_read_source.result in
    let facts : ActFacts p.plan = subst ActFacts c.deref.ensures c.act_facts.ensures in
    subst (λ (xs : List (List InstState)). AppliesJointly p (act.Read v r) result (record p { insts = xs }))
    (inst_written p insts v r z new refl c.requires.joint c.requires.replica c.index_mut.ensures.value)
    (list_applies c.act_laws.ensures p v r old new result facts c.requires.joint c.requires.replica is c.requires.source
    (subst (λ (plan : PlanText). IsReplicaOf plan old.v new) c.deref-2.ensures c.act_read_source.ensures.replica)
    (subst (λ (plan : PlanText). ReadsList plan old p.vault result new) c.deref-2.ensures c.act_read_source.ensures.answer))
