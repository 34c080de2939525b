use Rattle.std.proofs.Common.{Ok, List, refl, subst}
use Rattle.ss_fail.specs.declared.act.Act.TheVariants as act
use Rattle.ss_vertex.specs.Inst.{InstState}
use Rattle.ss_engine.specs.Applies.{AppliesJointly}
use Rattle.ss_engine.specs.Told.{PlantTold, plant_told}
use Rattle.ss_engine.proofs.Acts.{crash_applies}
use Rattle.ss_engine.proofs.Places.{v_within, r_within, inst_here, inst_written}
use Rattle.ss_engine.proofs.plant.Plant.crash.Goals as goal

pub index_mut-requires : goal.index_mut-requires
index_mut-requires g c =
    let p : PlantTold = plant_told g.O.Outputs.told g.D.Depot.told c.args.self.now in
    v_within p c.args.self.now.insts c.args.v refl c.requires.joint c.requires.replica.0.0

pub index_mut-requires-2 : goal.index_mut-requires-2
index_mut-requires-2 g c =
    let p : PlantTold = plant_told g.O.Outputs.told g.D.Depot.told c.args.self.now in
    r_within p c.args.self.now.insts c.args.v c.args.r c.index_mut.result.now refl c.requires.joint c.requires.replica c.index_mut.ensures.value

pub returns : goal.returns
returns g c =
    let p : PlantTold = plant_told g.O.Outputs.told g.D.Depot.told c.args.self.now in
    let v = c.args.v in
    let r = c.args.r in
    let z = c.index_mut.result.now in
    let insts = c.args.self.now.insts in
    let new : InstState = c.act_crash.new.inst in
    let is = inst_here p insts v r z c.index_mut-2.result.now refl c.requires.joint c.requires.replica c.index_mut.ensures.value c.index_mut-2.ensures.value in
    subst (λ (xs : List (List InstState)). AppliesJointly p (act.Crash v r) (Ok c.act_crash.result) (record p { insts = xs }))
    (inst_written p insts v r z new refl c.requires.joint c.requires.replica c.index_mut.ensures.value)
    (crash_applies c.act_laws.ensures p v r c.index_mut-2.result.now new c.act_crash.result c.requires.joint c.requires.replica is
    c.act_crash.ensures.vertex c.act_crash.ensures.stands c.act_crash.ensures.answer)
