use Rattle.std.proofs.Common.{◌≡◌, ◌∙◌, length, ap, arith}
use Rattle.ss_frames.specs.Plans.{plan_numbers}
use Rattle.ss_plan.specs.Plan.{PlanText}
use Rattle.ss_engine.specs.Told.{PlantTold, plant_told}
use Rattle.ss_engine.proofs.Wiped.{all_wiped, one_more_wiped}
use Rattle.ss_engine.proofs.plant.Plant.wipe.Goals as goal

pub loop-v-preserved : goal.loop-v-preserved
loop-v-preserved g c =
    let p : PlantTold = plant_told g.O.Outputs.told g.D.Depot.told c.args.self.now in
    let q : PlantTold = plant_told g.O.Outputs.told g.D.Depot.told c.loop-v.self in
    let u : PlantTold = plant_told g.O.Outputs.told g.D.Depot.told c.wipe_vertex.new.self in
    record {
      joint = c.wipe_vertex.ensures.joint;
      wiped = one_more_wiped c.loop-v.v p q u c.loop-v.invariant.wiped c.wipe_vertex.ensures.wiped;
    }

pub returns-clause-wiped : goal.returns-clause-wiped
returns-clause-wiped g c =
    let p : PlantTold = plant_told g.O.Outputs.told g.D.Depot.told c.args.self.now in
    let q : PlantTold = plant_told g.O.Outputs.told g.D.Depot.told c.loop-v.self in
    let count : c.vertex_count-v-end.result ≡ length (plan_numbers p.plan).vertices =
    c.vertex_count-v-end.ensures ∙ ap (λ (plan : PlanText). length (plan_numbers plan).vertices) c.deref.ensures in
    let past = c.loop-v-test.false in
    let within = c.loop-v.auto.v-end in
    all_wiped c.loop-v.v p q (omega (arith, count, past, within)) c.loop-v.invariant.wiped c.loop-v.invariant.joint
