use Rattle.std.proofs.Common.{◌≡◌, ◌∙◌, ap, arith}
use Rattle.ss_frames.specs.Plans.{plan_numbers}
use Rattle.ss_plan.specs.Plan.{PlanText}
use Rattle.ss_state.specs.Numbers.{vertex}
use Rattle.ss_engine.specs.Told.{PlantTold, plant_told}
use Rattle.ss_engine.proofs.Wiped.{all_down, one_more_down}
use Rattle.ss_engine.proofs.plant.Plant.crash_all.Goals as goal

pub loop-r-preserved : goal.loop-r-preserved
loop-r-preserved g c =
    let p : PlantTold = plant_told g.O.Outputs.told g.D.Depot.told c.args.self.now in
    let q : PlantTold = plant_told g.O.Outputs.told g.D.Depot.told c.loop-r.self in
    let u : PlantTold = plant_told g.O.Outputs.told g.D.Depot.told c.crash.new.self in
    record {
      joint = c.crash.ensures.joint;
      down = one_more_down c.args.v c.loop-r.r p q u c.crash.result c.loop-r.invariant.down c.crash.ensures;
    }

pub returns-clause-down : goal.returns-clause-down
returns-clause-down g c =
    let p : PlantTold = plant_told g.O.Outputs.told g.D.Depot.told c.args.self.now in
    let q : PlantTold = plant_told g.O.Outputs.told g.D.Depot.told c.loop-r.self in
    let v = c.args.v in
    let count : c.replica_count-r-end.result ≡ (vertex (plan_numbers p.plan) v).replicas =
    c.replica_count-r-end.ensures.count ∙ ap (λ (plan : PlanText). (vertex (plan_numbers plan) v).replicas) c.deref.ensures in
    let past = c.loop-r-test.false in
    let within = c.loop-r.auto.r-end in
    all_down v c.loop-r.r p q (omega (arith, count, past, within)) c.loop-r.invariant.down c.loop-r.invariant.joint
