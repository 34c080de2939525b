use Rattle.std.proofs.Common.{sym, subst}
use Rattle.ss_acts.specs.Parts.{IsReplicaOf}
use Rattle.ss_engine.specs.Told.{PlantTold, plant_told}
use Rattle.ss_plan.specs.Plan.{PlanText}
use Rattle.ss_play.specs.Roles.{IsRoleOf}
use Rattle.ss_play.proofs.Plants.{inst_stands}
use Rattle.ss_play.proofs.VertexLines.{replica_step, replicas_end, stream_replicas}
use Rattle.ss_play.proofs.reporting.put_replicas.Goals as goal

pub put_replica-requires-clause-stands : goal.put_replica-requires-clause-stands
put_replica-requires-clause-stands g c =
    let p : PlantTold = plant_told g.O.Outputs.told g.D.Depot.told c.args.plant.now in
    subst (λ (plan : PlanText). IsReplicaOf plan c.args.v c.inst.result.now) (sym c.plan-plan.ensures)
    (inst_stands p c.requires.joint c.args.v c.loop-r.r c.inst.result.now c.inst.ensures)

pub loop-r-preserved : goal.loop-r-preserved
loop-r-preserved g c =
    let p : PlantTold = plant_told g.O.Outputs.told g.D.Depot.told c.args.plant.now in
    replica_step p c.requires.joint c.args.v c.requires.vertex c.plan-plan.result.now c.plan-plan.ensures c.loop-r.r c.inst.result.now
    c.inst.ensures c.args.out.now.items c.loop-r.out.items _ c.loop-r.invariant c.in_ok-put_replica.ensures

pub returns : goal.returns
returns g c =
    let p : PlantTold = plant_told g.O.Outputs.told g.D.Depot.told c.args.plant.now in
    let role : IsRoleOf p.plan c.args.v c.role_of-r-end.result =
    subst (λ (plan : PlanText). IsRoleOf plan c.args.v c.role_of-r-end.result) c.plan-plan.ensures c.role_of-r-end.ensures in
    replicas_end p c.requires.joint c.args.v c.loop-r.r c.role_of-r-end.result.replicas
    (stream_replicas p.plan c.args.v c.role_of-r-end.result role c.requires.stream) c.loop-r-test.false
    c.args.out.now.items c.loop-r.out.items c.loop-r.invariant
