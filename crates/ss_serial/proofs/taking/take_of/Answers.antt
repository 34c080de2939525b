use Rattle.std.proofs.Common.{[], subst}
use Rattle.ss_engine.specs.Told.{plant_told}
use Rattle.ss_frames.specs.Plans.{plan_numbers}
use Rattle.ss_plan.specs.Plan.{PlanText}
use Rattle.ss_state.specs.Numbers.{IsSink}
use Rattle.ss_serial.specs.Stored.{TakesStream}
use Rattle.ss_serial.proofs.Progress.{took}
use Rattle.ss_serial.proofs.taking.take_of.Goals as goal

pub returns-clause-put : goal.returns-clause-put
returns-clause-put g c =
    let p = plant_told g.O.Outputs.told g.D.Depot.told c.args.plant.now in
    let r = plant_told g.O.Outputs.told g.D.Depot.told c.take_stored.new.plant in
    let sink : TakesStream p c.args.k = subst (λ (plan : PlanText). IsSink (plan_numbers plan) c.args.k) c.plan.ensures (c.is_sink.ensures.0 c.if-not-is_sink.false) in
    took [] p r c.args.k c.args.trace.now c.take_stored.new.trace c.take_stored.result c.requires.joint sink (c.take_stored.ensures.advances [])
    c.take_stored.ensures.put
