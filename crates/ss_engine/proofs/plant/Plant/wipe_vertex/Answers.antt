use Rattle.std.proofs.Common.{◌∙◌, subst, sym}
use Rattle.std.proofs.lemmas.Bool.{false≢true}
use Rattle.ss_frames.specs.Plans.{plan_numbers}
use Rattle.ss_plan.specs.Plan.{PlanText}
use Rattle.ss_state.specs.Numbers.{IsStream}
use Rattle.ss_engine.specs.Told.{PlantTold, plant_told}
use Rattle.ss_engine.proofs.Wiped.{nothing_wiped, stream_wiped}
use Rattle.ss_engine.proofs.plant.Plant.wipe_vertex.Goals as goal

pub returns-then-is_stream-clause-wiped : goal.returns-then-is_stream-clause-wiped
returns-then-is_stream-clause-wiped g c =
    let p : PlantTold = plant_told g.O.Outputs.told g.D.Depot.told c.args.self.now in
    let q : PlantTold = plant_told g.O.Outputs.told g.D.Depot.told c.lose.new.self in
    let u : PlantTold = plant_told g.O.Outputs.told g.D.Depot.told c.crash_all.new.self in
    let stream = subst (λ (plan : PlanText). IsStream (plan_numbers plan) c.args.v) c.deref.ensures (c.is_stream.ensures.0 c.if-is_stream.true) in
    stream_wiped c.args.v p q u c.lose.result c.requires.joint stream c.lose.ensures c.crash_all.ensures.down

pub returns-else-is_stream-clause-wiped : goal.returns-else-is_stream-clause-wiped
returns-else-is_stream-clause-wiped g c =
    let p : PlantTold = plant_told g.O.Outputs.told g.D.Depot.told c.args.self.now in
    nothing_wiped c.args.v p c.requires.joint c.requires.vertex
    (λ stream.
    false≢true
    (sym c.if-is_stream.false
    ∙ c.is_stream.ensures.1 (subst (λ (plan : PlanText). IsStream (plan_numbers plan) c.args.v) (sym c.deref.ensures) stream)))
