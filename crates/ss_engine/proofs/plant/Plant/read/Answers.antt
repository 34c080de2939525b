use Rattle.std.proofs.Common.{◌∙◌, ap, subst, sym}
use Rattle.ss_acts.specs.Parts.{vertex_of}
use Rattle.ss_frames.specs.Plans.{plan_numbers}
use Rattle.ss_plan.specs.Plan.{PlanText}
use Rattle.ss_state.specs.Numbers.{IsStream, is_inner}
use Rattle.ss_engine.specs.Told.{PlantTold, plant_told}
use Rattle.ss_engine.proofs.Wanting.{source_kind}
use Rattle.ss_engine.proofs.plant.Plant.read.Goals as goal

pub is_operator-requires : goal.is_operator-requires
is_operator-requires g c =
    subst (λ (plan : PlanText). IsStream (plan_numbers plan) c.args.v) (sym c.deref.ensures) c.requires.replica.0

pub read_inputs-requires-clause-operator : goal.read_inputs-requires-clause-operator
read_inputs-requires-clause-operator g c = (
  c.requires.replica.0.0,
  ap (λ (plan : PlanText). is_inner (vertex_of plan c.args.v).kind) (sym c.deref.ensures) ∙ sym c.is_operator.ensures ∙ c.if-is_operator.true,
)

pub read_list-requires-clause-source : goal.read_list-requires-clause-source
read_list-requires-clause-source g c =
    let p : PlantTold = plant_told g.O.Outputs.told g.D.Depot.told c.args.self.now in
    source_kind (vertex_of p.plan c.args.v).kind
    (ap (λ (plan : PlanText). is_inner (vertex_of plan c.args.v).kind) (sym c.deref.ensures) ∙ sym c.is_operator.ensures ∙ c.if-is_operator.false)
    c.requires.replica.0.1
