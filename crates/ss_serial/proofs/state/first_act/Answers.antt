use Rattle.std.proofs.Common.{◌∙◌, ℕ, Option, sym, ap, subst}
use Rattle.ss_engine.specs.Told.{plant_told, state_of}
use Rattle.ss_frames.specs.Plans.{plan_numbers}
use Rattle.ss_plan.specs.Plan.{PlanText}
use Rattle.ss_state.specs.Numbers.{vertex}
use Rattle.ss_state.specs.Rule.{rule}
use Rattle.ss_state.specs.State.{InstNumbers, inst_at}
use Rattle.ss_vertex.specs.Inst.{inst_numbers}
use Rattle.ss_vertex.specs.Standing.{InstStands}
use Rattle.ss_serial.proofs.Looking.{has_first, inst_is, stands}
use Rattle.ss_serial.proofs.state.first_act.Goals as goal

pub inst-requires-clause-replica : goal.inst-requires-clause-replica
inst-requires-clause-replica g c =
    has_first (plant_told g.O.Outputs.told g.D.Depot.told c.args.plant.now) c.args.v c.requires.joint c.requires.stream

pub next_act-requires-clause-vertex : goal.next_act-requires-clause-vertex
next_act-requires-clause-vertex g c =
    let p = plant_told g.O.Outputs.told g.D.Depot.told c.args.plant.now in
    (stands p c.args.v 0 c.inst.result.now c.requires.joint.parts c.inst.ensures).vertex

pub next_act-requires-clause-stands : goal.next_act-requires-clause-stands
next_act-requires-clause-stands g c =
    let p = plant_told g.O.Outputs.told g.D.Depot.told c.args.plant.now in
    subst (λ (plan : PlanText). InstStands plan c.inst.result.now) (sym c.plan.ensures)
    (stands p c.args.v 0 c.inst.result.now c.requires.joint.parts c.inst.ensures).stands

pub returns : goal.returns
returns g c =
    let p = plant_told g.O.Outputs.told g.D.Depot.told c.args.plant.now in
    let v = c.args.v in
    c.next_act.ensures
    ∙ ap (λ (plan : PlanText). rule (vertex (plan_numbers plan) v) v 0 (inst_numbers c.inst.result.now) c.newest.result) c.plan.ensures
    ∙ ap (λ (inst : Option InstNumbers). rule (vertex (plan_numbers p.plan) v) v 0 inst c.newest.result)
    (sym (inst_is p v 0 c.inst.result.now c.inst.ensures))
    ∙ ap (λ (n : ℕ). rule (vertex (plan_numbers p.plan) v) v 0 (inst_at (state_of p) v 0) n) c.newest.ensures
