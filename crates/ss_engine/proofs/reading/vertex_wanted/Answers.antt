use Rattle.std.proofs.Common.{◌<◌, ℕ, length, ◌∙◌, subst, sym}
use Rattle.ss_acts.specs.Parts.{vertex_of}
use Rattle.ss_frames.specs.Plans.{plan_numbers}
use Rattle.ss_state.specs.Numbers.{IsOperator}
use Rattle.ss_vertex.specs.Inst.{n_of}
use Rattle.ss_engine.proofs.Wanting.{input_within, wanted_place}
use Rattle.ss_engine.proofs.reading.vertex_wanted.Goals as goal

pub stream_read-requires-clause-operator : goal.stream_read-requires-clause-operator
stream_read-requires-clause-operator c =
    subst (λ (w : ℕ). IsOperator (plan_numbers c.args.plan.now) w) (sym c.v-v.ensures) c.requires.operator

pub stream_read-requires-clause-input : goal.stream_read-requires-clause-input
stream_read-requires-clause-input c =
    let plan = c.args.plan.now in
    let inst = c.args.inst.now in
    let x = vertex_of plan inst.v in
    let facts = c.act_facts.ensures in
    let numbered = facts.numbered inst c.requires.stands in
    let is = c.in-Some.ensures plan facts.of_plan.is c.requires.stands ∙ numbered.wanted (n_of inst) numbered.reached in
    let place = wanted_place x (n_of inst) c.in-Some.place is in
    let within = (input_within (plan_numbers plan) inst.v (n_of inst) facts.of_plan.numbers c.requires.operator place.0).0 in
    subst (λ (w : ℕ). c.in-Some.place.0 < length (vertex_of plan w).inputs) (sym c.v-v.ensures)
    (subst (λ (i : ℕ). i < length x.inputs) (sym place.1) within)
