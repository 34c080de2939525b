-- An operator has no list.
use Rattle.std.proofs.Common.{◌≡◌, ℕ, Option, sym, ap, ◌∙◌}
use Rattle.std.specs.Prelude.{is_some}
use Rattle.ss_meaning.specs.Meaning.{vertex}
use Rattle.ss_plan.specs.Plan.{vertices_of}
use Rattle.ss_vertex.specs.Standing.{list_len}
use Rattle.tests_vertex.proofs.Vertices.{operator_list}
use Rattle.tests_vertex.proofs.run.check_operator.Goals as goal

pub returns : goal.returns
returns g c =
    let plan = c.args.plan.now in
    let v : ℕ = c.operator.result in
    let same : v ≡ c.args.inst.now.v = c.operator.ensures.same ∙ c.v.ensures in
    ap (λ (o : Option ℕ). is_some o)
    (c.requires.list
    ∙ ap (λ u. list_len (vertex (vertices_of plan) u)) (sym same)
    ∙ operator_list c.vertices_by_number.ensures plan c.max_elements.ensures.plan v c.operator.ensures.vertex c.operator.ensures.operator)
