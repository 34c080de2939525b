-- A source has its list.
use Rattle.std.proofs.Common.{◌≡◌, ℕ, Some, sym, ap, ◌∙◌}
use Rattle.ss_meaning.specs.Meaning.{vertex}
use Rattle.ss_plan.specs.Plan.{vertices_of}
use Rattle.ss_vertex.specs.Standing.{list_len}
use Rattle.tests_vertex.proofs.Vertices.{source_is}
use Rattle.tests_vertex.proofs.listed.len_of.Goals as goal

pub returns : goal.returns
returns g c =
    let plan = c.args.plan.now in
    let v : ℕ = c.source-v.result in
    let same : v ≡ c.args.inst.now.v = c.source-v.ensures.same ∙ c.v.ensures in
    c.requires.list
    ∙ ap (λ u. list_len (vertex (vertices_of plan) u)) (sym same)
    ∙ ap list_len (source_is c.vertices_by_number.ensures plan c.max_elements.ensures.plan v c.source-v.ensures.vertex c.source-v.ensures.source)
    ∙ ap (λ (n : ℕ). Some n) (sym c.source_len.ensures)
