use Rattle.std.proofs.Common.{sym, ap, ◌∙◌, subst}
use Rattle.ss_vertex.specs.Inst.{InstState, loaded_at}
use Rattle.ss_vertex.specs.Standing.{InstStands}
use Rattle.ss_vertex.proofs.Stays.{listed_stands}
use Rattle.ss_vertex.proofs.Views.{listed_view}
use Rattle.ss_vertex.proofs.inst.Inst.load_source.Goals as goal

pub returns-clause-stands : goal.returns-clause-stands
returns-clause-stands c plan is_plan stands =
    let i = c.self.inside in
    subst (InstStands plan)
    (sym (listed_view i.v c.args.n i.next i.done i.given c.clear.new.self i.work c.list_from.new.self c.clear.ensures.elements
    c.list_from.ensures.list c.list_from.ensures.up
    ∙ ap (λ (x : InstState). loaded_at x c.args.n) c.self.view_is))
    (listed_stands c.laws_of_vertices.ensures plan is_plan c.args.self.now c.args.n c.requires stands)
