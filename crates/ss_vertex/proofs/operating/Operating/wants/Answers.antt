use Rattle.std.proofs.Common.{option_map, sym, ap, ◌∙◌}
use Rattle.ss_vertex.proofs.Accepting.{wanted_is, place_in, some_place}
use Rattle.ss_vertex.proofs.operating.Operating.wants.Goals as goal

pub returns-in-Some : goal.returns-in-Some
returns-in-Some c plan v is_plan stands =
    ap (some_place c.in-Some.input) c.pos.ensures
    ∙ sym (wanted_is c.laws_of_vertices.ensures plan is_plan v c.args.self.now stands c.choose.result c.choose.ensures.input
    ∙ ap (option_map (place_in c.args.self.now.merger.positions)) c.in-Some.is)

pub returns-in-None : goal.returns-in-None
returns-in-None c plan v is_plan stands =
    sym (wanted_is c.laws_of_vertices.ensures plan is_plan v c.args.self.now stands c.choose.result c.choose.ensures.input
    ∙ ap (option_map (place_in c.args.self.now.merger.positions)) c.in-None.is)
