use Rattle.std.proofs.Common.{rules, tests, ap, ◌∙◌}
use Rattle.std.proofs.lemmas.Iterator.{YieldsList-from_slice}
use Rattle.std.proofs.lemmas.Iterator.Search.{any_from_yields_List}
use Rattle.std.specs.List.{list_any}
use Rattle.ss_job.proofs.Views.{written-view}
use Rattle.ss_job.specs.Owned.{vertex_text}
use Rattle.ss_job.specs.Vertices.{DraftText, writes_to}
use Rattle.ss_job.specs.declared.vertex.Vertex.{Vertex}
use Rattle.ss_job.proofs.draft.Draft.is_written.Goals as goal

pub returns : goal.returns
returns c =
    let vertices = c.self.inside.vertices.items in
    any_from_yields_List (λ (vertex : Vertex). writes_to c.args.file.now (vertex_text vertex)) _ _ c.any.result c.any.ensures.ran (YieldsList-from_slice vertices cc) (λ x b q k. search (rules, tests))
    ∙ written-view c.args.file.now vertices
    ∙ ap (λ (draft : DraftText). list_any (writes_to c.args.file.now) draft.vertices) c.self.view_is
