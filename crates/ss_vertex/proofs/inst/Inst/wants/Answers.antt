use Rattle.std.proofs.Common.{List, IsSome, sym, ap, ◌∙◌, subst}
use Rattle.ss_elem.specs.declared.element.Element.{Element}
use Rattle.ss_plan.specs.Plan.{vertices_of}
use Rattle.ss_vertex.specs.Arriving.{wanted}
use Rattle.ss_vertex.specs.Inst.{InstState, n_of}
use Rattle.ss_vertex.specs.Kept.{inst_kept, left_kept, running_kept}
use Rattle.ss_vertex.specs.Standing.{Stands, InstStands}
use Rattle.ss_vertex.proofs.Executing.{some_and}
use Rattle.ss_vertex.proofs.Views.{n_same}
use Rattle.ss_vertex.proofs.inst.Inst.wants.Goals as goal

pub returns : goal.returns
returns c plan is_plan stands =
    let i = c.self.inside in
    let left : List Element = left_kept i.given i.done in
    let there : InstStands plan (inst_kept i.v i.next i.given i.done i.work) = subst (InstStands plan) (sym c.self.view_is) stands in
    let some : IsSome (running_kept i.work i.next left) = subst (λ (x : InstState). IsSome x.running) (sym c.self.view_is) c.requires in
    c.wants.ensures plan i.v i.next left is_plan
    (record { stream = there.stream; list = there.list; up = some_and (Stands plan i.v) (running_kept i.work i.next left) some there.running })
    ∙ ap (wanted (vertices_of plan) i.v) (sym (n_same i.work i.next left))
    ∙ ap (λ (x : InstState). wanted (vertices_of plan) x.v (n_of x)) c.self.view_is
