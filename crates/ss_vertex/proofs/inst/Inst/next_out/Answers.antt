use Rattle.std.proofs.Common.{◌≡◌, ℕ, ◌<◌, List, length, get_or, Option, Some, IfSome, sym, ap, ◌∙◌, subst, arith}
use Rattle.std.proofs.lemmas.List.{get_or-drop}
use Rattle.std.proofs.lemmas.Option.{slice_get-get_or}
use Rattle.std.specs.List.{slice_get}
use Rattle.ss_elem.specs.declared.element.Element.{Element}
use Rattle.ss_meaning.specs.Meaning.{meaning}
use Rattle.ss_plan.specs.Plan.{vertices_of}
use Rattle.ss_vertex.specs.Inst.{Running, InstState, left_of}
use Rattle.ss_vertex.specs.Kept.{inst_kept, left_kept, running_kept}
use Rattle.ss_vertex.specs.Standing.{Stands}
use Rattle.ss_vertex.proofs.Shown.{shown}
use Rattle.ss_vertex.proofs.Views.{some_left, left_up}
use Rattle.ss_vertex.proofs.inst.Inst.next_out.Goals as goal

pub returns-clause-meant : goal.returns-clause-meant
returns-clause-meant c plan is_plan stands =
    let i = c.self.inside in
    let v : ℕ = c.args.self.now.v in
    let left : List Element = left_kept i.given i.done in
    let some_now : 0 < left_of c.args.self.now = let e = c.left.ensures in let ne = c.if-left-eq0.false in omega arith in
    let some : 0 < left_of (inst_kept i.v i.next i.given i.done i.work) = subst (λ (x : InstState). 0 < left_of x) (sym c.self.view_is) some_now in
    let u = left_up i.work i.next left some in
    let running : IfSome (running_kept i.work i.next left) (Stands plan v) =
    subst (λ (r : Option Running). IfSome r (Stands plan v)) (sym (ap (λ (x : InstState). x.running) c.self.view_is)) stands.running in
    let up : Stands plan v u.up = subst (λ (r : Option Running). IfSome r (Stands plan v)) u.is running in
    let x : Element = c.index-as_slice-self.result in
    let count : 0 < length left = some_left i.work i.next left some in
    let is : x ≡ get_or i.given.elements i.done x = c.index-as_slice-self.is ∙ ap (λ (xs : List Element). get_or xs i.done x) c.as_slice.ensures in
    let at : slice_get left 0 ≡ Some x =
    slice_get-get_or left 0 x count
    ∙ ap (λ (y : Element). Some y) (get_or-drop i.done i.given.elements 0 x ∙ ap (λ k. get_or i.given.elements k x) (omega arith) ∙ sym is) in
    let first : slice_get u.up.left 0 ≡ Some x = ap (λ (xs : List Element). slice_get xs 0) u.left_is ∙ at in
    subst (λ k. slice_get (meaning (vertices_of plan) v) k ≡ Some x) u.next_is
    (shown c.laws_of_vertices.ensures plan is_plan v stands.stream u.up x up first)
