use Rattle.std.proofs.Common.{◌≡◌, sym, ap, ◌∙◌}
use Rattle.ss_frames.specs.Frames.{frame_of}
use Rattle.ss_vertex.specs.Inst.{InstState, n_of}
use Rattle.ss_vertex.specs.Kept.{left_kept}
use Rattle.ss_vertex.proofs.Loading.{snapped}
use Rattle.ss_vertex.proofs.Views.{n_same}
use Rattle.ss_vertex.proofs.inst.Inst.snapshot.Goals as goal

pub returns-in-Ok-clause-snapshot : goal.returns-in-Ok-clause-snapshot
returns-in-Ok-clause-snapshot c =
    let i = c.self.inside in
    let plan = c.args.plan.now in
    let is : c.in-Ok.frame ≡ frame_of plan c.args.self.now.v (n_of c.args.self.now) =
    c.in-Ok.ensures
    ∙ ap (frame_of plan i.v) (sym (n_same i.work i.next (left_kept i.given i.done)))
    ∙ ap (λ (x : InstState). frame_of plan x.v (n_of x)) c.self.view_is in
    (snapped c.laws_of_vertices.ensures plan c.max_elements.ensures.plan c.args.self.now c.requires.stands c.requires.up c.requires.operator c.in-Ok.frame is).snapshot

pub returns-in-Ok-clause-place : goal.returns-in-Ok-clause-place
returns-in-Ok-clause-place c =
    let i = c.self.inside in
    let plan = c.args.plan.now in
    let is : c.in-Ok.frame ≡ frame_of plan c.args.self.now.v (n_of c.args.self.now) =
    c.in-Ok.ensures
    ∙ ap (frame_of plan i.v) (sym (n_same i.work i.next (left_kept i.given i.done)))
    ∙ ap (λ (x : InstState). frame_of plan x.v (n_of x)) c.self.view_is in
    let s = snapped c.laws_of_vertices.ensures plan c.max_elements.ensures.plan c.args.self.now c.requires.stands c.requires.up c.requires.operator c.in-Ok.frame is in
    (s.vertex_is, s.taken)
