-- A load asks nothing of the image.
use Rattle.std.proofs.Common.{◌≡◌, ℕ, ◌≤◌, take, All, sym, subst, arith}
use Rattle.ss_codec.specs.declared.frame.Frame.{Frame}
use Rattle.ss_elem.specs.Validity.{top}
use Rattle.ss_vertex.specs.Calls.{FitsVertex}
use Rattle.tests_vertex.proofs.images.check_fits.Goals as goal

pub returns-clause-vertex : goal.returns-clause-vertex
returns-clause-vertex g c =
    let plan = c.args.plan.now in
    let f = c.args.f.now in
    let v : ℕ = c.args.inst.now.v in
    let named = c.v.ensures in
    let at : f.v ≡ v = omega arith in
    let fits = c.snapshots_fit.ensures plan f c.max_elements.ensures.plan c.requires.snapshot in
    let h : FitsVertex plan v f = subst (λ u. FitsVertex plan u f) at fits.0 in
    let changed : Frame = record f { image = c.requires.other.0 } in
    let there : FitsVertex plan v changed = record { vertex = h.vertex; op = h.op; width = h.width } in
    subst (λ (q : Frame). FitsVertex plan v q) (sym c.requires.other.1) there

pub returns-clause-bounds : goal.returns-clause-bounds
returns-clause-bounds g c =
    let fits = c.snapshots_fit.ensures c.args.plan.now c.args.f.now c.max_elements.ensures.plan c.requires.snapshot in
    subst (λ (q : Frame). All (λ b. b ≤ top) (take q.width q.bounds)) (sym c.requires.other.1) fits.1
