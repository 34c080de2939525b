-- What is read is the snapshot that was put.
use Rattle.std.proofs.Common.{◌≡◌, refl, ◌∙◌, subst}
use Rattle.ss_frames.specs.Snapshot.{IsSnapshot}
use Rattle.tests_vertex.proofs.snapshots.read_again.Goals as goal

pub returns-in-Ok : goal.returns-in-Ok
returns-in-Ok c =
    let f = c.args.f.now in
    let same : f ≡ c.in-Ok.frame =
    cc (c.in-Ok.ensures.read f c.check_code.ensures refl refl (c.as_slice.ensures.value ∙ c.in_ok-bytes.ensures)) in
    subst (IsSnapshot c.args.plan.now) same c.requires
