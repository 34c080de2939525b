-- Each snapshot has a code.
use Rattle.std.proofs.Common.{sym, subst}
use Rattle.ss_codec.specs.Frame.{IsFrame}
use Rattle.tests_vertex.proofs.snapshots.check_code.Goals as goal

pub returns : goal.returns
returns c =
    subst IsFrame (sym c.requires.frame)
    (c.frames_have_codes.ensures.codes c.args.plan.now c.max_elements.ensures.plan c.args.f.now.v c.args.f.now.n c.requires.operator
    c.requires.within).0
