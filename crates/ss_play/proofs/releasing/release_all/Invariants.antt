use Rattle.std.proofs.Common.{take, get_or}
use Rattle.ss_play.specs.Releasing.{ReleasesFiles}
use Rattle.ss_play.proofs.releasing.release_all.Given as goal

-- the files of the vertices passed are released
abbrev pub invariant-loop-v : goal.invariant-loop-v
invariant-loop-v g l =
    ReleasesFiles l.job (λ v. get_or l.marks v 0) (take l.v l.job.vertices) (g.I.Inputs.told l.fn.inputs)
    (g.I.Inputs.told l.inputs)
