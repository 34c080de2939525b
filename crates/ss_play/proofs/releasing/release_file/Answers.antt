use Rattle.std.proofs.Common.{ℕ, get_or, subst}
use Rattle.ss_outside.specs.Told.{Releases}
use Rattle.ss_play.proofs.Released.{none_released, one_released}
use Rattle.ss_play.proofs.releasing.release_file.Goals as goal

pub returns-in-Source : goal.returns-in-Source
returns-in-Source g c =
    one_released c.args.job.now (λ v. get_or c.args.marks.now v 0) c.args.v c.file-file.result.now _ _ c.requires.vertex
    c.in-Source.ensures.op c.file-file.ensures
    (subst (λ (m : ℕ). Releases (g.I.Inputs.told c.args.inputs.now) (g.I.Inputs.told c.release.new.self) c.file-file.result.now m)
    c.least_mark.ensures c.release.ensures)

pub returns-in_default : goal.returns-in_default
returns-in_default g c =
    none_released c.args.job.now (λ v. get_or c.args.marks.now v 0) c.args.v c.op.result _ c.requires.vertex c.op.ensures.op c.in_default.not-Source
