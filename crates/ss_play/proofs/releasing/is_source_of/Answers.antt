use Rattle.std.proofs.Common.{sym, ◌∙◌}
use Rattle.ss_play.proofs.Released.{no_source_at, source_at}
use Rattle.ss_play.proofs.releasing.is_source_of.Goals as goal

pub returns-in-Source : goal.returns-in-Source
returns-in-Source c =
    c.eq.ensures ∙ sym (source_at c.args.job.now c.args.v c.file.result.now c.args.name.now c.requires c.in-Source.ensures.op c.file.ensures)

pub returns-in_default : goal.returns-in_default
returns-in_default c =
    sym (no_source_at c.args.job.now c.args.v c.op.result c.args.name.now c.requires c.op.ensures.op c.in_default.not-Source)
