use Rattle.toml.specs.View.{table_view, array_view}
use Rattle.ss_job.proofs.SoundJob.{read-sound}
use Rattle.ss_job.proofs.reader.read_document.Goals as goal

pub into_job-requires : goal.into_job-requires
into_job-requires c =
    read-sound (table_view c.args.document.now) c.in_ok-limits.limits (array_view c.in_ok-limits.array.now) c.in_ok-draft.draft c.in_ok-limits.ensures.read c.in_ok-draft.ensures c.in_ok-check_graph.ensures
