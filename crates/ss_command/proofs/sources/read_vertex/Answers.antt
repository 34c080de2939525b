use Rattle.std.proofs.Common.{◌≡◌, Some, rules}
use Rattle.std.specs.List.{slice_get}
use Rattle.ss_job.specs.JobText.{source}
use Rattle.ss_command.proofs.sources.read_vertex.Goals as goal

pub returns-clause-added : goal.returns-clause-added
returns-clause-added g c =
    let at : slice_get c.args.job.now.vertices c.args.v ≡ Some (source c.file.result.now c.late.result) = search rules in
    let (gives, kept) = c.in-Ok.ensures.list in
    ((source c.file.result.now c.late.result, at, (c.in-Ok.list, c.in-Ok-push.ensures.items, gives, c.in-Ok.ensures.sound)), kept)
