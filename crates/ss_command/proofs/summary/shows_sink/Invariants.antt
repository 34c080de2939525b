use Rattle.std.proofs.Common.{◌≡◌, drop}
use Rattle.std.specs.List.{list_any}
use Rattle.ss_command.specs.Output.{shows_sink, writes_to_output}
use Rattle.ss_command.proofs.summary.shows_sink.Given as goal

-- none of the vertices passed does
abbrev pub invariant-loop-v : goal.invariant-loop-v
invariant-loop-v l = list_any writes_to_output (drop l.v l.job.vertices) ≡ shows_sink l.job
