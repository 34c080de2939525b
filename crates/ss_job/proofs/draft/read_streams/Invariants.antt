use Rattle.std.proofs.Common.{◌≡◌, drop}
use Rattle.ss_job.specs.Reading.{read_streams}
use Rattle.ss_job.proofs.draft.read_streams.Given as goal

abbrev pub invariant-loop-v : goal.invariant-loop-v
invariant-loop-v l = read_streams l.nodes l.v (drop l.v l.nodes) ≡ read_streams l.nodes 0 l.nodes
