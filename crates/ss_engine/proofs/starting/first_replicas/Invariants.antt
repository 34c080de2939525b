use Rattle.ss_engine.specs.FirstParts.{AreFresh}
use Rattle.ss_engine.proofs.starting.first_replicas.Given as goal

abbrev pub invariant-loop-r : goal.invariant-loop-r
invariant-loop-r l = AreFresh l.plan l.v l.r l.replicas.items
