use Rattle.ss_engine.specs.Around.{AreDown}
use Rattle.ss_engine.proofs.around.down_replicas.Given as goal

abbrev pub invariant-loop-r : goal.invariant-loop-r
invariant-loop-r l = AreDown l.plan l.v l.r l.replicas.items
