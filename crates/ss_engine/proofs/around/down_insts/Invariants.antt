use Rattle.std.proofs.Common.{map}
use Rattle.ss_engine.specs.Around.{HaveDownReplicas}
use Rattle.ss_engine.proofs.around.down_insts.Given as goal

abbrev pub invariant-loop-v : goal.invariant-loop-v
invariant-loop-v l = HaveDownReplicas l.plan l.v (map (λ replicas. replicas.items) l.insts.items)
