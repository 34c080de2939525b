use Rattle.std.proofs.Common.{map}
use Rattle.ss_engine.specs.FirstParts.{HaveFirstReplicas}
use Rattle.ss_engine.proofs.starting.first_insts.Given as goal

abbrev pub invariant-loop-v : goal.invariant-loop-v
invariant-loop-v l = HaveFirstReplicas l.plan l.v (map (λ replicas. replicas.items) l.insts.items)
