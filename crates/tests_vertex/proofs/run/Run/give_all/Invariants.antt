-- The instance stands.
use Rattle.ss_vertex.specs.Standing.{InstStands}
use Rattle.tests_vertex.proofs.run.Run.give_all.Given as goal

abbrev pub invariant-loop : goal.invariant-loop
invariant-loop g l = InstStands l.plan l.self.inst
