-- Both instances stand.
use Rattle.ss_vertex.specs.Standing.{InstStands}
use Rattle.tests_vertex.proofs.going_on.walk.Given as goal

abbrev pub invariant-loop : goal.invariant-loop
invariant-loop g l = InstStands l.plan l.steady.inst × InstStands l.plan l.stopped.inst
