-- The marks so far.
use Rattle.std.proofs.Common.{◌+◌, ◌≤◌}
use Rattle.ss_plan.specs.Plan.{vertices_of}
use Rattle.ss_plan.proofs.Marks.{AreMarks}
use Rattle.ss_plan.proofs.needed.mark_needed.Given as goal

abbrev pub invariant-loop-u : goal.invariant-loop-u
invariant-loop-u l = record {
  marks : AreMarks (vertices_of l.plan) l.fn.v l.u l.marked;
  within : l.u ≤ l.fn.v + 1;
}
