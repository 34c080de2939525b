-- The streams so far are right, and none of them is too long.
use Rattle.std.proofs.Common.{ℕ, ◌<◌}
use Rattle.ss_plan.specs.Limit.{IsLongAmong}
use Rattle.ss_plan.specs.Plan.{lists_of, vertices_of}
use Rattle.ss_plan.specs.Streams.{is_wanted, AreStreams}
use Rattle.ss_plan.proofs.streams.streams_wanted.Given as goal

abbrev pub invariant-loop-v : goal.invariant-loop-v
invariant-loop-v l = record {
  right : AreStreams (vertices_of l.plan) l.wanted l.v (lists_of l.streams.items);
  short : (u : ℕ) → u < l.v → IsLongAmong (is_wanted l.wanted) l.plan u → ⊥;
}
