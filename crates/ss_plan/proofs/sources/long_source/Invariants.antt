use Rattle.std.proofs.Common.{◌≡◌, ℕ, ◌<◌, ◌≤◌, length}
use Rattle.ss_plan.specs.Limit.{IsLongSource}
use Rattle.ss_plan.specs.Plan.{sources_before, plan_of}
use Rattle.ss_plan.proofs.sources.long_source.Given as goal

abbrev pub invariant-loop-v : goal.invariant-loop-v
invariant-loop-v l =
    (l.place ≡ sources_before l.job l.v)
    × ((u : ℕ) → u < l.v → IsLongSource (plan_of l.job l.lists) u → ⊥)
