-- The least of the bounds from here on.
use Rattle.std.proofs.Common.{◌≡◌, ◌≤◌, length, drop}
use Rattle.ss_meaning.specs.Inputs.{least_bound}
use Rattle.ss_plan.proofs.bounds.least_of.Given as goal

abbrev pub invariant-loop-input : goal.invariant-loop-input
invariant-loop-input l = (l.least ≡ least_bound (drop l.input l.bounds)) × (l.input ≤ length l.bounds)
