-- The least of the bounds from here on, and the first input that has it.
use Rattle.std.proofs.Common.{◌≡◌, ◌≤◌, length, drop}
use Rattle.ss_meaning.specs.Inputs.{least_bound, next_from}
use Rattle.ss_merge.proofs.merger.next_of.Given as goal

abbrev pub invariant-loop-input : goal.invariant-loop-input
invariant-loop-input l =
    (l.next ≡ next_from l.input (drop l.input l.bounds))
    × (l.least ≡ least_bound (drop l.input l.bounds)) × (l.input ≤ length l.bounds)
