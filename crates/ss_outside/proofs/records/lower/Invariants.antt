-- The numbers passed are lowered, and the others are as they were.
use Rattle.std.proofs.Common.{◌≡◌, ◌-◌, ◌++◌, take, drop}
use Rattle.std.specs.Prelude.{map}
use Rattle.ss_outside.proofs.records.lower.Given as goal

abbrev pub invariant-loop-number : goal.invariant-loop-number
invariant-loop-number l =
    l.numbers ≡ map (λ number. number - l.by) (take l.number-index l.initial.numbers) ++ drop l.number-index l.initial.numbers
