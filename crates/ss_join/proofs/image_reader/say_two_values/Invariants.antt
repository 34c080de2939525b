use Rattle.std.proofs.Common.{◌≡◌, ◌-◌, ◌*◌, drop}
use Rattle.ss_join.specs.ImageTests.{say_two_values}
use Rattle.ss_join.proofs.image_reader.say_two_values.Given as goal

abbrev pub invariant-loop-number : goal.invariant-loop-number
invariant-loop-number l =
    say_two_values (l.count - l.number) (drop (64 * l.number) l.bytes) ≡ say_two_values l.count l.bytes
