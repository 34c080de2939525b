use Rattle.std.proofs.Common.{arith, ◌+◌, ◌*◌, ◌≤◌, get_or, drop}
use Rattle.std.proofs.lemmas.Bool.Decides.{nat_tests}
use Rattle.std.proofs.lemmas.Grind.{common_steps}
use Rattle.std.proofs.lemmas.List.{at_drop_more}
use Rattle.std.specs.Char.{digit_value}
use Rattle.std.specs.Str.Parse.{digits_value, digits_value_after}
use Rattle.ss_fail.proofs.DigitsGrow.{le-digits_value_after}
use Rattle.ss_fail.proofs.decimal.number_below.Goals as goal

pub returns-then-next-limit-clause-number : goal.returns-then-next-limit-clause-number
returns-then-next-limit-clause-number c =
    let digits = c.args.digits.now in
    let place = c.digits.byte-index in
    let next = c.digits.value * 10 + digit_value (get_or digits place 0) in
    let turn = at_drop_more (digits_value_after 10 c.digits.value) digits place 0 c.digits-test.true in
    let grown = le-digits_value_after next (drop (place + 1) digits) in
    let large : c.args.limit ≤ digits_value 10 digits = grind (arith, common_steps) in
    grind (arith, nat_tests, common_steps)
