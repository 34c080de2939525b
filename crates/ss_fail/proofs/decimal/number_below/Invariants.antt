use Rattle.std.proofs.Common.{◌≡◌, ◌<◌, drop}
use Rattle.std.specs.List.{list_all}
use Rattle.std.specs.Str.Parse.{digits_value, digits_value_after}
use Rattle.ss_fail.specs.Decimal.{is_decimal}
use Rattle.ss_fail.proofs.decimal.number_below.Given as goal

abbrev pub invariant-digits : goal.invariant-digits
invariant-digits l =
    (l.value < l.limit)
    × (digits_value_after 10 l.value (drop l.byte-index l.digits) ≡ digits_value 10 l.digits)
    × (list_all is_decimal (drop l.byte-index l.digits) ≡ list_all is_decimal l.digits)
