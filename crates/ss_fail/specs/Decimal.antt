-- Numbers in decimal digits.
use Rattle.std.specs.Prelude.{ℕ, ◌&&◌, Bool, nat_lt, List, length, Option, Some, None, if◌then◌else◌}
use Rattle.std.specs.Char.{is_digit}
use Rattle.std.specs.List.{list_all}
use Rattle.std.specs.Str.Parse.{digits_value}

abbrev pub is_decimal : ℕ → Bool
is_decimal byte = is_digit byte 10

-- the number that one or more digits write, where it is below the limit
abbrev pub number_below : ℕ → List ℕ → Option ℕ
number_below limit text =
    if nat_lt 0 (length text) && list_all is_decimal text && nat_lt (digits_value 10 text) limit
    then Some (digits_value 10 text) else None
