-- Numbers as event files write them.
use Rattle.std.specs.Prelude.{ℕ, ◌+◌, ◌^◌, ◌&&◌, ◌==◌, Bool, nat_lt, List, [], ◌∷◌, length, Option, Some, None}
use Rattle.std.specs.Prelude.{option_map, if◌then◌else◌, ℤ, pos, neg_ℤ, codes, refl, ◌≡◌, negsuc}
use Rattle.std.specs.Char.{is_digit}
use Rattle.std.specs.List.{list_all}
use Rattle.std.specs.Str.Parse.{digits_value}

abbrev pub is_decimal : ℕ → Bool
is_decimal byte = is_digit byte 10

-- the number that one or more digits write, where it is below the limit
abbrev pub number_below : ℕ → List ℕ → Option ℕ
number_below limit text =
    if nat_lt 0 (length text) && list_all is_decimal text && nat_lt (digits_value 10 text) limit
    then Some (digits_value 10 text) else None

-- a time of an event file
abbrev pub time_of : List ℕ → Option ℕ
time_of text = number_below (2 ^ 62) text

abbrev pub negative : ℕ → ℤ
negative size = neg_ℤ (pos size)

-- a value of an event file, with a minus sign (45) before a number below zero
abbrev pub value_of : List ℕ → Option ℤ
value_of [] = None
value_of (first ∷ rest) =
    if first == 45 then option_map negative (number_below (2 ^ 63 + 1) rest)
    else option_map pos (number_below (2 ^ 63) (first ∷ rest))

last_time : time_of (codes "4611686018427387903") ≡ Some 4611686018427387903
last_time = refl

no_time : time_of (codes "4611686018427387904") ≡ None
no_time = refl

leading_zeros : time_of (codes "007") ≡ Some 7
leading_zeros = refl

minus_zero : value_of (codes "-0") ≡ Some (pos 0)
minus_zero = refl

least_value : value_of (codes "-9223372036854775808") ≡ Some (negsuc 9223372036854775807)
least_value = refl

lone_minus : value_of (codes "-") ≡ None
lone_minus = refl
