-- More digits only make a number larger.
use Rattle.std.proofs.Common.{ℕ, ◌+◌, ◌*◌, ◌≤◌, List, [], ◌∷◌, arith, le_refl, le_trans}
use Rattle.std.specs.Char.{digit_value}
use Rattle.std.specs.Str.Parse.{digits_value_after}

pub le-digits_value_after : (n : ℕ) (digits : List ℕ) → n ≤ digits_value_after 10 n digits
le-digits_value_after n [] = le_refl n
le-digits_value_after n (d ∷ digits) =
    let step : n ≤ n * 10 + digit_value d = omega arith in
    le_trans step (le-digits_value_after (n * 10 + digit_value d) digits)
