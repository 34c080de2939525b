-- Words that are digits, and whether their number is a seed.
use Rattle.std.proofs.Common.{◌≡◌, ◌∙◌, ℕ, ◌<◌, ◌≤◌, ◌^◌, true, false, Bool, List, length, Result, Option, Some, None, Ok, Err, refl, sym, ap, arith, if◌then◌else◌}
use Rattle.std.specs.Prelude.{◌&&◌, nat_le, nat_lt}
use Rattle.std.specs.Char.{is_ascii_digit}
use Rattle.std.specs.List.{list_all}
use Rattle.std.specs.Str.Parse.{ParsesUnsigned, digits_value}
use Rattle.std.proofs.lemmas.Bool.{leb-true}
use Rattle.std.proofs.lemmas.Bool.Decides.{nat_tests}
use Rattle.std.proofs.lemmas.Str.Parse.{parse_digits}
use Rattle.ss_words.proofs.Workers.{numerals}
use Rattle.ss_words.specs.Words.{seed_in}

at_least : (m n : ℕ) → m ≤ n → nat_le m n ≡ true
at_least m n h = grind (arith, nat_tests)

below : (m n : ℕ) → m < n → nat_lt m n ≡ true
below m n h = grind (arith, nat_tests)

is_below : (m n : ℕ) → nat_lt m n ≡ true → m < n
is_below m n h = grind (arith, nat_tests)

by_tests : (some digits few : Bool) (n : ℕ) → some ≡ true → digits ≡ true → few ≡ true → Some n ≡ (if some && digits && few then Some n else None)
by_tests true true true n _ _ _ = refl
by_tests true true false n _ _ h = cc
by_tests true false few n _ h _ = cc
by_tests false digits few n h _ _ = cc

not_by_tests : (some digits few : Bool) (n : ℕ) → (some ≡ true → few ≡ true → ⊥) → None ≡ (if some && digits && few then Some n else None)
not_by_tests true true true n none = absurd (none refl refl)
not_by_tests true true false n none = refl
not_by_tests true false few n none = refl
not_by_tests false digits few n none = refl

-- what is read as a number of 64 bits is one
pub taken : (word : List ℕ) (seed : ℕ) → list_all is_ascii_digit word ≡ true → ParsesUnsigned {E = Unit {0}} 64 10 word (Ok seed) → Some seed ≡ seed_in word
taken word seed digits parses =
    let read = parse_digits numerals {E = Unit {0}} 64 word (Ok seed) parses digits in
    ap (λ (n : ℕ). Some n) read.1
    ∙ by_tests (nat_le 1 (length word)) (list_all is_ascii_digit word) (nat_lt (digits_value 10 word) (2 ^ 64)) (digits_value 10 word)
    (at_least 1 (length word) (omega (arith, read.0.0))) digits (below (digits_value 10 word) (2 ^ 64) read.0.1)

-- and what isn't is none
pub refused : (word : List ℕ) → list_all is_ascii_digit word ≡ true → ParsesUnsigned {E = Unit {0}} 64 10 word (Err tt) → None ≡ seed_in word
refused word digits parses =
    let large = parse_digits numerals {E = Unit {0}} 64 word (Err tt) parses digits in
    not_by_tests (nat_le 1 (length word)) (list_all is_ascii_digit word) (nat_lt (digits_value 10 word) (2 ^ 64)) (digits_value 10 word)
    (λ some few. large (omega (arith, leb-true 1 (length word) some), is_below (digits_value 10 word) (2 ^ 64) few))
