-- Words that are digits and whose number is too large for a number of workers.
use Rattle.std.proofs.Common.{◌≡◌, ℕ, ◌<◌, ◌≤◌, ◌^◌, ◌⊎◌, true, false, Bool, List, [], ◌∷◌, length, Some, None, Err, refl, inl, inr, arith, if◌then◌else◌, rules}
use Rattle.std.specs.Prelude.{◌&&◌, nat_le}
use Rattle.std.specs.Char.{is_ascii_digit}
use Rattle.std.specs.List.{list_all}
use Rattle.std.specs.Str.Parse.{IsNumeral, digits_value, without_leading_plus}
use Rattle.std.proofs.lemmas.Bool.{leb-true}
use Rattle.std.proofs.lemmas.Str.Parse.{IsNumeralModel, numerals_by_value, parse_digits}
use Rattle.ss_words.specs.Words.{workers_in}

pub numerals : IsNumeralModel (λ ds. list_all is_ascii_digit ds ≡ true) (digits_value 10)
numerals = numerals_by_value _ (search rules)

not_few : (some few : Bool) (n : ℕ) → few ≡ false → None ≡ (if some && few then Some n else None)
not_few true few n e = rw e refl
not_few false few n e = refl

few_or_many : (few : Bool) → (few ≡ true) ⊎ (few ≡ false)
few_or_many true = inl refl
few_or_many false = inr refl

no_number : (word : List ℕ) → ((0 < length word) × (digits_value 10 word < 2 ^ 32) → ⊥) → None ≡ workers_in word
no_number [] large = refl
no_number (c ∷ cs) large = elim (few_or_many (nat_le (digits_value 10 (c ∷ cs)) 8)) [
  | inl few ↦
      let most : digits_value 10 (c ∷ cs) ≤ 8 = leb-true (digits_value 10 (c ∷ cs)) 8 few in
      absurd (large (omega arith, omega (arith, most)))
  | inr many ↦ not_few (list_all is_ascii_digit (c ∷ cs) && nat_le 1 (digits_value 10 (c ∷ cs))) (nat_le (digits_value 10 (c ∷ cs)) 8) (digits_value 10 (c ∷ cs)) many
]

-- what isn't read as a number of 32 bits is none
pub refused : (word : List ℕ) → list_all is_ascii_digit word ≡ true
    → (IsNumeral 10 (without_leading_plus word) × (digits_value 10 (without_leading_plus word) < 2 ^ 32) → ⊥) → None ≡ workers_in word
refused word digits large = no_number word (parse_digits numerals {E = Unit {0}} 32 word (Err tt) large digits)
