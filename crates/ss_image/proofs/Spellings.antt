-- What bytes say that spell a number or a key.
use Rattle.std.proofs.Common.{◌≡◌, ℕ, zero, suc, ◌-◌, ◌^◌, ◌<◌, ◌≤◌, cond, List, [], ◌∷◌, ◌++◌, length, drop, Some, None, refl, sym, ap, ◌∙◌, arith, inl, inr}
use Rattle.std.specs.Prelude.{replicate, bytes_eq}
use Rattle.std.specs.Option.{option_and_then}
use Rattle.std.specs.Int.{w128, to_be_bytes}
use Rattle.std.specs.List.{take_while, prefix_len}
use Rattle.std.proofs.lemmas.Bool.{cases_Bool, cond-true, cond-false}
use Rattle.std.proofs.lemmas.Slice.Eq.{bytes_eq-Decides}
use Rattle.std.proofs.lemmas.List.{length-append, length-replicate, length-take}
use Rattle.std.proofs.lemmas.List.Sums.{take_while-cons}
use Rattle.byteorder.specs.Endian.{big_number}
use Rattle.byteorder.specs.Numbers.{big_number-reads_back, length-bytes_high_first}
use Rattle.ss_elem.specs.Key.{is_not_zero, key_of, key_text, IsKeyNumber}
use Rattle.ss_image.specs.Numbers.{number_bytes, number_at, key_bytes, key_in}

-- numbers

pub length-number_bytes : (len n : ℕ) → length (number_bytes len n) ≡ len
unfolding number_bytes
length-number_bytes len n = length-bytes_high_first len n

pub number_at-bytes : (len place n : ℕ) (bytes rest : List ℕ) → drop place bytes ≡ number_bytes len n ++ rest → n < 256 ^ len → number_at len place bytes ≡ n
unfolding number_at number_bytes
number_at-bytes len place n bytes rest h k = ap (big_number len) h ∙ big_number-reads_back len n rest k

-- keys

before_zeros-nil : (m : ℕ) → take_while is_not_zero (replicate m 0) ≡ []
before_zeros-nil zero = refl
before_zeros-nil (suc m) = refl

before_zeros-cons : (x : ℕ) (xs : List ℕ) (m : ℕ) → take_while is_not_zero (take_while is_not_zero xs ++ replicate m 0) ≡ take_while is_not_zero xs
    → take_while is_not_zero (take_while is_not_zero (x ∷ xs) ++ replicate m 0) ≡ take_while is_not_zero (x ∷ xs)
before_zeros-cons x xs m behind =
    elim (cases_Bool (is_not_zero x)) [
      | inl yes_here ↦
          let one : take_while is_not_zero (x ∷ xs) ≡ x ∷ take_while is_not_zero xs =
          take_while-cons is_not_zero x xs ∙ cond-true (is_not_zero x) (x ∷ take_while is_not_zero xs) [] yes_here in
          let two : take_while is_not_zero (x ∷ (take_while is_not_zero xs ++ replicate m 0)) ≡ x ∷ take_while is_not_zero (take_while is_not_zero xs ++ replicate m 0) =
          take_while-cons is_not_zero x (take_while is_not_zero xs ++ replicate m 0)
          ∙ cond-true (is_not_zero x) (x ∷ take_while is_not_zero (take_while is_not_zero xs ++ replicate m 0)) [] yes_here in
          ap (λ (t : List ℕ). take_while is_not_zero (t ++ replicate m 0)) one ∙ two ∙ ap (λ (t : List ℕ). x ∷ t) behind ∙ sym one
      | inr none_here ↦
          let one : take_while is_not_zero (x ∷ xs) ≡ [] =
          take_while-cons is_not_zero x xs ∙ cond-false (is_not_zero x) (x ∷ take_while is_not_zero xs) [] none_here in
          ap (λ (t : List ℕ). take_while is_not_zero (t ++ replicate m 0)) one ∙ before_zeros-nil m ∙ sym one
    ]

before_zeros : (xs : List ℕ) (m : ℕ) → take_while is_not_zero (take_while is_not_zero xs ++ replicate m 0) ≡ take_while is_not_zero xs
before_zeros [] m = before_zeros-nil m
before_zeros (x ∷ xs) m = before_zeros-cons x xs m (before_zeros xs m)

pub length-key_bytes : (key : ℕ) → length (key_bytes key) ≡ 16
unfolding key_bytes
length-key_bytes key =
    let short : length (key_text key) ≤ 16 = omega (arith, length-take (prefix_len is_not_zero (to_be_bytes w128 key)) (to_be_bytes w128 key)) in
    omega (arith, length-append (key_text key) (replicate (16 - length (key_text key)) 0), length-replicate {A = ℕ} (16 - length (key_text key)) 0)

text-key_bytes : (key : ℕ) → take_while is_not_zero (key_bytes key) ≡ key_text key
unfolding key_bytes
text-key_bytes key = before_zeros (to_be_bytes w128 key) (16 - length (key_text key))

pub key_in-key_bytes : (key : ℕ) → IsKeyNumber key → key_in (key_bytes key) ≡ Some key
unfolding key_in
key_in-key_bytes key is_key =
    let of_text : key_of (take_while is_not_zero (key_bytes key)) ≡ Some key = ap key_of (text-key_bytes key) ∙ is_key in
    ap (option_and_then (λ k. cond (bytes_eq (key_bytes k) (key_bytes key)) (Some k) None)) of_text
    ∙ cond-true (bytes_eq (key_bytes key) (key_bytes key)) (Some key) None ((bytes_eq-Decides (key_bytes key) (key_bytes key)).1 refl)
