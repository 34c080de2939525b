-- Keys in fields of sixteen bytes.
use Rattle.std.proofs.Common.{◌≡◌, ℕ, zero, suc, ◌-◌, ◌≤◌, cond, List, [], ◌∷◌, ◌++◌, length, Option, Some, None, refl, sym, ap, subst, ◌∙◌, arith, inl, inr}
use Rattle.std.specs.Prelude.{replicate, bytes_eq}
use Rattle.std.specs.Option.{option_and_then}
use Rattle.std.specs.Int.{w128, to_be_bytes}
use Rattle.std.specs.List.{take_while, prefix_len}
use Rattle.std.proofs.lemmas.Bool.{cases_Bool, cond-true, cond-false}
use Rattle.std.proofs.lemmas.Option.{option_and_then_some, cond_some}
use Rattle.std.proofs.lemmas.Slice.Eq.{bytes_eq-Decides}
use Rattle.std.proofs.lemmas.List.{length-append, length-replicate, length-take}
use Rattle.std.proofs.lemmas.List.Sums.{take_while-cons}
use Rattle.ss_elem.specs.Key.{is_not_zero, key_of, key_text, IsKeyNumber}
use Rattle.ss_codec.specs.Record.{key_bytes}
use Rattle.ss_codec.specs.RecordTests.{key_in}

-- the bytes before the first zero of a text without zeros and zeros behind it are the text
before_zeros-nil : (m : ℕ) → take_while is_not_zero (replicate m 0) ≡ []
before_zeros-nil zero = refl
before_zeros-nil (suc m) = refl

before_zeros-cons : (x : ℕ) (xs : List ℕ) (m : ℕ) → take_while is_not_zero (take_while is_not_zero xs ++ replicate m 0) ≡ take_while is_not_zero xs
    → take_while is_not_zero (take_while is_not_zero (x ∷ xs) ++ replicate m 0) ≡ take_while is_not_zero (x ∷ xs)
before_zeros-cons x xs m behind =
    elim (cases_Bool (is_not_zero x)) [
      | inl yes_here ↦
          let one : take_while is_not_zero (x ∷ xs) ≡ x ∷ take_while is_not_zero xs =
          take_while-cons is_not_zero x xs ∙ cond-true (is_not_zero x) (x ∷ take_while is_not_zero xs) [] yes_here in
          let two : take_while is_not_zero (x ∷ (take_while is_not_zero xs ++ replicate m 0)) ≡ x ∷ take_while is_not_zero (take_while is_not_zero xs ++ replicate m 0) =
          take_while-cons is_not_zero x (take_while is_not_zero xs ++ replicate m 0)
          ∙ cond-true (is_not_zero x) (x ∷ take_while is_not_zero (take_while is_not_zero xs ++ replicate m 0)) [] yes_here in
          ap (λ (t : List ℕ). take_while is_not_zero (t ++ replicate m 0)) one ∙ two ∙ ap (λ (t : List ℕ). x ∷ t) behind ∙ sym one
      | inr none_here ↦
          let one : take_while is_not_zero (x ∷ xs) ≡ [] =
          take_while-cons is_not_zero x xs ∙ cond-false (is_not_zero x) (x ∷ take_while is_not_zero xs) [] none_here in
          ap (λ (t : List ℕ). take_while is_not_zero (t ++ replicate m 0)) one ∙ before_zeros-nil m ∙ sym one
    ]

before_zeros : (xs : List ℕ) (m : ℕ) → take_while is_not_zero (take_while is_not_zero xs ++ replicate m 0) ≡ take_while is_not_zero xs
before_zeros [] m = before_zeros-nil m
before_zeros (x ∷ xs) m = before_zeros-cons x xs m (before_zeros xs m)

pub length-key_bytes : (key : ℕ) → length (key_bytes key) ≡ 16
unfolding key_bytes
length-key_bytes key =
    let short : length (key_text key) ≤ 16 = omega (arith, length-take (prefix_len is_not_zero (to_be_bytes w128 key)) (to_be_bytes w128 key)) in
    omega (arith, length-append (key_text key) (replicate (16 - length (key_text key)) 0), length-replicate {A = ℕ} (16 - length (key_text key)) 0)

text-key_bytes : (key : ℕ) → take_while is_not_zero (key_bytes key) ≡ key_text key
unfolding key_bytes
text-key_bytes key = before_zeros (to_be_bytes w128 key) (16 - length (key_text key))

abbrev only : List ℕ → ℕ → Option ℕ
only field key = cond (bytes_eq (key_bytes key) field) (Some key) None

pub record IsFieldOf (field : List ℕ) (key : ℕ) : Type 0 where
  pub bytes : key_bytes key ≡ field
  pub is_key : IsKeyNumber key

-- the key in a field has the field's bytes
pub key_in-is : (field : List ℕ) (key : ℕ) → key_in field ≡ Some key → IsFieldOf field key
unfolding key_in
key_in-is field key e = option_and_then_some (only field) (key_of (take_while is_not_zero field)) key e (λ k of_text found.
    let p = cond_some (bytes_eq (key_bytes k) field) k key found in
    let bytes : key_bytes key ≡ field = subst (λ (n : ℕ). key_bytes n ≡ field) p.1 ((bytes_eq-Decides (key_bytes k) field).0 p.0) in
    let text : take_while is_not_zero field ≡ key_text key = ap (take_while is_not_zero) (sym bytes) ∙ text-key_bytes key in
    record { bytes = bytes; is_key = ap key_of (sym text) ∙ of_text ∙ ap (λ (n : ℕ). Some n) p.1 })

-- and a key's bytes are a field with this key
pub key_in-key_bytes : (key : ℕ) → IsKeyNumber key → key_in (key_bytes key) ≡ Some key
unfolding key_in
key_in-key_bytes key is_key =
    let of_text : key_of (take_while is_not_zero (key_bytes key)) ≡ Some key = ap key_of (text-key_bytes key) ∙ is_key in
    ap (option_and_then (only (key_bytes key))) of_text ∙ cond-true (bytes_eq (key_bytes key) (key_bytes key)) (Some key) None ((bytes_eq-Decides (key_bytes key) (key_bytes key)).1 refl)
