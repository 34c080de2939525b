-- Bytes, and the numbers in them.
use Rattle.std.proofs.Common.{◌≡◌, ℕ, ◌+◌, ◌^◌, ◌<◌, ◌≤◌, Bool, List, [], ◌∷◌, ◌++◌, length, get_or, take, drop, refl, sym, ap, ◌∙◌, append_assoc, arith, inl, inr}
use Rattle.std.specs.List.{take_while, prefix_len}
use Rattle.std.specs.Int.{Width, w32, w64, byte_len, from_be_bytes, to_be_bytes, cast_signed, cast_unsigned}
use mir.Val.{bits}
use Rattle.std.specs.Prelude.{ℤ, pos, negsuc, FitsSigned}
use Rattle.std.proofs.Math.Facts.{sfits_to_z}
use Rattle.std.proofs.lemmas.Int.{ints, of_z-to_z, to_z-of_z}
use Rattle.std.proofs.lemmas.Bool.{cases_lt}
use Rattle.std.proofs.lemmas.List.{drop_at, drop-drop, take_min, length-take, length-drop, get_or-drop, get_or-take, get_or_past}
use Rattle.std.proofs.lemmas.Nat.{be_bytes_4, be_bytes_8, from_be_bytes-to_be_bytes_4, from_be_bytes-to_be_bytes_8}
use Rattle.ss_codec.specs.Numbers.{number_at, number_bytes, signed_at, signed_bytes}

-- what stands before the first item that fails is the front of so many items
pub take-take_while : (p : ℕ → Bool) (xs : List ℕ) → take (length (take_while p xs)) xs ≡ take_while p xs
take-take_while p xs = rw (length-take (prefix_len p xs) xs) (take_min (prefix_len p xs) xs)

abbrev pub IsBytes : List ℕ → Type 0
IsBytes bytes = (i : ℕ) → get_or bytes i 0 < 256

pub IsBytes-drop : (n : ℕ) (bytes : List ℕ) → IsBytes bytes → IsBytes (drop n bytes)
IsBytes-drop n bytes h i = rw get_or-drop (h (n + i))

pub IsBytes-take : (n : ℕ) (bytes : List ℕ) → IsBytes bytes → IsBytes (take n bytes)
IsBytes-take n bytes h i =
    elim (cases_lt i n) [
      | inl lt ↦ rw (get_or-take n bytes i 0 lt) (h i)
      | inr le ↦ rw (get_or_past (take n bytes) i 0 (omega (arith, length-take n bytes))) (omega arith)
    ]

-- from place p up to place q the bytes are the text
pub record Spells (p q : ℕ) (text bytes : List ℕ) : Type 0 where
  pub is : drop p bytes ≡ text ++ drop q bytes

pub Spells-append : (p q r : ℕ) (x y bytes : List ℕ) → Spells p q x bytes → Spells q r y bytes → Spells p r (x ++ y) bytes
Spells-append p q r x y bytes a b = record { is = a.is ∙ ap (λ (t : List ℕ). x ++ t) b.is ∙ sym (append_assoc x y (drop r bytes)) }

-- what stands behind a text that begins at a place
pub drop_past : (p : ℕ) (x rest bytes : List ℕ) (n : ℕ) → drop p bytes ≡ x ++ rest → length x ≡ n → drop (p + n) bytes ≡ rest
drop_past p x rest bytes n e len = sym (drop-drop n p bytes) ∙ ap (λ (t : List ℕ). drop n t) e ∙ drop_at x rest n len

-- ---- numbers of a width

pub record IsWide (w : Width) : Type 0 where
  pub len : (n : ℕ) → length (to_be_bytes w n) ≡ byte_len w
  pub front : (bytes : List ℕ) → byte_len w ≤ length bytes → IsBytes bytes → bytes ≡ to_be_bytes w (from_be_bytes w bytes) ++ drop (byte_len w) bytes
  pub again : (n : ℕ) (rest : List ℕ) → n < 2 ^ bits w → from_be_bytes w (to_be_bytes w n ++ rest) ≡ n
  pub below : (bytes : List ℕ) → IsBytes bytes → from_be_bytes w bytes < 2 ^ bits w

front4 : (bytes : List ℕ) → 4 ≤ length bytes → IsBytes bytes → bytes ≡ to_be_bytes w32 (from_be_bytes w32 bytes) ++ drop 4 bytes
front4 [] le fits = absurd (omega arith)
front4 (a ∷ []) le fits = absurd (omega (arith, le))
front4 (a ∷ b ∷ []) le fits = absurd (omega (arith, le))
front4 (a ∷ b ∷ c ∷ []) le fits = absurd (omega (arith, le))
front4 (a ∷ b ∷ c ∷ d ∷ rest) le fits =
    let four = be_bytes_4 (a ∷ b ∷ c ∷ d ∷ []) _ refl (IsBytes-take 4 (a ∷ b ∷ c ∷ d ∷ rest) fits) refl in
    ap (λ (t : List ℕ). t ++ rest) (sym four)

front8 : (bytes : List ℕ) → 8 ≤ length bytes → IsBytes bytes → bytes ≡ to_be_bytes w64 (from_be_bytes w64 bytes) ++ drop 8 bytes
front8 [] le fits = absurd (omega arith)
front8 (a ∷ []) le fits = absurd (omega (arith, le))
front8 (a ∷ b ∷ []) le fits = absurd (omega (arith, le))
front8 (a ∷ b ∷ c ∷ []) le fits = absurd (omega (arith, le))
front8 (a ∷ b ∷ c ∷ d ∷ []) le fits = absurd (omega (arith, le))
front8 (a ∷ b ∷ c ∷ d ∷ e ∷ []) le fits = absurd (omega (arith, le))
front8 (a ∷ b ∷ c ∷ d ∷ e ∷ f ∷ []) le fits = absurd (omega (arith, le))
front8 (a ∷ b ∷ c ∷ d ∷ e ∷ f ∷ g ∷ []) le fits = absurd (omega (arith, le))
front8 (a ∷ b ∷ c ∷ d ∷ e ∷ f ∷ g ∷ h ∷ rest) le fits =
    let eight = be_bytes_8 (a ∷ b ∷ c ∷ d ∷ e ∷ f ∷ g ∷ h ∷ []) _ refl (IsBytes-take 8 (a ∷ b ∷ c ∷ d ∷ e ∷ f ∷ g ∷ h ∷ rest) fits) refl in
    ap (λ (t : List ℕ). t ++ rest) (sym eight)

pub wide32 : IsWide w32
wide32 = record {
  len = λ n. refl;
  front = front4;
  again = λ n rest lt. from_be_bytes-to_be_bytes_4 n lt;
  below = λ bytes fits. omega (arith, fits 0, fits 1, fits 2, fits 3);
}

pub wide64 : IsWide w64
wide64 = record {
  len = λ n. refl;
  front = front8;
  again = λ n rest lt. from_be_bytes-to_be_bytes_8 n lt;
  below = λ bytes fits. omega (arith, fits 0, fits 1, fits 2, fits 3, fits 4, fits 5, fits 6, fits 7);
}

pub length-number_bytes : (w : Width) (wide : IsWide w) (n : ℕ) → length (number_bytes w n) ≡ byte_len w
unfolding number_bytes
length-number_bytes w wide n = wide.len n

-- the bytes of the number that stands at a place stand there
pub number_at-spells : (w : Width) (wide : IsWide w) (place : ℕ) (bytes : List ℕ) → IsBytes bytes → place + byte_len w ≤ length bytes
    → Spells place (place + byte_len w) (number_bytes w (number_at w place bytes)) bytes
unfolding number_at number_bytes
number_at-spells w wide place bytes fits le = record {
  is = rw (← drop-drop (byte_len w) place bytes) (wide.front (drop place bytes) (omega (arith, length-drop place bytes)) (IsBytes-drop place bytes fits));
}

pub number_at-below : (w : Width) (wide : IsWide w) (place : ℕ) (bytes : List ℕ) → IsBytes bytes → number_at w place bytes < 2 ^ bits w
unfolding number_at
number_at-below w wide place bytes fits = wide.below (drop place bytes) (IsBytes-drop place bytes fits)

-- and the number whose bytes stand at a place is the one there
pub number_at-is : (w : Width) (wide : IsWide w) (place n : ℕ) (rest bytes : List ℕ) → n < 2 ^ bits w → drop place bytes ≡ number_bytes w n ++ rest → number_at w place bytes ≡ n
unfolding number_at number_bytes
number_at-is w wide place n rest bytes lt e = ap (from_be_bytes w) e ∙ wide.again n rest lt

-- ---- signed numbers

cast_unsigned-below : (z : ℤ) → FitsSigned w64 z → cast_unsigned w64 z < 2 ^ 64
cast_unsigned-below (pos n) fits = omega (arith, ints, fits)
cast_unsigned-below (negsuc n) fits = omega arith

pub signed_at-spells : (place : ℕ) (bytes : List ℕ) → IsBytes bytes → place + 8 ≤ length bytes → Spells place (place + 8) (signed_bytes (signed_at place bytes)) bytes
signed_at-spells place bytes fits le =
    let same : signed_bytes (signed_at place bytes) ≡ number_bytes w64 (number_at w64 place bytes) =
    ap (number_bytes w64) (of_z-to_z w64 (number_at w64 place bytes) (number_at-below w64 wide64 place bytes fits)) in
    rw same (number_at-spells w64 wide64 place bytes fits le)

pub signed_at-fits : (place : ℕ) (bytes : List ℕ) → IsBytes bytes → FitsSigned w64 (signed_at place bytes)
signed_at-fits place bytes fits = sfits_to_z {w = w64} (record { fits = number_at-below w64 wide64 place bytes fits })

pub signed_at-is : (place : ℕ) (z : ℤ) (rest bytes : List ℕ) → FitsSigned w64 z → drop place bytes ≡ signed_bytes z ++ rest → signed_at place bytes ≡ z
signed_at-is place z rest bytes fits e =
    ap (cast_signed w64) (number_at-is w64 wide64 place (cast_unsigned w64 z) rest bytes (cast_unsigned-below z fits) e) ∙ to_z-of_z w64 z fits
