-- What is read stands in just its bytes.
use Rattle.std.proofs.Common.{◌≡◌, ℕ, zero, suc, ◌+◌, ◌*◌, ◌/◌, ◌%◌, ◌^◌, ◌<◌, ◌≤◌, cond, List, [], ◌∷◌, ◌++◌, length, take, drop, Option, Some, None, refl, sym, ap, subst, ◌∙◌, arith}
use Rattle.std.specs.Prelude.{bytes_eq}
use Rattle.std.specs.Int.{byte_at, bytes_high_first}
use Rattle.std.specs.List.{take_while}
use Rattle.std.proofs.Math.Nat.{div-one, mod-eq_of_lt, one-le-pow, mul-add-div_right, mul-add-mod_self_right, mul_assoc, pow-succ'}
use Rattle.std.proofs.lemmas.Nat.{div-mul-add}
use Rattle.std.proofs.lemmas.Option.{option_and_then_some, cond_some}
use Rattle.std.proofs.lemmas.Slice.Eq.{bytes_eq-Decides}
use Rattle.std.proofs.lemmas.List.{take-append-drop, drop-drop, length-drop, get_or-drop}
use Rattle.byteorder.specs.Endian.{big_from}
use Rattle.byteorder.specs.Numbers.{big_from-cons, big_from-lt}
use Rattle.ss_elem.specs.Key.{is_not_zero, key_of}
use Rattle.ss_image.specs.Numbers.{AreBytes, number_bytes, number_at, key_bytes, key_in}

bytes-drop : (n : ℕ) (bytes : List ℕ) → AreBytes bytes → AreBytes (drop n bytes)
bytes-drop n bytes h i = rw get_or-drop (h (n + i))

byte_at-pow : (k n : ℕ) → byte_at k n ≡ n / 256 ^ k % 256
byte_at-pow zero n = ap (λ (m : ℕ). m % 256) (sym (div-one n))
byte_at-pow (suc k) n = refl

pow_pos256 : (n : ℕ) → zero < 256 ^ n
pow_pos256 n = let h = one-le-pow n 256 (omega arith) in omega (arith, h)

-- what a number has above its lowest bytes doesn't change those
high_same : (n q r : ℕ) → bytes_high_first n (q * 256 ^ n + r) ≡ bytes_high_first n r
high_same zero q r = refl
high_same (suc n) q r =
    let more : q * 256 ^ suc n ≡ q * 256 * 256 ^ n = ap (λ (p : ℕ). q * p) (pow-succ' 256 n) ∙ sym (mul_assoc q 256 (256 ^ n)) in
    let byte : byte_at n (q * 256 * 256 ^ n + r) ≡ byte_at n r =
    byte_at-pow n (q * 256 * 256 ^ n + r)
    ∙ (ap (λ (m : ℕ). m % 256) (mul-add-div_right (pow_pos256 n) (q * 256) r)
    ∙ (mul-add-mod_self_right q 256 (r / 256 ^ n) ∙ sym (byte_at-pow n r))) in
    ap (λ (m : ℕ). bytes_high_first (suc n) (m + r)) more
    ∙ (ap (λ (b : ℕ). b ∷ bytes_high_first n (q * 256 * 256 ^ n + r)) byte
    ∙ ap (λ (bs : List ℕ). byte_at n r ∷ bs) (high_same n (q * 256) r))

-- the bytes of the number in the first n bytes are those
front : (n : ℕ) (bytes : List ℕ) → n ≤ length bytes → AreBytes bytes → bytes_high_first n (big_from 0 n bytes) ≡ take n bytes
front zero bytes le fits = refl
front (suc n) [] le fits = absurd (omega (arith, le))
front (suc n) (a ∷ bytes) le fits =
    let rest : ℕ = big_from 0 n bytes in
    let tail : AreBytes bytes = λ i. fits (suc i) in
    let small : rest < 256 ^ n = big_from-lt 0 n bytes tail in
    let first : a < 256 = fits 0 in
    let byte : byte_at n (a * 256 ^ n + rest) ≡ a =
    byte_at-pow n (a * 256 ^ n + rest) ∙ (ap (λ (m : ℕ). m % 256) (div-mul-add a (256 ^ n) rest small) ∙ mod-eq_of_lt first) in
    ap (λ (r : ℕ). bytes_high_first (suc n) (a * 256 ^ n + r)) (big_from-cons 0 n a bytes)
    ∙ (ap (λ (b : ℕ). b ∷ bytes_high_first n (a * 256 ^ n + rest)) byte
    ∙ ap (λ (bs : List ℕ). a ∷ bs) (high_same n a rest ∙ front n bytes (omega (arith, le)) tail))

pub number_at-below : (len place : ℕ) (bytes : List ℕ) → AreBytes bytes → number_at len place bytes < 256 ^ len
unfolding number_at
number_at-below len place bytes fits = big_from-lt 0 len (drop place bytes) (bytes-drop place bytes fits)

pub number_at-front : (len place : ℕ) (bytes : List ℕ) → AreBytes bytes → place + len ≤ length bytes
    → drop place bytes ≡ number_bytes len (number_at len place bytes) ++ drop (place + len) bytes
unfolding number_at number_bytes
number_at-front len place bytes fits le =
    let behind = drop place bytes in
    let long : len ≤ length behind = omega (arith, length-drop place bytes, le) in
    sym (take-append-drop len behind)
    ∙ (ap (λ (xs : List ℕ). xs ++ drop len behind) (sym (front len behind long (bytes-drop place bytes fits)))
    ∙ ap (λ (xs : List ℕ). bytes_high_first len (big_from 0 len behind) ++ xs) (drop-drop len place bytes))

pub key_in-bytes : (field : List ℕ) (key : ℕ) → key_in field ≡ Some key → key_bytes key ≡ field
unfolding key_in
key_in-bytes field key h =
    let only : ℕ → Option ℕ = λ k. cond (bytes_eq (key_bytes k) field) (Some k) None in
    option_and_then_some only (key_of (take_while is_not_zero field)) key h (λ k of_text found.
    let p = cond_some (bytes_eq (key_bytes k) field) k key found in
    subst (λ (n : ℕ). key_bytes n ≡ field) p.1 ((bytes_eq-Decides (key_bytes k) field).0 p.0))
