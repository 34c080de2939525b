-- A key text's number, and the text back from it.
use Rattle.std.proofs.Common.{◌≡◌, ℕ, zero, suc, ◌+◌, ◌*◌, ◌/◌, ◌%◌, ◌-◌, ◌^◌, ◌<◌, ◌≤◌, Bool, true, false, ◌&&◌, List, [], ◌∷◌, ◌++◌, length, take, drop, get_or, replicate, nat_eq, nat_lt, nat_le, refl, sym, ap, ◌∙◌, arith, lit<, Some, None, if◌then◌else◌}
use Rattle.std.proofs.Math.Nat.{pow-suc, one-le-pow, mul-add-div_right, mul-add-mod_self_right, mul-le-mul_left}
use Rattle.std.proofs.lemmas.Nat.{pow-add, div-mul-add}
use Rattle.std.proofs.Math.Seq.{take-append_seam}
use Rattle.std.proofs.lemmas.List.{get_or-drop, drop-drop}
use Rattle.std.proofs.lemmas.List.Folds.{list_all_at}
use Rattle.std.proofs.lemmas.Option.{slice_get_within, get_or_from_slice_get}
use Rattle.std.specs.List.{list_all, prefix_len, take_while}
use Rattle.std.specs.Int.{w128, byte_at, bytes_high_first, to_be_bytes}
use Rattle.ss_elem.specs.Key.{is_key_byte, is_key_text, weight, key_number, key_text, key_of, is_not_zero, IsKeyNumber, IsFirstBadByte}

-- every byte is one, and none is zero
abbrev pub is_plain : ℕ → Bool
is_plain b = nat_lt 0 b && nat_lt b 256

pub plain_byte : (b : ℕ) → is_key_byte b ≡ true → is_plain b ≡ true
plain_byte b h = grind arith

pub weight-nil : (k : ℕ) → weight k [] ≡ 0
weight-nil zero = refl
weight-nil (suc k) = refl

pub all_head : (p : ℕ → Bool) (b : ℕ) (text : List ℕ) → list_all p (b ∷ text) ≡ true → p b ≡ true
all_head p b text h = grind arith

pub all_tail : (p : ℕ → Bool) (b : ℕ) (text : List ℕ) → list_all p (b ∷ text) ≡ true → list_all p text ≡ true
all_tail p b text h = grind arith

-- a text of k bytes fits k places
pub weight-lt : (k : ℕ) (text : List ℕ) → list_all is_plain text ≡ true → weight k text < 256 ^ k
weight-lt zero text h = lit< tt
weight-lt (suc k) [] h = one-le-pow (suc k) 256 (lit< tt)
weight-lt (suc k) (b ∷ text) h =
    let rest : weight k text < 256 ^ k = weight-lt k text (all_tail is_plain b text h) in
    let byte : is_plain b ≡ true = all_head is_plain b text h in
    let small : b + 1 ≤ 256 = grind arith in
    rw (pow-suc 256 k) (omega (arith, rest, mul-le-mul_left (256 ^ k) small))

-- byte i by one formula
pub byte_at-is : (i n : ℕ) → byte_at i n ≡ n / 256 ^ i % 256
byte_at-is zero n = grind arith
byte_at-is (suc i) n = refl

-- a byte in front changes none behind it
pub byte_at-front : (i j x m : ℕ) → byte_at i (x * 256 ^ (suc j + i) + m) ≡ byte_at i m
byte_at-front i j x m =
    let power : x * 256 ^ (suc j + i) ≡ x * 256 ^ j * 256 * 256 ^ i =
    ap (λ (p : ℕ). x * p) (pow-add 256 (suc j) i ∙ ap (λ (p : ℕ). p * 256 ^ i) (pow-suc 256 j)) ∙ omega arith in
    byte_at-is i (x * 256 ^ (suc j + i) + m)
    ∙ ap (λ (n : ℕ). (n + m) / 256 ^ i % 256) power
    ∙ ap (λ (n : ℕ). n % 256) (mul-add-div_right (one-le-pow i 256 (lit< tt)) (x * 256 ^ j * 256) m)
    ∙ mul-add-mod_self_right (x * 256 ^ j) 256 (m / 256 ^ i)
    ∙ sym (byte_at-is i m)

pub bytes-front : (i j x m : ℕ) → bytes_high_first i (x * 256 ^ (j + i) + m) ≡ bytes_high_first i m
bytes-front zero j x m = refl
bytes-front (suc i) j x m =
    let same : j + suc i ≡ suc j + i = omega arith in
    rw same (cc (byte_at-front i j x m, bytes-front i (suc j) x m))

-- the first byte of k + 1
pub byte_at-first : (k b m : ℕ) → b < 256 → m < 256 ^ k → byte_at k (b * 256 ^ k + m) ≡ b
byte_at-first k b m small rest =
    byte_at-is k (b * 256 ^ k + m) ∙ ap (λ (n : ℕ). n % 256) (div-mul-add b (256 ^ k) m rest) ∙ grind arith

-- a text and the zeros behind it, in k bytes
abbrev pub padded : ℕ → List ℕ → List ℕ
padded zero text = []
padded (suc k) [] = 0 ∷ padded k []
padded (suc k) (b ∷ text) = b ∷ padded k text

pub bytes-weight : (k : ℕ) (text : List ℕ) → list_all is_plain text ≡ true → bytes_high_first k (weight k text) ≡ padded k text
bytes-weight zero text h = refl
bytes-weight (suc k) [] h =
    let none : 0 * 256 ^ k + 0 ≡ 0 = omega arith in
    let first : byte_at k 0 ≡ 0 = rw none at (byte_at-first k 0 0 (lit< tt) (one-le-pow k 256 (lit< tt))) in
    let rest : bytes_high_first k 0 ≡ padded k [] = rw (weight-nil k) at (bytes-weight k [] refl) in
    cc
bytes-weight (suc k) (b ∷ text) h =
    let few : weight k text < 256 ^ k = weight-lt k text (all_tail is_plain b text h) in
    let byte : is_plain b ≡ true = all_head is_plain b text h in
    let small : b < 256 = grind arith in
    let first : byte_at k (b * 256 ^ k + weight k text) ≡ b = byte_at-first k b (weight k text) small few in
    let rest : bytes_high_first k (weight k text) ≡ padded k text = bytes-weight k text (all_tail is_plain b text h) in
    let front : bytes_high_first k (b * 256 ^ (0 + k) + weight k text) ≡ bytes_high_first k (weight k text) = bytes-front k 0 b (weight k text) in
    let same : 0 + k ≡ k = omega arith in
    let front_too : bytes_high_first k (b * 256 ^ k + weight k text) ≡ bytes_high_first k (weight k text) = rw same at front in
    cc

pub padded-is : (k : ℕ) (text : List ℕ) → length text ≤ k → padded k text ≡ text ++ replicate (k - length text) 0
padded-is zero [] h = refl
padded-is zero (b ∷ text) h = absurd (omega (arith, h))
padded-is (suc k) [] h =
    let none : List ℕ = [] in
    let same : suc k - length none ≡ suc (k - length none) = omega arith in
    rw same (ap (λ (t : List ℕ). 0 ∷ t) (padded-is k [] (omega arith)))
padded-is (suc k) (b ∷ text) h =
    let shorter : length text ≤ k = omega (arith, h) in
    let same : suc k - length (b ∷ text) ≡ k - length text = omega arith in
    rw same (ap (λ (t : List ℕ). b ∷ t) (padded-is k text shorter))

-- the bytes before the zeros are the text
pub prefix_len-zeros : (n : ℕ) → prefix_len is_not_zero (replicate n 0) ≡ 0
prefix_len-zeros zero = refl
prefix_len-zeros (suc n) = refl

pub prefix_len-text : (text : List ℕ) (n : ℕ) → list_all is_plain text ≡ true → prefix_len is_not_zero (text ++ replicate n 0) ≡ length text
prefix_len-text [] n h = prefix_len-zeros n
prefix_len-text (b ∷ text) n h =
    let byte : is_plain b ≡ true = all_head is_plain b text h in
    let here : is_not_zero b ≡ true = grind arith in
    rw here (rw (prefix_len-text text n (all_tail is_plain b text h)) (omega arith))

pub all_plain : (text : List ℕ) → list_all is_key_byte text ≡ true → list_all is_plain text ≡ true
all_plain [] h = refl
all_plain (b ∷ text) h = rw (plain_byte b (all_head is_key_byte b text h)) (all_plain text (all_tail is_key_byte b text h))

pub record IsKey (text : List ℕ) : Type 0 where
  pub some : 0 < length text
  pub few : length text ≤ 16
  pub bytes : list_all is_key_byte text ≡ true

pub is_key : (text : List ℕ) → is_key_text text ≡ true → IsKey text
is_key text h = record { some = grind arith; few = grind arith; bytes = grind arith }

-- the sixteen bytes of a key's number
pub bytes-key_number : (text : List ℕ) → IsKey text → to_be_bytes w128 (key_number text) ≡ text ++ replicate (16 - length text) 0
bytes-key_number text k = bytes-weight 16 text (all_plain text k.bytes) ∙ padded-is 16 text k.few

pub key_text-key_number : (text : List ℕ) → IsKey text → key_text (key_number text) ≡ text
key_text-key_number text k =
    ap (take_while is_not_zero) (bytes-key_number text k)
    ∙ ap (λ (n : ℕ). take n (text ++ replicate (16 - length text) 0)) (prefix_len-text text (16 - length text) (all_plain text k.bytes))
    ∙ take-append_seam text (replicate (16 - length text) 0)

pub weight_one : (k : ℕ) (text : List ℕ) → weight (suc k) text ≡ get_or text 0 0 * 256 ^ k + weight k (drop 1 text)
weight_one k [] = sym (rw (weight-nil k) (omega arith))
weight_one k (b ∷ text) = refl

-- one more byte of a text is read: the number so far takes it as its last place
pub read_one : (n p w : ℕ) (text : List ℕ) → p < 16 →
    n * 256 ^ (16 - p) + weight (16 - p) (drop p text) ≡ w →
    (n * 256 + get_or text p 0) * 256 ^ (16 - (p + 1)) + weight (16 - (p + 1)) (drop (p + 1) text) ≡ w
read_one n p w text inside h =
    let k : ℕ = 16 - (p + 1) in
    let more : 16 - p ≡ suc (16 - (p + 1)) = omega arith in
    let here : get_or (drop p text) 0 0 ≡ get_or text p 0 = get_or-drop p text 0 0 ∙ ap (λ (i : ℕ). get_or text i 0) (omega arith) in
    let rest : drop 1 (drop p text) ≡ drop (p + 1) text = drop-drop 1 p text in
    let opened : weight (16 - p) (drop p text) ≡ get_or text p 0 * 256 ^ (16 - (p + 1)) + weight (16 - (p + 1)) (drop (p + 1) text) =
    ap (λ (j : ℕ). weight j (drop p text)) more
    ∙ weight_one (16 - (p + 1)) (drop p text)
    ∙ ap (λ (b : ℕ). b * 256 ^ (16 - (p + 1)) + weight (16 - (p + 1)) (drop 1 (drop p text))) here
    ∙ ap (λ (t : List ℕ). get_or text p 0 * 256 ^ (16 - (p + 1)) + weight (16 - (p + 1)) t) rest in
    let power : 256 ^ (16 - p) ≡ 256 ^ (16 - (p + 1)) * 256 = ap (λ (j : ℕ). 256 ^ j) more ∙ pow-suc 256 (16 - (p + 1)) in
    let whole : n * 256 ^ (16 - p) ≡ n * (256 ^ (16 - (p + 1)) * 256) = ap (λ (q : ℕ). n * q) power in
    omega (arith, opened, whole, h)

-- so no number on the way is too large
pub read-fits : (n p : ℕ) (text : List ℕ) → p ≤ 16 → list_all is_key_byte text ≡ true →
    n * 256 ^ (16 - p) + weight (16 - p) (drop p text) ≡ weight 16 text → n < 2 ^ 128
read-fits n p text inside h e =
    let top : weight 16 text < 256 ^ 16 = weight-lt 16 text (all_plain text h) in
    let power : 1 ≤ 256 ^ (16 - p) = one-le-pow (16 - p) 256 (lit< tt) in
    let least : n * 1 ≤ n * 256 ^ (16 - p) = mul-le-mul_left n power in
    omega (arith, top, least, e)

pub and_false : (a b : Bool) → b ≡ false → (a && b) ≡ false
and_false true b h = h
and_false false b h = refl

pub some_if : (b : Bool) (m n : ℕ) → (if b then Some m else None) ≡ Some n → (b ≡ true) × (m ≡ n)
some_if true m n h = (refl, cc)
some_if false m n h = absurd (cc)

-- what the number of a key tells
pub record KeyFacts (n : ℕ) : Type 0 where
  pub text : IsKey (key_text n)
  pub number : key_number (key_text n) ≡ n
  pub bytes : to_be_bytes w128 n ≡ key_text n ++ replicate (16 - length (key_text n)) 0

pub key_facts : (n : ℕ) → IsKeyNumber n → KeyFacts n
key_facts n h =
    let found = some_if (is_key_text (key_text n)) (key_number (key_text n)) n h in
    let key : IsKey (key_text n) = is_key (key_text n) found.0 in
    let number : key_number (key_text n) ≡ n = found.1 in
    record {
      text = key;
      number = number;
      bytes = ap (λ (m : ℕ). to_be_bytes w128 m) (sym number) ∙ bytes-key_number (key_text n) key;
    }

-- a key text's number is a key's
pub number_is_key : (text : List ℕ) → is_key_text text ≡ true → IsKeyNumber (key_number text)
number_is_key text h =
    let back : key_text (key_number text) ≡ text = key_text-key_number text (is_key text h) in
    let found : key_of text ≡ Some (key_number text) = rw h refl in
    ap key_of back ∙ found

pub is_key_text_of : (text : List ℕ) → nat_eq (length text) 0 ≡ false → length text ≤ 16 → list_all is_key_byte text ≡ true → is_key_text text ≡ true
is_key_text_of text some few bytes = grind arith

-- a byte that may not stand in a key refuses the text
pub no_key-bad_byte : (text : List ℕ) (at byte : ℕ) → IsFirstBadByte text at byte → None ≡ key_of text
no_key-bad_byte text at byte bad =
    let inside : at < length text = slice_get_within text at byte bad.0 in
    let read : get_or text at 0 ≡ byte = get_or_from_slice_get text at byte 0 bad.0 in
    let refused : is_key_byte (get_or text at 0) ≡ false = ap is_key_byte read ∙ bad.1 in
    let some_bad : list_all is_key_byte text ≡ false = list_all_at is_key_byte text at 0 inside refused in
    let no_text : is_key_text text ≡ false = and_false (nat_lt 0 (length text) && nat_le (length text) 16) (list_all is_key_byte text) some_bad in
    rw no_text refl
