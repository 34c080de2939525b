-- Numbers of keys compare as their texts do.
use Rattle.std.proofs.Common.{◌≡◌, ℕ, zero, suc, ◌+◌, ◌*◌, ◌^◌, ◌<◌, ◌≤◌, true, List, [], ◌∷◌, length, nat_cmp, refl, sym, arith, lit<, Bool, false, Some, None, if◌then◌else◌}
use Rattle.std.proofs.Math.Nat.{one-le-pow, mul-le-mul_left}
use Rattle.std.specs.Cmp.{nat_cmp_is, ranks}
use Rattle.std.specs.Cmp.Lexicographic.{slice_cmp}
use Rattle.std.specs.List.{list_all}
use Rattle.std.specs.Ordering.{MatchOrdering, ordering_then}
use Rattle.std.specs.declared.cmp.Ordering.{Ordering}
use Rattle.std.specs.declared.cmp.Ordering.TheVariants.{Less, Equal, Greater}
use Rattle.ss_elem.specs.Key.{weight, key_number, key_text, is_key_text, IsKeyNumber}
use Rattle.ss_elem.proofs.KeyNumbers.{is_plain, all_head, all_tail, all_plain, weight-lt, IsKey, is_key}

-- the order of two numbers
abbrev pub Ranks : Ordering → ℕ → ℕ → Type 0
Ranks r m n = MatchOrdering r (m < n) (m ≡ n) (n < m)

-- a higher first place outweighs all behind it
pub outweighs : (p a b m n : ℕ) → a < b → m < p → a * p + m < b * p + n
outweighs p a b m n below rest =
    let step : a + 1 ≤ b = omega arith in
    omega (arith, mul-le-mul_left p step)

pub plain_above : (b p n : ℕ) → is_plain b ≡ true → 0 < p → 0 < b * p + n
plain_above b p n h room =
    let one : 1 ≤ b = grind arith in
    omega (arith, mul-le-mul_left p one)

pub ranks-first : (p a b m n : ℕ) (rest : Ordering) → m < p → n < p → Ranks rest m n → (r : Ordering) → Ranks r a b → Ranks (ordering_then r rest) (a * p + m) (b * p + n)
ranks-first p a b m n rest few few_too tail Less h = outweighs p a b m n h few
ranks-first p a b m n Less few few_too tail Equal h = rw h (omega arith)
ranks-first p a b m n Equal few few_too tail Equal h = cc
ranks-first p a b m n Greater few few_too tail Equal h = rw h (omega arith)
ranks-first p a b m n rest few few_too tail Greater h = outweighs p b a n m h few_too

pub weight-ranks : (k : ℕ) (x y : List ℕ) → length x ≤ k → length y ≤ k → list_all is_plain x ≡ true → list_all is_plain y ≡ true → Ranks (slice_cmp nat_cmp x y) (weight k x) (weight k y)
weight-ranks k [] [] few few_too plain plain_too = refl
weight-ranks zero (a ∷ x) y few few_too plain plain_too = absurd (omega (arith, few))
weight-ranks zero [] (b ∷ y) few few_too plain plain_too = absurd (omega (arith, few_too))
weight-ranks (suc k) [] (b ∷ y) few few_too plain plain_too =
    plain_above b (256 ^ k) (weight k y) (all_head is_plain b y plain_too) (one-le-pow k 256 (lit< tt))
weight-ranks (suc k) (a ∷ x) [] few few_too plain plain_too =
    plain_above a (256 ^ k) (weight k x) (all_head is_plain a x plain) (one-le-pow k 256 (lit< tt))
weight-ranks (suc k) (a ∷ x) (b ∷ y) few few_too plain plain_too =
    let tail_x : list_all is_plain x ≡ true = all_tail is_plain a x plain in
    let tail_y : list_all is_plain y ≡ true = all_tail is_plain b y plain_too in
    let rest : Ranks (slice_cmp nat_cmp x y) (weight k x) (weight k y) =
    weight-ranks k x y (omega (arith, few)) (omega (arith, few_too)) tail_x tail_y in
    ranks-first (256 ^ k) a b (weight k x) (weight k y) (slice_cmp nat_cmp x y) (weight-lt k x tail_x) (weight-lt k y tail_y) rest (nat_cmp a b) (ranks a b)

-- numbers of key texts compare as the texts do
pub numbers_of_texts : (x y : List ℕ) → is_key_text x ≡ true → is_key_text y ≡ true → nat_cmp (key_number x) (key_number y) ≡ slice_cmp nat_cmp x y
numbers_of_texts x y hx hy =
    let key_x : IsKey x = is_key x hx in
    let key_y : IsKey y = is_key y hy in
    sym (nat_cmp_is (key_number x) (key_number y) (slice_cmp nat_cmp x y)
    (weight-ranks 16 x y key_x.few key_y.few (all_plain x key_x.bytes) (all_plain y key_y.bytes)))

-- the text of a key's number is a key text, of that number
pub record Spells (n : ℕ) : Type 0 where
  pub is_text : is_key_text (key_text n) ≡ true
  pub number : key_number (key_text n) ≡ n

pub spells_by : (test : Bool) (n number : ℕ) → (if test then Some number else None) ≡ Some n → (test ≡ true) × (number ≡ n)
spells_by true n number h = (refl, cc)
spells_by false n number h = cc

pub spells : (n : ℕ) → IsKeyNumber n → Spells n
spells n h =
    let both = spells_by (is_key_text (key_text n)) n (key_number (key_text n)) h in
    record { is_text = both.0; number = both.1 }

pub compare_texts : (x y : ℕ) → IsKeyNumber x → IsKeyNumber y → nat_cmp x y ≡ slice_cmp nat_cmp (key_text x) (key_text y)
compare_texts x y hx hy =
    let of_x : Spells x = spells x hx in
    let of_y : Spells y = spells y hy in
    cc (numbers_of_texts (key_text x) (key_text y) of_x.is_text of_y.is_text)
