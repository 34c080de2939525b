-- A text of 1 to 32 bytes, kept in 32.
use Rattle.std.specs.Prelude.{◌≡◌, ℕ, ◌-◌, ◌<◌, ◌≤◌, List, [], ◌∷◌, ◌++◌, length, take, replicate, refl}
use Rattle.std.proofs.Common.{min, ap, ◌∙◌, arith, length-append}
use Rattle.std.proofs.lemmas.List.{length-take, length-replicate}

-- the text, with zeros behind it up to 32 bytes
abbrev pub padded : List ℕ → List ℕ
padded text = text ++ replicate (32 - length text) 0

pub padded-one : padded (107 ∷ []) ≡ 107 ∷ replicate 31 0
padded-one = refl

-- the first so many of these bytes are the text, and the others are zeros
pub record IsKept (bytes : List ℕ) (len : ℕ) : Type 0 where
  pub some : 0 < len
  pub few : len ≤ 32
  pub zeros : bytes ≡ padded (take len bytes)

-- a text of at most 32 bytes is padded to 32
pub length-padded : (text : List ℕ) → length text ≤ 32 → length (padded text) ≡ 32
length-padded text few =
    omega (arith, length-append text (replicate (32 - length text) 0), length-replicate {A = ℕ} (32 - length text) 0)

-- the text that is kept is as long as is said
pub length-kept : (bytes : List ℕ) (len : ℕ) → IsKept bytes len → length (take len bytes) ≡ len
length-kept bytes len kept =
    let text : length (take len bytes) ≡ min len (length bytes) = length-take len bytes in
    let few : length (take len bytes) ≤ 32 = omega (arith, text, kept.few) in
    let whole : length bytes ≡ 32 = ap length kept.zeros ∙ length-padded (take len bytes) few in
    omega (arith, text, whole, kept.few)
