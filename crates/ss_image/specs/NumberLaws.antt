-- What is read where a number or a key stands.
use Rattle.std.specs.Prelude.{◌≡◌, ℕ, ◌+◌, ◌^◌, ◌<◌, ◌≤◌, List, ◌++◌, length, drop, Some}
use Rattle.ss_elem.specs.Key.{IsKeyNumber}
use Rattle.ss_image.specs.Numbers.{AreBytes, number_bytes, number_at, key_bytes, key_in}

-- numbers and keys take as many bytes as they should, and are read again from where they stand
pub record NumbersAreReadAgain : Type 0 where
  pub number_len : (len n : ℕ) → length (number_bytes len n) ≡ len
  pub number : (len place n : ℕ) (bytes rest : List ℕ) → drop place bytes ≡ number_bytes len n ++ rest → n < 256 ^ len
      → number_at len place bytes ≡ n
  pub key_len : (key : ℕ) → length (key_bytes key) ≡ 16
  pub key : (key : ℕ) → IsKeyNumber key → key_in (key_bytes key) ≡ Some key

-- where a number or a key is read stand its bytes and no others
pub record NumbersHaveOneSpelling : Type 0 where
  pub below : (len place : ℕ) (bytes : List ℕ) → AreBytes bytes → number_at len place bytes < 256 ^ len
  pub number : (len place : ℕ) (bytes : List ℕ) → AreBytes bytes → place + len ≤ length bytes
      → drop place bytes ≡ number_bytes len (number_at len place bytes) ++ drop (place + len) bytes
  pub key : (field : List ℕ) (key : ℕ) → key_in field ≡ Some key → key_bytes key ≡ field
